pub mod CarryLeavesLaws
pub mod EditMoveLaws
pub mod GrantLaws
pub mod CarryBothLaws
pub mod CircleLaws
pub mod FarmOrder
