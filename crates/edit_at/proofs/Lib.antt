pub mod OutcomeLaws
pub mod FoundLaws
pub mod DeleteLaws
pub mod EditLeavesLaws
