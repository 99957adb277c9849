pub mod CarryLeaves
pub mod Refound
