pub mod EditLeaves
pub mod AtRow
