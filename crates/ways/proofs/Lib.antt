pub mod ClimbLaws
pub mod AncestorLaws
pub mod ReverseLaws
pub mod AboveLaws
