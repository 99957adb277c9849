pub mod SignedLaws
pub mod GoneRowLaws
