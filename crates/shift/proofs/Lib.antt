pub mod MoverLaws
pub mod SignedMoveLaws
