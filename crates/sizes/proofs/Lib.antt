pub mod UpLaws
pub mod StandsLaws
