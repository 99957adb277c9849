pub mod Children
pub mod Earlier
