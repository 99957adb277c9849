pub mod Want
pub mod OneRole
pub mod Range
