pub mod PathLaws
pub mod LoneLaws
