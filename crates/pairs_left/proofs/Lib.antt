pub mod StayLaws
pub mod WriteLaws
