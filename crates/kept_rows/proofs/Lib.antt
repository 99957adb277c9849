pub mod KeptOfLaws
pub mod KeptOuterLaws
pub mod KeptPassLaws
pub mod EndLaws
