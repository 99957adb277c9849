pub mod FirstBad
pub mod OnePass
