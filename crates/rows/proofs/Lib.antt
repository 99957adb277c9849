pub mod FirstBadLaws
pub mod OnePassLaws
