pub mod OneParentLaws
pub mod GroupLaws
