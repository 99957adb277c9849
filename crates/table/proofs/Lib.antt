pub mod TableOnlyLaws
