pub mod ParentPassLaws
pub mod RootedLaws
pub mod LinkAxisLaws
