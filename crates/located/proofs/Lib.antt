pub mod ParentLaws
