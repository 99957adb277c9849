pub mod BeforeLaws
