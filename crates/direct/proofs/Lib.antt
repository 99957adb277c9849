pub mod ChildRowLaws
pub mod RisingLaws
