pub mod KeptTreeLaws
