pub mod CountedLaws
pub mod WrittenLaws
pub mod KeptRunLaws
