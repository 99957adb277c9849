pub mod RowSet
pub mod Mark
