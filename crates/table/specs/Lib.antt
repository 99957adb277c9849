pub mod RowFound
