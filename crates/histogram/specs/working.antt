pub mod RowNumbers
pub mod Unmarked
