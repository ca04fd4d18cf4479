pub mod BytesMoved
pub mod EntryLemmas
pub mod LineText
pub mod ReadInPlace
pub mod OrderLemmas
pub mod RowLemmas
mod WorkedRows
pub mod UnmarkedLaws
pub mod PartTotals
