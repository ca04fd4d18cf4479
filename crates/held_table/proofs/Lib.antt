pub mod AddingLaws
pub mod CountingLaws
pub mod MarkingLaws
pub mod MarkingStart
pub mod TableLaws
pub mod TextLaws
