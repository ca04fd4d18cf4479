pub mod Answered
pub mod Hint
pub mod Marking
pub mod NoReport
pub mod StatusOfSome
pub mod Subjects
