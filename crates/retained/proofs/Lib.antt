pub mod Answered
pub mod OfFiles
