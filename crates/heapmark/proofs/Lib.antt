mod Answered
pub mod Causing
pub mod Codes
pub mod Faults
pub mod Hints
pub mod OfFile
mod OfMarking
pub mod UnmetLines
