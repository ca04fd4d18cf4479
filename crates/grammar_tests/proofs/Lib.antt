pub mod Computed
pub mod TestDumps
mod WorkedFile
