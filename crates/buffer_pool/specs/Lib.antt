pub mod Steps
pub mod Book
pub mod WorkerLog
pub mod Ranges
pub mod Calls
pub mod Faults
pub mod Closing
pub mod working
