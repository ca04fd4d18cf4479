pub mod Options
pub mod Numbers
pub mod Lines
pub mod Lists
pub mod Counts
