pub mod Repeats
pub mod Aligned
pub mod Forms
pub mod working
