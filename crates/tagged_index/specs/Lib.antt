pub mod Head
pub mod Words
