-- What private contracts cite.
pub mod Reading
