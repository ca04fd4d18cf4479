pub mod PrintedLine
pub mod WordsError
