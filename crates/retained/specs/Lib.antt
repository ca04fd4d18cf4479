-- What the program writes and prints.
pub mod OfFiles
-- What its exit status says.
pub mod StatusOf
-- What only private clauses use.
pub mod working
