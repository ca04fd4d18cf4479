-- The table of a text and a list of labels.
pub mod HeldTable
-- What a run returns for the bytes that it read.
pub mod Outcome
pub mod Faults
-- What only private clauses use.
pub mod working
