-- Definitions that only private clauses use.
pub mod Answered
pub mod NoTable
