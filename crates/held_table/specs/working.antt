-- Definitions that only private clauses use.
pub mod Counting
pub mod Marking
pub mod Plains
