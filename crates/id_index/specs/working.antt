-- Definitions that only private clauses use.
pub mod Extents
pub mod Beginnings
pub mod Building
pub mod Pruning
pub mod NarrowEntries
pub mod ExtentRepeats
pub mod WideEntries
