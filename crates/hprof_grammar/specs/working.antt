-- Definitions that only private clauses use.
pub mod Reading
pub mod SnapshotOrder
pub mod Joining
pub mod Parts
pub mod Cuts
pub mod ClassParts
