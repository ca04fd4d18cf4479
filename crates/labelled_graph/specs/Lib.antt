-- Which references of a dump have which labels.
pub mod Labels
-- The labels without which an object would not be reachable.
pub mod Holding
-- What only private clauses use.
pub mod working
