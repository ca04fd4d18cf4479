-- What a mark says.
pub mod MarkWords
-- Marks by a key and an index.
pub mod MarkMaps
-- What entries say of places.
pub mod Saying
-- The marks of classes.
pub mod ClassLists
-- The marks of single objects.
pub mod ObjectMarks
-- Tables that were read from a list.
pub mod Reads
-- The references that are kept.
pub mod Kept
-- All tables, and the graph that they give.
pub mod Tabled
