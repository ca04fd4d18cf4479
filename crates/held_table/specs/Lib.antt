-- The lines of a table.
pub mod Tally
-- What sets of several labels are made of.
pub mod Joints
-- A table: its lines and the sets that they name.
pub mod Table
-- The text of a table.
pub mod TableText
-- What only private clauses use.
pub mod working
