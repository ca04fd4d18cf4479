-- A store that grows.
pub mod Stores
-- The order of places.
pub mod Maps
-- The marks of one key as a list.
pub mod Lists
-- Marks that say what was said.
pub mod Says
-- A table takes in entries.
pub mod Marking
-- What is found in a list of marks.
pub mod Found
-- References that are kept, one after the other.
pub mod Keeping
-- Lists that are appended.
pub mod ListsOfClasses
-- What the table of classes says of an object.
pub mod Classes
-- What identifiers name.
pub mod Objects
-- All tables say what the list says.
pub mod Tabling
-- The elements of a list of references.
pub mod Containing
-- The tables' references are those of the definitions.
pub mod Referring
-- Reachability by more roots and references.
pub mod Reaching
-- The sets of a pass are those of the definitions.
pub mod Holds
