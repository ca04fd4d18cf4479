-- What a list of labels says.
pub mod Entries
-- The text of such a list.
pub mod ListText
-- What a refusal says.
pub mod Refusal
-- How the scanner reads.
pub mod working
