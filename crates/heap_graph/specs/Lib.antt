-- The heap: its objects and classes.
pub mod Heap
pub mod ClassNames
pub mod Layout
pub mod SuperRule
pub mod Fields
-- What an object refers to.
pub mod References
pub mod Roots
pub mod Reachable
-- What a report counts.
pub mod Rows
pub mod RowNumbers
-- The list of fields that are not followed.
pub mod Skips
pub mod SkipText
pub mod SkipRefusals
pub mod MetEntries
-- The links: which dumps are accepted.
pub mod LinkRules
pub mod Accepted
pub mod LinkFault
pub mod Refusal
-- The graph, and a walk over it.
pub mod ObjectGraph
pub mod Whole
pub mod Walks
pub mod ByKind
-- What only private clauses use.
pub mod working
