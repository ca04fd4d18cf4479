-- Definitions for the laws of a text, its dump and its first fault (`src/laws.rt`).
use Rattle.std.specs.Prelude.{List, ℕ, ◌<◌}
use Rattle.std.specs.List.{AllByRecursion}
use Rattle.hprof_grammar.specs.Fault.{FirstFault}
use Rattle.hprof_grammar.specs.Places.{IsDumpOf, Places}

-- the text has a first fault: a code and a place
abbrev pub HasFirstFault : List ℕ → Type 0
HasFirstFault text = (code : ℕ) × (place : ℕ) × FirstFault text code place

-- the text spells a dump
abbrev pub SpellsDump : List ℕ → Type 0
SpellsDump text = (dump : Places) × IsDumpOf text dump

-- each of the numbers is a byte
abbrev pub AreBytes : List ℕ → Type 0
AreBytes text = AllByRecursion (λ b. b < 256) text
