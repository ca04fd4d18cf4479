-- A part of a dump's records, as one thread reads it.
use Rattle.std.specs.Prelude.{IfSome, List, Option, [], drop, length, take, ℕ, ◌-◌, ◌≤◌}
use Rattle.hprof_grammar.specs.working.Joining.{AddsRecordsFrom, nothing_of}
use Rattle.hprof_grammar.specs.declared.parts.Part.{Part}

-- the text from one seam to the other is records, and the part has their places
pub record IsReadPart {A : Type 0} (text : List ℕ) (s : ℕ) (part : Part A) : Type 0 where
  pub forward : part.from.place ≤ part.to.place
  pub within : part.to.place ≤ length text
  pub adds : AddsRecordsFrom part.from.place part.from.order
      (take (part.to.place - part.from.place) (drop part.from.place text)) [] part.to.order (nothing_of s) part.dump

-- the part that a thread read, or none
abbrev pub MayBePart : {A : Type 0} → List ℕ → ℕ → Option (Part A) → Type 0
MayBePart text s answer = IfSome answer (λ part. IsReadPart text s part)
