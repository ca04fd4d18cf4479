-- The results of calls on the parts of some items.
use denote.Param.Members.{Shared}
use denote.Ref.{Bor}
use Rattle.std.specs.Prelude.{List, length, min, ℕ, ◌%◌, ◌+◌, ◌/◌, ◌<◌, ◌≡◌}
use Rattle.std.specs.Fork.{GivesChunks, IsChunk}
use Rattle.hprof_grammar.specs.TeamLimits.{HasFewParts, HasManyParts}

module _ {F X R : Type 0} (g : Shared F (ℕ × (Bor (List X) × Unit {0})) R) (f : F) where
  -- `f` may be called with each part of `items` and the number of its first item, whatever the length of the parts
  abbrev pub AcceptsParts : List X → Type 0
  AcceptsParts items = (size start : ℕ) (part : Bor (List X)) → IsChunk items size start part.now
      → g.pre f (start, (part, tt))

  -- `results` are what calls of `f` returned for the parts of `items`, in order, for a team of `threads` threads
  pub record AreResultsOfParts (threads : ℕ) (items : List X) (results : List R) : Type 0 where
    -- the number of items in each part; the last part may have fewer
    pub size : ℕ
    pub some : 0 < size
    pub few : HasFewParts threads (length items) size
    pub many : HasManyParts threads (length items) size
    pub count : length results ≡ length items / size + min 1 (length items % size)
    pub each : GivesChunks g f size items results
