-- Fields that are not followed, as the words of a command line list them, and reports without them.
use Rattle.std.specs.Prelude.{List, None, Option, Some, [], ℕ, ◌≡◌}
use Rattle.heap_graph.specs.SkipText.{SpellsSkips}
use Rattle.heap_graph.specs.Skips.{SkipEntry}
use Rattle.heapmark.specs.Answer.{WritesSomeBeginning, WritesSomeReport}

-- `skip` is the list that the text of `--skip` spells, or the empty list if there is no such text.
abbrev pub IsSkipListOf : Option (List ℕ) → List SkipEntry → Type 0
IsSkipListOf None skip = skip ≡ []
IsSkipListOf (Some text) skip = SpellsSkips text skip

-- There is a text, and it spells no list.
abbrev pub HasBadList : Option (List ℕ) → Type 0
HasBadList None = ⊥
HasBadList (Some text) = (skip : List SkipEntry) → SpellsSkips text skip → ⊥

-- The report of some accepted dump was written, and nothing else. The fields that the text `list` spells, if there is
-- such a text, are skipped.
pub record WritesReportFor (list : Option (List ℕ)) (old new : Option (List ℕ)) : Type 0 where
  pub skip : List SkipEntry
  pub is_list : IsSkipListOf list skip
  pub written : WritesSomeReport skip old new

-- a beginning of such a report was written, and nothing else
pub record WritesBeginningFor (list : Option (List ℕ)) (old new : Option (List ℕ)) : Type 0 where
  pub skip : List SkipEntry
  pub is_list : IsSkipListOf list skip
  pub written : WritesSomeBeginning skip old new

-- a beginning of a report without the fields of some list was written, and nothing else
abbrev pub WritesBeginningForSome : Option (List ℕ) → Option (List ℕ) → Type 0
WritesBeginningForSome old new = (list : Option (List ℕ)) × WritesBeginningFor list old new
