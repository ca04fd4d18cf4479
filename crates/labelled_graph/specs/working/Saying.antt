-- What the entries of a list say of the places of a table.
use Rattle.std.specs.Prelude.{List, None, Option, Some, ℕ, ◌<◌, ◌^◌, ◌≡◌, ◌⊎◌}
use Rattle.heap_graph.specs.Walks.{target_in}
use Rattle.label_list.specs.declared.entry.Entry.{Entry}
use Rattle.label_list.specs.declared.entry.Entry.TheVariants as entries
use Rattle.label_list.specs.declared.entry.Place.{Place}
use Rattle.label_list.specs.declared.entry.Place.TheVariants as places
use Rattle.label_sets.specs.Sets.{Store}
use Rattle.labelled_graph.specs.Labels.{HasLabelAt, IsCut}
use Rattle.labelled_graph.specs.declared.mark.Mark.{Mark}
use Rattle.labelled_graph.specs.declared.mark.Said.{Said}
use Rattle.labelled_graph.specs.working.MarkMaps.{MarkMap, mark_at}
use Rattle.labelled_graph.specs.working.MarkWords.{IsUnsaid, Says}

-- a table's places: whether a place of a list is number `i` of what has the key `k`
abbrev pub Places : Type 1
Places = ℕ → ℕ → Place → Type 0

abbrev pub class_place : Places
class_place k i (places.Class id index) = (k ≡ id) × (i ≡ index)
class_place k i (places.Object id index) = ⊥
class_place k i (places.Root index) = ⊥

abbrev pub object_place : List ℕ → Places
object_place ids k i (places.Class id index) = ⊥
object_place ids k i (places.Object id index) = (target_in ids id ≡ Some k) × (i ≡ index)
object_place ids k i (places.Root index) = ⊥

abbrev pub root_place : Places
root_place k i (places.Class id index) = ⊥
root_place k i (places.Object id index) = ⊥
root_place k i (places.Root index) = (k ≡ 0) × (i ≡ index)

abbrev pub no_place : Places
no_place k i p = ⊥

-- the place that an entry speaks of, and its label, or `None` if the entry cuts it
abbrev pub said_in : Entry → Option (Place × Option ℕ)
said_in (entries.Label l p) = Some (p, Some l)
said_in (entries.Cut p) = Some (p, None)
said_in (entries.Root id) = None

-- `said` is what the entry says, at the only place of the table that it speaks of
pub record IsSaid (at : Places) (entry : Entry) (said : Said) : Type 0 where
  pub place : Place
  pub says : said_in entry ≡ Some (place, said.label)
  pub here : at said.key said.index place
  pub only : (k i : ℕ) → at k i place → (k ≡ said.key) × (i ≡ said.index)

abbrev pub IsSaidAt : Places → Entry → Option Said → Type 0
IsSaidAt at entry None = (p : Place) (label : Option ℕ) → said_in entry ≡ Some (p, label) → (k i : ℕ) → at k i p → ⊥
IsSaidAt at entry (Some said) = IsSaid at entry said

-- ---- the marks of a table

-- The mark of a place says what `list` says of it, and what `base` says of it under the name `base_at`. A place has no
-- mark exactly if `list` says nothing of it.
abbrev pub IsMarked : Store → List Entry → (Place → Type 0) → List Entry → (Place → Type 0) → Option Mark → Type 0
IsMarked store base base_at list at None = IsUnsaid (IsCut list at) (λ l. HasLabelAt list l at)
IsMarked store base base_at list at (Some mark) =
    Says store (IsCut base base_at ⊎ IsCut list at) (λ l. HasLabelAt base l base_at ⊎ HasLabelAt list l at) mark

pub record AreMarks (store : Store) (base : List Entry) (base_at : Places) (list : List Entry) (at : Places)
    (marks : MarkMap) : Type 0 where
  pub each : (k i : ℕ) → IsMarked store base (base_at k i) list (at k i) (mark_at marks k i)
  pub low : (k i : ℕ) (mark : Mark) → mark_at marks k i ≡ Some mark → i < 2 ^ 32
