-- The objects that places and identifiers name.
use Rattle.std.proofs.Common.{Bool, List, None, Some, cond, false, get_or, length, position, set, subst, sym, true, ℕ}
use Rattle.std.proofs.Common.{⊎_elim}
use Rattle.std.proofs.Common.{get_or-set_other, get_or-set_same, ◌<◌, ◌==◌, ◌∙◌, ◌≡◌}
use Rattle.std.proofs.lemmas.Bool.{cases_eq}
use Rattle.std.proofs.lemmas.List.Quantifiers.{position-Some}
use Rattle.std.proofs.lemmas.Option.{none-some}
use Rattle.heap_graph.specs.Walks.{target_in}
use Rattle.label_list.specs.declared.entry.Entry.{Entry}
use Rattle.label_list.specs.declared.entry.Place.{Place}
use Rattle.label_list.specs.declared.entry.Place.TheVariants as places
use Rattle.labelled_graph.specs.declared.mark.Mark.{Mark}
use Rattle.labelled_graph.specs.declared.mark.Said.{Said}
use Rattle.labelled_graph.specs.working.MarkMaps.{IsPut, MarkMap, mark_at}
use Rattle.labelled_graph.specs.working.Saying.{IsSaid, object_place}

target_at : (t : Bool) (ids : List ℕ) (id b : ℕ) → cond t None (position (λ x. x == id) ids) ≡ Some b → b < length ids
target_at true ids id b is = absurd (none-some b is)
target_at false ids id b is = (position-Some (λ x. x == id) ids b 0 is).0

pub target_within : (ids : List ℕ) (id b : ℕ) → target_in ids id ≡ Some b → b < length ids
target_within ids id b is = target_at (id == 0) ids id b is

place_within : (ids : List ℕ) (k i : ℕ) (p : Place) → object_place ids k i p → k < length ids
place_within ids k i (places.Class id index) at = absurd at
place_within ids k i (places.Object id index) at = target_within ids id k at.0
place_within ids k i (places.Root index) at = absurd at

pub said_within : (ids : List ℕ) (e : Entry) (said : Said) → IsSaid (object_place ids) e said → said.key < length ids
said_within ids e said is = place_within ids said.key said.index is.place is.here

-- which objects have marks of their own, after one was given a mark
pub covered_on : (m n : MarkMap) (has : List Bool) (key index : ℕ) (mark : Mark) → IsPut m n key index mark
    → key < length has → ((o i : ℕ) (x : Mark) → mark_at m o i ≡ Some x → get_or has o false ≡ true)
    → (o i : ℕ) (x : Mark) → mark_at n o i ≡ Some x → get_or (set has key true) o false ≡ true
covered_on m n has key index mark put within before o i x is = ⊎_elim
    (λ e. subst (λ (k : ℕ). get_or (set has key true) k false ≡ true) (sym e)
    (get_or-set_same has key true false within))
    (λ ne. get_or-set_other has key o true false ne ∙ before o i x (sym (put.others o i (λ e _. ne e)) ∙ is))
    (cases_eq o key)
