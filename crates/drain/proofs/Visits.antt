-- A visit reads the row and the bytes of its object first, and counts unresolved identifiers as it goes. After the last
-- object that it yields, the count is complete.
use Rattle.drain.proofs.Words.{All, Contains, IsMeasureOf, IsWhole, List, Measure, None, ObjectGraph, Option, Some}
use Rattle.drain.proofs.Words.{Yields, YieldsFirst, YieldsList-from_shown, [], ap, arith, bytes_at, item_count, length}
use Rattle.drain.proofs.Words.{measure_of, number_within, object_count, pairs_of, references_of, refl, row_at}
use Rattle.drain.proofs.Words.{row_number, scanned_in, subst, sym, unresolved_at, ℕ, ◌+◌, ◌<◌, ◌↔◌, ◌∙◌, ◌∷◌, ◌≡◌}
use Rattle.heap_graph.specs.ByKind.{IsBehind}
use Rattle.heap_graph.specs.Walks.{Advances, Visited, unresolved_left, references_left}
use Rattle.drain.specs.working.Walk.{IsGiven, IsVisitOf}
use Rattle.drain.proofs.Pairs.{pair_is_reference}

-- a call of the visit
abbrev pub visits : Visited → Option ℕ → Visited → Type 0
visits old object new = YieldsFirst references_left old object new × Advances old object new

-- the row, the bytes, and the unresolved identifiers counted and still to be counted stay the same
record IsSameVisit (old new : Visited) : Type 0 where
  row : new.row ≡ old.row
  bytes : new.bytes ≡ old.bytes
  unresolved : new.unresolved + unresolved_left new.left ≡ old.unresolved + unresolved_left old.left

one_call : (old : Visited) (object : Option ℕ) (new : Visited) → visits old object new → IsSameVisit old new
one_call old object new step = record
    { row = step.1.row_is; bytes = step.1.bytes_is; unresolved = step.1.unresolved_is }

two_calls : (a b c : Visited) → IsSameVisit a b → IsSameVisit b c → IsSameVisit a c
two_calls a b c s t = record
    { row = t.row ∙ s.row; bytes = t.bytes ∙ s.bytes; unresolved = t.unresolved ∙ s.unresolved }

all_calls : (given : List ℕ) (start last : Visited) → Yields visits start given last → IsSameVisit start last
all_calls [] start last same =
    subst (IsSameVisit start) same (record { row = refl; bytes = refl; unresolved = refl })
all_calls (o ∷ given) start last run =
    two_calls start run.0 last (one_call start (Some o) run.0 run.1) (all_calls given run.0 last run.2)

-- the class of an object, if it is known, and the rest of the visit are the object's references; at the end of the rest
-- what is read of the object is complete
pub are_given :
    (refers : ℕ → Type 0) (count : ℕ) (m : Measure) (o : ℕ) (whole : Visited) (class : Option ℕ) (rest : Visited)
    → IsVisitOf refers count m o whole → IsBehind whole class rest
    → IsGiven (λ _. Unit {0}) visits (item_count references_left) scanned_in refers m o class rest
are_given refers count m o whole class rest is behind = record {
  can = tt;
  objects = references_left rest;
  gives = (YieldsList-from_shown visits (λ (x : ℕ). x) references_left (λ s t p. ap length p.0.0) (λ s x t p. p.0)
      rest).runs;
  finite = tt;
  exact = subst (λ (xs : List ℕ). (x : ℕ) → Contains xs x ↔ refers x) behind.references_are is.exact;
  ends = λ end ended.
      let step = ended.3 in
      let before = all_calls ended.0 rest ended.1 ended.2 in
      let all = two_calls rest ended.1 end before (one_call ended.1 None end step) in
      let none : unresolved_left end.left ≡ 0 = ap unresolved_left step.1.goes.1 in
      record {
        row = ap row_number (all.row ∙ behind.row_is) ∙ is.row;
        bytes = all.bytes ∙ behind.bytes_is ∙ is.bytes;
        unresolved = omega (arith, all.unresolved, behind.unresolved_is, is.unresolved, none);
      };
}

-- a visit without a known class is its own rest
pub behind_none : (v : Visited) → IsBehind v None v
behind_none v = record { row_is = refl; bytes_is = refl; references_are = refl; unresolved_is = refl }

-- a visit of an object in a graph
pub is_visit : (g : ObjectGraph) (o : ℕ) (v : Visited) → references_left v ≡ references_of g o → v.row ≡ row_at g o
    → v.bytes ≡ bytes_at g o → v.unresolved + unresolved_left v.left ≡ unresolved_at g o
    → All (λ x. x < object_count g) (references_of g o)
    → IsVisitOf (λ x. Contains (pairs_of g) (o, x)) (object_count g) (measure_of g) o v
is_visit g o v value row bytes unresolved within = record {
  exact = subst (λ (xs : List ℕ). (x : ℕ) → Contains xs x ↔ Contains (pairs_of g) (o, x)) (sym value)
      (pair_is_reference g o);
  within = subst (All (λ x. x < object_count g)) (sym value) within;
  row = ap row_number row;
  bytes = bytes;
  unresolved = unresolved;
}

-- a graph measures its objects
pub measured : (g : ObjectGraph) → IsWhole g → IsMeasureOf (object_count g) (measure_of g)
measured g whole = record {
  few_objects = whole.few_objects;
  within = λ o below. number_within g (row_at g o) (whole.rows_within o below);
  few_bytes = whole.few_bytes;
  few_unresolved = whole.few_unresolved;
}
