-- A visit of an object: all that it misses stays the same.
use Rattle.heap_graph.proofs.Words.{Bool, List, None, Option, RowKey, Some, [], ap, arith, cond, count_by, false}
use Rattle.heap_graph.proofs.Words.{is_unresolved_in, length, map, position, refl, subst, sum_by-cons, sym, true}
use Rattle.heap_graph.proofs.Words.{unresolved_left, ℕ, ◌+◌, ◌==◌, ◌^◌, ◌∙◌, ◌∷◌, ◌≡◌, ◌≤◌}
use Rattle.std.specs.Prelude.{is_none}
use Rattle.std.specs.Iterator.{YieldsFirst}
use Rattle.heap_graph.specs.Walks.{Advances, Step, Visited, is_unresolved_step, references_left, step_in, target_in}
use Rattle.heap_graph.proofs.Walking.{HasPassed, goes_to, passed_none, passed_one, yields}

-- ---- what a step misses

unresolved_if : (b : Bool) (o : Option ℕ) → cond b false (is_none (cond b None o)) ≡ cond b false (is_none o)
unresolved_if true o = refl
unresolved_if false o = refl

unresolved-step : (all : List ℕ) (id : ℕ) → is_unresolved_step (step_in all id) ≡ is_unresolved_in all id
unresolved-step all id = unresolved_if (id == 0) (position (λ x. x == id) all)

unresolved-one : (all : List ℕ) (id : ℕ) (before after : List ℕ) (b : Bool) → before ≡ id ∷ after
    → is_unresolved_in all id ≡ b
    → unresolved_left (map (step_in all) before) ≡ cond b 1 0 + unresolved_left (map (step_in all) after)
unresolved-one all id before after b e h =
    ap (λ (ids : List ℕ). unresolved_left (map (step_in all) ids)) e
    ∙ sum_by-cons (λ (s : Step). cond (is_unresolved_step s) 1 0) (step_in all id) (map (step_in all) after)
    ∙ ap (λ (c : Bool). cond c 1 0 + unresolved_left (map (step_in all) after)) (unresolved-step all id ∙ h)

pub unresolved-steps : (all ids : List ℕ)
    → unresolved_left (map (step_in all) ids) ≡ count_by (is_unresolved_in all) ids
unresolved-steps all [] = refl
unresolved-steps all (id ∷ ids) =
    unresolved-one all id (id ∷ ids) ids (is_unresolved_in all id) refl refl
    ∙ ap (λ (n : ℕ). cond (is_unresolved_in all id) 1 0 + n)
    (unresolved-steps all ids) ∙ sym (sum_by-cons (λ x. cond (is_unresolved_in all x) 1 0) id ids)

named_if : (o : ℕ) (b : Bool) (p : Option ℕ) → Some o ≡ cond b None p → cond b false (is_none p) ≡ false
named_if o true p e = refl
named_if o false p e = ap (λ (q : Option ℕ). is_none q) (sym e)

none_if : (b : Bool) (p : Option ℕ) → b ≡ false → None ≡ cond b None p → cond b false (is_none p) ≡ true
none_if true p e h = absurd (cc e)
none_if false p e h = ap (λ (q : Option ℕ). is_none q) (sym h)

null_if : (b : Bool) (p : Option ℕ) → b ≡ true → cond b false (is_none p) ≡ false
null_if true p e = refl
null_if false p e = absurd (cc e)

-- the steps so far were passed

pub record IsOnTheWay (old : Visited) (row : RowKey) (bytes unresolved : ℕ) (all ids : List ℕ) : Type 0 where
  pub passed : HasPassed old.left (map (step_in all) ids)
  pub row_is : row ≡ old.row
  pub bytes_is : bytes ≡ old.bytes
  pub unresolved_is : unresolved + unresolved_left (map (step_in all) ids) ≡ old.unresolved + unresolved_left old.left
  pub few : unresolved + length ids ≤ 2 ^ 33

abbrev pub visited : RowKey → ℕ → ℕ → List ℕ → List ℕ → Visited
visited row bytes unresolved all ids = record
    { row = row; bytes = bytes; unresolved = unresolved; left = map (step_in all) ids }

pub start : (row : RowKey) (bytes unresolved : ℕ) (all ids : List ℕ) → unresolved + length ids ≤ 2 ^ 33
    → IsOnTheWay (visited row bytes unresolved all ids) row bytes unresolved all ids
start row bytes unresolved all ids few = record
    { passed = passed_none (map (step_in all) ids); row_is = refl; bytes_is = refl; unresolved_is = refl; few = few }

pub begun : (old : Visited) (row : RowKey) (bytes unresolved : ℕ) (all ids : List ℕ)
    → visited row bytes unresolved all ids ≡ old → unresolved + length ids ≤ 2 ^ 33
    → IsOnTheWay old row bytes unresolved all ids
begun old row bytes unresolved all ids is few =
    subst (λ (v : Visited). IsOnTheWay v row bytes unresolved all ids) is (start row bytes unresolved all ids few)

-- one more identifier is passed, which is missed or not
module _ (old : Visited) (row : RowKey) (bytes unresolved : ℕ) (all : List ℕ) (id : ℕ) (before after : List ℕ)
    (way : IsOnTheWay old row bytes unresolved all before) (next : before ≡ id ∷ after) where
  pub few_after : unresolved + 1 + length after ≤ 2 ^ 33
  few_after = omega (arith, way.few, ap length next)

  missed : (b : Bool) → is_unresolved_in all id ≡ b
      → unresolved + cond b 1 0 + unresolved_left (map (step_in all) after) ≡ old.unresolved + unresolved_left old.left
  missed b is = omega (arith, way.unresolved_is, unresolved-one all id before after b next is)

  pub goes_named : (o : ℕ) → Some o ≡ target_in all id → Advances old (Some o) (visited row bytes unresolved all after)
  goes_named o named = record {
    goes = goes_to all old.left id o before after next named way.passed;
    row_is = way.row_is;
    bytes_is = way.bytes_is;
    unresolved_is = omega (arith, missed false (named_if o (id == 0) (position (λ x. x == id) all) named));
  }

  passes : (b : Bool) → None ≡ target_in all id → is_unresolved_in all id ≡ b → cond b 1 0 ≤ 1
      → IsOnTheWay old row bytes (unresolved + cond b 1 0) all after
  passes b named is few = record {
    passed = passed_one all old.left id before after next named way.passed;
    row_is = way.row_is;
    bytes_is = way.bytes_is;
    unresolved_is = missed b is;
    few = omega (arith, few_after, few);
  }

  pub goes_unresolved : None ≡ target_in all id → (id == 0) ≡ false
      → IsOnTheWay old row bytes (unresolved + 1) all after
  goes_unresolved named other =
      passes true named (none_if (id == 0) (position (λ x. x == id) all) other named) (omega arith)

  pub goes_null : None ≡ target_in all id → (id == 0) ≡ true → IsOnTheWay old row bytes unresolved all after
  goes_null named null =
      let same : unresolved + 0 ≡ unresolved = omega arith in
      subst (λ (n : ℕ). IsOnTheWay old row bytes n all after) same
      (passes false named (null_if (id == 0) (position (λ x. x == id) all) null) (omega arith))

-- a visit that goes on yields the object it goes to
pub gives : (old : Visited) (object : Option ℕ) (new : Visited) → Advances old object new
    → YieldsFirst references_left old object new × Advances old object new
gives old object new goes = (yields old.left object new.left goes.goes, goes)
