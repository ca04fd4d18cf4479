-- The place of a line's one argument of a name among the arguments of the command.
use Rattle.std.proofs.Common.{List, [], ap, arith, cond, false, length, map, refl, suc, sym, true, true≢false, zero}
use Rattle.std.proofs.Common.{ℕ, Bool, ◌∙◌, ◌∷◌, ◌≡◌, ◌<◌}
use Rattle.std.specs.List.{slice_index_or}
use Rattle.std.specs.Prelude.{filter}
use Rattle.std.specs.Str.{bytes_eq}
use Rattle.clap.specs.Walk.{Rule, rule_of}
use Rattle.clap.specs.Words.{Text}
use Rattle.clap.specs.declared.builder.arg.Arg.{Arg}

-- the rules of the arguments `xs` that have the name
abbrev named : Text → List Arg → List Rule
named name xs = filter (λ (r : Rule). bytes_eq r.id name) (map rule_of xs)

-- the argument at place `k` has the rule, and no other has its name
pub record IsAt (xs : List Arg) (rule : Rule) (k : ℕ) : Type 0 where
  pub some : Arg
  pub below : k < length xs
  pub here : (d : Arg) → rule_of (slice_index_or xs k d) ≡ rule
  pub only : (j : ℕ) (d : Arg) → j < length xs → bytes_eq (slice_index_or xs j d).id.now rule.id ≡ true → j ≡ k

head_of : (r s : Rule) (xs ys : List Rule) → ◌≡◌ {A = List Rule} (r ∷ xs) (s ∷ ys) → r ≡ s
head_of r s xs ys e = ap (λ (l : List Rule). slice_index_or l 0 r) e

tail_of : (r s : Rule) (xs ys : List Rule) → ◌≡◌ {A = List Rule} (r ∷ xs) (s ∷ ys) → xs ≡ ys
tail_of r s xs ys e = ap rest e
  where
    rest : List Rule → List Rule
    rest [] = []
    rest (z ∷ zs) = zs

-- if the arguments with the name are none, no place has one
none_named : (name : Text) (xs : List Arg) → named name xs ≡ [] → (j : ℕ) (d : Arg) → j < length xs
    → bytes_eq (slice_index_or xs j d).id.now name ≡ true → ⊥
none_named name [] none j d lt e = absurd (omega arith)
none_named name (x ∷ xs) none j d lt e =
    go (bytes_eq x.id.now name) refl none (λ empty j lt e. none_named name xs empty j d lt e) j lt e
  where
    go : (t : Bool) → bytes_eq x.id.now name ≡ t → cond t (rule_of x ∷ named name xs) (named name xs) ≡ []
        → (named name xs ≡ [] → (j : ℕ) → j < length xs → bytes_eq (slice_index_or xs j d).id.now name ≡ true → ⊥)
        → (j : ℕ) → j < length (x ∷ xs) → bytes_eq (slice_index_or (x ∷ xs) j d).id.now name ≡ true → ⊥
    go true is empty rest j lt e = cc
    go false is empty rest zero lt e = true≢false (sym e ∙ is)
    go false is empty rest (suc j) lt e = rest empty j (omega arith) e

pub place_of : (rule : Rule) (xs : List Arg) → named rule.id xs ≡ rule ∷ [] → (k : ℕ) × IsAt xs rule k
place_of rule [] one = cc
place_of rule (x ∷ xs) one = go (bytes_eq x.id.now rule.id) refl one (place_of rule xs)
  where
    go : (t : Bool) → bytes_eq x.id.now rule.id ≡ t
        → cond t (rule_of x ∷ named rule.id xs) (named rule.id xs) ≡ rule ∷ []
        → (named rule.id xs ≡ rule ∷ [] → (k : ℕ) × IsAt xs rule k) → (k : ℕ) × IsAt (x ∷ xs) rule k
    go true is one rest = (
      0,
      record {
        some = x;
        below = omega arith;
        here = λ d. head_of (rule_of x) rule (named rule.id xs) [] one;
        only = first (tail_of (rule_of x) rule (named rule.id xs) [] one);
      },
    )
      where
        first : named rule.id xs ≡ [] → (j : ℕ) (d : Arg) → j < length (x ∷ xs)
            → bytes_eq (slice_index_or (x ∷ xs) j d).id.now rule.id ≡ true → j ≡ 0
        first none zero d lt e = refl
        first none (suc j) d lt e = absurd (none_named rule.id xs none j d (omega arith) e)
    go false is one rest =
        let after = rest one in (
          suc after.0,
          record {
            some = after.1.some;
            below = let lt = after.1.below in omega (arith, lt);
            here = after.1.here;
            only = later after.0 after.1.only;
          },
        )
      where
        later : (k : ℕ) → ((j : ℕ) (d : Arg) → j < length xs → bytes_eq (slice_index_or xs j d).id.now rule.id ≡ true
            → j ≡ k) → (j : ℕ) (d : Arg) → j < length (x ∷ xs)
            → bytes_eq (slice_index_or (x ∷ xs) j d).id.now rule.id ≡ true → j ≡ suc k
        later k only zero d lt e = absurd (true≢false (sym e ∙ is))
        later k only (suc j) d lt e = ap suc (only j d (omega arith) e)
