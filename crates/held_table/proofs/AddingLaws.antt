-- What one call of `add` makes of the lines.
use Rattle.std.proofs.Common.{Bool, List, Some, [], ap, arith, false, length, map, not, refl, slice_get, subst, suc}
use Rattle.std.proofs.Common.{sym}
use Rattle.std.proofs.Common.{true, zero, ℕ, ◌&&◌, ◌++◌, ◌<◌, ◌==◌, ◌∙◌, ◌∷◌, ◌≡◌, ◌||◌, inl, inr}
use Rattle.std.specs.List.{IsDistinct, list_any}
use Rattle.std.proofs.lemmas.Bool.{cases_Bool, false≢true, not-false, not-true}
use Rattle.std.proofs.lemmas.List.{map-append}
use Rattle.std.proofs.lemmas.List.Elements.{All-from_recursion}
use Rattle.std.proofs.lemmas.Map.Keys.{IsDistinct-head, IsDistinct-tail}
use Rattle.indexmap.specs.IndexSet.{insert_key}
use Rattle.held_table.specs.Tally.{same_line}
use Rattle.held_table.specs.declared.line.Key.{Key}
use Rattle.held_table.specs.declared.line.Line.{Line}
use Rattle.held_table.specs.working.Counting.{add_line, counted_at, key_of, line_at, one_object}
use Rattle.held_table.proofs.CountingLaws.{further, here, once_added, same_line_laws}

abbrev pub same_key : Key → Key → Bool
same_key a b = (a.set == b.set) && ((a.row == b.row) && (a.remainder == b.remainder))

keys_kept : (lines : List Line) (j bytes : ℕ) → map key_of (counted_at lines j bytes) ≡ map key_of lines
keys_kept [] j bytes = refl
keys_kept (l ∷ ls) zero bytes = refl
keys_kept (l ∷ ls) (suc j) bytes = ap (λ ks. key_of l ∷ ks) (keys_kept ls j bytes)

module _ (key : Key) (bytes : ℕ) where
  abbrev x : Line
  x = one_object key bytes

  added_at : (lines : List Line) (j : ℕ) → j < length lines → same_line x (line_at lines j) ≡ true
      → IsDistinct same_line lines → counted_at lines j bytes ≡ add_line x lines
  added_at [] j h e once = absurd (omega (arith, h))
  added_at (l ∷ ls) zero h e once = sym (here x l ls e)
  added_at (l ∷ ls) (suc j) h e once =
      let inside : j < length ls = omega arith in
      let apart = All-from_recursion (λ m. same_line l m ≡ false) ls (IsDistinct-head same_line l ls once) in
      let other : same_line l (line_at ls j) ≡ false = apart j _ inside in
      elim (cases_Bool (same_line x l)) [
        | inl same ↦ let both : same_line l (line_at ls j) ≡ true =
            sym (same_line_laws.congr x l (line_at ls j) same) ∙ e in
            absurd (false≢true (sym other ∙ both))
        | inr differs ↦ ap (λ ms. l ∷ ms) (added_at ls j inside e (IsDistinct-tail same_line l ls once))
            ∙ sym (further x l ls differs)
      ]

  added_new : (lines : List Line) → list_any (same_line x) lines ≡ false → lines ++ x ∷ [] ≡ add_line x lines
  added_new [] lacks = refl
  added_new (l ∷ ls) lacks = elim (cases_Bool (same_line x l)) [
    | inl same ↦ absurd (false≢true (sym lacks ∙ (rw same refl)))
    | inr differs ↦ ap (λ ms. l ∷ ms) (added_new ls (sym (rw differs refl) ∙ lacks)) ∙ sym (further x l ls differs)
  ]

  -- the keys and the lines fit
  pub record IsAdded (old : List Line) (keys : List Key) (lines : List Line) : Type 0 where
    pub keys_are : keys ≡ map key_of lines
    pub once : IsDistinct same_line lines
    pub lines_are : lines ≡ add_line x old

  module _ (old : List Line) (once : IsDistinct same_line old) (old_keys : List Key)
      (keys_are : old_keys ≡ map key_of old)
    where
      -- in the line at a place
      pub added_there : (j : ℕ) (keys : List Key) (lines : List Line) → j < length old
          → same_line x (line_at old j) ≡ true → keys ≡ old_keys → lines ≡ counted_at old j bytes
          → IsAdded old keys lines
      added_there j keys lines inside e same is =
          let all : lines ≡ add_line x old = is ∙ added_at old j inside e once in
          record {
            keys_are = same ∙ keys_are ∙ sym (keys_kept old j bytes) ∙ ap (map key_of) (sym is);
            once = subst (IsDistinct same_line) (sym all) (once_added x old once);
            lines_are = all;
          }

      any_keys : (lines : List Line) → list_any (same_key key) (map key_of lines) ≡ list_any (same_line x) lines
      any_keys [] = refl
      any_keys (l ∷ ls) = ap (λ b. same_line x l || b) (any_keys ls)

      -- in a new line
      pub added_last : (keys : List Key) (lines : List Line) → not (list_any (same_key key) old_keys) ≡ true
          → keys ≡ insert_key same_key old_keys key → lines ≡ old ++ x ∷ [] → IsAdded old keys lines
      added_last keys lines new inserted is =
          let lacks : list_any (same_key key) old_keys ≡ false = not-true (list_any (same_key key) old_keys) new in
          let lines_lack : list_any (same_line x) old ≡ false =
          sym (any_keys old) ∙ ap (list_any (same_key key)) (sym keys_are) ∙ lacks in
          let all : lines ≡ add_line x old = is ∙ added_new old lines_lack in
          let more : keys ≡ old_keys ++ key ∷ [] = inserted ∙ (rw lacks refl) in
          record {
            keys_are = more ∙ ap (λ ks. ks ++ key ∷ []) keys_are ∙ sym (map-append key_of old (x ∷ []))
                ∙ ap (map key_of) (sym is);
            once = subst (IsDistinct same_line) (sym all) (once_added x old once);
            lines_are = all;
          }

      key_found : (lines : List Line) (j : ℕ) (k : Key) → slice_get (map key_of lines) j ≡ Some k
          → (j < length lines) × (key_of (line_at lines j) ≡ k)
      key_found [] j k e = absurd (cc e)
      key_found (l ∷ ls) zero k e = (omega arith, cc e)
      key_found (l ∷ ls) (suc j) k e = let it = key_found ls j k e in (omega (arith, it.0), it.1)

      -- in the line that has the key
      pub added_found : (j : ℕ) (mid keys : List Key) (lines : List Line)
          → not (list_any (same_key key) old_keys) ≡ false
          → mid ≡ insert_key same_key old_keys key → (k : Key) → slice_get mid j ≡ Some k → same_key key k ≡ true
          → keys ≡ mid → lines ≡ counted_at old j bytes → IsAdded old keys lines
      added_found j mid keys lines known inserted k found same kept is =
          let has : list_any (same_key key) old_keys ≡ true = not-false (list_any (same_key key) old_keys) known in
          let mid_is : mid ≡ old_keys = inserted ∙ (rw has refl) in
          let it = key_found old j k (sym (ap (λ ks. slice_get ks j) (mid_is ∙ keys_are)) ∙ found) in
          added_there j keys lines it.0 (subst (λ m. same_key key m ≡ true) (sym it.1) same) (kept ∙ mid_is) is
