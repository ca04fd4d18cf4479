-- The sets of several labels, gathered from the highest number down.
use Rattle.std.proofs.Common.{All, Bool, Contains, IsPermutation, List, [], arith, false, get_or, get_or-set_other}
use Rattle.std.proofs.Common.{get_or-set_same, inl, inr}
use Rattle.std.proofs.Common.{length, length-set, reverse, set, subst, sym, true, ℕ, ◌++◌, ◌+◌, ◌-◌, ◌<◌, ◌∙◌, ◌∷◌}
use Rattle.std.proofs.Common.{◌≡◌, ◌≤◌, ◌⊎◌}
use Rattle.std.specs.List.{AllPairs}
use Rattle.std.proofs.lemmas.Bool.{cases_eq, cases_lt, false≢true}
use Rattle.std.proofs.lemmas.List.{get_or-reverse, get_or_past, length-reverse, map-append}
use Rattle.std.proofs.lemmas.List.Elements.{All-push, Contains-append_left, Contains-push}
use Rattle.std.proofs.lemmas.List.Quantifiers.{all_pairs_push}
use Rattle.std.proofs.lemmas.List.Sorted.{All-permutation, Contains-permutation, IsPermutation-map}
use Rattle.std.proofs.lemmas.List.Sorted.{IsPermutation-reverse}
use Rattle.label_sets.specs.Sets.{IsPlain, Store}
use Rattle.held_table.specs.Joints.{AreJoints, IsDefined, IsJoint, IsUsed, sets_of}
use Rattle.held_table.specs.declared.line.Joint.{Joint}
use Rattle.held_table.specs.declared.line.Line.{Line}
use Rattle.held_table.specs.working.Marking.{AreGathered, AreMarked, AreOnly, IsGathered, IsMarked, IsPlainLine}
use Rattle.held_table.specs.working.Marking.{IsUnion}

pub marked_here : (marks : List Bool) (i : ℕ) → i < length marks → IsMarked (set marks i true) i
marked_here marks i within = get_or-set_same marks i true false within

pub marked_kept : (marks : List Bool) (i s : ℕ) → i < length marks → IsMarked marks s → IsMarked (set marks i true) s
marked_kept marks i s within is = elim (cases_eq s i) [
  | inl e ↦ subst (λ n. IsMarked (set marks i true) n) (sym e) (marked_here marks i within)
  | inr n ↦ get_or-set_other marks i s true false n ∙ is
]

pub marked_before : (marks : List Bool) (i s : ℕ) → IsMarked (set marks i true) s → (s ≡ i) ⊎ IsMarked marks s
marked_before marks i s is = elim (cases_eq s i) [
  | inl e ↦ inl e
  | inr n ↦ inr (sym (get_or-set_other marks i s true false n) ∙ is)
]

module _ (store : Store) (lines : List Line) (marks : List Bool) (n : ℕ) (js : List Joint)
    (were : AreGathered store lines marks (n + 1) js) where
  -- the set `n` needs no joint
  pub gathered_without : (IsMarked marks n → store.labels < n → ⊥) → AreGathered store lines marks n js
  gathered_without none = record {
    plain = were.plain;
    used = were.used;
    known = λ s above is several. elim (cases_eq s n) [
      | inl e ↦ absurd (none (subst (IsMarked marks) e is) (omega (arith, several, e)))
      | inr other ↦ were.known s (omega (arith, above, other)) is several
    ];
    each = were.each;
    above = λ k d h. let a : n + 1 ≤ (get_or js k d).set = were.above k d h in omega (arith, a);
    falling = were.falling;
  }

  -- the set `n` is that of the joint `j`
  pub gathered_with : (j : Joint) → IsMarked marks n → IsUnion store n j → n < length marks → (all : List Joint)
      → all ≡ js ++ j ∷ [] → AreGathered store lines (set (set marks j.first true) j.second true) n all
  gathered_with j marked union within all all_is =
      let first : j.first < length marks = omega (arith, union.first_below, within) in
      let mid : List Bool = set marks j.first true in
      let second : j.second < length mid = omega (arith, union.second_below, within, length-set marks j.first true) in
      let new : List Bool = set mid j.second true in
      let kept : (s : ℕ) → IsMarked marks s → IsMarked new s =
      λ s is. marked_kept mid j.second s second (marked_kept marks j.first s first is) in
      let first_marked : IsMarked new j.first =
      marked_kept mid j.second j.first second (marked_here marks j.first first) in
      let second_marked : IsMarked new j.second = marked_here mid j.second second in
      let before : (s : ℕ) → IsMarked new s → (s ≡ j.first) ⊎ ((s ≡ j.second) ⊎ IsMarked marks s) = λ s is.
      elim (marked_before mid j.second s is) [
        | inl e ↦ inr (inl e)
        | inr was ↦ elim (marked_before marks j.first s was) [ inl e ↦ inl e | inr h ↦ inr (inr h) ]
      ] in
      let sets : sets_of (js ++ j ∷ []) ≡ sets_of js ++ j.set ∷ [] = map-append (λ (m : Joint). m.set) js (j ∷ []) in
      let at_set : IsUnion store j.set j = subst (λ m. IsUnion store m j) (sym union.set_is) union in
      subst (AreGathered store lines new n) (sym all_is) (record {
        plain = λ s is. elim (before s is) [
          | inl e ↦ subst (IsPlain store) (sym e) union.first_plain
          | inr h ↦ elim h [ inl e ↦ subst (IsPlain store) (sym e) union.second_plain | inr was ↦ were.plain s was ]
        ];
        used = λ s is. elim (before s is) [
          | inl e ↦ inr (j, Contains-push js j, inl (sym e))
          | inr h ↦ elim h [
            | inl e ↦ inr (j, Contains-push js j, inr (sym e))
            | inr was ↦ elim (were.used s was) [
              | inl named ↦ inl named
              | inr part ↦ inr (part.0, Contains-append_left js (j ∷ []) part.0 part.1, part.2)
            ]
          ]
        ];
        known = λ s above is several. subst (λ m. Contains m s) (sym sets) (elim (cases_eq s n) [
          | inl e ↦ subst (Contains (sets_of js ++ j.set ∷ [])) (union.set_is ∙ sym e)
              (Contains-push (sets_of js) j.set)
          | inr other ↦ elim (before s is) [
            | inl e ↦ absurd (omega (arith, e, above, union.first_below))
            | inr h ↦ elim h [
              | inl e ↦ absurd (omega (arith, e, above, union.second_below))
              | inr was ↦ Contains-append_left (sets_of js) (j.set ∷ []) s
                  (were.known s (omega (arith, above, other)) was several)
            ]
          ]
        ]);
        each = All-push (IsGathered store new) js j
            (λ k d h. let it = were.each k d h in record {
              union = it.union;
              marked = kept _ it.marked;
              first_marked = kept _ it.first_marked;
              second_marked = kept _ it.second_marked;
            })
            (record {
              union = at_set;
              marked = kept j.set (subst (IsMarked marks) (sym union.set_is) marked);
              first_marked = first_marked;
              second_marked = second_marked;
            });
        above = All-push (λ m. n ≤ m.set) js j
            (λ k d h. let a : n + 1 ≤ (get_or js k d).set = were.above k d h in omega (arith, a))
            (omega (arith, union.set_is));
        falling = all_pairs_push (λ a b. b.set < a.set) js j were.falling
            (λ k d h. let a : n + 1 ≤ (get_or js k d).set = were.above k d h in omega (arith, a, union.set_is));
      })

past_end : (marks : List Bool) (s : ℕ) → length marks ≤ s → IsMarked marks s → ⊥
past_end marks s past is = false≢true (sym (get_or_past marks s false past) ∙ is)

-- before the first
pub gathered_none : (store : Store) (lines : List Line) (marks : List Bool) (n : ℕ) → length marks ≤ n
    → ((s : ℕ) → IsMarked marks s → IsPlain store s) → AreOnly lines marks → AreGathered store lines marks n []
gathered_none store lines marks n all plain only = record {
  plain = plain;
  used = λ s is. inl (only s is);
  known = λ s above is several. absurd (past_end marks s (omega (arith, all, above)) is);
  each = λ k d h. absurd (omega (arith, h));
  above = λ k d h. absurd (omega (arith, h));
  falling = λ i k d low below. absurd (omega (arith, below));
}

-- all marked sets are gathered
module _ (store : Store) (lines : List Line) (marks : List Bool) (js : List Joint)
    (were : AreGathered store lines marks 0 js) (new : List Joint) (new_is : new ≡ reverse js) where
  moved : IsPermutation js new
  moved = subst (IsPermutation js) (sym new_is) (IsPermutation-reverse js)

  pub defined_marked : (s : ℕ) → IsMarked marks s → IsPlain store s → IsDefined store new s
  defined_marked s is plain = record {
    plain = plain;
    known = elim (cases_lt store.labels s) [
      | inl several ↦ inr (Contains-permutation (sets_of js) (sets_of new) s
          (IsPermutation-map (λ (j : Joint). j.set) js new moved) (were.known s (omega arith) is several))
      | inr few ↦ inl few
    ];
  }

  pub gathered_all : AreJoints store new
  gathered_all = record {
    each = All-permutation (IsJoint store new) js new moved
        (λ k d h. let it = were.each k d h in record {
          several = it.union.several;
          labels_are = it.union.labels_are;
          first_below = it.union.first_below;
          second_below = it.union.second_below;
          first_defined = defined_marked _ it.first_marked it.union.first_plain;
          second_defined = defined_marked _ it.second_marked it.union.second_plain;
        });
    rising = subst (AllPairs (λ a b. a.set < b.set)) (sym new_is) (λ i k d low below.
        let inside : k < length js = omega (arith, below, length-reverse js) in
        let inside_i : i < length js = omega (arith, inside, low) in
        rw (get_or-reverse js i d inside_i, get_or-reverse js k d inside)
        (were.falling (length js - 1 - k) (length js - 1 - i) d (omega (arith, inside, low))
        (omega (arith, inside, low))));
  }

  pub needed_all : All (λ j. IsUsed lines new j.set) new
  needed_all = All-permutation (λ j. IsUsed lines new j.set) js new moved
      (λ k d h. elim (were.used _ (were.each k d h).marked) [
        | inl named ↦ inl named
        | inr part ↦ inr (part.0, Contains-permutation js new part.0 moved part.1, part.2)
      ])

  pub defined_lines : (count : ℕ) → All (IsPlainLine store count) lines → AreMarked lines marks
      → All (λ l. IsDefined store new l.set) lines
  defined_lines count plain marked = λ k d h. defined_marked _ (marked k d h) (plain k d h).plain
