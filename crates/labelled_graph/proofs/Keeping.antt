-- The references that are kept, as a list.
use Rattle.std.proofs.Common.{List, None, Option, Some, [], add-zero, ap, append_assoc, arith, get_or, inl, inr, length}
use Rattle.std.proofs.Common.{map, refl}
use Rattle.std.proofs.Common.{sym, take, ℕ, ⊎_elim, ◌++◌, ◌+◌, ◌<◌, ◌∙◌, ◌∷◌, ◌≡◌, ◌≤◌, ◌^◌, ◌⊎◌}
use Rattle.std.proofs.Common.{ltb}
use Rattle.std.proofs.lemmas.Bool.{cases_lt, cond-false, cond-true, le-ltb, lt-ltb}
use Rattle.std.proofs.lemmas.List.{length-map, length-take, map-append, take_more}
use Rattle.std.proofs.lemmas.List.Elements.{filter_map-append}
use Rattle.std.specs.List.{cons_option}
use Rattle.std.specs.Option.{option_to_list}
use Rattle.label_flow.specs.declared.graph.Reference.{Reference}
use Rattle.label_list.specs.declared.entry.Entry.{Entry}
use Rattle.labelled_graph.specs.declared.mark.Mark.{Mark}
use Rattle.labelled_graph.specs.working.Kept.{added_root, added_roots, index_after, kept, limited, no_mark}
use Rattle.labelled_graph.specs.working.Kept.{reference_of}

cons_append : (r : Option Reference) (xs ys : List Reference) → cons_option r (xs ++ ys) ≡ cons_option r xs ++ ys
cons_append None xs ys = refl
cons_append (Some r) xs ys = refl

one_option : (r : Option Reference) → cons_option r [] ≡ option_to_list r
one_option None = refl
one_option (Some r) = refl

pub kept_push : (f : ℕ → Mark) (i : ℕ) (ns : List (Option ℕ)) (n : Option ℕ)
    → kept f i (ns ++ n ∷ []) ≡ kept f i ns ++ option_to_list (reference_of n (f (i + length ns)))
kept_push f i [] n =
    one_option (reference_of n (f i)) ∙ ap (λ (k : ℕ). option_to_list (reference_of n (f k))) (sym (add-zero i))
kept_push f i (m ∷ ns) n =
    let at : (i + 1) + length ns ≡ i + length (m ∷ ns) = omega arith in
    ap (cons_option (reference_of m (f i))) (kept_push f (i + 1) ns n)
    ∙ cons_append (reference_of m (f i)) (kept f (i + 1) ns) (option_to_list (reference_of n (f ((i + 1) + length ns))))
    ∙ ap (λ (k : ℕ). cons_option (reference_of m (f i)) (kept f (i + 1) ns) ++ option_to_list (reference_of n (f k))) at

-- a root more
pub roots_more : (f : ℕ → Mark) (h : ℕ → Option ℕ) (names : List ℕ) (i : ℕ) (old new : List Reference)
    (r : Option Reference) → i < length names → r ≡ reference_of (h (get_or names i 0)) (f i)
    → new ≡ old ++ option_to_list r → old ≡ kept f 0 (map h (take i names))
    → new ≡ kept f 0 (map h (take (i + 1) names))
roots_more f h names i old new r inside is added before =
    let n = h (get_or names i 0) in
    let first = map h (take i names) in
    let many : 0 + length first ≡ i = simp (length-map, length-take) (omega arith) in
    let taken : map h (take (i + 1) names) ≡ first ++ n ∷ [] =
    ap (map h) (take_more names i 0 inside) ∙ map-append h (take i names) (get_or names i 0 ∷ []) in
    added ∙ ap (λ (xs : List Reference). xs ++ option_to_list r) before
    ∙ ap (λ (o : Option Reference). kept f 0 first ++ option_to_list o) is
    ∙ ap (λ (k : ℕ). kept f 0 first ++ option_to_list (reference_of n (f k))) (sym many)
    ∙ sym (kept_push f 0 first n) ∙ ap (kept f 0) (sym taken)

filter_one : (ids : List ℕ) (e : Entry) → added_roots ids (e ∷ []) ≡ option_to_list (added_root ids e)
filter_one ids e = one_option (added_root ids e)

-- an entry's root more
pub roots_added : (ids : List ℕ) (list : List Entry) (i : ℕ) (d : Entry) (base old new : List Reference)
    (r : Option Reference) → i < length list → r ≡ added_root ids (get_or list i d)
    → new ≡ old ++ option_to_list r → old ≡ base ++ added_roots ids (take i list)
    → new ≡ base ++ added_roots ids (take (i + 1) list)
roots_added ids list i d base old new r inside is added before =
    let first = added_roots ids (take i list) in
    added ∙ ap (λ (xs : List Reference). xs ++ option_to_list r) before
    ∙ append_assoc base first (option_to_list r)
    ∙ ap (λ (xs : List Reference). base ++ xs)
    (ap (λ (o : Option Reference). first ++ option_to_list o) is
    ∙ ap (λ (xs : List Reference). first ++ xs) (sym (filter_one ids (get_or list i d)))
    ∙ sym (filter_map-append (added_root ids) (take i list) (get_or list i d ∷ []))
    ∙ ap (added_roots ids) (sym (take_more list i d inside)))

-- ---- marks that are the same from an index on give the same references

pub kept_same : (f h : ℕ → Mark) (i : ℕ) (ns : List (Option ℕ)) → ((j : ℕ) → i ≤ j → h j ≡ f j)
    → kept f i ns ≡ kept h i ns
kept_same f h i [] same = refl
kept_same f h i (n ∷ ns) same =
    ap (λ (m : Mark). cons_option (reference_of n m) (kept f (i + 1) ns)) (sym (same i (omega arith)))
    ∙ ap (cons_option (reference_of n (h i))) (kept_same f h (i + 1) ns (λ j l. same j (omega (arith, l))))

-- beyond the last mark the index does not matter
kept_beyond : (f : ℕ → Mark) (i k : ℕ) (ns : List (Option ℕ)) → ((j : ℕ) → 2 ^ 32 ≤ j → f j ≡ no_mark) → 2 ^ 32 ≤ i
    → 2 ^ 32 ≤ k → kept f i ns ≡ kept f k ns
kept_beyond f i k [] none a b = refl
kept_beyond f i k (n ∷ ns) none a b =
    ap (λ (m : Mark). cons_option (reference_of n m) (kept f (i + 1) ns)) (none i a ∙ sym (none k b))
    ∙ ap (cons_option (reference_of n (f k))) (kept_beyond f (i + 1) (k + 1) ns none (omega (arith, a)) (omega
    (arith, b)))

pub kept_on : (f h : ℕ → Mark) (i k : ℕ) (ns : List (Option ℕ)) → ((j : ℕ) → 2 ^ 32 ≤ j → f j ≡ no_mark)
    → (k ≡ i + 1) ⊎ ((2 ^ 32 ≤ i) × (k ≡ i)) → ((j : ℕ) → k ≤ j → h j ≡ f j) → kept f (i + 1) ns ≡ kept h k ns
kept_on f h i k ns none next same = ⊎_elim
    (λ e. ap (λ (x : ℕ). kept f x ns) (sym e) ∙ kept_same f h k ns same)
    (λ e. kept_beyond f (i + 1) k ns none (omega (arith, e.0)) (omega (arith, e.0, e.1)) ∙ kept_same f h k ns same) next

next_index : (i k : ℕ) → k ≡ index_after i → (k ≡ i + 1) ⊎ ((2 ^ 32 ≤ i) × (k ≡ i))
next_index i k is = ⊎_elim (λ l. inl (is ∙ cond-true (ltb i (2 ^ 32)) (i + 1) i (lt-ltb i (2 ^ 32) l)))
    (λ l. inr (l, is ∙ cond-false (ltb i (2 ^ 32)) (i + 1) i (le-ltb i (2 ^ 32) l))) (cases_lt i (2 ^ 32))

pub limited_beyond : (m : Mark) (j : ℕ) → 2 ^ 32 ≤ j → limited j m ≡ no_mark
limited_beyond m j l = cond-false (ltb j (2 ^ 32)) m no_mark (le-ltb j (2 ^ 32) l)

-- the first identifier, and the others with the marks that are left
pub kept_next : (f h : ℕ → Mark) (i k : ℕ) (all ns : List (Option ℕ)) (n : Option ℕ) (m : Mark) (r : Option Reference)
    → all ≡ n ∷ ns → m ≡ f i → r ≡ reference_of n m → k ≡ index_after i → ((j : ℕ) → 2 ^ 32 ≤ j → f j ≡ no_mark)
    → ((j : ℕ) → k ≤ j → h j ≡ f j) → kept f i all ≡ cons_option r (kept h k ns)
kept_next f h i k all ns n m r first mark is next none same =
    ap (kept f i) first
    ∙ ap (λ (o : Option Reference). cons_option o (kept f (i + 1) ns))
    (sym (is ∙ ap (reference_of n) mark))
    ∙ ap (cons_option r) (kept_on f h i k ns none (next_index i k next) same)
