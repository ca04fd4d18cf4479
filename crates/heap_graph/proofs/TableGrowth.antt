-- The table of classes, for one more object.
use Rattle.heap_graph.proofs.Words.{AreClasses, AreClassesAmong, AreObjects, Bool, Class, Contains}
use Rattle.heap_graph.proofs.Words.{Contains-append_left, Contains-append_right, DuplicateObject, IsLinked, List, None}
use Rattle.heap_graph.proofs.Words.{Option, Sight, Some, Stands, SubRecord, TableEntry, ZeroObject, [], ap, append-nil}
use Rattle.heap_graph.proofs.Words.{arith, as_class, cases_order, class_dump, class_named, cond, cons_option, eq-eqb}
use Rattle.heap_graph.proofs.Words.{eqb-true, false, filter_map, filter_map-append, ids_of, inl, inr, length}
use Rattle.heap_graph.proofs.Words.{length-append, map, map-append, nat_lt, ne_eqb, not, number_named, objects}
use Rattle.heap_graph.proofs.Words.{option_and_then, position, position_or_len, refl, slice_get, subst, suc, sym, take}
use Rattle.heap_graph.proofs.Words.{take_all, true, zero, ℕ, ⊎_elim, ◌++◌, ◌+◌, ◌<◌, ◌==◌, ◌∙◌, ◌∷◌, ◌≡◌, ◌≤◌, ◌⊎◌}
use Rattle.std.proofs.lemmas.Bool.{lt-ltb}
use Rattle.std.proofs.lemmas.List.Elements.{Contains-append_cases}
use Rattle.std.proofs.lemmas.Option.{slice_get_within as slice_get_below}
use Rattle.hprof_grammar.specs.Dump.{id_of}
use Rattle.heap_graph.specs.working.ClassTable.{AddsEntry, IsTableEntry}
use Rattle.heap_graph.proofs.ChainLaws.{some_inj, some_none}
use Rattle.heap_graph.proofs.EntryLaws.{take_one}
use Rattle.heap_graph.proofs.Firsts.{IsHit, position_at, position_hit}
use Rattle.heap_graph.proofs.PathLaws.{contains_cases, contains_none}
use Rattle.heap_graph.proofs.Standings.{class_is, number_is}
use Rattle.heap_graph.proofs.Wholeness.{same_classes}

-- ---- the first that bears an identifier

first_if : (x id n m : ℕ) (b : Bool) → (x == id) ≡ b → b ≡ false → m ≡ n → cond (not b) (1 + m) 0 ≡ suc n
first_if x id n m true e f h = absurd (cc f)
first_if x id n m false e f h = omega (arith, h)

first_or_len : (ids : List ℕ) (n id : ℕ) → slice_get ids n ≡ Some id → (Contains (take n ids) id → ⊥)
    → position_or_len (λ x. x == id) ids ≡ n
first_or_len [] n id is new = absurd (some_none (sym is))
first_or_len (x ∷ ids) zero id is new =
    ap (λ (b : Bool). cond (not b) (1 + position_or_len (λ y. y == id) ids) 0) (eq-eqb x id (some_inj is))
first_or_len (x ∷ ids) (suc n) id is new =
    first_if x id n (position_or_len (λ y. y == id) ids) (x == id) refl
    (ne_eqb x id (λ e. new (subst (λ (y : ℕ). Contains (x ∷ take n ids) y) e (0, omega arith, refl))))
    (first_or_len ids n id is (λ c. new (Contains-append_right (x ∷ []) (take n ids) id c)))

pub first_bearer : (ids : List ℕ) (n id : ℕ) → slice_get ids n ≡ Some id → (Contains (take n ids) id → ⊥)
    → position (λ x. x == id) ids ≡ Some n
first_bearer ids n id is new =
    let at : position_or_len (λ x. x == id) ids ≡ n = first_or_len ids n id is new in
    let below : n < length ids = slice_get_below ids n id is in
    ap (λ (k : ℕ). cond (nat_lt k (length ids)) (Some k) None) at
    ∙ ap (λ (b : Bool). cond b (Some n) None) (lt-ltb n (length ids) below)

-- ---- the object whose number an identifier names

pub named_number : (heap : List SubRecord) (id n : ℕ) (o : SubRecord) → number_named heap id ≡ Some n
    → slice_get (objects heap) n ≡ Some o → id_of o ≡ id
named_number heap id n o e is =
    let hit : IsHit (λ x. id_of x == id) (objects heap) n = position_hit (λ x. id_of x == id) (objects heap) n e in
    let same : hit.what ≡ o = some_inj (sym hit.here ∙ is) in
    sym (ap id_of same) ∙ eqb-true (id_of hit.what) id hit.passes

not_0 : (heap : List SubRecord) (id : ℕ) (c : Class) → class_named heap id ≡ Some c → (id == 0) ≡ false
not_0 heap id c named = ne_eqb id 0 (λ e. some_none (sym named ∙ ap (λ (n : ℕ). class_named heap n) e))

pub class_of_number : (heap : List SubRecord) (id n : ℕ) (o : SubRecord) (c : Class) → class_named heap id ≡ Some c
    → number_named heap id ≡ Some n → slice_get (objects heap) n ≡ Some o → as_class o ≡ Some c
class_of_number heap id n o c named e is =
    sym (class_is heap id (Some n) (not_0 heap id c named) e
    ∙ ap (λ (x : Option SubRecord). option_and_then as_class x) is) ∙ named

pub below_next : (k n : ℕ) → k < n + 1 → (k < n) ⊎ (k ≡ n)
below_next k n h = ⊎_elim (λ e. inr e) (⊎_elim (λ l. inl l) (λ l. absurd (omega (arith, h, l)))) (cases_order k n)

-- ---- an object that is no class, or is not named by its identifier

pub among_skip : (v : Sight) (heap : List SubRecord) (n : ℕ) (entries : List TableEntry) (o : SubRecord)
    → AreClassesAmong v heap n entries → slice_get (objects heap) n ≡ Some o
    → ((id : ℕ) (c : Class) → class_named heap id ≡ Some c → number_named heap id ≡ Some n → ⊥)
    → (IsLinked v.id_size heap → as_class o ≡ None) → AreClassesAmong v heap (n + 1) entries
among_skip v heap n entries o among is none no_class = record {
  each = among.each;
  complete = λ id number c named at h. ⊎_elim (λ l. among.complete id number c named at l)
      (λ e. absurd (none id c named (at ∙ ap (λ (k : ℕ). Some k) e))) (below_next number n h);
  only = λ id c. let it = among.only id c in (it.0, it.1, omega (arith, it.2));
  in_order = λ linked. among.in_order linked
      ∙ sym (ap (λ (os : List SubRecord). map (λ (c : Class). c.object) (filter_map as_class os))
      (take_one (objects heap) n o is)
      ∙ ap (λ (cs : List Class). map (λ (c : Class). c.object) cs)
      (filter_map-append as_class (take n (objects heap)) (o ∷ [])
      ∙ ap (λ (k : Option Class). filter_map as_class (take n (objects heap)) ++ cons_option k [])
      (no_class linked) ∙ append-nil (filter_map as_class (take n (objects heap)))));
  few = omega (arith, among.few);
}

pub no_class_skip : (heap : List SubRecord) (n : ℕ) (o : SubRecord) → slice_get (objects heap) n ≡ Some o
    → as_class o ≡ None → (id : ℕ) (c : Class) → class_named heap id ≡ Some c → number_named heap id ≡ Some n → ⊥
no_class_skip heap n o is none id c named at = some_none (sym (class_of_number heap id n o c named at is) ∙ none)

pub zero_skip : (heap : List SubRecord) (n : ℕ) (o : SubRecord) → slice_get (objects heap) n ≡ Some o → id_of o ≡ 0
    → (id : ℕ) (c : Class) → class_named heap id ≡ Some c → number_named heap id ≡ Some n → ⊥
zero_skip heap n o is zero_id id c named at =
    some_none (sym named ∙ ap (λ (k : ℕ). class_named heap k) (sym (named_number heap id n o at is) ∙ zero_id))

pub zero_linked : (s : ℕ) (heap : List SubRecord) (n : ℕ) (o : SubRecord) → slice_get (objects heap) n ≡ Some o
    → id_of o ≡ 0 → IsLinked s heap → ⊥
zero_linked s heap n o is zero_id linked = linked n ZeroObject (o, is, zero_id)

-- an identifier that an earlier object bears names no later object
position_low : (ids : List ℕ) (n id : ℕ) → Contains (take n ids) id → position_or_len (λ x. x == id) ids < n
position_low ids zero id c = absurd (contains_none id c)
position_low [] (suc n) id c = absurd (contains_none id c)
position_low (x ∷ ids) (suc n) id c =
    ⊎_elim (λ e. subst (λ (b : Bool). cond (not b) (1 + position_or_len (λ y. y == id) ids) 0 < suc n)
    (sym (eq-eqb x id e)) (omega arith))
    (λ d. low_if (x == id) (position_or_len (λ y. y == id) ids) n (position_low ids n id d))
    (contains_cases x (take n ids) id c)
  where
    low_if : (b : Bool) (m n : ℕ) → m < n → cond (not b) (1 + m) 0 < suc n
    low_if true m n h = omega arith
    low_if false m n h = omega (arith, h)

pub repeated_skip : (v : Sight) (places ids : List ℕ) (heap : List SubRecord) (n : ℕ) (o : SubRecord)
    → AreObjects v places ids heap → slice_get (objects heap) n ≡ Some o → Contains (take n ids) (id_of o)
    → (id : ℕ) (c : Class) → class_named heap id ≡ Some c → number_named heap id ≡ Some n → ⊥
repeated_skip v places ids heap n o are is again id c named at =
    let same : id_of o ≡ id = named_number heap id n o at is in
    let low : position_or_len (λ x. x == id) ids < n =
    position_low ids n id (subst (λ (k : ℕ). Contains (take n ids) k) same again) in
    omega (arith, low, position_at (λ x. x == id) ids n (sym (sym (number_is v places ids heap id are) ∙ at)))

pub repeated_linked : (v : Sight) (places ids : List ℕ) (heap : List SubRecord) (n : ℕ) (o : SubRecord)
    → AreObjects v places ids heap → slice_get (objects heap) n ≡ Some o → Contains (take n ids) (id_of o)
    → IsLinked v.id_size heap → ⊥
repeated_linked v places ids heap n o are is again linked =
    linked n DuplicateObject (o, is, subst (λ (xs : List ℕ). Contains (take n xs) (id_of o)) are.ids_are again)

-- ---- a class is added

pub each_more : (v : Sight) (heap : List SubRecord) (entries : List TableEntry) (P : TableEntry → Type 0)
    (new : TableEntry)
    → ((k : ℕ) (e : TableEntry) → slice_get entries k ≡ Some e → P e) → P new → (k : ℕ) (e : TableEntry)
    → slice_get (entries ++ new ∷ []) k ≡ Some e → P e
each_more v heap [] P new each last zero e is = subst (λ (x : TableEntry). P x) (some_inj is) last
each_more v heap [] P new each last (suc k) e is = absurd (some_none (sym is))
each_more v heap (x ∷ xs) P new each last zero e is = each zero e is
each_more v heap (x ∷ xs) P new each last (suc k) e is =
    each_more v heap xs P new (λ j y h. each (suc j) y h) last k e is

pub among_more : (v : Sight) (heap : List SubRecord) (n id place : ℕ) (old new : List TableEntry) (c : Class)
    → AreClassesAmong v heap n old → slice_get (objects heap) n ≡ Some (class_dump c) → c.object ≡ id
    → number_named heap id ≡ Some n → class_named heap id ≡ Some c → Stands v place (class_dump c)
    → AddsEntry v.id_size c id place old new → AreClassesAmong v heap (n + 1) new
among_more v heap n id place old new c among is id_is at named stands adds =
    subst (λ (es : List TableEntry). AreClassesAmong v heap (n + 1) es) (sym adds.entries_are)
    (record {
      each = each_more v heap old (λ e. IsTableEntry v heap e) (id, adds.entry) among.each
          (record {
            class = c;
            named = named;
            stands = subst (λ (p : ℕ). Stands v p (class_dump c)) (sym adds.place_is) stands;
            size_is = adds.size_is;
            few_bytes = adds.few_bytes;
          });
      complete = λ wanted number d other there h.
          ⊎_elim (λ l. subst (λ (xs : List ℕ). Contains xs wanted) (sym (ids_more old (id, adds.entry)))
          (Contains-append_left (ids_of old) (id ∷ []) wanted (among.complete wanted number d other there l)))
          (λ e.
          let same : c.object ≡ wanted =
          named_number heap wanted n (class_dump c) (there ∙ ap (λ (k : ℕ). Some k) e) is in
          subst (λ (xs : List ℕ). Contains xs wanted) (sym (ids_more old (id, adds.entry)))
          (Contains-append_right (ids_of old) (id ∷ []) wanted
          (subst (λ (k : ℕ). Contains (id ∷ []) k) (sym id_is ∙ same) (0, omega arith, refl))))
          (below_next number n h);
      only = λ wanted has.
          ⊎_elim (λ l. let it = among.only wanted l in (it.0, it.1, omega (arith, it.2)))
          (λ l. ⊎_elim (λ e. (n, ap (λ (k : ℕ). number_named heap k) (sym e) ∙ at, omega arith))
          (λ none. absurd (contains_none wanted none)) (contains_cases id [] wanted l))
          (Contains-append_cases (ids_of old) (id ∷ []) wanted
          (subst (λ (xs : List ℕ). Contains xs wanted) (ids_more old (id, adds.entry)) has));
      in_order = λ linked.
          ids_more old (id, adds.entry) ∙ ap (λ (xs : List ℕ). xs ++ id ∷ []) (among.in_order linked)
          ∙ ap (λ (k : ℕ). map (λ (d : Class). d.object) (filter_map as_class (take n (objects heap))) ++ k ∷ [])
          (sym id_is)
          ∙ sym (ap (λ (os : List SubRecord). map (λ (d : Class). d.object) (filter_map as_class os))
          (take_one (objects heap) n (class_dump c) is)
          ∙ ap (λ (cs : List Class). map (λ (d : Class). d.object) cs)
          (filter_map-append as_class (take n (objects heap)) (class_dump c ∷ []))
          ∙ map-append (λ (d : Class). d.object) (filter_map as_class (take n (objects heap))) (c ∷ []));
      few = omega (arith, among.few, length-append old ((id, adds.entry) ∷ []));
    })
  where
    ids_more : (es : List TableEntry) (e : TableEntry) → ids_of (es ++ e ∷ []) ≡ ids_of es ++ e.0 ∷ []
    ids_more [] e = refl
    ids_more (x ∷ xs) e = ap (λ (ys : List ℕ). x.0 ∷ ys) (ids_more xs e)

-- ---- all objects

bearer_there : (heap : List SubRecord) (id : ℕ) (c : Class) → class_named heap id ≡ Some c
    → (n : ℕ) × (number_named heap id ≡ Some n) × (n < length (objects heap))
bearer_there heap id c named = at (number_named heap id) refl
  where
    at : (o : Option ℕ) → number_named heap id ≡ o → (n : ℕ) × (number_named heap id ≡ Some n)
        × (n < length (objects heap))
    at None e = absurd (some_none (sym named ∙ class_is heap id None (not_0 heap id c named) e))
    at (Some n) e = (n, e, (position_hit (λ x. id_of x == id) (objects heap) n e).below)

pub among_all : (v : Sight) (heap : List SubRecord) (n : ℕ) (entries : List TableEntry) → 1 ≤ v.id_size
    → AreClassesAmong v heap n entries → length (objects heap) ≤ n → AreClasses v heap entries
among_all v heap n entries low among all = record {
  low = low;
  each = among.each;
  complete = λ id c named.
      let it = bearer_there heap id c named in among.complete id it.0 c named it.1 (omega (arith, it.2, all));
  in_order = λ linked. among.in_order linked
      ∙ ap (λ (os : List SubRecord). map (λ (c : Class). c.object) (filter_map as_class os))
      (take_all n (objects heap) all) ∙ ap (λ (cs : List Class). map (λ (c : Class). c.object) cs) (same_classes heap);
}

-- ---- a new identifier

pub get_map : {X Y : Type 0} (f : X → Y) (xs : List X) (n : ℕ) (x : X) → slice_get xs n ≡ Some x
    → slice_get (map f xs) n ≡ Some (f x)
get_map f [] n x is = absurd (some_none (sym is))
get_map f (y ∷ ys) zero x is = ap (λ z. Some (f z)) (some_inj is)
get_map f (y ∷ ys) (suc n) x is = get_map f ys n x is

pub first_number : (v : Sight) (places ids : List ℕ) (heap : List SubRecord) (n id : ℕ) (o : SubRecord)
    → AreObjects v places ids heap → slice_get (objects heap) n ≡ Some o → id ≡ id_of o
    → (Contains (take n ids) id → ⊥) → number_named heap id ≡ Some n
first_number v places ids heap n id o are is id_is new =
    number_is v places ids heap id are
    ∙ first_bearer ids n id (ap (λ (xs : List ℕ). slice_get xs n) are.ids_are ∙ get_map id_of (objects heap) n o is
    ∙ ap (λ (k : ℕ). Some k) (sym id_is)) new
