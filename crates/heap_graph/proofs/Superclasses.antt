-- The superclasses of a class, for each heap list: they end, or they never do. Each step up takes one identifier away
-- from those that were not passed yet, so a walk comes to its end, or to a class that it has passed.
use Rattle.heap_graph.proofs.Words.{Bool, Class, Contains, IsBadSuper, IsChain, IsCut, IsLine, List, NeverEnds, None}
use Rattle.heap_graph.proofs.Words.{Option, Some, SubRecord, [], ap, arith, cases_eq, class_dump, class_named, cond}
use Rattle.heap_graph.proofs.Words.{eq-eqb, eqb-true, false, filter, get_or, get_or-le-sum_by, id_of, inl, inr, length}
use Rattle.heap_graph.proofs.Words.{length-filter, length-filter_both, length-map, map, not, objects, refl}
use Rattle.heap_graph.proofs.Words.{slice_get_within, subst, suc, sym, true, zero, ℕ, ⊎_elim, ◌<◌, ◌==◌, ◌∙◌, ◌∷◌, ◌≡◌}
use Rattle.heap_graph.proofs.Words.{◌≤◌, ◌⊎◌}
use Rattle.heap_graph.proofs.Answering.{here_is}
use Rattle.heap_graph.proofs.ChainLaws.{chain_ends, cut_ends, cut_is_no_chain, never_below}
use Rattle.heap_graph.proofs.Linking.{class_there}
use Rattle.heap_graph.proofs.PathLaws.{contains_cases, contains_first, contains_none, contains_rest}
use Rattle.heap_graph.proofs.RuleLaws.{fine_super}

-- ---- a list without a number

abbrev but : ℕ → List ℕ → List ℕ
but x xs = filter (λ y. not (y == x)) xs

kept_if : (x y z : ℕ) (left : List ℕ) (b : Bool) → (z == x) ≡ b → (z ≡ y) ⊎ ((y ≡ x) ⊎ Contains left y)
    → (y ≡ x) ⊎ Contains (cond (not b) (z ∷ left) left) y
kept_if x y z left true e (inl h) = inl (sym h ∙ eqb-true z x e)
kept_if x y z left true e (inr h) = h
kept_if x y z left false e (inl h) = inr (subst (λ (n : ℕ). Contains (z ∷ left) n) h (contains_first z left))
kept_if x y z left false e (inr h) = ⊎_elim inl (λ c. inr (contains_rest z left y c)) h

kept : (x y : ℕ) (xs : List ℕ) → Contains xs y → (y ≡ x) ⊎ Contains (but x xs) y
kept x y [] c = absurd (contains_none y c)
kept x y (z ∷ zs) c =
    kept_if x y z (but x zs) (z == x) refl (⊎_elim inl (λ h. inr (kept x y zs h)) (contains_cases z zs y c))

fewer : (x : ℕ) (xs : List ℕ) → Contains xs x → length (but x xs) < length xs
fewer x xs c =
    let one : cond {A = ℕ} (get_or xs c.0 x == x) 1 0 ≡ 1 =
    ap (λ (b : Bool). cond {A = ℕ} b 1 0) (eq-eqb (get_or xs c.0 x) x c.2) in
    omega (
      arith,
      length-filter_both (λ y. y == x) (λ y. not (y == x)) (λ y. refl) xs,
      length-filter (λ y. y == x) xs,
      get_or-le-sum_by (λ y. cond {A = ℕ} (y == x) 1 0) xs c.0 x c.1,
      one,
    )

-- ---- a walk up the superclasses

-- the classes from `id` up end at 0, end at a superclass that does not exist, or never end
abbrev pub Comes : List SubRecord → ℕ → Type 0
Comes heap id =
    ((chain : List Class) × IsChain heap id chain)
    ⊎ (((classes : List Class) × IsCut heap id classes) ⊎ NeverEnds heap id)

-- the superclass of each class that was passed was passed too, or is the one that the walk has reached
abbrev IsClosed : List SubRecord → List ℕ → ℕ → Type 0
IsClosed heap passed at = (id : ℕ) → Contains passed id
    → (c : Class) × (class_named heap id ≡ Some c) × ((c.super ≡ at) ⊎ Contains passed c.super)

-- each class was passed or is left
abbrev IsCovered : List SubRecord → List ℕ → List ℕ → Type 0
IsCovered heap passed left = (id : ℕ) (c : Class) → class_named heap id ≡ Some c
    → Contains passed id ⊎ Contains left id

first_is : (at id : ℕ) (passed : List ℕ) → id ≡ at → Contains (at ∷ passed) id
first_is at id passed e = subst (λ (m : ℕ). Contains (at ∷ passed) m) (sym e) (contains_first at passed)

module _ (heap : List SubRecord) where
  -- a walk that comes back to a class that it has passed never ends
  around : (passed : List ℕ) (at : ℕ) → IsClosed heap passed at → Contains passed at → (n id : ℕ)
      → Contains passed id → (classes : List Class) × (length classes ≡ n) × IsLine heap id classes
  around passed at closed again zero id h = ([], refl, tt)
  around passed at closed again (suc n) id h =
      let up = closed id h in
      let above : Contains passed up.0.super =
      ⊎_elim (λ e. subst (λ (m : ℕ). Contains passed m) (sym e) again) (λ m. m) up.2 in
      let line = around passed at closed again n up.0.super above in
      (up.0 ∷ line.0, omega (arith, line.1), (up.1, line.2))

  closed_more : (passed : List ℕ) (at : ℕ) (c : Class) → class_named heap at ≡ Some c → IsClosed heap passed at
      → IsClosed heap (at ∷ passed) c.super
  closed_more passed at c named closed id h =
      ⊎_elim (λ e. (c, subst (λ (n : ℕ). class_named heap n ≡ Some c) e named, inl refl))
      (λ old.
      let up = closed id old in
      let above = ⊎_elim (first_is at up.0.super passed) (contains_rest at passed up.0.super) up.2 in
      (up.0, up.1, inr above))
      (contains_cases at passed id h)

  covered_more : (passed left : List ℕ) (at : ℕ) → IsCovered heap passed left
      → IsCovered heap (at ∷ passed) (but at left)
  covered_more passed left at cover id c named =
      ⊎_elim (λ m. inl (contains_rest at passed id m))
      (λ m. ⊎_elim (λ e. inl (first_is at id passed e)) inr (kept at id left m)) (cover id c named)

  up : (id : ℕ) (c : Class) → class_named heap id ≡ Some c → Comes heap c.super → Comes heap id
  up id c named (inl h) = inl (c ∷ h.0, (named, h.1))
  up id c named (inr (inl h)) = inr (inl (c ∷ h.0, (named, h.1)))
  up id c named (inr (inr never)) = inr (inr (never_below heap id c named never))

  here : (passed : List ℕ) (at : ℕ) → IsClosed heap passed at → (o : Option Class) → class_named heap at ≡ o
      → ((c : Class) → class_named heap at ≡ Some c → Contains passed at ⊎ Comes heap at) → Comes heap at
  here passed at closed None e more =
      ⊎_elim (λ z. inl ([], z)) (λ other. inr (inl ([], (other, e)))) (cases_eq at 0)
  here passed at closed (Some c) e more =
      ⊎_elim (λ again. inr (inr (λ n. around passed at closed again n at again))) (λ come. come) (more c e)

  comes : (most : ℕ) (passed left : List ℕ) (at : ℕ) → length left ≤ most → IsClosed heap passed at
      → IsCovered heap passed left → Comes heap at
  comes zero passed left at room closed cover =
      here passed at closed (class_named heap at) refl
      (λ c named. ⊎_elim inl (λ h. absurd (omega (arith, room, h.1))) (cover at c named))
  comes (suc n) passed left at room closed cover =
      here passed at closed (class_named heap at) refl
      (λ c named. ⊎_elim inl (λ h.
      let less : length (but at left) ≤ n = omega (arith, room, fewer at left h) in
      let above = closed_more passed at c named closed in
      inr (up at c named (comes n (at ∷ passed) (but at left) c.super less above (covered_more passed left at cover))))
      (cover at c named))

  bears : (id : ℕ) (c : Class) → class_named heap id ≡ Some c → Contains (map id_of (objects heap)) id
  bears id c named =
      let it = class_there heap id c named in
      let below = slice_get_within (objects heap) it.number (class_dump c) it.is in (
        it.number,
        omega (arith, length-map (objects heap) id_of, below),
        here_is id_of (objects heap) it.number (class_dump c) id it.is ∙ it.id_is,
      )

  pub comes_to : (id : ℕ) → Comes heap id
  comes_to id =
      let ids = map id_of (objects heap) in
      comes (length ids) [] ids id (omega arith) (λ k h. absurd (contains_none k h))
      (λ k c named. inr (bears k c named))

  -- ---- the rule for superclasses is kept or broken

  cut_told : (super : ℕ) (classes : List Class) → IsCut heap super classes
      → IsBadSuper heap super ⊎ (IsBadSuper heap super → ⊥)
  cut_told super [] cut = inl (inl cut)
  cut_told super (c ∷ cs) cut = inr (fine_super heap super c cut.0 (cut_ends heap super (c ∷ cs) cut))

  super_by : (super : ℕ) → Comes heap super → IsBadSuper heap super ⊎ (IsBadSuper heap super → ⊥)
  super_by super (inl h) =
      inr (⊎_elim (λ cut. cut_is_no_chain heap super [] h.0 cut h.1) (chain_ends heap super h.0 h.1))
  super_by super (inr (inl h)) = cut_told super h.0 h.1
  super_by super (inr (inr never)) = inl (inr never)

  pub super_told : (super : ℕ) → IsBadSuper heap super ⊎ (IsBadSuper heap super → ⊥)
  super_told super = super_by super (comes_to super)
