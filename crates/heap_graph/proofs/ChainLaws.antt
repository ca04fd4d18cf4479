-- Each chain of superclasses ends in one way.
use Rattle.heap_graph.proofs.Words.{Class, IsChain, IsCut, IsLine, List, NeverEnds, None, Some, SubRecord, [], ap}
use Rattle.heap_graph.proofs.Words.{arith, class_named, length, refl, subst, suc, sym, zero, ℕ, ◌<◌, ◌∙◌, ◌∷◌, ◌≡◌}

pub some_inj : {X : Type 0} {x y : X} → Some x ≡ Some y → x ≡ y
some_inj {X} {x} {y} e = cc

pub some_none : {X : Type 0} {x : X} → Some x ≡ None → ⊥
some_none {X} {x} e = cc

module _ (heap : List SubRecord) where
  -- identifier 0 names no class
  none_at_0 : (id : ℕ) (c : Class) → class_named heap id ≡ Some c → id ≡ 0 → ⊥
  none_at_0 id c named e = some_none (sym named ∙ ap (class_named heap) e)

  -- a class has one chain
  pub one_chain : (id : ℕ) (chain other : List Class) → IsChain heap id chain → IsChain heap id other → chain ≡ other
  one_chain id [] [] a b = refl
  one_chain id [] (d ∷ ds) a b = absurd (none_at_0 id d b.0 a)
  one_chain id (c ∷ cs) [] a b = absurd (none_at_0 id c a.0 b)
  one_chain id (c ∷ cs) (d ∷ ds) a b =
      let same = some_inj (sym a.0 ∙ b.0) in
      let rest = subst (λ (x : Class). IsChain heap x.super cs) same a.1 in
      ap (λ (x : Class). x ∷ cs) same ∙ ap (λ (xs : List Class). d ∷ xs) (one_chain d.super cs ds rest b.1)

  -- chains that are cut are not whole
  pub cut_is_no_chain : (id : ℕ) (classes chain : List Class) → IsCut heap id classes → IsChain heap id chain → ⊥
  cut_is_no_chain id [] [] a b = a.0 b
  cut_is_no_chain id [] (d ∷ ds) a b = some_none (sym b.0 ∙ a.1)
  cut_is_no_chain id (c ∷ cs) [] a b = none_at_0 id c a.0 b
  cut_is_no_chain id (c ∷ cs) (d ∷ ds) a b =
      let rest = subst (λ (x : Class). IsCut heap x.super cs) (some_inj (sym a.0 ∙ b.0)) a.1 in
      cut_is_no_chain d.super cs ds rest b.1

  -- no line of classes is longer than the chain from the same class up
  long_chain : (id : ℕ) (chain line : List Class) → IsChain heap id chain → IsLine heap id line
      → length chain < length line → ⊥
  long_chain id chain [] a b h = omega (arith, h)
  long_chain id [] (d ∷ ds) a b h = none_at_0 id d b.0 a
  long_chain id (c ∷ cs) (d ∷ ds) a b h =
      let rest = subst (λ (x : Class). IsChain heap x.super cs) (some_inj (sym a.0 ∙ b.0)) a.1 in
      long_chain d.super cs ds rest b.1 (omega (arith, h))

  long_cut : (id : ℕ) (classes line : List Class) → IsCut heap id classes → IsLine heap id line
      → length classes < length line → ⊥
  long_cut id classes [] a b h = omega (arith, h)
  long_cut id [] (d ∷ ds) a b h = some_none (sym b.0 ∙ a.1)
  long_cut id (c ∷ cs) (d ∷ ds) a b h =
      let rest = subst (λ (x : Class). IsCut heap x.super cs) (some_inj (sym a.0 ∙ b.0)) a.1 in
      long_cut d.super cs ds rest b.1 (omega (arith, h))

  -- a chain that ends does not go on forever
  pub chain_ends : (id : ℕ) (chain : List Class) → IsChain heap id chain → NeverEnds heap id → ⊥
  chain_ends id chain a never =
      let line = never (suc (length chain)) in long_chain id chain line.0 a line.2 (omega (arith, line.1))

  pub cut_ends : (id : ℕ) (classes : List Class) → IsCut heap id classes → NeverEnds heap id → ⊥
  cut_ends id classes a never =
      let line = never (suc (length classes)) in long_cut id classes line.0 a line.2 (omega (arith, line.1))

  -- if the chain of its superclass goes on forever, so does that of a class
  pub never_below : (id : ℕ) (c : Class) → class_named heap id ≡ Some c → NeverEnds heap c.super → NeverEnds heap id
  never_below id c named never zero = ([], refl, tt)
  never_below id c named never (suc n) = let line = never n in (c ∷ line.0, omega (arith, line.1), (named, line.2))
