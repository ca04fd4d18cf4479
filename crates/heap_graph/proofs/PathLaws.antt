-- Paths from a class up to its superclasses.
use Rattle.heap_graph.proofs.Words.{Class, Contains, Contains-append_right, IsLine, IsPath, IsUnder, List, NeverEnds}
use Rattle.heap_graph.proofs.Words.{SubRecord, [], arith, inl, inr, length, refl, slice_index, slice_index_or, subst}
use Rattle.heap_graph.proofs.Words.{suc, sym, zero, ℕ, ⊎_elim, ◌++◌, ◌<◌, ◌∙◌, ◌∷◌, ◌≡◌, ◌⊎◌}

contains_at : (a : ℕ) (path : List ℕ) (k i : ℕ) → i < length (a ∷ path) → slice_index_or (a ∷ path) i k ≡ k
    → (a ≡ k) ⊎ Contains path k
contains_at a path k zero h e = inl e
contains_at a path k (suc i) h e = inr (i, omega (arith, h), e)

pub contains_cases : (a : ℕ) (path : List ℕ) (k : ℕ) → Contains (a ∷ path) k → (a ≡ k) ⊎ Contains path k
contains_cases a path k c = contains_at a path k c.0 c.1 c.2

pub contains_none : (k : ℕ) → Contains {X = ℕ} [] k → ⊥
contains_none k c = omega (arith, c.1)

pub contains_first : (a : ℕ) (path : List ℕ) → Contains (a ∷ path) a
contains_first a path = (0, omega arith, refl)

pub contains_rest : (a : ℕ) (path : List ℕ) (k : ℕ) → Contains path k → Contains (a ∷ path) k
contains_rest a path k c = Contains-append_right (a ∷ []) path k c

module _ (heap : List SubRecord) (ids : List ℕ) where
  pub path_on : (path : List ℕ) (k super : ℕ) → IsPath heap ids path (slice_index ids k) → IsUnder heap ids k super
      → IsPath heap ids (path ++ k ∷ []) super
  path_on [] k super p u = u
  path_on (a ∷ []) k super p u = (p, u)
  path_on (a ∷ b ∷ path) k super p u = (p.0, path_on (b ∷ path) k super p.1 u)

  pub path_off : (path : List ℕ) (k super : ℕ) → IsPath heap ids (path ++ k ∷ []) super
      → IsPath heap ids path (slice_index ids k)
  path_off [] k super p = tt
  path_off (a ∷ []) k super p = p.0
  path_off (a ∷ b ∷ path) k super p = (p.0, path_off (b ∷ path) k super p.1)

  pub path_end : (path : List ℕ) (k super : ℕ) → IsPath heap ids (path ++ k ∷ []) super → IsUnder heap ids k super
  path_end [] k super p = p
  path_end (a ∷ []) k super p = p.1
  path_end (a ∷ b ∷ path) k super p = path_end (b ∷ path) k super p.1

  -- ---- a path that comes back to itself never ends

  -- above class k is `super`, which is above the end of the path, or another class of the path
  record LeadsOn (path : List ℕ) (super k : ℕ) : Type 0 where
    above : ℕ
    under : IsUnder heap ids k above
    is : (above ≡ super) ⊎ ((m : ℕ) × Contains path m × (above ≡ slice_index ids m))

  leads_on : (path : List ℕ) (super : ℕ) → IsPath heap ids path super → (k : ℕ) → Contains path k
      → LeadsOn path super k
  leads_on [] super p k c = absurd (contains_none k c)
  leads_on (a ∷ []) super p k c = ⊎_elim
      (λ e. record { above = super; under = subst (λ (n : ℕ). IsUnder heap ids n super) e p; is = inl refl })
      (λ h. absurd (contains_none k h)) (contains_cases a [] k c)
  leads_on (a ∷ b ∷ path) super p k c = ⊎_elim
      (λ e. record {
        above = slice_index ids b;
        under = subst (λ (n : ℕ). IsUnder heap ids n (slice_index ids b)) e p.0;
        is = inr (b, contains_rest a (b ∷ path) b (contains_first b path), refl);
      })
      (λ h.
      let l = leads_on (b ∷ path) super p.1 k h in
      record {
        above = l.above;
        under = l.under;
        is = ⊎_elim inl (λ m. inr (m.0, contains_rest a (b ∷ path) m.0 m.1, m.2)) l.is;
      })
      (contains_cases a (b ∷ path) k c)

  module _ (path : List ℕ) (super again : ℕ) (p : IsPath heap ids path super) (c : Contains path again)
      (e : super ≡ slice_index ids again) where
    around : (n k : ℕ) → Contains path k
        → (classes : List Class) × (length classes ≡ n) × IsLine heap (slice_index ids k) classes
    around zero k h = ([], refl, tt)
    around (suc n) k h =
        let on = leads_on path super p k h in
        let next : (m : ℕ) × Contains path m × (on.above ≡ slice_index ids m) =
        ⊎_elim (λ s. (again, c, s ∙ e)) (λ m. m) on.is in
        let line = around n next.0 next.1 in (
          on.under.class ∷ line.0,
          omega (arith, line.1),
          (on.under.named, subst (λ (id : ℕ). IsLine heap id line.0) (sym next.2 ∙ sym on.under.super_is) line.2),
        )

    pub never_around : NeverEnds heap super
    never_around n =
        let line = around n again c in (line.0, line.1, subst (λ (id : ℕ). IsLine heap id line.0) (sym e) line.2)
