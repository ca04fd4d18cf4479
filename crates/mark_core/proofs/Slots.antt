-- The effect of a pop and a push on the slots.
use Rattle.std.proofs.Common.{◌≡◌, ◌≢◌, ℕ, ◌<◌, List, [], Option, Some, None, set, sym, subst, ◌∙◌, length-set, arith}
use native.Mathlib.Decide.{ℕ_discrete}
use Rattle.mark_core.proofs.Words.{Which, Full, Empty, StandsAt, times, AreInSlots}
use Rattle.mark_core.proofs.Places.{set_here, set_else}

module _
    (buffers : ℕ) (slots : List (Option (List ℕ))) (stack new : Which → List ℕ) (i : ℕ) (was x : Option (List ℕ)) where
  -- `AreInSlots` holds after the slot of the buffer i changed, if the stacks change only in i, and the new slot fits
  pub in_slots_set :
      AreInSlots buffers slots stack → StandsAt slots i was
      → ((p : Which) (b : ℕ) → b ≢ i → times b (new p) ≡ times b (stack p))
      → ((p : Which) → 0 < times i (new p) → (items : List ℕ) × (x ≡ Some items))
      → (0 < times i (new Empty) → x ≡ Some [])
      → (times i (new Full) ≡ 0 → times i (new Empty) ≡ 0 → x ≡ None)
      → AreInSlots buffers (set slots i x) new
  in_slots_set s at others stacked bare away =
      record { places = length-set slots i x ∙ s.places; stacked = in_slots; bare = in_bare; away = in_away }
    where
      -- what is at b after the write
      stands : (b : ℕ) (y : Option (List ℕ)) → (b ≡ i → x ≡ y) → (b ≢ i → StandsAt slots b y)
          → StandsAt (set slots i x) b y
      stands b y mine others = go (ℕ_discrete b i)
        where
          go : Dec (b ≡ i) → StandsAt (set slots i x) b y
          go (yes e) = subst (λ j. StandsAt (set slots i x) j y) (sym e)
              (subst (λ z. StandsAt (set slots i x) i z) (mine e) (set_here slots i x was at))
          go (no n) = set_else slots i b x n ∙ others n

      in_slots : (p : Which) (b : ℕ) → 0 < times b (new p) → (items : List ℕ) × StandsAt (set slots i x) b (Some items)
      in_slots p b h = go (ℕ_discrete b i)
        where
          go : Dec (b ≡ i) → (items : List ℕ) × StandsAt (set slots i x) b (Some items)
          go (yes e) =
              let t = stacked p (subst (λ j. 0 < times j (new p)) e h) in
              (t.0, stands b (Some t.0) (λ _. t.1) (λ n. absurd (n e)))
          go (no n) =
              let t = s.stacked p b (omega (arith, others p b n)) in
              (t.0, stands b (Some t.0) (λ e. absurd (n e)) (λ _. t.1))

      in_bare : (b : ℕ) → 0 < times b (new Empty) → StandsAt (set slots i x) b (Some [])
      in_bare b h = stands b (Some []) (λ e. bare (subst (λ j. 0 < times j (new Empty)) e h))
          (λ n. s.bare b (omega (arith, others Empty b n)))

      in_away : (b : ℕ) → b < buffers → times b (new Full) ≡ 0 → times b (new Empty) ≡ 0
          → StandsAt (set slots i x) b None
      in_away b l f g = stands b None
          (λ e. away (subst (λ j. times j (new Full) ≡ 0) e f) (subst (λ j. times j (new Empty) ≡ 0) e g))
          (λ n. s.away b l (omega (arith, others Full b n)) (omega (arith, others Empty b n)))
