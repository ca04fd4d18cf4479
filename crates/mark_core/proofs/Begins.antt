-- The tables that an opening makes are those of the opening marking, and are lawful.
use Rattle.std.proofs.Common.{◌≡◌, ℕ, zero, suc, ◌+◌, ◌<◌, ◌≤◌, All, length, subst, List, [], ◌∷◌, ◌++◌, get_or}
use Rattle.std.proofs.Common.{replicate, Some, None, ap, sym, refl, ◌∙◌, arith}
use Rattle.std.proofs.lemmas.List.{replicate-append-replicate}
use Rattle.mark_core.proofs.Words.{Which, Full, Empty, part, Setup, Marking, whole, first_heads, first_link, opening}
use Rattle.mark_core.proofs.Words.{Listing, IsLawful, heads_of, marking_of, Law}
use Rattle.mark_core.proofs.Openings.{opening_keeps}
use Rattle.mark_core.proofs.Weights.{AreNumbered, numbered_opening}

pub one_more : {X : Type 0} (xs ys : List X) (n : ℕ) (x : X) → xs ≡ replicate n x → ys ≡ xs ++ x ∷ []
    → ys ≡ replicate (n + 1) x
one_more xs ys n x before now = now ∙ ap (λ l. l ++ x ∷ []) before ∙ replicate-append-replicate n 1 x

zero_at : (n o : ℕ) → ◌≡◌ {A = ℕ} (get_or (replicate n 0) o 0) 0
zero_at zero o = refl
zero_at (suc n) zero = refl
zero_at (suc n) (suc o) = zero_at n o

heads_open : (s : Listing) (tag : ℕ) → s.full ≡ record { index = None; tag = tag }
    → s.empty ≡ record { index = Some 0; tag = tag } → heads_of s ≡ first_heads tag
heads_open s tag full empty = λ t q. at q t
  where
    at : (q : Which) → heads_of s q ≡ first_heads tag q
    at Full = full
    at Empty = empty

module _ (s : Listing) (e : Setup) (tag : ℕ) where
  pub opens :
      (d : Setup) → d ≡ e → s.full ≡ record { index = None; tag = tag }
      → s.empty ≡ record { index = Some 0; tag = tag }
      → ((i : ℕ) → get_or s.links i None ≡ first_link d.buffers i) → s.marks ≡ replicate d.objects 0
      → s.slots ≡ replicate d.buffers (Some []) → s.idle ≡ 0 → s.accounts ≡ part whole ∷ []
      → marking_of s ≡ opening e tag
  opens d same full empty links marks slots idle accounts = opened ∙ ap (λ (x : Setup). opening x tag) same
    where
      opened : marking_of s ≡ opening d tag
      opened = λ t. record {
        head = heads_open s tag full empty t;
        link = λ i. links i t;
        mark = λ o. (ap (λ ms. get_or ms o 0) marks ∙ zero_at d.objects o) t;
        slots = slots t;
        idle = idle t;
        accounts = accounts t;
      }

  -- the law holds of the opening marking
  pub lawful_opening :
      marking_of s ≡ opening e tag → s.setup ≡ e → length s.links ≡ e.buffers
      → length s.slots ≡ e.buffers → length s.marks ≡ e.objects
      → 0 < e.buffers → e.buffers ≤ 65534 → All (λ o. o < e.objects) e.roots
      → All (λ p. (p.0 < e.objects) × (p.1 < e.objects)) e.pairs → IsLawful s
  lawful_opening opened same links slots marks some few rooted paired =
      let law : Law e (marking_of s) = subst (Law e) (sym opened) (opening_keeps e tag some) in
      let accounts = ap (λ (m : Marking). m.accounts) opened in
      let one : AreNumbered s.accounts = subst AreNumbered (sym accounts) (numbered_opening whole (omega arith)) in
      record {
        law = rw same law;
        links = rw same links;
        slots = rw same slots;
        marks = rw same marks;
        numbered = one.numbered;
        weights = one.weights;
        few = rw same few;
        rooted = rw same rooted;
        paired = rw same paired;
      }
