-- The list that the links make from an index on, and which loaded heads and links are recent.
use Rattle.std.proofs.Common.{◌≡◌, ℕ, ◌<◌, List, [], ◌∷◌, Option, Some, None, ap, sym, refl, subst, ◌∙◌, inl, inr}
use Rattle.std.proofs.Common.{⊎_elim, arith}
use Rattle.tagged_index.specs.Head.{Head, after}
use Rattle.mark_core.proofs.Words.{Which, Full, Empty, times, Account, Look, blank, look_of, Chain, IsRecent}
use Rattle.mark_core.proofs.Sums.{only-same}

module _ (link : ℕ → Option ℕ) where
  -- an index leads to one list only
  pub chain_one : (n : Option ℕ) (xs ys : List ℕ) → Chain link n xs → Chain link n ys → xs ≡ ys
  chain_one n [] [] c d = refl
  chain_one n [] (y ∷ ys) c d = let e = d.0 in cc
  chain_one n (x ∷ xs) [] c d = let e = c.0 in cc
  chain_one n (x ∷ xs) (y ∷ ys) c d =
      let p = c.0 in
      let q = d.0 in
      let e : y ≡ x = cc in
      let same : xs ≡ ys = chain_one (link x) xs ys c.1 (subst (λ z. Chain link (link z) ys) e d.1) in
      cc

  -- the list stays the same if the links of its buffers do
  pub chain_links : (new : ℕ → Option ℕ) (n : Option ℕ) (xs : List ℕ) → ((i : ℕ) → 0 < times i xs → new i ≡ link i)
      → Chain link n xs → Chain new n xs
  chain_links new n [] same c = c
  chain_links new n (x ∷ xs) same c =
      let here : new x ≡ link x = same x (omega (arith, only-same x x refl)) in
      (c.0, subst (λ m. Chain new m xs) (sym here) (chain_links new (link x) xs (λ i h. same i (omega arith)) c.1))

  pub chain_none : (n : Option ℕ) (xs : List ℕ) → Chain link n xs → n ≡ None → xs ≡ []
  chain_none n [] c e = refl
  chain_none n (x ∷ xs) c e = let d = c.0 in cc

  -- the list is the buffer on top, followed by the list that its link leads to
  pub chain_rest : (n : Option ℕ) (xs : List ℕ) (i : ℕ) → Chain link n xs → n ≡ Some i
      → (rest : List ℕ) × (xs ≡ i ∷ rest) × Chain link (link i) rest
  chain_rest n [] i c e = let f : ⊥ = cc in absurd f
  chain_rest n (x ∷ xs) i c e =
      let d = c.0 in
      let s : x ≡ i = cc in
      (xs, ap (λ z. z ∷ xs) s, subst (λ z. Chain link (link z) xs) s c.1)

  -- the list is one longer if a buffer that links to it is put on top
  pub chain_more : (n : Option ℕ) (xs : List ℕ) (i : ℕ) → Chain link n xs → link i ≡ n
      → Chain link (Some i) (i ∷ xs)
  chain_more n xs i c e = (refl, subst (λ m. Chain link m xs) (sym e) c)

  -- a look that loaded nothing is recent
  recent_blank : (now : Head) → IsRecent link now blank
  recent_blank now h e = let f : ⊥ = cc in absurd f

  -- both looks of an account that loaded nothing are recent
  pub recent_bare : (head : Which → Head) (x : Account) → x.full ≡ blank → x.empty ≡ blank
      → (q : Which) → IsRecent link (head q) (look_of x q)
  recent_bare head x full empty Full = rw full (recent_blank (head Full))
  recent_bare head x full empty Empty = rw empty (recent_blank (head Empty))

  -- a look that loaded the current head is recent
  pub recent_loaded : (now : Head) → IsRecent link now (record { head = Some now; link = None })
  recent_loaded now h e = inr ((let s : now ≡ h = cc in s), (λ i l n k. let f : ⊥ = cc in absurd f))

  -- a look stays recent when the link of its head's buffer is loaded
  pub recent_linked : (now g : Head) (i : ℕ) (old : Option (Option ℕ)) → g.index ≡ Some i
      → IsRecent link now (record { head = Some g; link = old })
      → IsRecent link now (record { head = Some g; link = Some (link i) })
  recent_linked now g i old top r h e =
      ⊎_elim inl (λ p. inr (
        p.0,
        (λ j l n k. let s : g ≡ h = cc in let t : g.index ≡ h.index = ap (λ (x : Head). x.index) s
            in let u : i ≡ j = cc in let v : link i ≡ l = cc in sym (ap link u) ∙ v),
      )) (r h e)

  -- after an exchange of the head, the tag shows that whatever was loaded is outdated
  pub recent_after : (now : Head) (look : Look) (i : Option ℕ) → IsRecent link now look
      → IsRecent link (after now i) look
  recent_after now look i r h e =
      ⊎_elim (λ p. inl (omega arith))
      (λ p. let t : now.tag ≡ h.tag = ap (λ (x : Head). x.tag) p.0 in inl (omega arith)) (r h e)

  -- a look stays recent if the link of the current head's buffer does not change
  pub recent_links : (new : ℕ → Option ℕ) (now : Head) (look : Look)
      → ((i : ℕ) → now.index ≡ Some i → new i ≡ link i) → IsRecent link now look → IsRecent new now look
  recent_links new now look same r h e =
      ⊎_elim inl (λ p. inr (p.0, (λ j l n k. same j (ap (λ (x : Head). x.index) p.0 ∙ n) ∙ p.1 j l n k))) (r h e)

  -- if the loaded head is the current one, the loaded link is the current link of its buffer
  pub recent_link : (now : Head) (look : Look) (i : ℕ) (l : Option ℕ) → IsRecent link now look
      → look.head ≡ Some now → now.index ≡ Some i → look.link ≡ Some l → link i ≡ l
  recent_link now look i l r e n k = ⊎_elim (λ p. absurd (omega arith)) (λ p. p.1 i l n k) (r now e)
