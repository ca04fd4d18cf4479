-- No account has a buffer or an object twice, and no two have one in common. If one has the whole share, no other has
-- anything.
use Rattle.std.proofs.Common.{◌≡◌, ◌≢◌, ℕ, ◌+◌, ◌*◌, ◌<◌, ◌≤◌, true, false, true≢false, nat_lt, List, [], Option}
use Rattle.std.proofs.Common.{Some, None, Contains, ap, sym, subst, ◌∙◌, ⊎_elim, arith}
use native.Mathlib.Decide.{dec_le, ℕ_discrete}
use Rattle.mark_core.proofs.Words.{Full, Empty, StandsAt, times, one_where, Account, Setup, Marking, items_of}
use Rattle.mark_core.proofs.Words.{HasOpenPush, held_times, stacked_times, charged_times, finished_times, HasNothing}
use Rattle.mark_core.proofs.Words.{whole, Law, IsListOf, HasEachOnce, AreApart, LiesIn, IsClosed}
use Rattle.mark_core.proofs.Places.{at_below, at_one}
use Rattle.mark_core.proofs.Sums.{term_le, terms_le, sum_of-alone, some_term, stands_times, times_stands}
use Rattle.mark_core.proofs.Chains.{chain_one}
use Rattle.mark_core.proofs.Ownership.{place_one}
use Rattle.mark_core.proofs.Colours.{linear}

module _ (e : Setup) (m : Marking) (law : Law e m) where
  pub has_each_once : (w : ℕ) (a : Account) → StandsAt m.accounts w a → HasEachOnce a
  has_each_once w a is =
      record {
        held =
            λ i.
            omega (
              arith,
              place_one e.buffers m.head m.link m.accounts law.stack law.owned i,
              term_le (λ (x : Account). times i x.held) m.accounts w a is,
            );
        objects =
            λ o.
            omega (
              arith,
              linear e m.mark m.slots m.accounts law.coloured o,
              term_le (λ (x : Account). times o x.charge) m.accounts w a is,
              term_le (λ (x : Account). times o x.finished) m.accounts w a is,
            );
      }

  pub are_apart : (w v : ℕ) (a b : Account) → v ≢ w → StandsAt m.accounts w a → StandsAt m.accounts v b → AreApart a b
  are_apart w v a b n is at =
      record {
        held =
            λ i.
            omega (
              arith,
              place_one e.buffers m.head m.link m.accounts law.stack law.owned i,
              terms_le (λ (x : Account). times i x.held) m.accounts w v a b n is at,
            );
        objects =
            λ o.
            omega (
              arith,
              linear e m.mark m.slots m.accounts law.coloured o,
              terms_le (λ (x : Account). times o x.charge) m.accounts w v a b n is at,
              terms_le (λ (x : Account). times o x.finished) m.accounts w v a b n is at,
            );
      }

  module _ (w : ℕ) (a : Account) (is : StandsAt m.accounts w a) (all : a.share ≡ whole) where
    pub others_nothing : (v : ℕ) (b : Account) → v ≢ w → StandsAt m.accounts v b → HasNothing b
    others_nothing v b n at = law.shared.no_share v b at
        (omega (arith, law.shared.sum, terms_le (λ (x : Account). x.share) m.accounts w v a b n is at))

    pub alone_held : (i : ℕ) → held_times i m.accounts ≡ times i a.held
    alone_held i = sum_of-alone (λ (x : Account). times i x.held) m.accounts w a is
        (λ v b n at. ap (times i) (others_nothing v b n at).held)

    pub alone_charged : (o : ℕ) → charged_times o m.accounts ≡ times o a.charge
    alone_charged o = sum_of-alone (λ (x : Account). times o x.charge) m.accounts w a is
        (λ v b n at. ap (times o) (others_nothing v b n at).charge)

    pub alone_finished : (o : ℕ) → finished_times o m.accounts ≡ times o a.finished
    alone_finished o = sum_of-alone (λ (x : Account). times o x.finished) m.accounts w a is
        (λ v b n at. ap (times o) (others_nothing v b n at).finished)

    -- if some account has an open push, it is the one with the whole share
    pub alone_open : HasOpenPush m.accounts → a.open_push ≡ true
    alone_open o = go (ℕ_discrete o.0 w)
      where
        go : Dec (o.0 ≡ w) → a.open_push ≡ true
        go (yes s) = let t : o.1 ≡ a = at_one m.accounts w o.1 a (subst (λ u. StandsAt m.accounts u o.1) s o.2) is in
            sym (ap (λ (x : Account). x.open_push) t) ∙ o.3
        go (no n) = let t = (others_nothing o.0 o.1 n o.2).open_push in absurd (true≢false (sym o.3 ∙ t))

    pub closes : a.charge ≡ [] → IsClosed e m w a
    closes bare =
        record {
          finished = λ o. (was_finished o, is_finished o);
          once = λ o. omega (arith, sums o);
          claimed = λ full c o. (lies full c o, is_claimed full o);
          emptied = emptied;
          buffers = buffers;
          others = others_nothing;
        }
      where
        sums : (o : ℕ) → (m.mark o ≡ stacked_times o m.slots + 2 * times o a.finished)
            × (stacked_times o m.slots + times o a.finished ≤ 1)
        sums o =
            let t = linear e m.mark m.slots m.accounts law.coloured o in
            let c : times o a.charge ≡ 0 = ap (times o) bare in
            (omega (arith, alone_charged o, alone_finished o), omega (arith, alone_charged o, alone_finished o))

        was_finished : (o : ℕ) → m.mark o ≡ 2 → Contains a.finished o
        was_finished o two = times_stands a.finished o (omega (arith, sums o))

        is_finished : (o : ℕ) → Contains a.finished o → m.mark o ≡ 2
        is_finished o k = omega (arith, sums o, stands_times a.finished o k)

        -- a stacked buffer with items is on the full stack
        on_full : (b : ℕ) (items : List ℕ) (o : ℕ) → StandsAt m.slots b (Some items) → 0 < times o items
            → 0 < times b (law.stack Full)
        on_full b items o at some = go (dec_le 1 (times b (law.stack Full))) (dec_le 1 (times b (law.stack Empty)))
          where
            go : Dec (1 ≤ times b (law.stack Full)) → Dec (1 ≤ times b (law.stack Empty)) → 0 < times b (law.stack Full)
            go (yes p) d = p
            go (no n) (yes p) =
                let same : Some items ≡ Some [] = at_one m.slots b (Some items) (Some []) at (law.in_slots.bare b p) in
                let t : times o items ≡ 0 = cc in
                absurd (omega arith)
            go (no n) (no k) =
                let low : b < e.buffers = omega (arith, at_below m.slots b (Some items) at, law.in_slots.places) in
                let same : Some items ≡ None =
                at_one m.slots b (Some items) None at (law.in_slots.away b low (omega arith) (omega arith)) in
                let f : ⊥ = cc in
                absurd f

        lies : (full : List ℕ) → IsListOf m Full full → (o : ℕ) → m.mark o ≡ 1 → LiesIn m full o
        lies full c o one = go (t.1) t.2 t.3
          where
            t : (b : ℕ) × (slot : Option (List ℕ)) × StandsAt m.slots b slot × (0 < times o (items_of slot))
            t = some_term (λ slot. times o (items_of slot)) m.slots (omega (arith, sums o))

            same : law.stack Full ≡ full
            same = chain_one m.link (m.head Full).index (law.stack Full) full (law.owned.chain Full) c

            go : (slot : Option (List ℕ)) → StandsAt m.slots t.0 slot → 0 < times o (items_of slot) → LiesIn m full o
            go None at h = absurd (omega arith)
            go (Some items) at h = (
              t.0,
              items,
              times_stands full t.0 (subst (λ xs. 0 < times t.0 xs) same (on_full t.0 items o at h)),
              at,
              times_stands items o h,
            )

        is_claimed : (full : List ℕ) (o : ℕ) → LiesIn m full o → m.mark o ≡ 1
        is_claimed full o k = omega (
          arith,
          sums o,
          stands_times k.1 o k.4,
          term_le (λ slot. times o (items_of slot)) m.slots k.0 (Some k.1) k.3,
        )

        emptied : a.open_push ≡ false → (full : List ℕ) → IsListOf m Full full → full ≡ []
        emptied closed full c = chain_one m.link (m.head Full).index full (law.stack Full) c (law.owned.chain Full)
            ∙ ⊎_elim (λ p. p) (λ p. absurd (true≢false (sym (alone_open p) ∙ closed))) law.owned.owed

        buffers : (full empty : List ℕ) → IsListOf m Full full → IsListOf m Empty empty → (b : ℕ)
            → times b full + times b empty + times b a.held ≡ one_where (nat_lt b e.buffers)
        buffers full empty c d b =
            let f = chain_one m.link (m.head Full).index full (law.stack Full) c (law.owned.chain Full) in
            let g = chain_one m.link (m.head Empty).index empty (law.stack Empty) d (law.owned.chain Empty) in
            omega (arith, ap (times b) f, ap (times b) g, law.owned.once b, alone_held b)
