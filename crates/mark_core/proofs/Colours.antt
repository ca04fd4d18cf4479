-- The effect of each event on the colours.
use Rattle.std.proofs.Common.{◌≡◌, ◌≢◌, ◌⊎◌, ℕ, zero, suc, ◌+◌, ◌*◌, ◌<◌, ◌≤◌, List, [], ◌∷◌, ◌++◌, Option, Some, None}
use Rattle.std.proofs.Common.{Contains, set, ap, refl, subst, ◌∙◌, inl, inr, ⊎_elim, arith}
use Rattle.mark_core.proofs.Words.{Which, StandsAt, times, only, IsPart, Account, part, no_share, after_join, after_pop}
use Rattle.mark_core.proofs.Words.{after_push, Setup, items_of, put, IsColoured, HasColour, IsReachableIn}
use Rattle.mark_core.proofs.Words.{stacked_times, charged_times, finished_times}
use Rattle.mark_core.proofs.Places.{OfEach, set_all, push_all, set_else, put_each}
use Rattle.mark_core.proofs.Sums.{sum_of-set, sum_of-append, term_le, times-without, stands_append, stands_times}

-- the three cases of a colour as two linear facts, and back
pub tells_sums : (m w d : ℕ) → HasColour m w d → (m ≡ w + 2 * d) × (w + d ≤ 1)
tells_sums m w d (inl t) = (omega arith, omega arith)
tells_sums m w d (inr (inl t)) = (omega arith, omega arith)
tells_sums m w d (inr (inr t)) = (omega arith, omega arith)

pub sums_tell : (m w d : ℕ) → m ≡ w + 2 * d → w + d ≤ 1 → HasColour m w d
sums_tell m zero zero e h = inl (omega arith, refl, refl)
sums_tell m (suc zero) zero e h = inr (inl (omega arith, refl, refl))
sums_tell m (suc (suc w)) zero e h = absurd (omega arith)
sums_tell m zero (suc zero) e h = inr (inr (omega arith, refl, refl))
sums_tell m (suc w) (suc d) e h = absurd (omega arith)
sums_tell m zero (suc (suc d)) e h = absurd (omega arith)

module _ (e : Setup) (mark : ℕ → ℕ) (slots : List (Option (List ℕ))) (accounts : List Account)
    (c : IsColoured e mark slots accounts) where
  -- the two linear facts at an object
  pub linear : (o : ℕ) → (mark o ≡ stacked_times o slots + charged_times o accounts + 2 * finished_times o accounts)
      × (stacked_times o slots + charged_times o accounts + finished_times o accounts ≤ 1)
  linear o = tells_sums (mark o) (stacked_times o slots + charged_times o accounts) (finished_times o accounts)
      (c.colours o)

  -- an object in the charge of an account is claimed
  pub charged : (w : ℕ) (a : Account) → StandsAt accounts w a → (o : ℕ) → 0 < times o a.charge → (mark o ≡ 1)
      × (stacked_times o slots ≡ 0) × (charged_times o accounts ≡ 1) × (finished_times o accounts ≡ 0)
  charged w a is o h =
      let t = linear o in
      let l = term_le (λ (x : Account). times o x.charge) accounts w a is in
      (omega arith, omega arith, omega arith, omega arith)

-- what the account saw is marked
abbrev HasSeen : (ℕ → ℕ) → Account → Type 0
HasSeen mark a = (o : ℕ) → Contains a.seen o → 1 ≤ mark o

module _ {e : Setup} {mark : ℕ → ℕ} {slots : List (Option (List ℕ))} {accounts : List Account}
    (c : IsColoured e mark slots accounts) where
  -- the colours hold for other slots and accounts in which each object is as often as before
  pub coloured_recount :
      (slots' : List (Option (List ℕ))) (accounts' : List Account)
      → ((o : ℕ) → stacked_times o slots' + charged_times o accounts'
      ≡ stacked_times o slots + charged_times o accounts)
      → ((o : ℕ) → finished_times o accounts' ≡ finished_times o accounts)
      → OfEach (HasSeen mark) accounts' → IsColoured e mark slots' accounts'
  coloured_recount slots' accounts' working done saw =
      record { colours = colours; closed = c.closed; reachable = c.reachable; saw = saw }
    where
      colours : (o : ℕ)
          → HasColour (mark o) (stacked_times o slots' + charged_times o accounts') (finished_times o accounts')
      colours o =
          let t = linear e mark slots accounts c o in
          sums_tell (mark o) (stacked_times o slots' + charged_times o accounts') (finished_times o accounts')
          (omega (arith, working o, done o)) (omega (arith, working o, done o))

  -- the colours hold after a mark was written, if the new mark suits the accounts and the object is reachable
  pub coloured_put :
      (o x : ℕ) (now : List Account) → 1 ≤ x
      → HasColour x (stacked_times o slots + charged_times o now) (finished_times o now)
      → ((y : ℕ) → y ≢ o → (charged_times y now ≡ charged_times y accounts)
      × (finished_times y now ≡ finished_times y accounts))
      → (x ≡ 2 → (s : ℕ) → Contains e.pairs (o, s) → 1 ≤ mark s) → IsReachableIn e o
      → ((w : ℕ) (a : Account) → StandsAt now w a → (y : ℕ) → Contains a.seen y → (1 ≤ mark y) ⊎ (y ≡ o))
      → IsColoured e (put o x mark) slots now
  coloured_put o x now some here others next reach saw =
      record {
        colours =
            put_each
            (λ y z. HasColour z (stacked_times y slots + charged_times y now) (finished_times y now)) o x mark
            here elsewhere;
        closed =
            λ y s.
            put_each (λ v z. z ≡ 2 → Contains e.pairs (v, s) → 1 ≤ put o x mark s) o x mark
            (λ two k. marked s (inl (next two s k))) (λ v n two k. marked s (inl (c.closed v s two k))) y;
        reachable = put_each (λ y z. 1 ≤ z → IsReachableIn e y) o x mark (λ _. reach) (λ y n. c.reachable y);
        saw = λ w a at y k. marked y (saw w a at y k);
      }
    where
      marked : (y : ℕ) → (1 ≤ mark y) ⊎ (y ≡ o) → 1 ≤ put o x mark y
      marked = put_each (λ y z. (1 ≤ mark y) ⊎ (y ≡ o) → 1 ≤ z) o x mark (λ _. some)
          (λ y n. ⊎_elim (λ t. t) (λ same. absurd (n same)))

      elsewhere : (y : ℕ) → y ≢ o
          → HasColour (mark y) (stacked_times y slots + charged_times y now) (finished_times y now)
      elsewhere y n =
          let t = linear e mark slots accounts c y in
          let s = others y n in
          sums_tell (mark y) (stacked_times y slots + charged_times y now) (finished_times y now)
          (omega arith) (omega arith)

  -- the colours hold with a new account that has only units
  pub coloured_part : (units : ℕ) → IsColoured e mark slots (accounts ++ part units ∷ [])
  coloured_part units =
      coloured_recount slots (accounts ++ part units ∷ [])
      (λ o. omega (arith, sum_of-append (λ (x : Account). times o x.charge) accounts (part units ∷ [])))
      (λ o. omega (arith, sum_of-append (λ (x : Account). times o x.finished) accounts (part units ∷ [])))
      (push_all (HasSeen mark) accounts (part units) c.saw (λ o k. absurd (omega (arith, k.1))))

  module _ (w : ℕ) (a : Account) (is : StandsAt accounts w a) where
    pub reachable_next : (p o : ℕ) → Contains a.charge p → Contains e.pairs (p, o) → IsReachableIn e o
    reachable_next p o mine pair =
        let once = charged e mark slots accounts c w a is p (stands_times a.charge p mine) in
        let r = c.reachable p (omega (arith, once)) in
        (p ∷ r.0, (pair, r.1))

    keeps_seen : (b : Account) → b.seen ≡ a.seen → OfEach (HasSeen mark) (set accounts w b)
    keeps_seen b same =
        set_all (HasSeen mark) accounts w b c.saw (λ o k. c.saw w a is o (subst (λ xs. Contains xs o) same k))

    -- the colours hold if the account changes in nothing that they read
    pub coloured_same : (b : Account) → b.charge ≡ a.charge → b.finished ≡ a.finished → b.seen ≡ a.seen
        → IsColoured e mark slots (set accounts w b)
    coloured_same b charge finished seen =
        coloured_recount slots (set accounts w b)
        (λ o. let t : times o b.charge ≡ times o a.charge = ap (times o) charge in
        omega (arith, sum_of-set (λ (x : Account). times o x.charge) accounts w a b is))
        (λ o. let t : times o b.finished ≡ times o a.finished = ap (times o) finished in
        omega (arith, sum_of-set (λ (x : Account). times o x.finished) accounts w a b is))
        (keeps_seen b seen)

    -- a pop moves the items of the buffer from its slot to the charge
    pub coloured_pop : (i : ℕ) (items : List ℕ) → StandsAt slots i (Some items)
        → IsColoured e mark (set slots i None) (set accounts w (after_pop i items a))
    coloured_pop i items at =
        coloured_recount (set slots i None) (set accounts w (after_pop i items a))
        (λ o.
        omega (
          arith,
          sum_of-set (λ (x : Account). times o x.charge) accounts w a (after_pop i items a) is,
          sum_of-append (only o) a.charge items,
          sum_of-set (λ (x : Option (List ℕ)). times o (items_of x)) slots i (Some items) None at,
        ))
        (λ o. omega (arith, sum_of-set (λ (x : Account). times o x.finished) accounts w a (after_pop i items a) is))
        (keeps_seen (after_pop i items a) refl)

    -- a push moves the items of the buffer from the charge to its slot
    pub coloured_push : (q : Which) (i : ℕ) (items : List ℕ) → StandsAt slots i None → IsPart items a.charge
        → IsColoured e mark (set slots i (Some items)) (set accounts w (after_push q i items a))
    coloured_push q i items at part =
        coloured_recount (set slots i (Some items)) (set accounts w (after_push q i items a))
        (λ o.
        omega (
          arith,
          sum_of-set (λ (x : Account). times o x.charge) accounts w a (after_push q i items a) is,
          times-without items a.charge part o,
          sum_of-set (λ (x : Option (List ℕ)). times o (items_of x)) slots i None (Some items) at,
        ))
        (λ o. omega (arith, sum_of-set (λ (x : Account). times o x.finished) accounts w a (after_push q i items a) is))
        (keeps_seen (after_push q i items a) refl)

    -- a join puts two accounts together
    pub coloured_join : (v : ℕ) (b : Account) → v ≢ w → StandsAt accounts v b
        → IsColoured e mark slots (set (set accounts w (after_join a b)) v no_share)
    coloured_join v b apart at =
        coloured_recount slots (set (set accounts w both) v no_share)
        (λ o.
        omega (
          arith,
          sum_of-set (λ (x : Account). times o x.charge) accounts w a both is,
          sum_of-set (λ (x : Account). times o x.charge) (set accounts w both) v b no_share still,
          sum_of-append (only o) a.charge b.charge,
        ))
        (λ o.
        omega (
          arith,
          sum_of-set (λ (x : Account). times o x.finished) accounts w a both is,
          sum_of-set (λ (x : Account). times o x.finished) (set accounts w both) v b no_share still,
          sum_of-append (only o) a.finished b.finished,
        ))
        saw
      where
        both : Account
        both = after_join a b

        still : StandsAt (set accounts w both) v b
        still = set_else accounts w v both apart ∙ at

        mine : HasSeen mark both
        mine o k = ⊎_elim (c.saw w a is o) (c.saw v b at o) (stands_append a.seen b.seen o k)

        saw : OfEach (HasSeen mark) (set (set accounts w both) v no_share)
        saw = set_all (HasSeen mark) (set accounts w both) v no_share
            (set_all (HasSeen mark) accounts w both c.saw mine) (λ o k. absurd (omega (arith, k.1)))
