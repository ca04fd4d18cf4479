-- Each event keeps the law: one lemma for each step of an account, and one for all.
use Rattle.std.proofs.Common.{◌≡◌, ◌≢◌, ◌⊎◌, ℕ, ◌+◌, ◌<◌, ◌≤◌, max, Bool, true, ◌&&◌, List, [], ◌∷◌, ◌++◌, Option, Some}
use Rattle.std.proofs.Common.{None, is_some, cond, Contains, set, ap, sym, refl, subst}
use Rattle.std.proofs.Common.{◌∙◌, slice_index_or, inl, inr, ⊎_elim, eq-eqb, ne_eqb, arith}
use native.Mathlib.Decide.{ℕ_discrete}
use Rattle.tagged_index.specs.Head.{Head, after}
use Rattle.mark_core.proofs.Words.{Which, Full, Empty, StandsAt, times, only, IsPart, Account, look_of, no_share}
use Rattle.mark_core.proofs.Words.{after_claim, after_finish, after_split, after_join, after_load_link, after_pop}
use Rattle.mark_core.proofs.Words.{after_push, Setup, Marking, items_of, put, put_which, Kind, Claim, Finish, Split}
use Rattle.mark_core.proofs.Words.{Join, Load, LoadLink, StoreLink, Pop, Push, Fail, CanClaim, CanFinish, Allows}
use Rattle.mark_core.proofs.Words.{effect, stack_popped, last_link, link_from, IsRecent, IsOwned, HasColour}
use Rattle.mark_core.proofs.Words.{IsReachableIn, stacked_times, charged_times, finished_times, Law}
use Rattle.mark_core.proofs.Places.{at_get_or, set_all, put_else, put_one}
use Rattle.mark_core.proofs.Happens.{pops_as}
use Rattle.mark_core.proofs.Sums.{sum_of-set, sum_of-append, only-same, only-other, stands_push, stands_times}
use Rattle.mark_core.proofs.Sums.{times-remove_one}
use Rattle.mark_core.proofs.Chains.{chain_none, recent_loaded, recent_linked}
use Rattle.mark_core.proofs.Ownership.{popped_sum, pushed_sum, owned_links, owned_part, held_apart, held_else}
use Rattle.mark_core.proofs.Ownership.{place_one, top_stands, owned_set, owned_same, owned_pop, owned_push, owned_join}
use Rattle.mark_core.proofs.Slots.{in_slots_set}
use Rattle.mark_core.proofs.Colours.{linear, sums_tell, charged, reachable_next, coloured_same, coloured_put}
use Rattle.mark_core.proofs.Colours.{coloured_part, coloured_pop, coloured_push, coloured_join}
use Rattle.mark_core.proofs.Shares.{shared_set, shared_split, shared_join}

-- a claim adds a white object to the charge, and does not add a marked one
charge_white : (o found : ℕ) (a : Account) → found ≡ 0 → (after_claim o found a).charge ≡ a.charge ++ o ∷ []
charge_white o found a e = ap (λ t. cond t (a.charge ++ o ∷ []) a.charge) (eq-eqb found 0 e)

charge_marked : (o found : ℕ) (a : Account) → found ≢ 0 → (after_claim o found a).charge ≡ a.charge
charge_marked o found a n = ap (λ t. cond t (a.charge ++ o ∷ []) a.charge) (ne_eqb found 0 n)

and_some : (x : Bool) (n : Option ℕ) (i : ℕ) → n ≡ Some i → x ≡ true → (x && is_some n) ≡ true
and_some x n i e t = cc

module _ (e : Setup) (m : Marking) (law : Law e m) (w : ℕ) (a : Account) (is : StandsAt m.accounts w a)
    (there : 0 < a.share) where
  -- the law holds after the account changed, if what it loaded is recent, if it keeps its share, its buffers and its
  -- objects, and if it keeps an open push while the full stack has a buffer. The law does not read the idle word
  looks_keep :
      (b : Account) (word : ℕ) → IsRecent m.link (m.head Full) b.full → IsRecent m.link (m.head Empty) b.empty
      → b.share ≡ a.share → b.held ≡ a.held → b.charge ≡ a.charge → b.seen ≡ a.seen → b.finished ≡ a.finished
      → (a.open_push ≡ true → (law.stack Full ≡ []) ⊎ (b.open_push ≡ true))
      → Law e (record m { idle = word; accounts = set m.accounts w b })
  looks_keep b word full empty share held charge seen finished push =
      record {
        stack = law.stack;
        owned = owned_set law.owned w a is b recent held push;
        in_slots = law.in_slots;
        coloured = coloured_same law.coloured w a is b charge finished seen;
        shared = shared_set m.accounts law.shared w a is there b share;
      }
    where
      recent : (q : Which) → IsRecent m.link (m.head q) (look_of b q)
      recent Full = full
      recent Empty = empty

  -- in particular, the law holds if the account keeps what it loaded and its open push too
  notes_keep :
      (b : Account) (word : ℕ) → b.full ≡ a.full → b.empty ≡ a.empty → b.share ≡ a.share → b.held ≡ a.held
      → b.charge ≡ a.charge → b.seen ≡ a.seen → b.finished ≡ a.finished → b.open_push ≡ a.open_push
      → Law e (record m { idle = word; accounts = set m.accounts w b })
  notes_keep b word full empty share held charge seen finished push =
      looks_keep b word (rw full (law.owned.recent Full w a is)) (rw empty (law.owned.recent Empty w a is)) share held
      charge seen finished (λ t. inr (push ∙ t))

  load_keeps : (q : Which) → Law e (effect m w a (Load q))
  load_keeps Full = looks_keep _ m.idle (recent_loaded m.link (m.head Full)) (law.owned.recent Empty w a is)
      refl refl refl refl refl (push (m.head Full).index refl)
    where
      push : (n : Option ℕ) → (m.head Full).index ≡ n → a.open_push ≡ true → (law.stack Full ≡ [])
          ⊎ ((a.open_push && is_some (m.head Full).index) ≡ true)
      push None none t = inl (chain_none m.link (m.head Full).index (law.stack Full) (law.owned.chain Full) none)
      push (Some i) top t = inr (and_some a.open_push (m.head Full).index i top t)
  load_keeps Empty = looks_keep _ m.idle (law.owned.recent Full w a is) (recent_loaded m.link (m.head Empty))
      refl refl refl refl refl inr

  -- a look is recent after the link of the buffer that its head names was loaded
  link_recent : (q : Which) (h : Head) (i : ℕ) → (look_of a q).head ≡ Some h → h.index ≡ Some i
      → IsRecent m.link (m.head q) (record { head = (look_of a q).head; link = Some (m.link i) })
  link_recent q h i last top =
      let old = rw last at (law.owned.recent q w a is) in
      rw last (recent_linked m.link (m.head q) h i (look_of a q).link top old)

  load_link_keeps :
      (q : Which) (h : Head) (i : ℕ) → (look_of a q).head ≡ Some h → h.index ≡ Some i
      → Law e (record m { accounts = set m.accounts w (after_load_link q (m.link i) a) })
  load_link_keeps Full h i last top =
      looks_keep _ m.idle (link_recent Full h i last top) (law.owned.recent Empty w a is) refl refl refl refl refl inr
  load_link_keeps Empty h i last top =
      looks_keep _ m.idle (law.owned.recent Full w a is) (link_recent Empty h i last top) refl refl refl refl refl inr

  -- no held buffer is stacked, so a store to its link changes no stack
  store_keeps : (i : ℕ) (l : Option ℕ) → 0 < times i a.held → Law e (effect m w a (StoreLink i l))
  store_keeps i l mine =
      record {
        stack = law.stack;
        owned = owned_links law.owned (put i l m.link) (λ q b h.
            put_else i b l m.link
            (held_else e.buffers m.head m.link m.accounts law.stack law.owned w a is i mine q b h));
        in_slots = law.in_slots;
        coloured = law.coloured;
        shared = law.shared;
      }

  pop_keeps :
      (q : Which) (i : ℕ) (l : Option ℕ) → (look_of a q).head ≡ Some (m.head q) → (m.head q).index ≡ Some i
      → (look_of a q).link ≡ Some l → Law e (stack_popped m w a q (Some i) (Some l))
  pop_keeps q i l hit top next =
      record {
        stack = new;
        owned = taken.2;
        in_slots = in_slots_set e.buffers m.slots law.stack new i (Some items) None law.in_slots at others
            (λ p h. absurd (omega (arith, gone p))) (λ h. absurd (omega (arith, gone Empty))) (λ f g. refl);
        coloured = coloured_pop law.coloured w a is i items at;
        shared = shared_set m.accounts law.shared w a is there (after_pop i items a) refl;
      }
    where
      items : List ℕ
      items = items_of (slice_index_or m.slots i None)

      at : StandsAt m.slots i (Some items)
      at =
          let slot =
          law.in_slots.stacked q i (top_stands e.buffers m.head m.link m.accounts law.stack law.owned q i top) in
          let here : items ≡ slot.0 = ap items_of (at_get_or m.slots i (Some slot.0) None slot.1) in
          subst (λ xs. StandsAt m.slots i (Some xs)) (sym here) slot.1

      taken : (rest : List ℕ) × (law.stack q ≡ i ∷ rest)
          × IsOwned e.buffers (put_which q (after (m.head q) l) m.head) m.link
          (set m.accounts w (after_pop i items a)) (put_which q rest law.stack)
      taken = owned_pop law.owned w a is q i l items hit top next

      new : Which → List ℕ
      new = put_which q taken.0 law.stack

      others : (p : Which) (b : ℕ) → b ≢ i → times b (new p) ≡ times b (law.stack p)
      others p b n = put_one (λ r xs. times b xs ≡ times b (law.stack r)) q taken.0 law.stack
          (omega (arith, ap (times b) taken.1, only-other b i (λ s. n (sym s)))) (λ r. refl) p

      none_left : times i (new Full) + times i (new Empty) ≡ 0
      none_left = omega (
        arith,
        popped_sum q i taken.0 law.stack taken.1 i,
        only-same i i refl,
        place_one e.buffers m.head m.link m.accounts law.stack law.owned i,
      )

      gone : (p : Which) → times i (new p) ≡ 0
      gone Full = omega (arith, none_left)
      gone Empty = omega (arith, none_left)

  push_keeps :
      (q : Which) (i : ℕ) (items : List ℕ) → 0 < times i a.held → m.link i ≡ (m.head q).index → IsPart items a.charge
      → (q ≡ Empty → items ≡ []) → Law e (effect m w a (Push q i items))
  push_keeps q i items mine leads some none =
      record {
        stack = new;
        owned = owned_push law.owned w a is q i items mine leads;
        in_slots = in_slots_set e.buffers m.slots law.stack new i None (Some items) law.in_slots at others
            (λ p h. (items, refl)) (bare q none)
            (λ f g. absurd (omega (arith, pushed_sum q i law.stack i, only-same i i refl)));
        coloured = coloured_push law.coloured w a is q i items at some;
        shared = shared_set m.accounts law.shared w a is there (after_push q i items a) refl;
      }
    where
      apart : (i < e.buffers) × (times i (law.stack Full) ≡ 0) × (times i (law.stack Empty) ≡ 0)
      apart = held_apart e.buffers m.head m.link m.accounts law.stack law.owned w a is i mine

      at : StandsAt m.slots i None
      at = law.in_slots.away i apart.0 apart.1 apart.2

      new : Which → List ℕ
      new = put_which q (i ∷ law.stack q) law.stack

      others : (p : Which) (b : ℕ) → b ≢ i → times b (new p) ≡ times b (law.stack p)
      others p b n = put_one (λ r xs. times b xs ≡ times b (law.stack r)) q (i ∷ law.stack q) law.stack
          (omega (arith, only-other b i (λ s. n (sym s)))) (λ r. refl) p

      bare : (r : Which) → (r ≡ Empty → items ≡ []) → 0 < times i (put_which r (i ∷ law.stack r) law.stack Empty)
          → Some items ≡ Some []
      bare Full bare_of h = absurd (omega (arith, apart.2))
      bare Empty bare_of h = ap {B = Option (List ℕ)} Some (bare_of refl)

  claim_keeps : (o : ℕ) → IsReachableIn e o → Law e (effect m w a (Claim o))
  claim_keeps o reach =
      record {
        stack = law.stack;
        owned = owned_same law.owned w a is b refl refl refl refl;
        in_slots = law.in_slots;
        coloured = coloured_put law.coloured o (max (m.mark o) 1) (set m.accounts w b)
            (omega arith) (here (ℕ_discrete (m.mark o) 0))
            (others (ℕ_discrete (m.mark o) 0)) next reach saw;
        shared = shared_set m.accounts law.shared w a is there b refl;
      }
    where
      b : Account
      b = after_claim o (m.mark o) a

      charges : (y : ℕ)
          → charged_times y (set m.accounts w b) + times y a.charge ≡ charged_times y m.accounts + times y b.charge
      charges y = sum_of-set (λ (x : Account). times y x.charge) m.accounts w a b is

      done : (y : ℕ) → finished_times y (set m.accounts w b) ≡ finished_times y m.accounts
      done y = omega (arith, sum_of-set (λ (x : Account). times y x.finished) m.accounts w a b is)

      more : (y : ℕ) → m.mark o ≡ 0 → times y b.charge ≡ times y a.charge + only y o
      more y z = omega (arith, ap (times y) (charge_white o (m.mark o) a z), sum_of-append (only y) a.charge (o ∷ []))

      here : Dec (m.mark o ≡ 0) → HasColour (max (m.mark o) 1)
          (stacked_times o m.slots + charged_times o (set m.accounts w b)) (finished_times o (set m.accounts w b))
      here (yes z) =
          let t = linear e m.mark m.slots m.accounts law.coloured o in
          sums_tell (max (m.mark o) 1) (stacked_times o m.slots + charged_times o (set m.accounts w b))
          (finished_times o (set m.accounts w b))
          (omega (arith, charges o, done o, more o z, only-same o o refl))
          (omega (arith, charges o, done o, more o z, only-same o o refl))
      here (no n) =
          let t = linear e m.mark m.slots m.accounts law.coloured o in
          let s : times o b.charge ≡ times o a.charge = ap (times o) (charge_marked o (m.mark o) a n) in
          sums_tell (max (m.mark o) 1) (stacked_times o m.slots + charged_times o (set m.accounts w b))
          (finished_times o (set m.accounts w b))
          (omega (arith, charges o, done o)) (omega (arith, charges o, done o))

      others : Dec (m.mark o ≡ 0) → (y : ℕ) → y ≢ o
          → (charged_times y (set m.accounts w b) ≡ charged_times y m.accounts)
          × (finished_times y (set m.accounts w b) ≡ finished_times y m.accounts)
      others (yes z) y n = (omega (arith, charges y, more y z, only-other y o (λ s. n (sym s))), done y)
      others (no k) y n = let s : times y b.charge ≡ times y a.charge =
          ap (times y) (charge_marked o (m.mark o) a k) in (omega (arith, charges y), done y)

      next : max (m.mark o) 1 ≡ 2 → (s : ℕ) → Contains e.pairs (o, s) → 1 ≤ m.mark s
      next two s pair = law.coloured.closed o s (omega arith) pair

      saw : (v : ℕ) (x : Account) → StandsAt (set m.accounts w b) v x → (y : ℕ) → Contains x.seen y → (1 ≤ m.mark y)
          ⊎ (y ≡ o)
      saw = set_all (λ (x : Account). (y : ℕ) → Contains x.seen y → (1 ≤ m.mark y) ⊎ (y ≡ o)) m.accounts w b
          (λ v x at y k. inl (law.coloured.saw v x at y k))
          (λ y k. ⊎_elim (λ p. inl (law.coloured.saw w a is y p)) (λ p. inr (sym p)) (stands_push a.seen o y k))

  -- an account may claim only what is reachable
  can_claim : (o : ℕ) → CanClaim e o a → IsReachableIn e o
  can_claim o (inl root) = ([], root)
  can_claim o (inr p) = reachable_next law.coloured w a is p.0 o p.1 p.2

  finish_keeps : (o : ℕ) → CanFinish e o a → Law e (effect m w a (Finish o))
  finish_keeps o can =
      record {
        stack = law.stack;
        owned = owned_same law.owned w a is b refl refl refl refl;
        in_slots = law.in_slots;
        coloured = coloured_put law.coloured o 2 (set m.accounts w b) (omega arith) here others
            next (law.coloured.reachable o (omega (arith, was))) saw;
        shared = shared_set m.accounts law.shared w a is there b refl;
      }
    where
      b : Account
      b = after_finish o a

      mine : 0 < times o a.charge
      mine = stands_times a.charge o can.0

      was : (m.mark o ≡ 1) × (stacked_times o m.slots ≡ 0) × (charged_times o m.accounts ≡ 1)
          × (finished_times o m.accounts ≡ 0)
      was = charged e m.mark m.slots m.accounts law.coloured w a is o mine

      charges : (y : ℕ) → charged_times y (set m.accounts w b) + only y o ≡ charged_times y m.accounts
      charges y = omega (
        arith,
        sum_of-set (λ (x : Account). times y x.charge) m.accounts w a b is,
        times-remove_one y o a.charge mine,
      )

      done : (y : ℕ) → finished_times y (set m.accounts w b) ≡ finished_times y m.accounts + only y o
      done y = omega (
        arith,
        sum_of-set (λ (x : Account). times y x.finished) m.accounts w a b is,
        sum_of-append (only y) a.finished (o ∷ []),
      )

      here : HasColour 2 (stacked_times o m.slots + charged_times o (set m.accounts w b))
          (finished_times o (set m.accounts w b))
      here =
          sums_tell 2 (stacked_times o m.slots + charged_times o (set m.accounts w b))
          (finished_times o (set m.accounts w b))
          (omega (arith, was, charges o, done o, only-same o o refl))
          (omega (arith, was, charges o, done o, only-same o o refl))

      others : (y : ℕ) → y ≢ o → (charged_times y (set m.accounts w b) ≡ charged_times y m.accounts)
          × (finished_times y (set m.accounts w b) ≡ finished_times y m.accounts)
      others y n = let z = only-other y o (λ s. n (sym s)) in (omega (arith, charges y), omega (arith, done y))

      next : ◌≡◌ {A = ℕ} 2 2 → (s : ℕ) → Contains e.pairs (o, s) → 1 ≤ m.mark s
      next two s pair = law.coloured.saw w a is s (can.1 s pair)

      saw : (v : ℕ) (x : Account) → StandsAt (set m.accounts w b) v x → (y : ℕ) → Contains x.seen y → (1 ≤ m.mark y)
          ⊎ (y ≡ o)
      saw = set_all (λ (x : Account). (y : ℕ) → Contains x.seen y → (1 ≤ m.mark y) ⊎ (y ≡ o)) m.accounts w b
          (λ v x at y k. inl (law.coloured.saw v x at y k)) (λ y k. inl (law.coloured.saw w a is y k))

  split_keeps : (units : ℕ) → 0 < units → units < a.share → Law e (effect m w a (Split units))
  split_keeps units some less =
      record {
        stack = law.stack;
        owned = owned_part (owned_same law.owned w a is b refl refl refl refl) units;
        in_slots = law.in_slots;
        coloured = coloured_part (coloured_same law.coloured w a is b refl refl refl) units;
        shared = shared_split m.accounts law.shared w a is there units some less;
      }
    where
      b : Account
      b = after_split units a

  join_keeps : (v : ℕ) (b : Account) → v ≢ w → StandsAt m.accounts v b
      → Law e (record m { accounts = set (set m.accounts w (after_join a b)) v no_share })
  join_keeps v b apart at =
      record {
        stack = law.stack;
        owned = owned_join law.owned w a is v b apart at;
        in_slots = law.in_slots;
        coloured = coloured_join law.coloured w a is v b apart at;
        shared = shared_join m.accounts law.shared w a is there v b apart at;
      }

  -- each event that an account may do keeps the law
  pub effect_keeps : (kind : Kind) → Allows e m w a kind → Law e (effect m w a kind)
  effect_keeps (Claim o) can = claim_keeps o (can_claim o can.0)
  effect_keeps (Finish o) can = finish_keeps o can
  effect_keeps (Split units) can = split_keeps units can.0 can.1
  effect_keeps (Join v) can =
      subst (λ x. Law e (record m { accounts = set (set m.accounts w (after_join a x)) v no_share }))
      (sym (at_get_or m.accounts v can.1.0 no_share can.1.1.0)) (join_keeps v can.1.0 can.0 can.1.1.0)
  effect_keeps (Load q) can = load_keeps q
  effect_keeps (LoadLink q) can =
      let last : last_link m.link (look_of a q).head ≡ m.link can.1 = ap (last_link m.link) can.2
      ∙ ap (link_from m.link) can.3 in
      subst (λ l. Law e (record m { accounts = set m.accounts w (after_load_link q l a) })) (sym last)
      (load_link_keeps q can.0 can.1 can.2 can.3)
  effect_keeps (StoreLink i l) can = store_keeps i l (stands_times a.held i can)
  effect_keeps (Pop q) can =
      subst (Law e) (sym (pops_as m w a q can.0)) (pop_keeps q can.0.1.0 can.0.2.0 can.0.0.0 can.0.1.1 can.0.2.1)
  effect_keeps (Push q i items) can = push_keeps q i items (stands_times a.held i can.1.0) can.2 can.1.1 can.1.3
  effect_keeps (Fail q) can = law
  effect_keeps _ can = notes_keep _ _ refl refl refl refl refl refl refl refl
