-- The effect of each event on the ownership of the buffers.
use Rattle.std.proofs.Common.{◌≡◌, ◌≢◌, ◌⊎◌, ℕ, ◌+◌, ◌<◌, ◌≤◌, Bool, true, false, nat_lt, List, [], ◌∷◌, ◌++◌}
use Rattle.std.proofs.Common.{Option, Some, set, ap, sym, refl, subst, ◌∙◌, inl, inr, ⊎_elim, le-ltb}
use Rattle.std.proofs.Common.{arith}
use Rattle.std.proofs.lemmas.Bool.{cases_lt, or_left, or_right}
use native.Mathlib.Decide.{ℕ_discrete}
use Rattle.tagged_index.specs.Head.{Head, after}
use Rattle.mark_core.proofs.Words.{Which, Full, Empty, StandsAt, times, one_where, only, Account, look_of, part}
use Rattle.mark_core.proofs.Words.{no_share, after_pop, after_push, after_join, put_which, Chain, IsRecent, IsOwned}
use Rattle.mark_core.proofs.Words.{HasOpenPush, held_times}
use Rattle.mark_core.proofs.Places.{OfEach, set_all, push_all, at_longer, at_one, set_here, set_else, put_one, put_two}
use Rattle.mark_core.proofs.Sums.{sum_of-set, sum_of-append, term_le, times-remove_one, only-same}
use Rattle.mark_core.proofs.Chains.{chain_links, chain_rest, chain_more, recent_bare, recent_after, recent_links}
use Rattle.mark_core.proofs.Chains.{recent_link}

-- a number counted among the buffers is below their number
pub counted_below : (b n : ℕ) → 0 < one_where (nat_lt b n) → b < n
counted_below b n h =
    ⊎_elim (λ low. low) (λ past. let e = ap one_where (le-ltb b n past) in absurd (omega arith)) (cases_lt b n)

pub counted_once : (t : Bool) → one_where t ≤ 1
counted_once true = omega arith
counted_once false = omega arith

pub same_looks : (a b : Account) → b.full ≡ a.full → b.empty ≡ a.empty → (p : Which) → look_of b p ≡ look_of a p
same_looks a b f g Full = f
same_looks a b f g Empty = g

-- if some account has an open push, it is the account a itself, or some account has one after a was replaced by b
open_else : (accounts : List Account) (w : ℕ) (a b : Account) → StandsAt accounts w a → HasOpenPush accounts
    → (a.open_push ≡ true) ⊎ HasOpenPush (set accounts w b)
open_else accounts w a b is o = go (ℕ_discrete o.0 w)
  where
    go : Dec (o.0 ≡ w) → (a.open_push ≡ true) ⊎ HasOpenPush (set accounts w b)
    go (yes e) =
        let s : o.1 ≡ a = at_one accounts w o.1 a (subst (λ v. StandsAt accounts v o.1) e o.2) is in
        inl (sym (ap (λ (x : Account). x.open_push) s) ∙ o.3)
    go (no n) = inr (o.0, o.1, set_else accounts w o.0 b n ∙ o.2, o.3)

-- some account still has an open push after a was replaced by b, if b has one whenever a has
pub open_set : (accounts : List Account) (w : ℕ) (a b : Account) → StandsAt accounts w a
    → (a.open_push ≡ true → b.open_push ≡ true) → HasOpenPush accounts → HasOpenPush (set accounts w b)
open_set accounts w a b is keep o =
    ⊎_elim (λ t. (w, b, set_here accounts w b a is, keep t)) (λ p. p) (open_else accounts w a b is o)

-- after a pop the popped buffer is stacked once less often; after a push the pushed one is stacked once more often
pub popped_sum : (q : Which) (i : ℕ) (rest : List ℕ) (stack : Which → List ℕ) → stack q ≡ i ∷ rest → (b : ℕ)
    → times b (put_which q rest stack Full) + times b (put_which q rest stack Empty) + only b i
    ≡ times b (stack Full) + times b (stack Empty)
popped_sum Full i rest stack e b = omega (arith, ap (times b) e)
popped_sum Empty i rest stack e b = omega (arith, ap (times b) e)

pub pushed_sum : (q : Which) (i : ℕ) (stack : Which → List ℕ) (b : ℕ)
    → times b (put_which q (i ∷ stack q) stack Full) + times b (put_which q (i ∷ stack q) stack Empty)
    ≡ times b (stack Full) + times b (stack Empty) + only b i
pushed_sum Full i stack b = omega arith
pushed_sum Empty i stack b = omega arith

popped_nothing : (q : Which) (i : ℕ) (rest : List ℕ) (stack : Which → List ℕ) → stack q ≡ i ∷ rest → stack Full ≡ []
    → put_which q rest stack Full ≡ []
popped_nothing Full i rest stack e n = let f : ⊥ = cc in absurd f
popped_nothing Empty i rest stack e n = n

pub chain_top : (link : ℕ → Option ℕ) (n : Option ℕ) (xs : List ℕ) (i : ℕ) → Chain link n xs → n ≡ Some i
    → 0 < times i xs
chain_top link n xs i c e = let r = chain_rest link n xs i c e in omega (arith, ap (times i) r.1, only-same i i refl)

module _ (buffers : ℕ) (head : Which → Head) (link : ℕ → Option ℕ) (accounts : List Account) (stack : Which → List ℕ)
    (o : IsOwned buffers head link accounts stack) where
  -- a buffer is in one place at most
  pub place_one : (b : ℕ) → times b (stack Full) + times b (stack Empty) + held_times b accounts ≤ 1
  place_one b = omega (arith, o.once b, counted_once (nat_lt b buffers))

  pub place_below : (b : ℕ) → 0 < times b (stack Full) + times b (stack Empty) + held_times b accounts → b < buffers
  place_below b h = counted_below b buffers (omega (arith, o.once b))

  -- the buffer that a head names is in the list of its stack
  pub top_stands : (q : Which) (i : ℕ) → (head q).index ≡ Some i → 0 < times i (stack q)
  top_stands q i e = chain_top link (head q).index (stack q) i (o.chain q) e

  pub stacked_below : (q : Which) (b : ℕ) → 0 < times b (stack q) → b < buffers
  stacked_below Full b h = place_below b (omega arith)
  stacked_below Empty b h = place_below b (omega arith)

  -- a held buffer is one of the pool's, and is on no stack
  pub held_apart : (w : ℕ) (a : Account) → StandsAt accounts w a → (i : ℕ) → 0 < times i a.held
      → (i < buffers) × (times i (stack Full) ≡ 0) × (times i (stack Empty) ≡ 0)
  held_apart w a is i h =
      let t = term_le (λ (x : Account). times i x.held) accounts w a is in
      let p = place_one i in
      (place_below i (omega arith), omega arith, omega arith)

  -- no stacked buffer is a held one
  pub held_else : (w : ℕ) (a : Account) → StandsAt accounts w a → (i : ℕ) → 0 < times i a.held
      → (q : Which) (b : ℕ) → 0 < times b (stack q) → b ≢ i
  held_else w a is i h q b stands same = absurd (omega (arith, off q, ap (λ j. times j (stack q)) same))
    where
      off : (p : Which) → times i (stack p) ≡ 0
      off Full = (held_apart w a is i h).1
      off Empty = (held_apart w a is i h).2

module _ {buffers : ℕ} {head : Which → Head} {link : ℕ → Option ℕ} {accounts : List Account} {stack : Which → List ℕ}
    (o : IsOwned buffers head link accounts stack) where
  -- the ownership holds if no link of a stacked buffer changes
  pub owned_links : (new : ℕ → Option ℕ) → ((q : Which) (b : ℕ) → 0 < times b (stack q) → new b ≡ link b)
      → IsOwned buffers head new accounts stack
  owned_links new same =
      record {
        chain = λ q. chain_links link new (head q).index (stack q) (same q) (o.chain q);
        once = o.once;
        recent = λ q v x at. recent_links link new (head q) (look_of x q)
            (λ i e. same q i (top_stands buffers head link accounts stack o q i e)) (o.recent q v x at);
        owed = o.owed;
      }

  -- the ownership holds with a new account that has only units
  pub owned_part : (units : ℕ) → IsOwned buffers head link (accounts ++ part units ∷ []) stack
  owned_part units = record { chain = o.chain; once = once; recent = recent; owed = owed o.owed }
    where
      once : (b : ℕ) → times b (stack Full) + times b (stack Empty) + held_times b (accounts ++ part units ∷ [])
          ≡ one_where (nat_lt b buffers)
      once b = omega (arith, o.once b, sum_of-append (λ (x : Account). times b x.held) accounts (part units ∷ []))

      recent : (q : Which) (v : ℕ) (x : Account) → StandsAt (accounts ++ part units ∷ []) v x
          → IsRecent link (head q) (look_of x q)
      recent q = push_all (λ x. IsRecent link (head q) (look_of x q)) accounts (part units) (o.recent q)
          (recent_bare link head (part units) refl refl q)

      owed : (stack Full ≡ []) ⊎ HasOpenPush accounts → (stack Full ≡ []) ⊎ HasOpenPush (accounts ++ part units ∷ [])
      owed (inl p) = inl p
      owed (inr p) = inr (p.0, p.1, at_longer accounts (part units ∷ []) p.0 p.1 p.2, p.3)

  module _ (w : ℕ) (a : Account) (is : StandsAt accounts w a) where
    recent_set : (b : Account) → ((q : Which) → IsRecent link (head q) (look_of b q))
        → (q : Which) (v : ℕ) (x : Account) → StandsAt (set accounts w b) v x → IsRecent link (head q) (look_of x q)
    recent_set b new q = set_all (λ x. IsRecent link (head q) (look_of x q)) accounts w b (o.recent q) (new q)

    -- what an account loaded is still recent if the account keeps it
    keeps_looks : (b : Account) → b.full ≡ a.full → b.empty ≡ a.empty → (q : Which)
        → IsRecent link (head q) (look_of b q)
    keeps_looks b f g q = subst (λ l. IsRecent link (head q) l) (sym (same_looks a b f g q)) (o.recent q w a is)

    -- after an exchange of a head, what accounts loaded of its stack is outdated, and what they loaded of the other
    -- stack is as recent as before
    recent_turned :
        (b : Account) → b.full ≡ a.full → b.empty ≡ a.empty → (q : Which) (l : Option ℕ) (p : Which)
        → OfEach (λ x. IsRecent link (put_which q (after (head q) l) head p) (look_of x p)) (set accounts w b)
    recent_turned b f g q l =
        let now = recent_set b (keeps_looks b f g) in
        put_one (λ p (h : Head). OfEach (λ x. IsRecent link h (look_of x p)) (set accounts w b)) q (after (head q) l)
        head
        (λ v x at. recent_after link (head q) (look_of x q) l (now q v x at)) now

    -- the ownership holds if the account changes but holds the same buffers
    pub owned_set :
        (b : Account) → ((q : Which) → IsRecent link (head q) (look_of b q)) → b.held ≡ a.held
        → (a.open_push ≡ true → (stack Full ≡ []) ⊎ (b.open_push ≡ true))
        → IsOwned buffers head link (set accounts w b) stack
    owned_set b new held push = record { chain = o.chain; once = once; recent = recent_set b new; owed = owed o.owed }
      where
        once : (x : ℕ) → times x (stack Full) + times x (stack Empty) + held_times x (set accounts w b)
            ≡ one_where (nat_lt x buffers)
        once x = let t : times x b.held ≡ times x a.held = ap (times x) held in
            omega (arith, o.once x, sum_of-set (λ (y : Account). times x y.held) accounts w a b is)

        owed : (stack Full ≡ []) ⊎ HasOpenPush accounts → (stack Full ≡ []) ⊎ HasOpenPush (set accounts w b)
        owed (inl p) = inl p
        owed (inr p) =
            ⊎_elim (λ t. ⊎_elim inl (λ e. inr (w, b, set_here accounts w b a is, e)) (push t)) inr
            (open_else accounts w a b is p)

    -- the ownership holds if the account changes in nothing that ownership reads
    pub owned_same : (b : Account) → b.full ≡ a.full → b.empty ≡ a.empty → b.held ≡ a.held → b.open_push ≡ a.open_push
        → IsOwned buffers head link (set accounts w b) stack
    owned_same b f g held push = owned_set b (keeps_looks b f g) held (λ e. inr (push ∙ e))

    -- a pop takes the first buffer off its stack
    pub owned_pop :
        (q : Which) (i : ℕ) (l : Option ℕ) (items : List ℕ) → (look_of a q).head ≡ Some (head q)
        → (head q).index ≡ Some i → (look_of a q).link ≡ Some l
        → (rest : List ℕ) × (stack q ≡ i ∷ rest) × IsOwned buffers (put_which q (after (head q) l) head) link
        (set accounts w (after_pop i items a)) (put_which q rest stack)
    owned_pop q i l items hit top next =
        (rest, r.1, record { chain = chain; once = once; recent = recent_turned b refl refl q l; owed = owed o.owed })
      where
        r : (xs : List ℕ) × (stack q ≡ i ∷ xs) × Chain link (link i) xs
        r = chain_rest link (head q).index (stack q) i (o.chain q) top

        rest : List ℕ
        rest = r.0

        b : Account
        b = after_pop i items a

        stands : link i ≡ l
        stands = recent_link link (head q) (look_of a q) i l (o.recent q w a is) hit top next

        chain : (p : Which) → Chain link (put_which q (after (head q) l) head p).index (put_which q rest stack p)
        chain = put_two (λ (h : Head) (xs : List ℕ). Chain link h.index xs) q (after (head q) l) rest head stack
            (subst (λ n. Chain link n rest) stands r.2) o.chain

        once : (x : ℕ) → times x (put_which q rest stack Full) + times x (put_which q rest stack Empty) + held_times x
            (set accounts w b) ≡ one_where (nat_lt x buffers)
        once x = omega (
          arith,
          o.once x,
          popped_sum q i rest stack r.1 x,
          sum_of-set (λ (y : Account). times x y.held) accounts w a b is,
          sum_of-append (only x) a.held (i ∷ []),
        )

        owed : (stack Full ≡ []) ⊎ HasOpenPush accounts → (put_which q rest stack Full ≡ [])
            ⊎ HasOpenPush (set accounts w b)
        owed (inl p) = inl (popped_nothing q i rest stack r.1 p)
        owed (inr p) = inr (open_set accounts w a b is (λ e. e) p)

    -- a push puts the buffer before its stack
    pub owned_push :
        (q : Which) (i : ℕ) (items : List ℕ) → 0 < times i a.held → link i ≡ (head q).index
        → IsOwned buffers (put_which q (after (head q) (Some i)) head) link (set accounts w (after_push q i items a))
        (put_which q (i ∷ stack q) stack)
    owned_push q i items mine leads =
        record { chain = chain; once = once; recent = recent_turned b refl refl q (Some i); owed = owed q o.owed }
      where
        b : Account
        b = after_push q i items a

        chain : (p : Which) → Chain link (put_which q (after (head q) (Some i)) head p).index
            (put_which q (i ∷ stack q) stack p)
        chain = put_two (λ (h : Head) (xs : List ℕ). Chain link h.index xs) q (after (head q) (Some i))
            (i ∷ stack q) head stack (chain_more link (head q).index (stack q) i (o.chain q) leads) o.chain

        once : (x : ℕ) → times x (put_which q (i ∷ stack q) stack Full) + times x
            (put_which q (i ∷ stack q) stack Empty) + held_times x (set accounts w b) ≡ one_where (nat_lt x buffers)
        once x = omega (
          arith,
          o.once x,
          pushed_sum q i stack x,
          sum_of-set (λ (y : Account). times x y.held) accounts w a b is,
          times-remove_one x i a.held mine,
        )

        owed : (p : Which) → (stack Full ≡ []) ⊎ HasOpenPush accounts → (put_which p (i ∷ stack p) stack Full ≡ [])
            ⊎ HasOpenPush (set accounts w (after_push p i items a))
        owed Full old = inr (w, after_push Full i items a, set_here accounts w (after_push Full i items a) a is, refl)
        owed Empty (inl e) = inl e
        owed Empty (inr e) = inr (open_set accounts w a (after_push Empty i items a) is (λ t. t) e)

    -- a join puts two accounts together
    pub owned_join : (v : ℕ) (b : Account) → v ≢ w → StandsAt accounts v b
        → IsOwned buffers head link (set (set accounts w (after_join a b)) v no_share) stack
    owned_join v b apart at = record { chain = o.chain; once = once; recent = recent; owed = owed o.owed }
      where
        both : Account
        both = after_join a b

        still : StandsAt (set accounts w both) v b
        still = set_else accounts w v both apart ∙ at

        once : (x : ℕ) → times x (stack Full) + times x (stack Empty) + held_times x
            (set (set accounts w both) v no_share) ≡ one_where (nat_lt x buffers)
        once x =
            omega (
              arith,
              o.once x,
              sum_of-set (λ (y : Account). times x y.held) accounts w a both is,
              sum_of-set (λ (y : Account). times x y.held) (set accounts w both) v b no_share still,
              sum_of-append (only x) a.held b.held,
            )

        recent : (q : Which) → OfEach (λ x. IsRecent link (head q) (look_of x q)) (set (set accounts w both) v no_share)
        recent q = set_all (λ x. IsRecent link (head q) (look_of x q)) (set accounts w both) v no_share
            (recent_set both (keeps_looks both refl refl) q) (recent_bare link head no_share refl refl q)

        first : StandsAt (set (set accounts w both) v no_share) w both
        first = set_else (set accounts w both) v w no_share (λ e. apart (sym e)) ∙ set_here accounts w both a is

        owed : (stack Full ≡ []) ⊎ HasOpenPush accounts → (stack Full ≡ [])
            ⊎ HasOpenPush (set (set accounts w both) v no_share)
        owed (inl p) = inl p
        owed (inr p) = ⊎_elim (λ t. inr (w, both, first, or_left a.open_push b.open_push t))
            (λ k. ⊎_elim (λ t. inr (w, both, first, or_right a.open_push b.open_push t)) inr
            (open_else (set accounts w both) v b no_share still k)) (open_else accounts w a both is p)
