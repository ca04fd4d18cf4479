-- Between a worker's load and its failed exchange, another worker exchanged the head. Otherwise the head would still be
-- the one loaded, or the worker was joined to another.
use Rattle.std.proofs.Common.{◌≡◌, ◌≢◌, ◌⊎◌, ℕ, suc, List, [], ◌∷◌, ◌++◌, Option, Some, set, ap}
use Rattle.std.proofs.Common.{sym, refl, subst, ◌∙◌, inl, inr, ⊎_elim, arith}
use native.Mathlib.Decide.{ℕ_discrete}
use Rattle.tagged_index.specs.Head.{Head, after}
use Rattle.mark_core.proofs.Words.{Which, Full, Empty, StandsAt, Account, look_of, part, no_share, after_split}
use Rattle.mark_core.proofs.Words.{after_join, after_load, Setup, Marking, account_at, put_which, Kind, Split, Join}
use Rattle.mark_core.proofs.Words.{Load, LoadLink, StoreLink, Pop, Push, Fail, Event, Allows, IsPossible, effect}
use Rattle.mark_core.proofs.Words.{happens, Run, Exchanges, LossesAreContested}
use Rattle.mark_core.proofs.Places.{at_longer, at_one, set_else, set_here}
use Rattle.mark_core.proofs.Happens.{happens_as, tried}

-- the account has loaded the current head of the stack, or was joined to another
abbrev Knows : Which → ℕ → Marking → Type 0
Knows q w m = (a : Account) × StandsAt m.accounts w a × ((a.share ≡ 0) ⊎ ((look_of a q).head ≡ Some (m.head q)))

-- an exchange of one head leaves the other
head_beside : (p q : Which) (x : Head) (f : Which → Head) → (p ≡ q → ⊥) → put_which p x f q ≡ f q
head_beside Full Full x f other = absurd (other refl)
head_beside Empty Empty x f other = absurd (other refl)
head_beside _ _ x f other = refl

head_kept :
    (m : Marking) (w : ℕ) (a : Account) (kind : Kind) (q : Which) → (Exchanges q kind → ⊥)
    → (effect m w a kind).head q ≡ m.head q
head_kept m w a (Pop p) q other =
    tried (λ (n : Marking). n.head q ≡ m.head q) m w a p refl (λ i l. head_beside p q (after (m.head p) l) m.head other)
head_kept m w a (Push p i items) q other = head_beside p q (after (m.head p) (Some i)) m.head other
head_kept m w a _ q other = refl

-- a load of one head leaves what the account loaded of the other stack
look_load :
    (p q : Which) (h : Head) (a : Account) → (p ≡ q → ⊥) → (look_of (after_load p h a) q).head ≡ (look_of a q).head
look_load Full Full h a other = absurd (other refl)
look_load Empty Empty h a other = absurd (other refl)
look_load _ _ h a other = refl

-- an account that loaded the same heads of both stacks loaded the same of each
same_look :
    (q : Which) (a b : Account) → b.full.head ≡ a.full.head → b.empty.head ≡ a.empty.head
    → (look_of b q).head ≡ (look_of a q).head
same_look Full a b full empty = full
same_look Empty a b full empty = empty

module _ (m : Marking) (w : ℕ) (a : Account) (at : StandsAt m.accounts w a) (q : Which) where
  -- after its own event the account exists, with the same loaded head of this stack
  abbrev Still : Marking → Type 0
  Still n = (b : Account) × StandsAt n.accounts w b × ((look_of b q).head ≡ (look_of a q).head)

  still_set :
      (b : Account) → (look_of b q).head ≡ (look_of a q).head
      → (b' : Account) × StandsAt (set m.accounts w b) w b' × ((look_of b' q).head ≡ (look_of a q).head)
  still_set b same = (b, set_here m.accounts w b a at, same)

  still_both :
      (b : Account) → b.full.head ≡ a.full.head → b.empty.head ≡ a.empty.head
      → (b' : Account) × StandsAt (set m.accounts w b) w b' × ((look_of b' q).head ≡ (look_of a q).head)
  still_both b full empty = still_set b (same_look q a b full empty)

  own_still : (e : Setup) (kind : Kind) → Allows e m w a kind → (kind ≡ Load q → ⊥) → Still (effect m w a kind)
  own_still e (Split units) can other =
      let here = still_both (after_split units a) refl refl in
      (here.0, at_longer (set m.accounts w (after_split units a)) (part units ∷ []) w here.0 here.1, here.2)
  own_still e (Join v) can other =
      let both = after_join a (account_at m.accounts v) in
      let here = still_both both refl refl in
      (here.0, set_else (set m.accounts w both) v w no_share (λ same. can.0 (sym same)) ∙ here.1, here.2)
  own_still e (Load p) can other =
      still_set (after_load p (m.head p) a) (look_load p q (m.head p) a (λ same. other (ap Load same)))
  own_still e (LoadLink Full) can other = still_both _ refl refl
  own_still e (StoreLink i l) can other = (a, at, refl)
  own_still e (Pop p) can other = tried Still m w a p (a, at, refl) (λ i l. still_both _ refl refl)
  own_still e (Fail p) can other = (a, at, refl)
  own_still e _ can other = still_both _ refl refl

  -- after another worker's event the account is as it was, or was joined to another
  abbrev Left : Marking → Type 0
  Left n = StandsAt n.accounts w a ⊎ StandsAt n.accounts w no_share

  beside : (u : ℕ) (b : Account) → w ≢ u → StandsAt (set m.accounts u b) w a
  beside u b apart = set_else m.accounts u w b apart ∙ at

  join_left :
      (u v : ℕ) (b : Account) → w ≢ u → Dec (w ≡ v)
      → StandsAt (set (set m.accounts u b) v no_share) w a ⊎ StandsAt (set (set m.accounts u b) v no_share) w no_share
  join_left u v b apart (yes same) =
      inr (subst (λ k. StandsAt (set (set m.accounts u b) k no_share) w no_share) same
      (set_here (set m.accounts u b) w no_share a (beside u b apart)))
  join_left u v b apart (no other) = inl (set_else (set m.accounts u b) v w no_share other ∙ beside u b apart)

  others_left : (u : ℕ) (b : Account) (kind : Kind) → w ≢ u → Left (effect m u b kind)
  others_left u b (Split units) apart =
      inl (at_longer (set m.accounts u (after_split units b)) (part units ∷ []) w a (beside u _ apart))
  others_left u b (Join v) apart = join_left u v (after_join b (account_at m.accounts v)) apart (ℕ_discrete w v)
  others_left u b (StoreLink i l) apart = inl at
  others_left u b (Pop p) apart = tried Left m u b p (inl at) (λ i l. inl (beside u _ apart))
  others_left u b (Fail p) apart = inl at
  others_left u b _ apart = inl (beside u _ apart)

dec_which : (p q : Which) → Dec (p ≡ q)
dec_which Full Full = yes refl
dec_which Empty Empty = yes refl
dec_which _ _ = no (λ e. cc)

dec_exchanges : (q : Which) (kind : Kind) → Dec (Exchanges q kind)
dec_exchanges q (Pop p) = dec_which p q
dec_exchanges q (Push p i items) = dec_which p q
dec_exchanges q _ = no (λ h. h)

-- a worker other than w exchanged the head of the stack q in one of the events `between`
abbrev IsContested : Which → ℕ → List Event → Type 0
IsContested q w between =
    (k : ℕ) × (event : Event) × StandsAt between k event × (event.worker ≢ w) × Exchanges q event.kind

module _ (e : Setup) (q : Which) where
  -- `Knows` still holds of the worker after its own event, if this neither exchanges nor loads the head of the stack
  own_knows :
      (m : Marking) (event : Event) → IsPossible e m event → (Exchanges q event.kind → ⊥) → (event.kind ≡ Load q → ⊥)
      → Knows q event.worker m → Knows q event.worker (happens m event)
  own_knows m event can leaves loads knows =
      let w = event.worker in
      let one : knows.0 ≡ can.0 = at_one m.accounts w knows.0 can.0 knows.1 can.1.0 in
      let look : (look_of can.0 q).head ≡ Some (m.head q) =
      ⊎_elim (λ gone. absurd (omega (arith, can.1.1, gone, ap (λ (x : Account). x.share) one)))
      (λ had. ap (λ (x : Account). (look_of x q).head) (sym one) ∙ had) knows.2 in
      let still = own_still m w can.0 can.1.0 q e event.kind can.2 loads in
      let kept = ap {B = Option Head} Some (sym (head_kept m w can.0 event.kind q leaves)) in
      subst (Knows q w) (sym (happens_as e m event can)) (still.0, still.1, inr (still.2 ∙ look ∙ kept))

  others_know :
      (w : ℕ) (m : Marking) (event : Event) → w ≢ event.worker → (Exchanges q event.kind → ⊥) → Knows q w m
      → Knows q w (happens m event)
  others_know w m event apart leaves knows =
      let b = account_at m.accounts event.worker in
      let same = head_kept m event.worker b event.kind q leaves in
      ⊎_elim
      (λ stood. (knows.0, stood, ⊎_elim inl (λ had. inr (had ∙ ap {B = Option Head} Some (sym same))) knows.2))
      (λ gone. (no_share, gone, inl refl))
      (others_left m w knows.0 knows.1 q event.worker b event.kind apart)

  contested :
      (w : ℕ) (between : List Event) (first last : Marking) → Knows q w first
      → Run e first (between ++ record { worker = w; kind = Fail q } ∷ []) last
      → ((k : ℕ) (event : Event) → StandsAt between k event → event.worker ≡ w
      → (event.kind ≡ Load q → ⊥) × (Exchanges q event.kind → ⊥)) → IsContested q w between
  contested w [] first last knows run own =
      let can = run.0 in
      let one : knows.0 ≡ can.0 = at_one first.accounts w knows.0 can.0 knows.1 can.1.0 in
      absurd (⊎_elim (λ gone. omega (arith, can.1.1, gone, ap (λ (x : Account). x.share) one))
      (λ had. can.2.2 (same_head (sym had ∙ ap (λ (x : Account). (look_of x q).head) one ∙ can.2.1))) knows.2)
    where
      same_head : {g h : Head} → Some g ≡ Some h → g ≡ h
      same_head e = cc
  contested w (event ∷ rest) first last knows run own =
      go (ℕ_discrete event.worker w) (dec_exchanges q event.kind)
      (λ on. contested w rest (happens first event) last on run.1 (λ k ev at. own (suc k) ev at))
    where
      later_too : IsContested q w rest → IsContested q w (event ∷ rest)
      later_too found = (suc found.0, found.1, found.2, found.3, found.4)

      go : Dec (event.worker ≡ w) → Dec (Exchanges q event.kind)
          → (Knows q w (happens first event) → IsContested q w rest)
          → IsContested q w (event ∷ rest)
      go (yes mine) d later =
          let no = own 0 event refl mine in
          later_too (later (subst (λ x. Knows q x (happens first event)) mine
          (own_knows first event run.0 no.1 no.0 (subst (λ x. Knows q x first) (sym mine) knows))))
      go (no theirs) (yes exchanged) later = (0, event, refl, theirs, exchanged)
      go (no theirs) (no leaves) later =
          later_too (later (others_know w first event (λ same. theirs (sym same)) leaves knows))

look_loaded : (q : Which) (h : Head) (a : Account) → (look_of (after_load q h a) q).head ≡ Some h
look_loaded Full h a = refl
look_loaded Empty h a = refl

pub losses_are_contested : LossesAreContested
losses_are_contested e first last w q between run own =
    let a = account_at first.accounts w in
    let loaded = after_load q (first.head q) a in
    contested e q w between (happens first (record { worker = w; kind = Load q })) last
    (loaded, set_here first.accounts w loaded run.0.0 run.0.1.0, inr (look_loaded q (first.head q) a)) run.1 own
