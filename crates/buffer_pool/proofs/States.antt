-- Markings that agree, a list of events with one more, and the rule after the view of one seat changed.
use Rattle.std.proofs.Common.{◌≡◌, ◌≢◌, ℕ, zero, suc, ◌+◌, ◌<◌, ◌≤◌, nat_lt, if◌then◌else◌, List, [], ◌∷◌, length, map}
use Rattle.std.proofs.Common.{Option, Some, None, true, set, slice_index, slice_set, ap, subst₂, sym, refl, subst, ◌∙◌}
use Rattle.std.proofs.Common.{⊎_elim, length-set, lt-ltb, le-ltb, arith}
use Rattle.buffer_pool.proofs.Words.{map-set, set-set, set-get_or, cases_lt, some, ℕ_discrete, get_elem?, State, Me}
use Rattle.buffer_pool.proofs.Words.{Act, Allows, Valid, put_back, stepped, carried_after, gives, chain, at_map, at_set}
use Rattle.buffer_pool.proofs.Words.{set_here, set_else, set_again, Which, StandsAt, times, Account, no_share, Setup}
use Rattle.buffer_pool.proofs.Words.{Marking, put, Event, Kind, effect, Full, Empty, head_of, Counts, LeadTo, counted}
use Rattle.buffer_pool.proofs.Words.{counts_at, no_counts, Law, held_times, at_below, at_get_or, put_here, put_else}
use Rattle.buffer_pool.proofs.Words.{lawful_where, leads_on, terms_le, held_apart, place_one, stacked_below, top_stands}
use Rattle.buffer_pool.proofs.Words.{SeatView, AreViewsOf, HasSaidAll, IsViewOf, logged, RestsWith, Book, counts_of}
use Rattle.buffer_pool.proofs.Words.{Log, LeadsToBook, head_word, link_word, Reading, IsTied, Rests, Carries, free}
use Rattle.buffer_pool.proofs.Words.{slot_of, slots_of, Reached, Rule, account_of, cut, marking_of, view_counts}
use Rattle.buffer_pool.proofs.Words.{Head, Fail, Did, look_of, failed, count_failure}
use mathlib.Core.Option as maybe
use Rattle.mark_core.specs.Events as may
use Rattle.buffer_pool.proofs.Deeds.{and_then, log_of, told_free, told_set, told_seen, told_step, did_one}

-- the state after a step: `words` and `homes`, and view w at seat id
abbrev pub left : {B : Type 0} → State (Option B) SeatView → List ℕ → List (maybe.Option (Option B)) → ℕ → SeatView
    → State (Option B) SeatView
left s words homes id w = record { words = words; homes = homes; views = set s.views id w }

-- markings are equal if they agree in each part
pub agrees :
    (m n : Marking) → ((q : Which) → m.head q ≡ n.head q) → ((i : ℕ) → m.link i ≡ n.link i)
    → ((o : ℕ) → m.mark o ≡ n.mark o)
    → m.slots ≡ n.slots → m.idle ≡ n.idle → m.accounts ≡ n.accounts → m ≡ n
agrees m n heads links marks slots idle accounts =
    λ k. record {
      head = λ q. heads q k;
      link = λ i. links i k;
      mark = λ o. marks o k;
      slots = slots k;
      idle = idle k;
      accounts = accounts k;
    }

-- a cut leaves the link of a buffer and has none past the buffers, so two cuts are the same if their buffers have the
-- same links
pub cut_below : (buffers : ℕ) (f : ℕ → Option ℕ) (i : ℕ) → i < buffers → cut buffers f i ≡ f i
cut_below buffers f i below = ap (λ t. if t then f i else None) (lt-ltb i buffers below)

pub cut_past : (buffers : ℕ) (f : ℕ → Option ℕ) (i : ℕ) → buffers ≤ i → cut buffers f i ≡ None
cut_past buffers f i past = ap (λ t. if t then f i else None) (le-ltb i buffers past)

pub cut_same : (buffers : ℕ) (f g : ℕ → Option ℕ) → ((i : ℕ) → i < buffers → f i ≡ g i) → (i : ℕ)
    → cut buffers f i ≡ cut buffers g i
cut_same buffers f g same i =
    ⊎_elim (λ below. cut_below buffers f i below ∙ same i below ∙ sym (cut_below buffers g i below))
    (λ past. cut_past buffers f i past ∙ sym (cut_past buffers g i past)) (cases_lt i buffers)

-- a link of a buffer may be written before the cut or after it
pub cut_put : (buffers : ℕ) (f : ℕ → Option ℕ) (i : ℕ) (x : Option ℕ) → i < buffers → (j : ℕ)
    → cut buffers (put i x f) j ≡ put i x (cut buffers f) j
cut_put buffers f i x below j = go (ℕ_discrete j i)
  where
    go : Dec (j ≡ i) → cut buffers (put i x f) j ≡ put i x (cut buffers f) j
    go (yes same) = cut_below buffers (put i x f) j (omega (arith, same, below)) ∙ put_here i j x f same
        ∙ sym (put_here i j x (cut buffers f) same)
    go (no other) = ap (λ y. if nat_lt j buffers then y else None) (put_else i j x f other)
        ∙ sym (put_else i j x (cut buffers f) other)

-- a write of one home writes one slot of the marking, and a write of one view writes one account and one entry of the
-- counts
pub slots_set : {B : Type 0} (r : Reading B) (homes : List (maybe.Option (Option B))) (i : ℕ)
    (h : maybe.Option (Option B)) → map (slot_of r) (set homes i h) ≡ set (map (slot_of r) homes) i (slot_of r h)
slots_set r = map-set (slot_of r)

pub accounts_set : (views : List SeatView) (id : ℕ) (w : SeatView)
    → map account_of (set views id w) ≡ set (map account_of views) id w.book.account
accounts_set = map-set account_of

pub counts_set : (views : List SeatView) (id : ℕ) (w : SeatView)
    → map view_counts (set views id w) ≡ set (map view_counts views) id (view_counts w)
counts_set = map-set view_counts

pub nothing_out : (n : ℕ) → n ≡ 0 → (i : ℕ) → n ≡ suc i → ⊥
nothing_out n z i s = omega (arith, z, s)

-- a seat whose log was brought up to date has said all
pub said_all : (log : Log) (v : SeatView) → HasSaidAll (logged log v)
said_all log v = record { named = refl; unsaid = refl }

-- writing the value of a word again keeps the rule
pub written_again :
    {B : Type 0} {r : Reading B} {e : Setup} (s : State (Option B) SeatView) (id word : ℕ) (w : SeatView)
    → Rule r e (left s s.words s.homes id w)
    → Rule r e (left s (slice_set s.words word (slice_index s.words word)) s.homes id w)
written_again {r = r} {e = e} s id word w rule =
    subst (λ ws. Rule r e (left s ws s.homes id w)) (sym (set-get_or s.words word 0)) rule

-- a table that keeps the rule
module _ {B : Type 0} {r : Reading B} {e : Setup} {s : State (Option B) SeatView} (rule : Rule r e s) where
  -- the marking is lawful, as events led to it
  pub lawful : Law e (marking_of r e s)
  lawful = lawful_where e rule.reached.events (marking_of r e s) (map view_counts s.views) rule.some_buffer
      rule.reached.led

  -- the buffers at home have their size after one slot changed
  pub sized_set :
      (i : ℕ) (h : maybe.Option (Option B)) → ((b : B) → h ≡ some (Some b) → r.size b ≡ e.size) → (j : ℕ) (b : B)
      → get_elem? (set s.homes i h) j ≡ some (some (Some b)) → r.size b ≡ e.size
  sized_set i h here j b at = ⊎_elim (λ t. here b t.1) (λ t. rule.sized j b t.1)
      (at_set s.homes i j h (some (Some b)) at)

  -- a buffer is in one place at most
  pub one_place : (i : ℕ)
      → times i (lawful.stack Full) + times i (lawful.stack Empty) + held_times i (map account_of s.views) ≤ 1
  one_place = let m = marking_of r e s in place_one e.buffers m.head m.link m.accounts lawful.stack lawful.owned

  -- the buffer that a head names is on its stack, and is one of the pool's
  pub on_top : (q : Which) (i : ℕ) → (head_of (slice_index s.words (head_word q))).index ≡ Some i
      → (0 < times i (lawful.stack q)) × (i < e.buffers)
  on_top q i top =
      let m = marking_of r e s in
      let on = top_stands e.buffers m.head m.link m.accounts lawful.stack lawful.owned q i top in
      (on, stacked_below e.buffers m.head m.link m.accounts lawful.stack lawful.owned q i on)

  -- the account of a view is in the marking; each buffer that it holds is one of the pool's, and its slot has no items
  module _ (id : ℕ) (v : SeatView) (is : get_elem? s.views id ≡ some v) where
    pub stands : StandsAt (map account_of s.views) id v.book.account
    stands = at_map account_of s.views id v is

    apart : (i : ℕ) → 0 < times i v.book.account.held
        → (i < e.buffers) × (times i (lawful.stack Full) ≡ 0) × (times i (lawful.stack Empty) ≡ 0)
    apart = let m = marking_of r e s in
        held_apart e.buffers m.head m.link m.accounts lawful.stack lawful.owned id v.book.account stands

    pub held_below : (i : ℕ) → 0 < times i v.book.account.held → i < e.buffers
    held_below i mine = (apart i mine).0

    pub held_away : (i : ℕ) → 0 < times i v.book.account.held → StandsAt (marking_of r e s).slots i None
    held_away i mine = let a = apart i mine in lawful.in_slots.away i a.0 a.1 a.2

    -- no account holds a stacked buffer
    pub stacked_free : (q : Which) (i : ℕ) → 0 < times i (lawful.stack q) → 0 < times i v.book.account.held → ⊥
    stacked_free Full i on mine = let a = apart i mine in omega arith
    stacked_free Empty i on mine = let a = apart i mine in omega arith

    -- no other account holds a buffer that this account holds
    pub held_alone : (k : ℕ) (u : SeatView) (i : ℕ) → k ≢ id → get_elem? s.views k ≡ some u
        → 0 < times i v.book.account.held → 0 < times i u.book.account.held → ⊥
    held_alone k u i other at mine theirs =
        let two : times i v.book.account.held + times i u.book.account.held ≤ held_times i (map account_of s.views) =
        terms_le (λ (a : Account). times i a.held) (map account_of s.views) id k v.book.account u.book.account other
        stands (at_map account_of s.views k u at) in
        let one = one_place i in omega arith

-- a state that keeps the rule, in which seat id has view v, with a share
pub record Seated
    {B : Type 0} (r : Reading B) (e : Setup) (s : State (Option B) SeatView) (id : ℕ) (v : SeatView) : Type 0 where
  pub rule : Rule r e s
  pub is : get_elem? s.views id ≡ some v
  pub there : 0 < v.book.account.share

module _
    {B : Type 0} {r : Reading B} {e : Setup} {s : State (Option B) SeatView} {id : ℕ} {v : SeatView}
    (at : Seated r e s id v) where
  -- the log of the seat with all events up to now, and with one more
  abbrev pub log_now : Log
  log_now = log_of id at.rule.reached.events

  abbrev pub log_after : Kind → Log
  log_after kind = log_of id (and_then at.rule.reached.events id kind)

  pub own_setup : v.book.setup ≡ e
  own_setup = at.rule.same_setup id v at.is at.there

  pub told : IsViewOf at.rule.reached.events id v
  told = at.rule.reached.views id v at.is at.there

  -- if a seat had said all, its log after an event continues by that event
  pub did_event : v.named ≡ true → v.unsaid ≡ [] → (kind : Kind) → Did v.log (kind ∷ []) (log_after kind)
  did_event = did_one at.rule.reached.events id v told

  -- the seat has its new view
  pub seat_has : (w : SeatView) → get_elem? (set s.views id w) id ≡ some w
  seat_has w = set_here s.views id w (at_below s.views id v at.is)

  pub seated_now : (words : List ℕ) (homes : List (maybe.Option (Option B))) (w : SeatView)
      → Rule r e (left s words homes id w) → 0 < w.book.account.share → Seated r e (left s words homes id w) id w
  seated_now words homes w rule share = record { rule = rule; is = seat_has w; there = share }

  -- the rule holds after the seat's view became w
  pub changed :
      (words : List ℕ) (homes : List (maybe.Option (Option B))) (w : SeatView) → length words ≡ length s.words
      → length homes ≡ length s.homes
      → ((i : ℕ) → i < e.buffers → slice_index words (link_word i) ≤ e.buffers)
      → ((i : ℕ) (b : B) → get_elem? homes i ≡ some (some (Some b)) → r.size b ≡ e.size)
      → IsTied words w → Rests homes w
      → ((k : ℕ) (u : SeatView) → k ≢ id → get_elem? s.views k ≡ some u → IsTied words u × Rests homes u)
      → w.book.setup ≡ v.book.setup → Reached r e (left s words homes id w) → Rule r e (left s words homes id w)
  changed words homes w word_count slot_count linked sized tied rests others setup reached =
      record {
        word_count = word_count ∙ at.rule.word_count;
        slot_count = slot_count ∙ at.rule.slot_count;
        sized = sized;
        linked = linked;
        tied = λ k u h. ⊎_elim (λ t. subst (IsTied words) t.1 tied) (λ t. (others k u t.0 t.1).0)
            (at_set s.views id k w u h);
        rests = λ k u h. ⊎_elim (λ t. subst (Rests homes) t.1 rests) (λ t. (others k u t.0 t.1).1)
            (at_set s.views id k w u h);
        same_setup = λ k u h share. ⊎_elim (λ t. ap (λ (x : SeatView). x.book.setup) (sym t.1) ∙ setup ∙ own_setup)
            (λ t. at.rule.same_setup k u t.1 share) (at_set s.views id k w u h);
        some_buffer = at.rule.some_buffer;
        reached = reached;
      }

  -- accounts are as they were if the new view has the same account, and counts if it has the same counts
  pub accounts_same : (w : SeatView) → w.book.account ≡ v.book.account
      → map account_of (set s.views id w) ≡ map account_of s.views
  accounts_same w same =
      accounts_set s.views id w ∙ ap (set (map account_of s.views) id) same
      ∙ set_again (map account_of s.views) id v.book.account (stands at.rule id v at.is)

  pub counts_same : (w : SeatView) → view_counts w ≡ view_counts v
      → map view_counts (set s.views id w) ≡ map view_counts s.views
  counts_same w same =
      counts_set s.views id w ∙ ap (set (map view_counts s.views) id) same
      ∙ set_again (map view_counts s.views) id (view_counts v) (at_map view_counts s.views id v at.is)

  -- the counts after an event that changes those of the seat
  pub counts_changed :
      (w : SeatView) (f : Counts → Counts) → view_counts w ≡ f (view_counts v)
      → map view_counts (set s.views id w)
      ≡ set (map view_counts s.views) id (f (counts_at (map view_counts s.views) id))
  counts_changed w f new =
      let was = at_get_or (map view_counts s.views) id (view_counts v) no_counts
      (at_map view_counts s.views id v at.is) in
      counts_set s.views id w ∙ ap (set (map view_counts s.views) id) (new ∙ ap f (sym was))

  -- a story leads to the seat's book if it leads to a table in which the seat has that book
  leads_here : (w : SeatView) (story : List Event) (t : State (Option B) SeatView) → t.views ≡ set s.views id w
      → w.book.setup ≡ v.book.setup → LeadTo e story (marking_of r e t) (map view_counts t.views)
      → LeadsToBook (log_of id story) w.book
  leads_here w story t views setup led =
      let here = subst (λ vs. get_elem? vs id ≡ some w) (sym views) (seat_has w) in (
        marking_of r e t,
        map view_counts t.views,
        subst (λ (f : Setup). LeadTo f story (marking_of r e t) (map view_counts t.views))
            (sym (setup ∙ own_setup)) led,
        at_map account_of t.views id w here,
        at_map view_counts t.views id w here,
      )

  -- after an event that the seat may do, the events with this one lead to the state after it
  module _
      (kind : Kind) (can : may.Allows e (marking_of r e s) id v.book.account kind) (t : State (Option B) SeatView)
      (marking : marking_of r e t ≡ effect (marking_of r e s) id v.book.account kind)
      (counts : map view_counts t.views ≡ counted (marking_of r e s) (map view_counts s.views) id kind) where
    pub happened_led :
        LeadTo e (and_then at.rule.reached.events id kind) (marking_of r e t) (map view_counts t.views)
    happened_led =
        let m = marking_of r e s in
        let own = stands at.rule id v at.is in
        let all = marking ∙ ap (λ a. effect m id a kind) (sym (at_get_or m.accounts id v.book.account no_share own)) in
        subst₂ (LeadTo e (and_then at.rule.reached.events id kind)) (sym all) (sym counts)
        (leads_on e (record { worker = id; kind = kind }) at.rule.reached.events m (map view_counts s.views)
        at.rule.reached.led (v.book.account, (own, at.there), can))

    -- the state is reached if each view holds of that list
    pub happened_told : AreViewsOf (and_then at.rule.reached.events id kind) t.views → Reached r e t
    happened_told views =
        record { events = and_then at.rule.reached.events id kind; led = happened_led; views = views }

  -- in particular if the log of the seat has the event
  pub happened :
      (kind : Kind) → may.Allows e (marking_of r e s) id v.book.account kind → (words : List ℕ)
      (homes : List (maybe.Option (Option B))) (u : SeatView) → u.book.setup ≡ v.book.setup
      → marking_of r e (left s words homes id (logged (log_after kind) u))
      ≡ effect (marking_of r e s) id v.book.account kind
      → map view_counts (set s.views id (logged (log_after kind) u))
      ≡ counted (marking_of r e s) (map view_counts s.views) id kind
      → Reached r e (left s words homes id (logged (log_after kind) u))
  happened kind can words homes u setup marking counts =
      let w : SeatView = logged (log_after kind) u in
      let t = left s words homes id w in
      let led = happened_led kind can t marking counts in
      happened_told kind can t marking counts
      (told_step at.rule.reached.events s.views at.rule.reached.views id u kind
      (leads_here w (and_then at.rule.reached.events id kind) t refl setup led))

  -- a failed exchange changes nothing but the count of failures
  pub missed_reached : (q : Which) (h : Head) → (look_of v.book.account q).head ≡ Some h
      → (head_of (slice_index s.words (head_word q)) ≡ h → ⊥)
      → Reached r e (left s s.words s.homes id (record (logged (log_after (Fail q)) v) { book = failed v.book }))
  missed_reached q h last other =
      let w : SeatView = record (logged (log_after (Fail q)) v) { book = failed v.book } in
      happened (Fail q) (h, last, other) s.words s.homes w refl
      (λ k. record (marking_of r e s) { accounts = accounts_same w refl k }) (counts_changed w count_failure refl)

  -- a state with the same marking and counts is reached by the same events
  pub nothing_happened :
      (t : State (Option B) SeatView) → marking_of r e t ≡ marking_of r e s
      → map view_counts t.views ≡ map view_counts s.views → AreViewsOf at.rule.reached.events t.views
      → Reached r e t
  nothing_happened t marking counts views =
      record {
        events = at.rule.reached.events;
        led = subst₂ (LeadTo e at.rule.reached.events) (sym marking) (sym counts) at.rule.reached.led;
        views = views;
      }

  -- only the log is brought up to date
  pub only_seen : (u : SeatView) → u.book ≡ v.book → Reached r e (left s s.words s.homes id (logged log_now u))
  only_seen u same =
      let w : SeatView = logged log_now u in
      let t = left s s.words s.homes id w in
      let accounts = accounts_same w (ap (λ (b : Book). b.account) same) in
      let marking : marking_of r e t ≡ marking_of r e s = λ k. record (marking_of r e s) { accounts = accounts k } in
      let counts = counts_same w (ap counts_of same) in
      let led = subst₂ (LeadTo e at.rule.reached.events) (sym marking) (sym counts) at.rule.reached.led in
      nothing_happened t marking counts
      (told_seen at.rule.reached.events s.views at.rule.reached.views id u
      (leads_here w at.rule.reached.events t refl (ap (λ (b : Book). b.setup) same) led))

  -- the story of a seat that has said all leads to its book
  pub story_now : (words : List ℕ) (homes : List (maybe.Option (Option B))) (log : Log) (u : SeatView)
      → Rule r e (left s words homes id (logged log u)) → 0 < u.book.account.share → LeadsToBook log u.book
  story_now words homes log u rule share =
      (rule.reached.views id (logged log u) (seat_has (logged log u)) share).leads refl refl

  -- the state is reached after the slot that is out went home without its buffer
  given_reached : (homes : List (maybe.Option (Option B))) → map (slot_of r) homes ≡ map (slot_of r) s.homes
      → Reached r e (left s s.words homes id (free v))
  given_reached homes same =
      nothing_happened (left s s.words homes id (free v))
      (λ k. record (marking_of r e s) { slots = same k; accounts = accounts_same (free v) refl k })
      (counts_same (free v) refl)
      (told_set at.rule.reached.events s.views id (free v) (λ k u other h share. at.rule.reached.views k u h share)
      (λ share. told_free at.rule.reached.events id v told))

  given_back : (n : ℕ) → v.out ≡ n → Rule r e (left s s.words (put_back s.homes (slots_of n)) id (free v))
  given_back zero none_out =
      changed s.words s.homes (free v) refl refl at.rule.linked at.rule.sized
      (λ i out. absurd (nothing_out 0 refl i out))
      (λ i mine out. at.rule.rests id v at.is i mine (nothing_out v.out none_out i))
      (λ k u other h. (at.rule.tied k u h, at.rule.rests k u h)) refl (given_reached s.homes refl)
  given_back (suc i) out =
      changed s.words homes (free v) refl (length-set s.homes i (some None)) at.rule.linked
      (sized_set at.rule i (some None) (λ b h. let no_buffer : ⊥ = cc in absurd no_buffer))
      (λ j o. absurd (nothing_out 0 refl j o))
      (λ j held not_out. emptied j (λ other. at.rule.rests id v at.is j held (λ o. other (omega (arith, o, out)))))
      (λ k u other h. (
        at.rule.tied k u h,
        (λ j held not_out. emptied j (λ differ. at.rule.rests k u h j held not_out)),
      )) refl
      (given_reached homes (slots_set r s.homes i (some None)
      ∙ set_again (map (slot_of r) s.homes) i None (held_away at.rule id v at.is i mine)))
    where
      homes : List (maybe.Option (Option B))
      homes = set s.homes i (some None)

      mine : 0 < times i v.book.account.held
      mine = (at.rule.tied id v at.is i out).0

      emptied : (j : ℕ) → (j ≢ i → get_elem? s.homes j ≡ some (some None)) → get_elem? homes j ≡ some (some None)
      emptied j elsewhere = go (ℕ_discrete j i)
        where
          go : Dec (j ≡ i) → get_elem? homes j ≡ some (some None)
          go (yes same) = subst (λ k. get_elem? homes k ≡ some (some None)) (sym same)
              (set_here s.homes i (some None)
              (omega (arith, held_below at.rule id v at.is i mine, at.rule.slot_count)))
          go (no other) = set_else s.homes i j (some None) other ∙ elsewhere other

-- The first step of a call puts back the slot that is out, at no cost: so each seat may do what a seat with no slot out
-- may do.
module _ {B : Type 0} (r : Reading B) (e : Setup) (slots id word : ℕ) (f : ℕ → ℕ)
    (tells : ℕ → Me (Option B) SeatView → Type 0) where
  -- a seat that carries the slots `carried` may make the step at this table
  abbrev pub Goes : List (ℕ × Option B) → State (Option B) SeatView → Type 0
  Goes carried s = (w : SeatView) × (a : Act (Option B)) × Valid s.homes carried a
      × Rule r e (stepped s word (f (slice_index s.words word)) id carried w a)
      × tells (slice_index s.words word) (w, carried_after carried a)

  freed_at :
      (v : SeatView) (n : ℕ) → v.out ≡ n → 0 < v.book.account.share
      → ((s : State (Option B) SeatView) → Seated r e s id (free v) → Goes [] s)
      → Allows (Rule r e) slots id (v, slots_of n) word f tells
  freed_at v n out there allows = go n out
    where
      -- the same act at the table with these homes
      acts :
          (s : State (Option B) SeatView) (homes : List (maybe.Option (Option B))) → Rule r e s
          → get_elem? s.views id ≡ some v → Rule r e (left s s.words homes id (free v))
          → Goes [] (record { words = s.words; homes = homes; views = s.views })
      acts s homes rule is freed =
          let at : Seated r e s id v = record { rule = rule; is = is; there = there } in
          let t = left s s.words homes id (free v) in
          let a = allows t (seated_now at s.words homes (free v) freed there) in (
            a.0,
            a.1,
            a.2,
            subst (λ vs. Rule r e (record (stepped t word (f (slice_index s.words word)) id [] a.0 a.1) { views = vs }))
                (set-set s.views id (free v) a.0) a.3,
            a.4,
          )

      go : (n : ℕ) → v.out ≡ n → Allows (Rule r e) slots id (v, slots_of n) word f tells
      go zero none_out s rule count is fits =
          let a = acts s s.homes rule is (given_back (record { rule = rule; is = is; there = there }) zero none_out) in
          (a.0, chain gives a.1, (tt, a.2), a.3, a.4)
      go (suc i) out s rule count is fits =
          let a = acts s (set s.homes i (some None)) rule is
          (given_back (record { rule = rule; is = is; there = there }) (suc i) out) in
          (a.0, chain gives a.1, (tt, a.2), a.3, a.4)

  pub freed : (me : Me (Option B) SeatView) → Carries me → 0 < me.0.book.account.share
      → ((s : State (Option B) SeatView) → Seated r e s id (free me.0) → Goes [] s)
      → Allows (Rule r e) slots id me word f tells
  freed me carries there allows = subst (λ c. Allows (Rule r e) slots id (me.0, c) word f tells) (sym carries)
      (freed_at me.0 me.0.out refl there allows)

-- a seat that had said all rests with its new book after an event, if the rule holds then
module _
    {B : Type 0} {r : Reading B} {e : Setup} {s : State (Option B) SeatView} {id : ℕ} (me : Me (Option B) SeatView)
    (at : Seated r e s id (free me.0)) (done : HasSaidAll me.0) where
  pub rests_after :
      (kind : Kind) (b : Book) (words : List ℕ) → 0 < b.account.share
      → Rule r e (left s words s.homes id (record (logged (log_after at kind) (free me.0)) { book = b }))
      → RestsWith me b (kind ∷ []) (record (logged (log_after at kind) (free me.0)) { book = b }, [])
  rests_after kind b words share after =
      record {
        same = refl;
        did = did_event at done.named done.unsaid kind;
        story = story_now at words s.homes (log_after at kind) (record (free me.0) { book = b }) after share;
      }
