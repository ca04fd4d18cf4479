-- The effect of a call on a pair follows from its effect on the three positions.
use Rattle.std.proofs.Common.{◌≡◌, ℕ, Bool, true, false, List, [], ◌∷◌, ◌++◌, Option, Some, None, IfSome, IfNone}
use Rattle.std.proofs.Common.{IfErr, IfOk, OnOk, is_err, Result, Ok, Err, refl, sym, ap, subst, ◌∙◌, inl, inr, ⊎_elim}
use Rattle.std.proofs.Common.{arith}
use Rattle.std.proofs.lemmas.Bool.{false≢true}
use Rattle.mark_core.specs.declared.which.Which.TheVariants.{Full, Empty}
use Rattle.mark_core.specs.Lists.{times}
use Rattle.mark_core.specs.Events.{IsBusy}
use Rattle.buffer_pool.specs.Book.{Book}
use Rattle.buffer_pool.specs.Calls.{HeldBuffer, Owner, PoolId}
use Rattle.work_pair.specs.CallEffects.{Balances, CallEffect, Disposes, Gets, GetsBy, IsTagSpent, PopsNoneFromFull}
use Rattle.work_pair.specs.CallEffects.{PublishesBoth, Puts, Refills, ShelvesAll}
use Rattle.work_pair.specs.Moves.{Move, FoundNone, EndAtLastTag, WasSeenEmpty}
use Rattle.work_pair.specs.PairState.{PairState, buffered_items, pair_items, empty_pair, AreAlike, IsBacked, IsOpen}
use Rattle.work_pair.specs.declared.buffers.Buffers.{Buffers}
use Rattle.work_pair.specs.declared.pair.Pair.TheInside.{Inside}
use Rattle.work_pair.specs.declared.stop.Stop.{Stop}
use Rattle.work_pair.specs.declared.stop.Stop.TheVariants.{TagSpent, OutOfMemory}
use Rattle.work_pair.specs.working.Asks.{MayTrade}
use Rattle.work_pair.specs.working.Buffers.{as_pair}
use Rattle.work_pair.specs.working.Steps.{BalanceAnswers, Clears, ClearAnswers, EndsOut, FindsNone, GetAnswers}
use Rattle.work_pair.specs.working.Steps.{PublishAnswers, PutAnswers, Trades, positions}
use Rattle.work_pair.proofs.Renewing.{out_alone}
use Rattle.work_pair.proofs.Spilling.{beside, listed, listed_effect, listed_sum, spilled, unspilled}
use Rattle.work_pair.proofs.Trading.{backed_less, untouched}

-- the state of a pair in contracts
abbrev pub seen_as : {A : Type 0} → Inside A → PairState
seen_as i = listed (as_pair i.buffers) i.spill i.stopped i.starved

-- which buffers were popped from full does not depend on the list
refills_of : (p q : PairState) → p.first ≡ q.first → p.second ≡ q.second → (popped : List HeldBuffer)
    (moves : List Move) (new : PairState) → Refills popped p moves new → Refills popped q moves new
refills_of p q f s [] moves new r = (r.0, r.1 ∙ f, r.2 ∙ s)
refills_of p q f s (h ∷ popped) moves new r =
    (r.0, r.1, refills_of p q f s popped r.1 r.0 r.2, r.3, r.4, r.5, r.6, r.7)

by_rule : {A : Type 0} (i : Inside A) (q : PairState) (moves : List Move) (r : Option ℕ)
    → GetsBy (as_pair i.buffers) moves r q → GetsBy (seen_as i) moves r q
by_rule i q moves r told = (
  told.0,
  told.1,
  told.2,
  told.3,
  told.4,
  refills_of (as_pair i.buffers) (seen_as i) refl refl told.0 told.2 told.1 told.5,
  told.6,
)

-- the first position is as it was, so a call that began with it began with the pair
pub put_from : {A : Type 0} (m : Buffers A) {first : Option HeldBuffer} → first ≡ m.first → (object : ℕ) (b : Book)
    (q : PairState) (c : Book) (r : Result Bool Stop) → PutAnswers object (positions first m.second m.third) b q c r
    → PutAnswers object (as_pair m) b q c r
put_from m same object b q c r told =
    subst (λ (f : Option HeldBuffer). PutAnswers object (positions f m.second m.third) b q c r) same told

-- a pair that is not stopped owes no last tag
not_ended : {now : Bool} → now ≡ false → (ms : List Move) → now ≡ true → EndAtLastTag ms
not_ended is ms stopped = absurd (false≢true (sym is ∙ stopped))

-- a pair whose state in contracts is v
module _ {A : Type 0} {v : PairState} (i : Inside A) (is : seen_as i ≡ v) where
  seen : {put : List ℕ} {b : Book} → IsBacked v put b → IsBacked (seen_as i) put b
  seen backed = rw is backed

  -- a worker that backs the pair backs its buffers
  pub inner : {put : List ℕ} {b : Book} → IsBacked v put b → IsBacked (as_pair i.buffers) put b
  inner backed = beside refl (seen backed)

  pub may_trade : {w : Owner} {pool : PoolId} {put : List ℕ} → w.pool ≡ pool → IsOpen v → IsBacked v put w.book
      → IsBusy w.book.account → MayTrade w pool (as_pair i.buffers) put
  may_trade same going backed busy =
      record {
        same = same;
        third = ap (λ (k : PairState). k.third) is ∙ going.third;
        backed = inner backed;
        busy = busy;
      }

  -- no call has stopped the pair
  pub still_going : IsOpen v → i.stopped ≡ false
  still_going going = ap (λ (w : PairState). w.stopped) is ∙ going.going

  -- the last object of the list was taken
  pub takes_last : (m : List ℕ) (o : ℕ) → i.spill ≡ m ++ o ∷ [] → IsOpen v → (b : Book) → IsBacked v [] b
      → CallEffect v b [] (o ∷ []) (listed (as_pair i.buffers) m i.stopped i.starved) b
  takes_last m o l_is going b backed =
      let u : Trades (as_pair i.buffers) b [] [] (as_pair i.buffers) b = untouched (inner backed).sized in
      rw (← is) (listed_effect refl refl (λ x. omega (arith, unspilled m o x, ap (times x) l_is)) (seen backed) u
      (not_ended (still_going going) u.moves))

  module _ (b : Book) (q : Buffers A) (c : Book) where
    -- the buffers were traded, and the list is as it was
    abbrev trades : {m put got : List ℕ} {now starving : Bool} → m ≡ i.spill → IsBacked v put b
        → (u : Trades (as_pair i.buffers) b put got (as_pair q) c) → (now ≡ true → EndAtLastTag u.moves)
        → CallEffect (seen_as i) b put got (listed (as_pair q) m now starving) c
    trades m_is backed = listed_effect refl refl (λ o. omega (arith, ap (times o) m_is)) (seen backed)

    -- an object was put
    module _ (going : IsOpen v) (object : ℕ) (backed : IsBacked v (object ∷ []) b) {done : Bool}
        (answer : PutAnswers object (as_pair i.buffers) b (as_pair q) c (Ok done)) where
      answered : (which : Bool) → done ≡ which → PutAnswers object (as_pair i.buffers) b (as_pair q) c (Ok which)
      answered which done_is =
          subst (λ (d : Bool). PutAnswers object (as_pair i.buffers) b (as_pair q) c (Ok d)) done_is answer

      pub puts : done ≡ true → Puts v b object (listed (as_pair q) i.spill i.stopped i.starved) c
      puts done_is =
          let a = answered true done_is in
          rw (← is) (
            trades refl backed a.0 (not_ended (still_going going) a.0.moves),
            inl refl,
            a.2,
            ⊎_elim (λ room. inl room) (λ fills. inr (inr fills)) a.3,
          )

      -- no empty buffer was found for it, so it went to the list, or stayed with the worker
      module _ (done_is : done ≡ false) (m : List ℕ) where
        abbrev none : FindsNone (as_pair i.buffers) b (as_pair q) c
        none = answered false done_is

        pub spills : m ≡ i.spill ++ object ∷ [] → Puts v b object (listed (as_pair q) m i.stopped i.starved) c
        spills m_is =
            rw (← is) (
              listed_effect refl refl (λ o. omega (arith, spilled i.spill object o, ap (times o) m_is))
                  (seen backed) none.0 (not_ended (still_going going) none.0.moves),
              inr (m_is, none.2),
              out_alone none.0.moves none.2,
              inr (inl none.2),
            )

        pub starves : m ≡ i.spill → (effect : CallEffect v b [] [] (listed (as_pair q) m i.stopped true) c)
            × (effect.moves ≡ FoundNone Empty ∷ [])
        starves m_is =
            rw (← is) (
              trades m_is (backed_less v (object ∷ []) b backed) none.0 (not_ended (still_going going) none.0.moves),
              none.2,
            )

        pub still_open : IsOpen (listed (as_pair q) m i.stopped true)
        still_open = record { going = still_going going; third = none.1 }

        pub as_before : m ≡ i.spill → AreAlike v (listed (as_pair q) m i.stopped true)
        as_before m_is =
            rw (← is) (record {
              items = λ o. omega (
                arith,
                none.3.items o,
                ap (times o) m_is,
                listed_sum o (as_pair i.buffers) i.spill i.stopped i.starved refl,
                listed_sum o (as_pair q) m i.stopped true refl,
              );
              buffers = none.3.buffers;
            })

    -- a call returned, and the pair noted whether with a stop
    module _ (backed : IsBacked v [] b) {now : Bool} where
      -- the call popped nothing from full
      pub stops : (stop : Stop) → now ≡ true → EndsOut (as_pair i.buffers) b (as_pair q) c stop
          → IsTagSpent stop × (now ≡ true) × PopsNoneFromFull v b (listed (as_pair q) i.spill now i.starved) c
      stops (TagSpent token) now_is told = (
        tt,
        now_is,
        rw (← is) (trades refl backed told.0 (λ stopped. told.1), told.2),
      )
      stops OutOfMemory now_is none = absurd none

      -- the buffers were balanced or published
      pub balances : (r : Result Unit Stop) → now ≡ is_err r → BalanceAnswers (as_pair i.buffers) b (as_pair q) c r
          → OnOk r (Balances v b (listed (as_pair q) i.spill now i.starved) c)
          × IfErr r (λ s. IsTagSpent s × (now ≡ true)
          × PopsNoneFromFull v b (listed (as_pair q) i.spill now i.starved) c)
      balances (Ok done) now_is told =
          (rw (← is) (trades refl backed told.0 (not_ended now_is told.0.moves), told.2, told.3, told.4), tt)
      balances (Err stop) now_is told = (tt, stops stop now_is told)

      pub publishes : (r : Result Unit Stop) → now ≡ is_err r → PublishAnswers (as_pair i.buffers) b (as_pair q) c r
          → OnOk r (PublishesBoth v b (listed (as_pair q) i.spill now i.starved) c)
          × IfErr r (λ s. IsTagSpent s × (now ≡ true)
          × PopsNoneFromFull v b (listed (as_pair q) i.spill now i.starved) c)
      publishes (Ok done) now_is told =
          (rw (← is) (trades refl backed told.0 (not_ended now_is told.0.moves), told.4), tt)
      publishes (Err stop) now_is told = (tt, stops stop now_is told)

      -- an object was requested from the buffers, and the list is as it was
      module _ (m : List ℕ) (m_is : m ≡ i.spill) where
        gets : {got : List ℕ} (u : Trades (as_pair i.buffers) b [] got (as_pair q) c)
            → (now ≡ true → EndAtLastTag u.moves) → CallEffect v b [] got (listed (as_pair q) m now i.starved) c
        gets u ends = rw (← is) (trades m_is backed u ends)

        pub get_stops : (r : Result (Option ℕ) Stop) → now ≡ is_err r
            → GetAnswers (as_pair i.buffers) b (as_pair q) c r
            → IfErr r (λ s. IsTagSpent s × (now ≡ true)
            × CallEffect v b [] [] (listed (as_pair q) m now i.starved) c)
        get_stops (Ok x) now_is told = tt
        get_stops (Err (TagSpent token)) now_is told = (tt, now_is, gets told.0 (λ stopped. told.1))
        get_stops (Err OutOfMemory) now_is none = absurd none

        pub got_told : (r : Result (Option ℕ) Stop) → now ≡ is_err r
            → GetAnswers (as_pair i.buffers) b (as_pair q) c r
            → IfOk r (λ x. IfSome x (λ o. CallEffect v b [] (o ∷ []) (listed (as_pair q) m now i.starved) c))
        got_told (Ok (Some o)) now_is told = gets told.0 (not_ended now_is told.0.moves)
        got_told (Ok None) now_is told = tt
        got_told (Err stop) now_is told = tt

        -- the rule of getting an object, which does not read the list
        pub gets_told : (r : Result (Option ℕ) Stop) → now ≡ is_err r
            → GetAnswers (as_pair i.buffers) b (as_pair q) c r
            → IfOk r (λ x. Gets v b x (listed (as_pair q) m now i.starved) c)
        gets_told (Ok (Some o)) now_is told =
            rw (← is) (
              trades m_is backed told.0 (not_ended now_is told.0.moves),
              by_rule i (as_pair q) told.0.moves (Some o) told.2,
            )
        gets_told (Ok None) now_is told =
            rw (← is) (
              trades m_is backed told.0 (not_ended now_is told.0.moves),
              by_rule i (as_pair q) told.0.moves None told.6,
            )
        gets_told (Err stop) now_is told = tt

        pub none_told : m ≡ [] → (r : Result (Option ℕ) Stop) → now ≡ is_err r
            → GetAnswers (as_pair i.buffers) b (as_pair q) c r
            → IfOk r (λ x. IfNone x (CallEffect v b [] [] (listed (as_pair q) m now i.starved) c
            × (pair_items (listed (as_pair q) m now i.starved) ≡ []) × WasSeenEmpty Full b c))
        none_told empty (Ok (Some o)) now_is told = tt
        none_told empty (Ok None) now_is told = (
          gets told.0 (not_ended now_is told.0.moves),
          ap (λ (k : List ℕ). k ++ buffered_items (as_pair q)) empty ∙ told.2,
          told.3,
        )
        none_told empty (Err stop) now_is told = tt

  -- the worker backs the pair without its list, too
  given_up : (b : Book) → IsBacked v [] b → IsBacked (listed (as_pair i.buffers) [] i.stopped i.starved) [] b
  given_up b backed = beside {p = listed (as_pair i.buffers) [] i.stopped i.starved} refl (seen backed)

  -- the buffers were pushed back one after the other
  pub shelves : (b : Book) → IsBacked v [] b → (c : Book) (done : Unit)
      → ClearAnswers (as_pair i.buffers) b empty_pair c (Ok done) → ShelvesAll v b c
  shelves b backed c done told =
      rw (← is) (
        listed_effect refl refl (λ o. refl) (given_up b backed) told.0.trades (λ stopped. absurd (false≢true stopped)),
        told.1,
      )

  -- the list was given up, and then the buffers were pushed back
  pub disposes : (b : Book) → IsBacked v [] b → (q : PairState) (c : Book) → q.spill ≡ [] → (now starving : Bool)
      (m : List ℕ) → m ≡ [] → (cleared : Clears (as_pair i.buffers) b q c)
      → (now ≡ true → EndAtLastTag cleared.trades.moves) → Disposes v b (listed q m now starving) c
  disposes b backed q c bare now starving m m_is cleared ends =
      rw (← is) (
        listed_effect refl bare (λ o. omega (arith, ap (times o) m_is)) (given_up b backed) cleared.trades ends,
        cleared.quiet,
        cleared.out,
      )

pub clears_told : (p : PairState) (b : Book) (q : PairState) (c : Book) (stop : Stop) → ClearAnswers p b q c (Err stop)
    → IsTagSpent stop × ((u : Clears p b q c) × EndAtLastTag u.trades.moves)
clears_told p b q c (TagSpent token) told = (tt, told)
clears_told p b q c OutOfMemory none = absurd none

-- a result of `spill_over` holds of the pair `new`, if it holds of the equal pair `told`
pub if_spilled : (r : Result Unit (ℕ × Stop)) (new told : PairState) (P : PairState → Type 0) → OnOk r (new ≡ told)
    → P told → OnOk r (P new)
if_spilled (Ok done) new told P is holds = subst P (sym is) holds
if_spilled (Err e) new told P is holds = tt

pub if_starved : (r : Result Unit (ℕ × Stop)) (new told : PairState) (why : ℕ × Stop)
    (P : ℕ × Stop → PairState → Type 0) → IfErr r (λ e. (e ≡ why) × (new ≡ told)) → P why told → IfErr r (λ e. P e new)
if_starved (Ok done) new told why P is holds = tt
if_starved (Err e) new told why P is holds =
    subst (λ (x : ℕ × Stop). P x new) (sym is.0) (subst (λ (w : PairState). P why w) (sym is.1) holds)
