-- The effect of the calls of a pair follows from the effects on its positions.
use Rattle.std.proofs.Common.{◌≡◌, ◌≢◌, ◌⊎◌, ℕ, ◌<◌, ◌≤◌, Bool, true, false, List, [], ◌∷◌, ◌++◌, length, Option, Some}
use Rattle.std.proofs.Common.{None, Result, Ok, Err, refl, sym, ap, subst, ◌∙◌, inl, inr, ⊎_elim, arith}
use Rattle.mark_core.specs.declared.which.Which.{Which}
use Rattle.mark_core.specs.declared.which.Which.TheVariants.{Full, Empty}
use Rattle.std.proofs.lemmas.List.{append-nil}
use Rattle.buffer_pool.specs.Book.{Book}
use Rattle.buffer_pool.specs.Calls.{HeldBuffer, Owner, PoolId}
use Rattle.work_pair.specs.CallEffects.{GivesLowerPart, lower_part, push_of}
use Rattle.work_pair.specs.Moves.{Move, Took, Gave, FoundNone, IsOnFull, HasPushOnFull, WasSeenEmpty}
use Rattle.work_pair.specs.Moves.{shelf_of, shelving_of}
use Rattle.work_pair.specs.PairState.{PairState, items_at, pair_items, AreAlike}
use Rattle.work_pair.specs.declared.stop.Stop.{Stop}
use Rattle.work_pair.specs.declared.stop.Stop.TheVariants.{TagSpent, OutOfMemory}
use Rattle.work_pair.specs.working.Asks.{IsBackedAt, MayRenew, MayTrade}
use Rattle.work_pair.specs.working.Steps.{BalanceAnswers, EndsOut, FindsNone, IsLocal, PublishAnswers, PublishesAt}
use Rattle.work_pair.specs.working.Steps.{PutAnswers, RenewAnswers, Renews, Trades, next_of, positions, pushed_part}
use Rattle.work_pair.proofs.Effects.{moves_effect}
use Rattle.work_pair.proofs.Locals.{put_first, swapped}
use Rattle.work_pair.proofs.Renewing.{out_alone}
use Rattle.work_pair.proofs.Trading.{backed_after, backed_less, busy_then, end_on, first_backed, first_renewed}
use Rattle.work_pair.proofs.Trading.{none_in, on_and_on, out_on, second_backed, second_renewed, sized_after, still}
use Rattle.work_pair.proofs.Trading.{untouched}

-- a look for an empty buffer pushes nothing on full
quiet_alone : (ms : List Move) → ms ≡ FoundNone Empty ∷ [] → HasPushOnFull ms → ⊥
quiet_alone ms is push = ⊎_elim (λ x. x) (λ x. x) (subst HasPushOnFull is push)

abbrev at_some : HeldBuffer → Option HeldBuffer → HeldBuffer
at_some h None = h
at_some h (Some k) = k

-- if a pop is followed by one push, and a buffer was pushed on full, that push is on full
on_full_is : (q : Which) (k : HeldBuffer) → IsOnFull (Gave q k) → q ≡ Full
on_full_is Full k on = refl
on_full_is Empty k none = absurd none

pushed_full : (q : Which) (h k : HeldBuffer) → HasPushOnFull (Took Empty h ∷ Gave q k ∷ []) → q ≡ Full
pushed_full q h k push = ⊎_elim (λ x. absurd x) (λ rest. ⊎_elim (on_full_is q k) (λ x. absurd x) rest) push

pushes_told : (p : Option HeldBuffer) (h : HeldBuffer) (ms : List Move) → ms ≡ Took Empty h ∷ shelving_of p
    → (items_at p ≢ [] → HasPushOnFull ms)
    → ((k : HeldBuffer) → p ≡ Some k → k.items ≡ [] → ⊥) → ms ≡ Took Empty h ∷ push_of p
pushes_told None h ms is push full = is
pushes_told (Some k) h ms is push full =
    is ∙ ap (λ (q : Which). Took Empty h ∷ Gave q k ∷ [])
    (pushed_full (shelf_of k.items) h k (subst HasPushOnFull is (push (full k refl))))

-- a position with items that was renewed was published
pub publish_renewed : (old : Option HeldBuffer) (b : Book) (new third : Option HeldBuffer) (c : Book) (done : Bool)
    → items_at old ≢ [] → RenewAnswers false Empty old b new third c (Ok done)
    → PublishesAt old b new third c (Ok tt)
publish_renewed old b new third c true some told = (
  told.0,
  told.1,
  inr (ap items_at told.4.2 ∙ told.4.3 refl),
  told.3,
  inr (inr (
    told.4.0,
    told.4.3 refl,
    some,
    pushes_told old told.4.0 told.0.moves told.4.1 told.2 (λ k is none. some (ap items_at is ∙ none)),
    told.4.2,
  )),
)
publish_renewed old b new third c false some told = (
  told.0,
  told.1,
  inl told.3,
  out_alone told.0.moves told.4,
  inr (inl (told.4, some, told.2)),
)

pub none_first : (xs ys : List ℕ) → xs ++ ys ≡ [] → xs ≡ []
none_first [] ys none = refl
none_first (x ∷ xs) ys none = absurd (omega (arith, ap length none))

pub none_last : (xs ys : List ℕ) → xs ++ ys ≡ [] → ys ≡ []
none_last [] ys none = none
none_last (x ∷ xs) ys none = absurd (omega (arith, ap length none))

-- if a pair has no items, none of its positions has
pub none_at : (f s t : Option HeldBuffer) → pair_items (positions f s t) ≡ []
    → (items_at f ≡ []) × (items_at s ≡ []) × (items_at t ≡ [])
none_at f s t none =
    let both = none_first (items_at f ++ items_at s) (items_at t) none in (
      none_first (items_at f) (items_at s) both,
      none_last (items_at f) (items_at s) both,
      none_last (items_at f ++ items_at s) (items_at t) none,
    )

none_of : (xs ys zs : List ℕ) → xs ≡ [] → ys ≡ [] → zs ≡ [] → xs ++ ys ++ zs ≡ []
none_of xs ys zs x y z = ap (λ (l : List ℕ). l ++ ys ++ zs) x ∙ ap (λ (l : List ℕ). l ++ zs) y ∙ z

-- a balance of the first buffer gave its lower part
gives_lower : (f s t n third : Option HeldBuffer) (h : HeldBuffer) (ms : List Move) → 4 < length (items_at f)
    → items_at s ≡ []
    → ms ≡ Took Empty h ∷ shelving_of (pushed_part true f) → n ≡ Some (next_of true f h)
    → (items_at f ≢ [] → HasPushOnFull ms)
    → GivesLowerPart (positions f s t) ms (positions n s third)
gives_lower None s t n third h ms many none is n_is push = absurd (omega (arith, many))
gives_lower (Some k) s t n third h ms many none is n_is push =
    let low : HeldBuffer = record k { items = lower_part k.items } in
    let on = subst HasPushOnFull is (push (λ empty. omega (arith, many, ap length empty))) in (
      h,
      k,
      none,
      refl,
      is ∙ ap (λ (q : Which). Took Empty h ∷ Gave q low ∷ [])
          (pushed_full (shelf_of low.items) h low on),
      n_is,
      refl,
    )

pub some_items : (xs : List ℕ) → 0 < length xs → xs ≢ []
some_items xs some none = omega (arith, some, ap length none)

-- the positions of a pair that may be traded may be renewed
module _ {p : PairState} {w : Owner} {pool : PoolId} {besides : List ℕ} (may : MayTrade w pool p besides) where
  may_renew : (position : Option HeldBuffer) → IsBackedAt position w.book → MayRenew w pool position p.third
  may_renew position backed = record { same = may.same; vacant = may.third; backed = backed; busy = may.busy }

  pub may_renew_first : MayRenew w pool p.first p.third
  may_renew_first = may_renew p.first (first_backed may.backed)

  pub may_renew_second : MayRenew w pool p.second p.third
  may_renew_second = may_renew p.second (second_backed may.backed)

module _ {f s t : Option HeldBuffer} {w : Owner} {pool : PoolId} {besides : List ℕ}
    (may : MayTrade w pool (positions f s t) besides) where
  -- both buffers were full and exchanged positions, and then the first position was renewed
  module _ {p y : Option HeldBuffer} (p_is : p ≡ s) (y_is : y ≡ f) (n third : Option HeldBuffer) (c : Book) where
    abbrev renewed_then : Renews p w.book n third c → Trades (positions f s t) w.book [] [] (positions n y third) c
    renewed_then r =
        let turned : Trades (positions f s t) w.book [] [] (positions p y t) w.book =
        still (swapped p_is y_is) may.backed.sized in
        on_and_on turned (first_renewed may.third r (rw y_is may.backed.sized.first))

    -- the second buffer was pushed, and the object is the only one in the popped buffer
    pub put_told : (h : HeldBuffer) (o : ℕ) (g : Option HeldBuffer)
        → RenewAnswers false Empty p w.book n third c (Ok true) → n ≡ Some h
        → g ≡ Some (record h { items = h.items ++ o ∷ [] })
        → ((k : HeldBuffer) → p ≡ Some k → k.items ≡ [] → ⊥)
        → PutAnswers o (positions f s t) w.book (positions g y third) c (Ok true)
    put_told h o g told n_is g_is full =
        let k = told.4.0 in
        let so_far = renewed_then told.0 in
        let last : Trades (positions n y third) c (o ∷ []) [] (positions g y third) c =
        still (put_first n_is g_is) (sized_after so_far) in
        let moves = append-nil told.0.moves ∙ pushes_told p k told.0.moves told.4.1 told.2 full
        ∙ ap (λ (q : Option HeldBuffer). Took Empty k ∷ push_of q) p_is in
        let alone = g_is ∙ ap (λ (j : HeldBuffer). Some (record j { items = j.items ++ o ∷ [] }))
        (ap (at_some h) (sym n_is ∙ told.4.2))
        ∙ ap (λ (l : List ℕ). Some (record k { items = l ++ o ∷ [] })) (told.4.3 refl) in
        (on_and_on so_far last, told.1, out_on told.0.moves [] told.3 (λ x. x), inr (k, moves, alone, y_is))

    pub put_refused : RenewAnswers false Empty p w.book n third c (Ok false)
        → FindsNone (positions f s t) w.book (positions n y third) c
    put_refused told =
        let change : IsLocal (positions f s t) (positions n y t) [] [] = swapped (told.2 ∙ p_is) y_is in
        let alike : AreAlike (positions f s t) (positions n y t) =
        record { items = λ o. omega (arith, change.items o); buffers = λ i. omega (arith, change.buffers i) } in (
          renewed_then told.0,
          told.1,
          told.4,
          subst (λ (x : Option HeldBuffer). AreAlike (positions f s t) (positions n y x))
              (may.third ∙ sym told.1) alike,
        )

    pub put_stopped : (stop : Stop) → RenewAnswers false Empty p w.book n third c (Err stop)
        → EndsOut (positions f s t) w.book (positions n y third) c stop
    put_stopped (TagSpent token) told = (renewed_then told.0, told.1, told.2)
    put_stopped OutOfMemory none = absurd none

  module _ (n third : Option HeldBuffer) (c : Book) where
    abbrev gave_second : Renews s w.book n third c → Trades (positions f s t) w.book [] [] (positions f n third) c
    gave_second r = second_renewed may.third r may.backed.sized.first

    abbrev gave_first : Renews f w.book n third c → Trades (positions f s t) w.book [] [] (positions n s third) c
    gave_first r = first_renewed may.third r may.backed.sized.second

    pub second_stopped : (stop : Stop) → RenewAnswers false Empty s w.book n third c (Err stop)
        → EndsOut (positions f s t) w.book (positions f n third) c stop
    second_stopped (TagSpent token) told = (gave_second told.0, told.1, told.2)
    second_stopped OutOfMemory none = absurd none

    pub first_stopped : (stop : Stop) → RenewAnswers true Empty f w.book n third c (Err stop)
        → EndsOut (positions f s t) w.book (positions n s third) c stop
    first_stopped (TagSpent token) told = (gave_first told.0, told.1, told.2)
    first_stopped OutOfMemory none = absurd none

    pub second_balanced : (done : Bool) → RenewAnswers false Empty s w.book n third c (Ok done) → items_at s ≢ []
        → BalanceAnswers (positions f s t) w.book (positions f n third) c (Ok tt)
    second_balanced true told some = (
      gave_second told.0,
      told.1,
      λ more. inr (told.2 some),
      told.3,
      inr (inl (
        told.4.0,
        told.4.3 refl,
        some,
        pushes_told s told.4.0 told.0.moves told.4.1 told.2 (λ k is none. some (ap items_at is ∙ none)),
        refl,
        told.4.2,
      )),
    )
    second_balanced false told some = (
      gave_second told.0,
      told.1,
      λ more. inl told.4,
      out_alone told.0.moves told.4,
      inl (quiet_alone told.0.moves told.4, refl, told.2),
    )

    pub first_balanced : (done : Bool) → RenewAnswers true Empty f w.book n third c (Ok done)
        → 4 < length (items_at f) → items_at s ≡ []
        → BalanceAnswers (positions f s t) w.book (positions n s third) c (Ok tt)
    first_balanced true told some none = (
      gave_first told.0,
      told.1,
      λ more. inr (told.2 (some_items (items_at f) (omega (arith, some)))),
      told.3,
      inr (inr (gives_lower f s t n third told.4.0 told.0.moves some none told.4.1 told.4.2 told.2)),
    )
    first_balanced false told some none = (
      gave_first told.0,
      told.1,
      λ more. inl told.4,
      out_alone told.0.moves told.4,
      inl (quiet_alone told.0.moves told.4, told.2, refl),
    )

    -- the first buffer was published, and then the second
    pub publish_stopped : (stop : Stop) → PublishesAt f w.book n third c (Err stop)
        → EndsOut (positions f s t) w.book (positions n s third) c stop
    publish_stopped (TagSpent token) told = (gave_first told.0, told.1, told.2)
    publish_stopped OutOfMemory none = absurd none

    module _ (done : Unit) (first : PublishesAt f w.book n third c (Ok done)) where
      -- after that the second position may be renewed
      pub may_publish_second : (v : Owner) → v.pool ≡ w.pool → v.book ≡ c → MayRenew v pool s third
      may_publish_second v same book =
          record {
            same = same ∙ may.same;
            vacant = first.1;
            backed = rw book (second_backed (backed_after (backed_less (positions f s t) besides w.book may.backed)
                (gave_first first.0)));
            busy = rw book (busy_then (gave_first first.0) may.busy);
          }

      module _ (m last : Option HeldBuffer) (d : Book) where
        abbrev both : Renews s c m last d → Trades (positions f s t) w.book [] [] (positions n m last) d
        both second =
            let so_far = gave_first first.0 in
            on_and_on so_far (second_renewed first.1 second (sized_after so_far).first)

        pub both_published : (r : Result Unit Stop) → PublishesAt s c m last d r
            → PublishAnswers (positions f s t) w.book (positions n m last) d r
        both_published (Ok again) second =
            let e₁ = moves_effect first.0.moves w.book c first.0.books in
            let e₂ = moves_effect second.0.moves c d second.0.books in
            let seen : WasSeenEmpty Empty w.book d ⊎ (pair_items (positions n m last) ≡ []) =
            ⊎_elim (λ saw. inl (omega (arith, saw, e₂.empties)))
            (λ none. ⊎_elim (λ saw. inl (omega (arith, saw, e₁.empties)))
            (λ none₂. inr (none_of (items_at n) (items_at m) (items_at last) none none₂ (ap items_at second.1)))
            second.2) first.2 in (
              both second.0,
              second.1,
              seen,
              out_on first.0.moves second.0.moves first.3 second.3,
              (first.0.moves, second.0.moves, refl, first.4, second.4),
            )
        both_published (Err (TagSpent token)) second = (
          both second.0,
          end_on first.0.moves second.0.moves second.1,
          out_on first.0.moves second.0.moves first.3 second.2,
        )
        both_published (Err OutOfMemory) none = absurd none

  -- the second buffer has no items and the first at most four: there is nothing to give
  pub few_left : length (items_at s) ≤ 0 → length (items_at f) ≤ 4
      → BalanceAnswers (positions f s t) w.book (positions f s t) w.book (Ok tt)
  few_left none few = (
    untouched may.backed.sized,
    may.third,
    λ more. absurd (⊎_elim (λ some. some (none_in (items_at s) none)) (λ many. omega (arith, many, few)) more),
    λ pop. pop,
    inl (λ push. push, refl, refl),
  )
