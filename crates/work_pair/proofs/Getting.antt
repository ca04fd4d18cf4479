-- One turn of a call that gets an object: a look into the pair, and a pop from the full stack.
use Rattle.std.proofs.Common.{false, ◌≡◌, ℕ, List, [], ◌∷◌, ◌++◌, Option, Some, None, Ok, Err, refl, ap, ◌∙◌, arith}
use Rattle.std.proofs.lemmas.Bool.{false≢true}
use Rattle.std.proofs.lemmas.List.{append-nil}
use Rattle.mark_core.specs.declared.which.Which.TheVariants.{Full}
use Rattle.mark_core.specs.Events.{IsBusy}
use Rattle.buffer_pool.specs.Book.{Book}
use Rattle.buffer_pool.specs.Calls.{HeldBuffer, Owner, PoolId}
use Rattle.work_pair.specs.CallEffects.{Refills}
use Rattle.work_pair.specs.Moves.{Move, Spent, FoundNone, Took, shelving_of}
use Rattle.work_pair.specs.PairState.{PairState, items_at, pair_items, IsBacked}
use Rattle.work_pair.specs.declared.stop.Stop.{Stop}
use Rattle.work_pair.specs.declared.stop.Stop.TheVariants.{TagSpent, OutOfMemory}
use Rattle.work_pair.specs.declared.buffers.Buffers.{Buffers}
use Rattle.work_pair.specs.working.Asks.{IsBackedAt, MayRenew}
use Rattle.work_pair.specs.working.Buffers.{as_pair}
use Rattle.work_pair.specs.working.Steps.{Ends, GetAnswers, PopsOne, PutsOut, Renews, Takes, Trades, positions}
use Rattle.work_pair.proofs.Effects.{found_none, found_none_closes, found_none_tells, moves_effect}
use Rattle.work_pair.proofs.Renewing.{put_out_done, put_out_stopped, still_backed, still_busy}
use Rattle.work_pair.proofs.Trading.{backed_after, busy_then, end_on, first_backed, first_renewed, found_none_at}
use Rattle.work_pair.proofs.Trading.{on_and_on, sized_after, spent_at, still}

-- the trades so far popped buffers from full, each when the pair had no items
abbrev pub RefillsBy : PairState → Book → PairState → Book → Type 0
RefillsBy old before new after =
    (t : Trades old before [] [] new after) × (popped : List HeldBuffer) × Refills popped old t.moves new

-- if no object was taken, the pair has none
pub all_taken : {A : Type 0} (p q : Buffers A) → Takes (as_pair p) (as_pair q) None → p.third ≡ None
    → pair_items (as_pair p) ≡ []
all_taken p q took vacant =
    ap (λ (xs : List ℕ). xs ++ items_at p.second ++ items_at p.third) took.2.0
    ∙ ap (λ (xs : List ℕ). xs ++ items_at p.third) took.2.1 ∙ ap items_at vacant

module _ {A : Type 0} {old : PairState} {b₀ : Book} (backed : IsBacked old [] b₀) (p : Buffers A) {b : Book}
    (so_far : Trades old b₀ [] [] (as_pair p) b) (vacant : p.third ≡ None) where
  -- an object was found
  pub got : (popped : List HeldBuffer) → Refills popped old so_far.moves (as_pair p) → (q : Buffers A) (o : ℕ)
      → Takes (as_pair p) (as_pair q) (Some o) → GetAnswers old b₀ (as_pair q) b (Ok (Some o))
  got popped refills q o took = (
    on_and_on so_far (still took.0 (sized_after so_far)),
    took.1 ∙ vacant,
    (popped, as_pair p, so_far.moves, [], refl, refills, (refl, took.2)),
  )

  module _ (q : Buffers A) (took : Takes (as_pair p) (as_pair q) None) where
    abbrev looked : Trades old b₀ [] [] (as_pair q) b
    looked = on_and_on so_far (still took.0 (sized_after so_far))

    still_vacant : q.third ≡ None
    still_vacant = took.1 ∙ vacant

    -- there was none in the pair and none on the full stack
    pub none_got : (popped : List HeldBuffer) → Refills popped old so_far.moves (as_pair p) → (c : Book)
        → PopsOne Full b c (Ok None) → GetAnswers old b₀ (as_pair q) c (Ok None)
    none_got popped refills c moved =
        let e = moves_effect looked.moves b₀ b looked.books in (
          on_and_on looked (found_none_at Full moved (sized_after looked)),
          still_vacant,
          ap (λ (xs : List ℕ). xs ++ items_at q.second ++ items_at q.third) (ap items_at took.2.2 ∙ took.2.1)
              ∙ ap (λ (xs : List ℕ). xs ++ items_at q.third) (ap items_at took.2.3 ∙ took.2.0)
              ∙ ap items_at still_vacant,
          omega (arith, e.fulls, found_none Full b c moved),
          found_none_closes b c moved,
          found_none_tells b c moved,
          (
            popped,
            as_pair p,
            so_far.moves,
            FoundNone Full ∷ [],
            ap (λ (ms : List Move). ms ++ FoundNone Full ∷ []) (append-nil so_far.moves),
            refills,
            (refl, took.2),
          ),
        )

    pub pop_stopped : (c : Book) (stop : Stop) → PopsOne Full b c (Err stop) → Ends old b₀ (as_pair q) c stop
    pop_stopped c OutOfMemory none = absurd none
    pop_stopped c (TagSpent token) moved = (
      on_and_on looked (spent_at Full moved (sized_after looked)),
      end_on looked.moves (Spent Full ∷ []) ([], Full, refl),
    )

    -- a buffer was popped, and becomes the first
    module _ (h : HeldBuffer) (mid : Book) (took_next : PopsOne Full b mid (Ok (Some h))) where
      backed_here : IsBackedAt q.first b
      backed_here = first_backed (backed_after backed looked)

      pub may_put_out : (w : Owner) (pool : PoolId) → w.pool ≡ pool → w.book ≡ mid → IsBusy b₀.account
          → MayRenew w pool q.first q.third
      may_put_out w pool same book busy =
          record {
            same = same;
            vacant = still_vacant;
            backed = rw book (still_backed false Full h mid backed_here took_next (λ half. absurd (false≢true half)));
            busy = rw book (still_busy Full h b mid took_next (busy_then so_far busy));
          }

      module _ (n third : Option HeldBuffer) (c : Book) where
        abbrev put_back : Renews q.first b n third c → Trades old b₀ [] [] (positions n q.second third) c
        put_back r = on_and_on looked (first_renewed still_vacant r (sized_after looked).second)

        pub turned : (popped : List HeldBuffer) → Refills popped old so_far.moves (as_pair p) → (done : Unit)
            → PutsOut q.first h mid n third c (Ok done)
            → RefillsBy old b₀ (positions n q.second third) c × (third ≡ None)
        turned popped refills done out =
            let told = put_out_done false Full h mid backed_here took_next (λ half. absurd (false≢true half)) n third c
            done out in
            let k = told.4.0 in
            let moves : so_far.moves ++ [] ++ told.0.moves ≡ so_far.moves ++ Took Full k ∷ shelving_of p.second =
            ap (λ (ms : List Move). ms ++ told.0.moves) (append-nil so_far.moves)
            ∙ ap (λ (ms : List Move). so_far.moves ++ ms)
            (told.4.1 ∙ ap (λ (x : Option HeldBuffer). Took Full k ∷ shelving_of x) took.2.2) in (
              (
                put_back told.0,
                k ∷ popped,
                (as_pair p, so_far.moves, refills, took.2.0, took.2.1, moves, told.4.2, took.2.3),
              ),
              told.1,
            )

        pub put_stopped : (stop : Stop) → PutsOut q.first h mid n third c (Err stop)
            → Ends old b₀ (positions n q.second third) c stop
        put_stopped OutOfMemory none = absurd none
        put_stopped (TagSpent token) out =
            let told = put_out_stopped false Full h mid backed_here took_next (λ half. absurd (false≢true half)) n third
            c (TagSpent token) out in
            (put_back told.0, end_on looked.moves told.0.moves told.1)
