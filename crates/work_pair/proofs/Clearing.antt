-- What follows after all buffers of a pair were pushed back.
use Rattle.std.proofs.Common.{◌≡◌, ◌≢◌, List, [], ◌++◌, Option, None, Result, Ok, Err, refl, subst}
use Rattle.std.proofs.Common.{⊎_elim}
use Rattle.mark_core.specs.declared.which.Which.{Which}
use Rattle.mark_core.specs.Events.{IsBusy}
use Rattle.buffer_pool.specs.Book.{Book}
use Rattle.buffer_pool.specs.Calls.{HeldBuffer}
use Rattle.work_pair.specs.Moves.{Move, Spent, Moved, HasPushOnFull, HasPopFromFull, EndAtLastTag, shelving_of}
use Rattle.work_pair.specs.PairState.{PairState, items_at, pair_items, IsBacked}
use Rattle.work_pair.specs.declared.stop.Stop.{Stop}
use Rattle.work_pair.specs.declared.stop.Stop.TheVariants.{TagSpent, OutOfMemory}
use Rattle.work_pair.specs.working.Steps.{Clears, ClearsAt, ClearAnswers, Trades, positions}
use Rattle.work_pair.proofs.Calls.{none_at}
use Rattle.work_pair.proofs.Renewing.{cleared}
use Rattle.work_pair.proofs.Trading.{at_first, at_second, at_third, backed_after, busy_then, end_on, on_and_on}
use Rattle.work_pair.proofs.Trading.{on_full_of, out_on, sized_after, spent_at, untouched}

-- a clearing continues with a trade, or stops at the last tag
module _ {p q : PairState} {b c : Book} (so_far : Clears p b q c) where
  abbrev clears_on : {r : PairState} {d : Book} (t : Trades q c [] [] r d)
      → (pair_items p ≡ [] → HasPushOnFull t.moves → ⊥) → (HasPopFromFull t.moves → ⊥) → Clears p b r d
  clears_on t quiet out =
      record {
        trades = on_and_on so_far.trades t;
        quiet = λ none push. ⊎_elim (so_far.quiet none) (quiet none) (on_full_of so_far.trades.moves t.moves push);
        out = out_on so_far.trades.moves t.moves so_far.out out;
      }

  stuck : (d : Book) (which : Which) → Moved (Spent which) c d
      → (all : Clears p b q d) × EndAtLastTag all.trades.moves
  stuck d which moved =
      let t : Trades q c [] [] q d = spent_at which moved (sized_after so_far.trades) in (
        clears_on t (λ none push. ⊎_elim (λ x. x) (λ x. x) push) (λ pop. ⊎_elim (λ x. x) (λ x. x) pop),
        end_on so_far.trades.moves t.moves ([], which, refl),
      )

-- the worker backs the buffers, and is not idle if they have items
module _ {f s t : Option HeldBuffer} {b : Book} (backed : IsBacked (positions f s t) [] b)
    (busy : pair_items (positions f s t) ≢ [] → IsBusy b.account) where
  pub first_busy : items_at f ≢ [] → IsBusy b.account
  first_busy some = busy (λ none. some (none_at f s t none).0)

  -- both still hold during a clearing
  module _ {q : PairState} {c : Book} (so_far : Clears (positions f s t) b q c) where
    pub backed_then : IsBacked q [] c
    backed_then = backed_after backed so_far.trades

    pub second_busy : items_at s ≢ [] → IsBusy c.account
    second_busy some = busy_then so_far.trades (busy (λ none. some (none_at f s t none).1))

    pub third_busy : items_at t ≢ [] → IsBusy c.account
    third_busy some = busy_then so_far.trades (busy (λ none. some (none_at f s t none).2))

  abbrev begun : Clears (positions f s t) b (positions f s t) b
  begun = record { trades = untouched backed.sized; quiet = λ none push. push; out = λ pop. pop }

  -- a clearing by the moves `moves`
  abbrev ClearsBy : List Move → PairState → Book → Type 0
  ClearsBy moves q c = (all : Clears (positions f s t) b q c) × (all.trades.moves ≡ moves)

  module _ (n : Option HeldBuffer) (c : Book) where
    -- after the first position
    pub first_cleared : (done : Unit) → ClearsAt f b n c (Ok done) → ClearsBy (shelving_of f) (positions n s t) c
    first_cleared done told =
        let r = cleared f b c told.1 in
        rw told.0 (clears_on begun (at_first r.0 backed.sized) (λ none. r.1 (none_at f s t none).0) r.2, r.3)

    pub first_stuck : (stop : Stop) → ClearsAt f b n c (Err stop)
        → ClearAnswers (positions f s t) b (positions n s t) c (Err stop)
    first_stuck OutOfMemory none = absurd none
    first_stuck (TagSpent token) told = rw told.0 (stuck begun c told.1.0 told.1.1)

    -- after the second position
    module _ (m : Option HeldBuffer) (d : Book) where
      pub second_cleared : ClearsBy (shelving_of f) (positions n s t) c → (done : Unit) → ClearsAt s c m d (Ok done)
          → ClearsBy (shelving_of f ++ shelving_of s) (positions n m t) d
      second_cleared first done told =
          let r = cleared s c d told.1 in
          rw told.0 (
            clears_on first.0 (at_second r.0 (sized_after first.0.trades)) (λ none. r.1 (none_at f s t none).1) r.2,
            λ k. first.1 k ++ r.3 k,
          )

      pub second_stuck : ClearsBy (shelving_of f) (positions n s t) c → (stop : Stop) → ClearsAt s c m d (Err stop)
          → ClearAnswers (positions f s t) b (positions n m t) d (Err stop)
      second_stuck first OutOfMemory none = absurd none
      second_stuck first (TagSpent token) told = rw told.0 (stuck first.0 d told.1.0 told.1.1)

      -- after the third position
      module _ (second : ClearsBy (shelving_of f ++ shelving_of s) (positions n m t) d) (k : Option HeldBuffer)
          (e : Book) where
        pub third_told : (r : Result Unit Stop) → n ≡ None → m ≡ None → ClearsAt t d k e r
            → ClearAnswers (positions f s t) b (positions n m k) e r
        third_told (Ok done) none₁ none₂ told =
            let r = cleared t d e told.1 in
            let moves = shelving_of f ++ shelving_of s ++ shelving_of t in
            subst (λ (x : Option HeldBuffer). ClearsBy moves (positions x None None) e) none₁
            (subst (λ (y : Option HeldBuffer). ClearsBy moves (positions n y None) e) none₂ (
              clears_on second.0 (at_third r.0 (sized_after second.0.trades)) (λ none. r.1 (none_at f s t none).2) r.2,
              λ k. second.1 k ++ r.3 k,
            ))
        third_told (Err OutOfMemory) none₁ none₂ none = absurd none
        third_told (Err (TagSpent token)) none₁ none₂ told = rw told.0 (stuck second.0 e told.1.0 told.1.1)
