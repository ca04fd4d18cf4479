-- What follows after a pair was opened, or could not be.
use Rattle.std.proofs.Common.{◌≡◌, ℕ, Bool, true, false, List, [], ◌∷◌, ◌++◌, Option, Some, None, Ok, Err, refl, subst}
use Rattle.std.proofs.Common.{inl, inr, ⊎_elim, arith}
use Rattle.mark_core.specs.declared.which.Which.{Which}
use Rattle.mark_core.specs.declared.which.Which.TheVariants.{Empty}
use Rattle.mark_core.specs.Events.{IsBusy}
use Rattle.mark_core.specs.Lists.{only}
use Rattle.mark_core.proofs.Sums.{sum_of-append}
use Rattle.buffer_pool.specs.Book.{Book}
use Rattle.buffer_pool.specs.Calls.{HeldBuffer}
use Rattle.work_pair.specs.CallEffects.{CallEffect, IsTagSpent, OpensNone, OpensTwo, TouchesNoFull}
use Rattle.work_pair.specs.Moves.{Move, Took, Gave, FoundNone, Spent, Moved, HasPushOnFull, HasPopFromFull, IsFromFull}
use Rattle.work_pair.specs.Moves.{IsOnFull, WasSeenEmpty, EndAtLastTag, shelf_of}
use Rattle.work_pair.specs.PairState.{PairState, empty_pair, IsBacked, IsNew}
use Rattle.work_pair.specs.declared.stop.Stop.{Stop}
use Rattle.work_pair.specs.declared.stop.Stop.TheVariants.{TagSpent, OutOfMemory}
use Rattle.work_pair.specs.working.Asks.{IsBackedAt}
use Rattle.work_pair.specs.working.Steps.{ClearsAt, PopsOne, Renews, Trades, positions}
use Rattle.work_pair.proofs.Effects.{found_none, move_effect}
use Rattle.work_pair.proofs.Renewing.{cleared, took_size}
use Rattle.work_pair.proofs.Spilling.{listed, listed_effect}
use Rattle.work_pair.proofs.Trading.{at_first, at_second, backed_after, busy_then, end_on, first_backed, found_none_at}
use Rattle.work_pair.proofs.Trading.{on_and_on, on_full_of, out_on, sized_after, spent_at}

-- moves that neither push on full nor pop from it
abbrev AreQuiet : List Move → Type 0
AreQuiet ms = (HasPushOnFull ms → ⊥) × (HasPopFromFull ms → ⊥)

alone : (m : Move) → (IsOnFull m → ⊥) → (IsFromFull m → ⊥) → AreQuiet (m ∷ [])
alone m no_push no_pop = (λ push. ⊎_elim no_push (λ x. x) push, λ pop. ⊎_elim no_pop (λ x. x) pop)

quiet_on : (ms ns : List Move) → AreQuiet ms → AreQuiet ns → AreQuiet (ms ++ ns)
quiet_on ms ns one more =
    (λ push. ⊎_elim one.0 more.0 (on_full_of ms ns push), out_on ms ns one.1 more.1)

-- a worker backs a pair without buffers and objects
nothing_backed : (b : Book) → IsBacked empty_pair [] b
nothing_backed b = record {
  held = λ x. omega arith;
  charged = λ x. omega arith;
  sized = record { first = tt; second = tt; third = tt };
}

-- a stop at the last tag, with a pair that keeps what was popped
abbrev StopsWith : Book → Book → Stop → Type 0
StopsWith b c stop = IsTagSpent stop × ((left : PairState) × (left.stopped ≡ true)
    × TouchesNoFull empty_pair b left c)

-- the trades since the start, from an empty pair
module _ {b c : Book} {x y z : Option HeldBuffer} (u : Trades empty_pair b [] [] (positions x y z) c) where
  abbrev from_nothing : (now : Bool) → (now ≡ true → EndAtLastTag u.moves)
      → CallEffect empty_pair b [] [] (listed (positions x y z) [] now false) c
  from_nothing now ends = listed_effect refl refl (λ o. refl) (nothing_backed b) u ends

  abbrev quietly : (now : Bool) → (now ≡ true → EndAtLastTag u.moves) → AreQuiet u.moves
      → TouchesNoFull empty_pair b (listed (positions x y z) [] now false) c
  quietly now ends quiet = (from_nothing now ends, quiet.0, quiet.1)

  stops_with : (stop : Stop) → IsTagSpent stop → AreQuiet u.moves → EndAtLastTag u.moves → StopsWith b c stop
  stops_with stop at_tag quiet ends =
      (at_tag, (listed (positions x y z) [] true false, refl, quietly true (λ stopped. ends) quiet))

-- a buffer was popped into a vacant position
module _ (h : HeldBuffer) (b c : Book) (took : PopsOne Empty b c (Ok (Some h))) where
  abbrev taken : Renews None b (Some h) None c
  taken =
      record {
        moves = Took Empty h ∷ [];
        books = (c, took, refl);
        items = λ o. omega (arith, sum_of-append (only o) h.items []);
        buffers = λ i. omega arith;
        filled = (tt, tt);
        sized = took_size Empty h b c took;
        left_sized = tt;
      }

-- single moves that are quiet
took_quiet : (h : HeldBuffer) → AreQuiet (Took Empty h ∷ [])
took_quiet h = alone (Took Empty h) (λ x. x) (λ x. x)

none_quiet : AreQuiet (FoundNone Empty ∷ [])
none_quiet = alone (FoundNone Empty) (λ x. x) (λ x. x)

spent_quiet : (q : Which) → AreQuiet (Spent q ∷ [])
spent_quiet q = alone (Spent q) (λ x. x) (λ x. x)

module _ (b : Book) where
  pub first_stopped : (c : Book) (stop : Stop) → PopsOne Empty b c (Err stop) → StopsWith b c stop
  first_stopped c OutOfMemory none = absurd none
  first_stopped c (TagSpent token) moved =
      let u : Trades empty_pair b [] [] empty_pair c = spent_at Empty moved (nothing_backed b).sized in
      stops_with u (TagSpent token) tt (spent_quiet Empty) ([], Empty, refl)

  module _ (c : Book) (moved : PopsOne Empty b c (Ok None)) where
    abbrev missing : Trades empty_pair b [] [] empty_pair c
    missing = found_none_at Empty moved (nothing_backed b).sized

    pub first_missing : TouchesNoFull empty_pair b empty_pair c × WasSeenEmpty Empty b c
    first_missing = (quietly missing false (λ x. cc) none_quiet, found_none Empty b c moved)

    pub first_unfound : OpensNone b c
    first_unfound = (from_nothing missing false (λ x. cc), inl (refl {a = FoundNone Empty ∷ []}))

  module _ (h : HeldBuffer) (mid : Book) (took : PopsOne Empty b mid (Ok (Some h))) where
    abbrev just : PairState
    just = positions (Some h) None None

    abbrev one : Trades empty_pair b [] [] just mid
    one = at_first (taken h b mid took) (nothing_backed b).sized

    pub one_busy : IsBusy b.account → IsBusy mid.account
    one_busy = busy_then one

    pub second_stopped : (c : Book) (stop : Stop) → PopsOne Empty mid c (Err stop) → StopsWith b c stop
    second_stopped c OutOfMemory none = absurd none
    second_stopped c (TagSpent token) moved =
        let last : Trades just mid [] [] just c = spent_at Empty moved (sized_after one) in
        stops_with (on_and_on one last) (TagSpent token) tt
        (quiet_on one.moves last.moves (took_quiet h) (spent_quiet Empty))
        (end_on one.moves last.moves ([], Empty, refl))

    -- a second buffer was found
    module _ (k : HeldBuffer) (c : Book) (more : PopsOne Empty mid c (Ok (Some k))) where
      abbrev pair : Trades empty_pair b [] [] (positions (Some h) (Some k) None) c
      pair = on_and_on one (at_second (taken k mid c more) (sized_after one))

      pub both_taken : IsNew (positions (Some h) (Some k) None)
          × TouchesNoFull empty_pair b (positions (Some h) (Some k) None) c
      both_taken = (
        record {
          going = record { going = refl; third = refl };
          none_spilled = refl;
          fed = refl;
          first = (h, refl, took.2.6 refl);
          second = (k, refl, more.2.6 refl);
        },
        quietly pair false (λ x. cc) (quiet_on (Took Empty h ∷ []) (Took Empty k ∷ []) (took_quiet h) (took_quiet k)),
      )

      pub opens_two : OpensTwo b (positions (Some h) (Some k) None) c
      opens_two =
          (from_nothing pair false (λ x. cc), h, k, refl {a = Took Empty h ∷ Took Empty k ∷ []}, refl, refl)

    -- no second buffer was found
    module _ (c : Book) (none : PopsOne Empty mid c (Ok None)) where
      abbrev two : Trades empty_pair b [] [] just c
      two = on_and_on one (found_none_at Empty none (sized_after one))

      two_quiet : AreQuiet two.moves
      two_quiet = quiet_on (Took Empty h ∷ []) (FoundNone Empty ∷ []) (took_quiet h) none_quiet

      all_backed : IsBacked just [] c
      all_backed = backed_after (nothing_backed b) two

      pub back_backed : IsBackedAt (Some h) c
      back_backed = first_backed all_backed

      pub back_busy : IsBusy b.account → IsBusy c.account
      back_busy = busy_then two

      -- then the first was pushed back, or a last tag stopped that
      module _ (n : Option HeldBuffer) (d : Book) where
        abbrev given : Renews (Some h) c None None d → Trades empty_pair b [] [] empty_pair d
        given r = on_and_on two (at_first r all_backed.sized)

        pub given_back : (done : Unit) → ClearsAt (Some h) c n d (Ok done)
            → TouchesNoFull empty_pair b empty_pair d × WasSeenEmpty Empty b d
        given_back done told =
            let r = cleared (Some h) c d told.1 in
            let e₁ = move_effect (Took Empty h) b mid took in
            let seen = found_none Empty mid c none in
            let e₃ = move_effect (Gave (shelf_of h.items) h) c d told.1 in (
              quietly (given r.0) false (λ x. cc)
                  (quiet_on two.moves r.0.moves two_quiet (r.1 (took.2.6 refl), r.2)),
              omega (arith, e₁.empties, seen, e₃.empties),
            )

        -- it was pushed on the empty stack, since it has no items
        pub gave_back : (done : Unit) → ClearsAt (Some h) c n d (Ok done) → OpensNone b d
        gave_back done told =
            let back : Moved (Gave Empty h) c d =
            subst (λ (xs : List ℕ). Moved (Gave (shelf_of xs) h) c d) (took.2.6 refl) told.1 in
            let r : Renews (Some h) c None None d =
            record {
              moves = Gave Empty h ∷ [];
              books = (d, back, refl);
              items = λ o. omega (arith, sum_of-append (only o) h.items []);
              buffers = λ i. omega arith;
              filled = (tt, tt);
              sized = tt;
              left_sized = tt;
            } in (
              from_nothing (given r) false (λ x. cc),
              inr (h, refl {a = Took Empty h ∷ FoundNone Empty ∷ Gave Empty h ∷ []}),
            )

        pub back_stopped : (stop : Stop) → ClearsAt (Some h) c n d (Err stop) → StopsWith b d stop
        back_stopped OutOfMemory none_such = absurd none_such
        back_stopped (TagSpent token) told =
            let last : Trades just c [] [] just d = spent_at told.1.0 told.1.1 all_backed.sized in
            stops_with (on_and_on two last) (TagSpent token) tt
            (quiet_on two.moves last.moves two_quiet (spent_quiet told.1.0))
            (end_on two.moves last.moves ([], told.1.0, refl))
