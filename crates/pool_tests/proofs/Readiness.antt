-- The state of a test's worker after a call.
use Rattle.std.proofs.Common.{◌≡◌, ℕ, ◌<◌, List, [], ◌∷◌, ◌++◌, Contains, cond}
use Rattle.std.proofs.Common.{eq-eqb, ap, sym, subst, ◌∙◌, inl, arith}
use Rattle.std.proofs.lemmas.List.FromFn.{length-range_with_len, get_or-range_with_len}
use Rattle.mark_core.specs.declared.which.Which.{Which}
use Rattle.mark_core.specs.Lists.{times, only}
use Rattle.mark_core.specs.World.{Setup}
use Rattle.mark_core.specs.Events.{CanClaim}
use Rattle.mark_core.proofs.Sums.{sum_of-append}
use Rattle.buffer_pool.specs.Book.{Book, claimed}
use Rattle.buffer_pool.specs.Calls.{HeldBuffer, Owner, PoolId, Pops}
use Rattle.buffer_pool.specs.declared.answers.Popped.{Popped}
use Rattle.buffer_pool.specs.declared.answers.Popped.TheVariants as pop
use Rattle.work_pair.specs.CallEffects.{CallEffect}
use Rattle.work_pair.specs.Moves.{Took, FoundNone, Spent}
use Rattle.work_pair.specs.PairState.{PairState, pair_items, IsBacked, IsOpen, AreOfSize}
use Rattle.pool_tests.specs.Ready.{IsReady, IsWorker}
use Rattle.pool_tests.specs.Rounds.{numbers}
use Rattle.work_pair.proofs.Effects.{move_effect}
use Rattle.work_pair.proofs.Trading.{backed_less}

is_root : (n o : ℕ) → o < n → Contains (numbers n) o
unfolding numbers
is_root n o below = (
  o,
  omega (arith, below, length-range_with_len 0 n),
  omega (arith, get_or-range_with_len 0 n o o below),
)

pub may_claim : (n o : ℕ) (pool : PoolId) (w : Owner) → IsWorker n pool w → o < n
    → CanClaim w.book.setup o w.book.account
may_claim n o pool w worker below = inl (subst (λ (rs : List ℕ). Contains rs o) (sym worker.roots) (is_root n o below))

-- a worker whose setup and idle number stay
pub still_worker : (n : ℕ) (pool : PoolId) (old new : Owner) → IsWorker n pool old → new.pool ≡ old.pool
    → new.book.setup ≡ old.book.setup → new.book.account.idle ≡ old.book.account.idle → IsWorker n pool new
still_worker n pool old new w same setup idle =
    record { same = same ∙ w.same; roots = ap (λ (e : Setup). e.roots) setup ∙ w.roots; idle = idle ∙ w.idle }

-- after one pop
pub popped_worker : (n : ℕ) (pool : PoolId) (q : Which) (old new : Owner) (r : Popped HeldBuffer)
    → IsWorker n pool old → new.pool ≡ old.pool → Pops q old.book new.book r → IsWorker n pool new
popped_worker n pool q old new (pop.Took h) w same popped =
    let e = move_effect (Took q h) old.book new.book popped in still_worker n pool old new w same e.setup e.idle
popped_worker n pool q old new pop.Empty w same popped =
    let e = move_effect (FoundNone q) old.book new.book popped in still_worker n pool old new w same e.setup e.idle
popped_worker n pool q old new pop.Spent w same popped =
    let e = move_effect (Spent q) old.book new.book (inl popped) in still_worker n pool old new w same e.setup e.idle

-- a white object was claimed
pub claimed_backed : (p : PairState) (o found : ℕ) (old new : Book) → new ≡ claimed o found old → found ≡ 0
    → IsBacked p [] old → IsBacked p (o ∷ []) new
claimed_backed p o found old new is white backed =
    let charge : new.account.charge ≡ old.account.charge ++ o ∷ [] = ap (λ (b : Book). b.account.charge) is
    ∙ ap (λ t. cond t (old.account.charge ++ o ∷ []) old.account.charge) (eq-eqb found 0 white) in
    record {
      held = λ x. omega (arith, backed.held x, ap (λ (b : Book). times x b.account.held) is);
      charged = λ x. omega (
        arith,
        backed.charged x,
        ap (times x) charge,
        sum_of-append (only x) old.account.charge (o ∷ []),
        sum_of-append (only x) (pair_items p) [],
        sum_of-append (only x) (pair_items p) (o ∷ []),
      );
      sized = subst (λ (e : Setup). AreOfSize e.size p) (sym (ap (λ (b : Book). b.setup) is)) backed.sized;
    }

-- after a call
pub ready_after : (n : ℕ) (pool : PoolId) (old new : Owner) (p q : PairState) (put got : List ℕ) → IsWorker n pool old
    → new.pool ≡ old.pool → IsOpen q → CallEffect p old.book put got q new.book → IsReady n pool new q
ready_after n pool old new p q put got w same going effect =
    record {
      worker = still_worker n pool old new w same effect.kept.setup effect.kept.idle;
      going = going;
      backed = backed_less q got new.book effect.backed;
    }

-- after a claim
pub claimed_worker : (n : ℕ) (pool : PoolId) (old new : Owner) (o found : ℕ) → IsWorker n pool old
    → new.pool ≡ old.pool
    → new.book ≡ claimed o found old.book → IsWorker n pool new
claimed_worker n pool old new o found w same is =
    still_worker n pool old new w same (ap (λ (b : Book). b.setup) is) (ap (λ (b : Book). b.account.idle) is)
