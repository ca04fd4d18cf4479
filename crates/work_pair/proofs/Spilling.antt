-- The effects on a pair with a spill list follow from those on its buffers.
use Rattle.std.proofs.Common.{◌≡◌, ℕ, ◌+◌, Bool, true, List, [], ◌∷◌, ◌++◌, ap, arith}
use Rattle.mark_core.specs.Lists.{times, only}
use Rattle.mark_core.proofs.Sums.{sum_of-append}
use Rattle.buffer_pool.specs.Book.{Book}
use Rattle.work_pair.specs.Moves.{EndAtLastTag}
use Rattle.work_pair.specs.PairState.{PairState, pair_items, IsBacked}
use Rattle.work_pair.specs.CallEffects.{CallEffect}
use Rattle.work_pair.specs.working.Steps.{Trades}
use Rattle.work_pair.proofs.Effects.{moves_effect, moves_closed}
use Rattle.work_pair.proofs.Trading.{items_sum, sized_after}

-- the pair with spill list l
abbrev pub listed : PairState → List ℕ → Bool → Bool → PairState
listed p l was hungry = record p { spill = l; stopped = was; starved = hungry }

-- its objects are those of the list and those of the pair without a list
pub listed_sum : (o : ℕ) (p : PairState) (l : List ℕ) (was hungry : Bool) → p.spill ≡ []
    → times o (pair_items (listed p l was hungry)) ≡ times o l + times o (pair_items p)
listed_sum o p l was hungry bare =
    omega (arith, items_sum o p, items_sum o (listed p l was hungry), ap (times o) bare)

-- a worker that backs the listed pair backs its buffers alone, too
pub beside : {p : PairState} {l put : List ℕ} {was hungry : Bool} {b : Book} → p.spill ≡ []
    → IsBacked (listed p l was hungry) put b → IsBacked p put b
beside {p} {l} {put} {was} {hungry} bare backed =
    record {
      held = backed.held;
      charged = λ x. omega (
        arith,
        backed.charged x,
        listed_sum x p l was hungry bare,
        sum_of-append (only x) (pair_items (listed p l was hungry)) put,
        sum_of-append (only x) (pair_items p) put,
      );
      sized = record { first = backed.sized.first; second = backed.sized.second; third = backed.sized.third };
    }

-- a trade of the buffers as an effect on the pair, whose list may have taken in what was put, or yielded what was got
abbrev pub listed_effect : {p q : PairState} {l m took gave put got : List ℕ} {was hungry now starving : Bool}
    {b c : Book} → p.spill ≡ [] → q.spill ≡ []
    → ((o : ℕ) → times o m + times o got + times o took ≡ times o l + times o put + times o gave)
    → IsBacked (listed p l was hungry) put b → (u : Trades p b took gave q c) → (now ≡ true → EndAtLastTag u.moves)
    → CallEffect (listed p l was hungry) b put got (listed q m now starving) c
listed_effect {p} {q} {l} {m} {put} {got} {was} {hungry} {now} {starving} {b} {c} p_bare q_bare even backed u ends =
    let e = moves_effect u.moves b c u.books in
    let sized = sized_after u in
    record {
      moves = u.moves;
      books = u.books;
      items = λ o. omega (
        arith,
        u.items o,
        even o,
        listed_sum o p l was hungry p_bare,
        listed_sum o q m now starving q_bare,
      );
      buffers = u.buffers;
      filled = u.filled;
      charge = e.charge;
      held = e.held;
      kept = e.kept;
      backed =
          record {
            held = λ i. omega (arith, backed.held i, u.buffers i, e.held i);
            charged = λ o. omega (
              arith,
              backed.charged o,
              u.items o,
              even o,
              e.charge o,
              listed_sum o p l was hungry p_bare,
              listed_sum o q m now starving q_bare,
              sum_of-append (only o) (pair_items (listed p l was hungry)) put,
              sum_of-append (only o) (pair_items (listed q m now starving)) got,
            );
            sized = record { first = sized.first; second = sized.second; third = sized.third };
          };
      closed = moves_closed u.moves b c u.books;
      last_tag = ends;
    }

-- an object was added to the list
pub spilled : (l : List ℕ) (object o : ℕ)
    → times o (l ++ object ∷ []) + times o [] + times o [] ≡ times o l + times o (object ∷ []) + times o []
spilled l object o = omega (arith, sum_of-append (only o) l (object ∷ []))

-- the last object was taken from the list
pub unspilled : (rest : List ℕ) (object o : ℕ)
    → times o rest + times o (object ∷ []) + times o [] ≡ times o (rest ++ object ∷ []) + times o [] + times o []
unspilled rest object o = omega (arith, sum_of-append (only o) rest (object ∷ []))
