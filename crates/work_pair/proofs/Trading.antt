-- Trades in sequence: changes of a pair without a move, and effects on one of its positions.
use Rattle.std.proofs.Common.{◌≡◌, ◌⊎◌, ℕ, ◌+◌, ◌≤◌, List, [], ◌∷◌, ◌++◌, append_assoc, length, Option, None, refl, sym}
use Rattle.std.proofs.Common.{ap, subst, ◌∙◌, inl, inr, ⊎_elim, arith}
use Rattle.mark_core.specs.declared.which.Which.{Which}
use Rattle.mark_core.specs.Events.{IsBusy}
use Rattle.mark_core.specs.Lists.{times, only}
use Rattle.mark_core.specs.World.{Setup}
use Rattle.mark_core.proofs.Sums.{sum_of-append}
use Rattle.buffer_pool.specs.Book.{Book}
use Rattle.buffer_pool.specs.Calls.{HeldBuffer}
use Rattle.work_pair.specs.Moves.{Move, FoundNone, Spent, Moved, Moves, popped_items, popped_numbers, pushed_items}
use Rattle.work_pair.specs.Moves.{pushed_numbers, taken_items, taken_number, given_items, given_number, AreFilled}
use Rattle.work_pair.specs.Moves.{IsFilled, HasPushOnFull, HasPopFromFull, EndAtLastTag}
use Rattle.work_pair.specs.PairState.{PairState, buffered_items, items_at, buffer_number, pair_items, numbers_of}
use Rattle.work_pair.specs.PairState.{IsOfSize, AreOfSize, IsBacked}
use Rattle.work_pair.specs.working.Asks.{IsBackedAt}
use Rattle.work_pair.specs.working.Steps.{IsLocal, Renews, Trades, positions}
use Rattle.work_pair.proofs.Effects.{busy_after, moves_effect}

-- a list of length 0 is empty
pub none_in : (xs : List ℕ) → length xs ≤ 0 → xs ≡ []
none_in [] short = refl
none_in (x ∷ xs) short = absurd (omega (arith, short))

-- how often x is in the lists that `told` makes of the three positions, for example their items
abbrev pub in_positions : (Option HeldBuffer → List ℕ) → ℕ → PairState → ℕ
in_positions told x p = times x (told p.first) + times x (told p.second) + times x (told p.third)

positions_sum : (told : Option HeldBuffer → List ℕ) (x : ℕ) (p : PairState)
    → times x (told p.first ++ told p.second ++ told p.third) ≡ in_positions told x p
positions_sum told x p = omega (
  arith,
  sum_of-append (only x) (told p.first ++ told p.second) (told p.third),
  sum_of-append (only x) (told p.first) (told p.second),
)

pub items_sum : (o : ℕ) (p : PairState) → times o (pair_items p) ≡ times o p.spill + in_positions items_at o p
items_sum o p = omega (arith, sum_of-append (only o) p.spill (buffered_items p), positions_sum items_at o p)

pub numbers_sum : (i : ℕ) (p : PairState) → times i (numbers_of p) ≡ in_positions buffer_number i p
numbers_sum i p = positions_sum buffer_number i p

-- moves may be continued by further moves
pub moves_on : (ms ns : List Move) (a b c : Book) → Moves a ms b → Moves b ns c → Moves a (ms ++ ns) c
moves_on [] ns a b c same then_ns = subst (λ (x : Book). Moves x ns c) same then_ns
moves_on (m ∷ ms) ns a b c p then_ns = (p.0, p.1, moves_on ms ns p.0 b c p.2 then_ns)

pub filled_on : (ms ns : List Move) → AreFilled ms → AreFilled ns → AreFilled (ms ++ ns)
filled_on [] ns f g = g
filled_on (m ∷ ms) ns f g = (f.0, filled_on ms ns f.1 g)

pub on_full_of : (ms ns : List Move) → HasPushOnFull (ms ++ ns) → HasPushOnFull ms ⊎ HasPushOnFull ns
on_full_of [] ns h = inr h
on_full_of (m ∷ ms) ns h = ⊎_elim (λ k. inl (inl k)) (λ k. ⊎_elim (λ l. inl (inr l)) inr (on_full_of ms ns k)) h

pub from_full_of : (ms ns : List Move) → HasPopFromFull (ms ++ ns) → HasPopFromFull ms ⊎ HasPopFromFull ns
from_full_of [] ns h = inr h
from_full_of (m ∷ ms) ns h = ⊎_elim (λ k. inl (inl k)) (λ k. ⊎_elim (λ l. inl (inr l)) inr (from_full_of ms ns k)) h

pub out_on : (ms ns : List Move) → (HasPopFromFull ms → ⊥) → (HasPopFromFull ns → ⊥) → HasPopFromFull (ms ++ ns) → ⊥
out_on ms ns no_m no_n pop = ⊎_elim no_m no_n (from_full_of ms ns pop)

pub end_on : (ms ns : List Move) → EndAtLastTag ns → EndAtLastTag (ms ++ ns)
end_on ms ns e = (ms ++ e.0, e.1, ap (λ (xs : List Move). ms ++ xs) e.2 ∙ sym (append_assoc ms e.0 (Spent e.1 ∷ [])))

-- if `all` joins the lists that `told` makes of each move, x is in it as often as in its two parts
module _ (told : Move → List ℕ) (all : List Move → List ℕ) (none : all [] ≡ [])
    (more : (m : Move) (ms : List Move) → all (m ∷ ms) ≡ told m ++ all ms) (x : ℕ) where
  counted_on : (ms ns : List Move) → times x (all (ms ++ ns)) ≡ times x (all ms) + times x (all ns)
  counted_on [] ns = omega (arith, ap (times x) none)
  counted_on (m ∷ ms) ns = omega (
    arith,
    counted_on ms ns,
    ap (times x) (more m ms),
    ap (times x) (more m (ms ++ ns)),
    sum_of-append (only x) (told m) (all ms),
    sum_of-append (only x) (told m) (all (ms ++ ns)),
  )

pub popped_items_on : (o : ℕ) (ms ns : List Move)
    → times o (popped_items (ms ++ ns)) ≡ times o (popped_items ms) + times o (popped_items ns)
popped_items_on = counted_on taken_items popped_items refl (λ m ms. refl)

pub pushed_items_on : (o : ℕ) (ms ns : List Move)
    → times o (pushed_items (ms ++ ns)) ≡ times o (pushed_items ms) + times o (pushed_items ns)
pushed_items_on = counted_on given_items pushed_items refl (λ m ms. refl)

pub popped_numbers_on : (i : ℕ) (ms ns : List Move)
    → times i (popped_numbers (ms ++ ns)) ≡ times i (popped_numbers ms) + times i (popped_numbers ns)
popped_numbers_on = counted_on taken_number popped_numbers refl (λ m ms. refl)

pub pushed_numbers_on : (i : ℕ) (ms ns : List Move)
    → times i (pushed_numbers (ms ++ ns)) ≡ times i (pushed_numbers ms) + times i (pushed_numbers ns)
pushed_numbers_on = counted_on given_number pushed_numbers refl (λ m ms. refl)

-- a change of the pair is a trade without a move
abbrev pub still : {old new : PairState} {put got : List ℕ} {b : Book} → IsLocal old new put got
    → AreOfSize b.setup.size old → Trades old b put got new b
still {b} l sized =
    record {
      moves = [];
      books = refl;
      items = λ o. omega (arith, l.items o);
      buffers = λ i. omega (arith, l.buffers i);
      filled = tt;
      sized = l.sized b.setup.size sized;
    }

-- a trade in which nothing was done
abbrev pub untouched : {p : PairState} {b : Book} → AreOfSize b.setup.size p → Trades p b [] [] p b
untouched sized = still (record { items = λ o. omega arith; buffers = λ i. refl; sized = λ size of. of }) sized

module _ {old new : PairState} {b c : Book} {put got : List ℕ} where
  pub sized_after : Trades old b put got new c → AreOfSize c.setup.size new
  sized_after t = rw (moves_effect t.moves b c t.books).setup t.sized

  -- a worker that is not idle stays so
  pub busy_then : Trades old b put got new c → IsBusy b.account → IsBusy c.account
  busy_then t = busy_after t.moves b c t.books

  -- a worker that backs a pair still backs it after a trade, together with what was got
  pub backed_after : IsBacked old put b → Trades old b put got new c → IsBacked new got c
  backed_after backed t =
      let e = moves_effect t.moves b c t.books in
      record {
        held = λ x. omega (arith, backed.held x, t.buffers x, e.held x);
        charged = λ x. omega (
          arith,
          backed.charged x,
          t.items x,
          e.charge x,
          sum_of-append (only x) (pair_items old) put,
          sum_of-append (only x) (pair_items new) got,
        );
        sized = sized_after t;
      }

-- two trades in sequence are one
abbrev pub on_and_on : {old mid new : PairState} {b c d : Book} {put got : List ℕ} → Trades old b [] [] mid c
    → Trades mid c put got new d → Trades old b put got new d
on_and_on {new} {b} {c} {d} s t =
    record {
      moves = s.moves ++ t.moves;
      books = moves_on s.moves t.moves b c d s.books t.books;
      items = λ o. omega (
        arith,
        s.items o,
        t.items o,
        popped_items_on o s.moves t.moves,
        pushed_items_on o s.moves t.moves,
      );
      buffers = λ i. omega (
        arith,
        s.buffers i,
        t.buffers i,
        popped_numbers_on i s.moves t.moves,
        pushed_numbers_on i s.moves t.moves,
      );
      filled = filled_on s.moves t.moves s.filled t.filled;
      sized =
          subst (λ (e : Setup). AreOfSize e.size new) (moves_effect s.moves b c s.books).setup t.sized;
    }

-- an effect on one position is one on the pair, if the contents of the positions are otherwise the same
abbrev renewed : (p q : PairState) {f g third : Option HeldBuffer} {b c : Book} → q.spill ≡ p.spill
    → ((told : Option HeldBuffer → List ℕ) (x : ℕ) → told None ≡ []
    → in_positions told x q + times x (told f) ≡ in_positions told x p + times x (told g) + times x (told third))
    → Renews f b g third c → AreOfSize b.setup.size q → Trades p b [] [] q c
renewed p q spill even r sized =
    record {
      moves = r.moves;
      books = r.books;
      items = λ o. omega (
        arith,
        r.items o,
        even items_at o refl,
        items_sum o p,
        items_sum o q,
        ap (times o) spill,
      );
      buffers = λ i. omega (arith, r.buffers i, even buffer_number i refl, numbers_sum i p, numbers_sum i q);
      filled = r.filled;
      sized = sized;
    }

-- a vacant position has nothing
pub none_told : {t : Option HeldBuffer} → t ≡ None → (told : Option HeldBuffer → List ℕ) (x : ℕ) → told None ≡ []
    → times x (told t) ≡ 0
none_told vacant told x none = ap (λ (p : Option HeldBuffer). times x (told p)) vacant ∙ ap (times x) none

-- the third position was vacant, and gets what is left over from the first, or from the second
module _ {f s t g third : Option HeldBuffer} {b c : Book} (vacant : t ≡ None) where
  abbrev pub first_renewed : Renews f b g third c → IsOfSize b.setup.size s
      → Trades (positions f s t) b [] [] (positions g s third) c
  first_renewed r sized =
      renewed (positions f s t) (positions g s third) refl
      (λ told x none. omega (arith, none_told vacant told x none)) r
      (record { first = r.sized; second = sized; third = r.left_sized })

  abbrev pub second_renewed : Renews s b g third c → IsOfSize b.setup.size f
      → Trades (positions f s t) b [] [] (positions f g third) c
  second_renewed r sized =
      renewed (positions f s t) (positions f g third) refl
      (λ told x none. omega (arith, none_told vacant told x none)) r
      (record { first = sized; second = r.sized; third = r.left_sized })

-- an effect on one position, with the others as they were
module _ {f s t g : Option HeldBuffer} {b c : Book} where
  abbrev pub at_first : Renews f b g None c → AreOfSize b.setup.size (positions f s t)
      → Trades (positions f s t) b [] [] (positions g s t) c
  at_first r sized =
      renewed (positions f s t) (positions g s t) refl (λ told x none. omega (arith, ap (times x) none)) r
      (record { first = r.sized; second = sized.second; third = sized.third })

  abbrev pub at_second : Renews s b g None c → AreOfSize b.setup.size (positions f s t)
      → Trades (positions f s t) b [] [] (positions f g t) c
  at_second r sized =
      renewed (positions f s t) (positions f g t) refl (λ told x none. omega (arith, ap (times x) none)) r
      (record { first = sized.first; second = r.sized; third = sized.third })

  abbrev pub at_third : Renews t b g None c → AreOfSize b.setup.size (positions f s t)
      → Trades (positions f s t) b [] [] (positions f s g) c
  at_third r sized =
      renewed (positions f s t) (positions f s g) refl (λ told x none. omega (arith, ap (times x) none)) r
      (record { first = sized.first; second = sized.second; third = r.sized })

-- a worker that backs a pair backs each of its positions
module _ {p : PairState} {besides : List ℕ} {b : Book} (backed : IsBacked p besides b) where
  at_position : (h : Option HeldBuffer)
      → ((told : Option HeldBuffer → List ℕ) (x : ℕ) → times x (told h) ≤ in_positions told x p)
      → IsOfSize b.setup.size h → IsBackedAt h b
  at_position h among sized =
      record {
        held = λ i. omega (arith, backed.held i, among buffer_number i, numbers_sum i p);
        charged = λ o. omega (
          arith,
          backed.charged o,
          among items_at o,
          items_sum o p,
          sum_of-append (only o) (pair_items p) besides,
        );
        sized = sized;
      }

  pub first_backed : IsBackedAt p.first b
  first_backed = at_position p.first (λ told x. omega arith) backed.sized.first

  pub second_backed : IsBackedAt p.second b
  second_backed = at_position p.second (λ told x. omega arith) backed.sized.second

  pub third_backed : IsBackedAt p.third b
  third_backed = at_position p.third (λ told x. omega arith) backed.sized.third

-- a worker that backs a pair and the objects `besides` backs the pair alone
pub backed_less : (p : PairState) (besides : List ℕ) (b : Book) → IsBacked p besides b → IsBacked p [] b
backed_less p besides b backed =
    record {
      held = backed.held;
      charged = λ x. omega (
        arith,
        backed.charged x,
        sum_of-append (only x) (pair_items p) besides,
        sum_of-append (only x) (pair_items p) [],
      );
      sized = backed.sized;
    }

-- a move that neither pops nor pushes a buffer
abbrev pub IsIdle : Move → Type 0
IsIdle move = (given_items move ≡ taken_items move) × (given_number move ≡ taken_number move) × IsFilled move

abbrev looks : {p : PairState} {b c : Book} (move : Move) → Moved move b c → IsIdle move → AreOfSize b.setup.size p
    → Trades p b [] [] p c
looks {c} move moved idle sized =
    record {
      moves = move ∷ [];
      books = (c, moved, refl);
      items = λ o. omega (arith, ap (λ (xs : List ℕ). times o (xs ++ [])) idle.0);
      buffers = λ i. omega (arith, ap (λ (xs : List ℕ). times i (xs ++ [])) idle.1);
      filled = (idle.2, tt);
      sized = sized;
    }

-- a stack was found empty, or at its last tag
module _ {p : PairState} {b c : Book} (q : Which) where
  abbrev pub found_none_at : Moved (FoundNone q) b c → AreOfSize b.setup.size p → Trades p b [] [] p c
  found_none_at moved = looks (FoundNone q) moved (refl, refl, tt)

  abbrev pub spent_at : Moved (Spent q) b c → AreOfSize b.setup.size p → Trades p b [] [] p c
  spent_at moved = looks (Spent q) moved (refl, refl, tt)
