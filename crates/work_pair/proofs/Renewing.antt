-- The effect of calls on one position.
use Rattle.std.proofs.Common.{◌≡◌, ◌≢◌, ℕ, ◌+◌, Bool, true, false, Contains, List, [], ◌∷◌, ◌++◌, Option, Some, None}
use Rattle.std.proofs.Common.{Ok, Err, refl, sym, ap, subst, ◌∙◌, inl, inr, ⊎_elim, arith, length, ◌-◌, ◌/◌}
use Rattle.std.proofs.lemmas.List.{append-nil, length-take, take-append-drop}
use Rattle.mark_core.specs.declared.which.Which.{Which}
use Rattle.mark_core.specs.declared.which.Which.TheVariants.{Full, Empty}
use Rattle.mark_core.specs.Events.{IsBusy}
use Rattle.mark_core.specs.Lists.{times, only, IsPart}
use Rattle.mark_core.specs.World.{Setup}
use Rattle.mark_core.proofs.Sums.{only-same, times_stands, sum_of-append}
use Rattle.buffer_pool.specs.Book.{Book}
use Rattle.buffer_pool.specs.Calls.{HeldBuffer, Owner, PoolId}
use Rattle.work_pair.specs.CallEffects.{lower_part, upper_half}
use Rattle.work_pair.specs.Moves.{Move, Took, Gave, FoundNone, Spent, Moved, Moves, IsFilled, AreFilled, HasPushOnFull}
use Rattle.work_pair.specs.Moves.{IsFromFull, IsOnFull, HasPopFromFull, popped_items, popped_numbers, pushed_items}
use Rattle.work_pair.specs.Moves.{pushed_numbers, shelf_of, shelving_of}
use Rattle.work_pair.specs.PairState.{items_at, buffer_number, IsOfSize}
use Rattle.work_pair.specs.declared.stop.Stop.{Stop}
use Rattle.work_pair.specs.declared.stop.Stop.TheVariants.{TagSpent, OutOfMemory}
use Rattle.work_pair.specs.working.Asks.{IsBackedAt, MayRenew}
use Rattle.work_pair.specs.working.Steps.{IsFull, Leaves, PopsOne, PublishesAt, PutsOut, Renews, RenewAnswers}
use Rattle.work_pair.specs.working.Steps.{next_of, pushed_part}
use Rattle.work_pair.proofs.Looks.{lost_pops}
use Rattle.work_pair.proofs.Effects.{busy_after, found_none, move_effect}
use Rattle.work_pair.proofs.Trading.{IsIdle, none_in, none_told}

-- a buffer goes on the full stack if it has items, and on the empty stack otherwise
filled_shelf : (h : HeldBuffer) → IsFilled (Gave (shelf_of h.items) h)
filled_shelf h = go h.items refl
  where
    go : (items : List ℕ) → h.items ≡ items → IsFilled (Gave (shelf_of items) h)
    go [] is = tt
    go (o ∷ os) is = λ none. let e : [] ≡ o ∷ os = sym none ∙ is in cc

shelf_full : (h : HeldBuffer) → h.items ≢ [] → IsOnFull (Gave (shelf_of h.items) h)
shelf_full h some = go h.items refl
  where
    go : (items : List ℕ) → h.items ≡ items → IsOnFull (Gave (shelf_of items) h)
    go [] is = absurd (some is)
    go (o ∷ os) is = tt

shelf_quiet : (h : HeldBuffer) → h.items ≡ [] → IsOnFull (Gave (shelf_of h.items) h) → ⊥
shelf_quiet h none = subst (λ (items : List ℕ). IsOnFull (Gave (shelf_of items) h) → ⊥) (sym none) (λ x. x)

-- moves that push the buffer at a position and pop none: on full if it has items, and not on full if it has none
record IsPushOf (position : Option HeldBuffer) (moves : List Move) : Type 0 where
  given : pushed_items moves ≡ items_at position
  number : pushed_numbers moves ≡ buffer_number position
  none : popped_items moves ≡ []
  no_number : popped_numbers moves ≡ []
  filled : AreFilled moves
  full : items_at position ≢ [] → HasPushOnFull moves
  quiet : items_at position ≡ [] → HasPushOnFull moves → ⊥
  out : HasPopFromFull moves → ⊥

shelving : (position : Option HeldBuffer) → IsPushOf position (shelving_of position)
shelving None = grind arith
shelving (Some h) =
    record {
      given = append-nil h.items;
      number = refl;
      none = refl;
      no_number = refl;
      filled = (filled_shelf h, tt);
      full = λ some. inl (shelf_full h some);
      quiet = λ none push. ⊎_elim (shelf_quiet h none) (λ x. x) push;
      out = λ pop. ⊎_elim (λ x. x) (λ x. x) pop;
    }

shelved : (position : Option HeldBuffer) (b c : Book) → Leaves position b c → Moves b (shelving_of position) c
shelved None b c left = left
shelved (Some h) b c left = (c, left, refl)

-- only a pop from full takes a buffer from full
from_full : (q : Which) (h : HeldBuffer) → IsFromFull (Took q h) → IsFull q
from_full Full h took = tt
from_full Empty h none = absurd none

-- a position that may be renewed and is as it was
module _ {w : Owner} {pool : PoolId} {position third : Option HeldBuffer} (may : MayRenew w pool position third) where
  left_sized : IsOfSize w.book.setup.size third
  left_sized = rw may.vacant tt

  pub publish_nothing : items_at position ≡ [] → PublishesAt position w.book position third w.book (Ok tt)
  publish_nothing none =
      let r : Renews position w.book position third w.book =
      record {
        moves = [];
        books = refl;
        items = λ o. omega (arith, none_told may.vacant items_at o refl);
        buffers = λ i. omega (arith, none_told may.vacant buffer_number i refl);
        filled = tt;
        sized = may.backed.sized;
        left_sized = left_sized;
      } in (r, may.vacant, inr none, λ pop. pop, inl (refl, none, refl))

  module _ (half : Bool) (c : Book) where
    abbrev unchanged : (move : Move) → Moved move w.book c → IsIdle move → Renews position w.book position third c
    unchanged move moved idle =
        record {
          moves = move ∷ [];
          books = (c, moved, refl);
          items = λ o. omega (
            arith,
            ap (λ (xs : List ℕ). times o (xs ++ [])) idle.0,
            none_told may.vacant items_at o refl,
          );
          buffers = λ i. omega (
            arith,
            ap (λ (xs : List ℕ). times i (xs ++ [])) idle.1,
            none_told may.vacant buffer_number i refl,
          );
          filled = (idle.2, tt);
          sized = may.backed.sized;
          left_sized = left_sized;
        }

    pub found_nothing : PopsOne Empty w.book c (Ok None)
        → RenewAnswers half Empty position w.book position third c (Ok false)
    found_nothing moved = (
      unchanged (FoundNone Empty) moved (refl, refl, tt),
      may.vacant,
      refl,
      found_none Empty w.book c moved,
      refl,
    )

    pub stopped_at_once : (stop : Stop) → PopsOne Empty w.book c (Err stop)
        → RenewAnswers half Empty position w.book position third c (Err stop)
    stopped_at_once (TagSpent token) moved =
        (unchanged (Spent Empty) moved (refl, refl, tt), ([], Empty, refl), λ pop. ⊎_elim (λ x. x) (λ x. x) pop)
    stopped_at_once OutOfMemory none = absurd none

-- the objects that are pushed and those at the position after it are those at the position before it and those popped
parts_share : (half : Bool) (old : Option HeldBuffer) (h : HeldBuffer) → (half ≡ true → h.items ≡ []) → (o : ℕ)
    → times o (items_at (pushed_part half old)) + times o (next_of half old h).items
    ≡ times o (items_at old) + times o h.items
parts_share false old h bare o = refl
parts_share true None h bare o = omega (arith, ap (times o) (bare refl))
parts_share true (Some k) h bare o =
    omega (
      arith,
      sum_of-append (only o) (lower_part k.items) (upper_half k.items),
      ap (times o) (take-append-drop (length k.items - length k.items / 2) k.items),
      ap (times o) (bare refl),
    )

part_number : (half : Bool) (old : Option HeldBuffer) → buffer_number (pushed_part half old) ≡ buffer_number old
part_number false old = refl
part_number true None = refl
part_number true (Some k) = refl

part_sized : (half : Bool) (size : ℕ) (old : Option HeldBuffer) → IsOfSize size old
    → IsOfSize size (pushed_part half old)
part_sized false size old sized = sized
part_sized true size None sized = tt
part_sized true size (Some k) sized = sized

part_some : (half : Bool) (old : Option HeldBuffer) → items_at old ≢ [] → items_at (pushed_part half old) ≢ []
part_some false old some = some
part_some true None some = some
part_some true (Some k) some =
    let count = length k.items - length k.items / 2 in
    λ none. some (none_in k.items (omega (arith, ap length none, length-take count k.items)))

next_number : (half : Bool) (old : Option HeldBuffer) (h : HeldBuffer) → (next_of half old h).index ≡ h.index
next_number false old h = refl
next_number true old h = refl

next_size : (half : Bool) (old : Option HeldBuffer) (h : HeldBuffer) → (next_of half old h).size ≡ h.size
next_size false old h = refl
next_size true old h = refl

-- after a pop the worker is still not idle, and the buffer is of the pool's size
module _ (q : Which) (h : HeldBuffer) (b mid : Book) (took : Moved (Took q h) b mid) where
  pub still_busy : IsBusy b.account → IsBusy mid.account
  still_busy = busy_after (Took q h ∷ []) b mid (mid, took, refl)

  pub took_size : h.size ≡ b.setup.size
  took_size = took.2.4 ∙ ap (λ (e : Setup). e.size) (lost_pops q b took.0 took.1).setup

-- buffer h was popped; the buffer at the position, or its lower part, is pushed next
module _ (half : Bool) (q : Which) (h : HeldBuffer) (mid : Book) {old : Option HeldBuffer} {b : Book}
    (backed : IsBackedAt old b) (took : Moved (Took q h) b mid) (bare : half ≡ true → q ≡ Empty) where
  shared : (o : ℕ) → times o (items_at (pushed_part half old)) + times o (next_of half old h).items
      ≡ times o (items_at old) + times o h.items
  shared = parts_share half old h (λ is. took.2.6 (bare is))

  -- the pop keeps what the push requires
  pub still_backed : IsBackedAt (pushed_part half old) mid
  still_backed =
      let e = move_effect (Took q h) b mid took in
      record {
        held = λ i. omega (arith, backed.held i, e.held i, ap (times i) (part_number half old));
        charged = λ o. omega (arith, backed.charged o, e.charge o, shared o);
        sized = rw e.setup (part_sized half b.setup.size old backed.sized);
      }

  next_sized : IsOfSize b.setup.size (Some (next_of half old h))
  next_sized = next_size half old h ∙ took_size q h b mid took

  module _ (new third : Option HeldBuffer) (c : Book) where
    pub put_out_done : (done : Unit) → PutsOut (pushed_part half old) (next_of half old h) mid new third c (Ok done)
        → RenewAnswers half q old b new third c (Ok true)
    put_out_done done out =
        let position = pushed_part half old in
        let push = shelving position in
        let r : Renews old b (Some (next_of half old h)) None c =
        record {
          moves = Took q h ∷ shelving_of position;
          books = (mid, took, shelved position mid c out.2);
          items = λ o. omega (
            arith,
            shared o,
            ap (times o) push.given,
            ap (λ (xs : List ℕ). times o (h.items ++ xs)) push.none,
            sum_of-append (only o) h.items [],
          );
          buffers = λ i. omega (
            arith,
            ap (times i) (part_number half old),
            ap (λ (n : ℕ). times i (n ∷ [])) (next_number half old h),
            ap (times i) push.number,
            ap (λ (xs : List ℕ). times i (h.index ∷ xs)) push.no_number,
          );
          filled = (tt, push.filled);
          sized = next_sized;
          left_sized = tt;
        } in
        rw (out.0, out.1) (
          r,
          refl,
          λ some. inr (push.full (part_some half old some)),
          λ pop. ⊎_elim (from_full q h) (λ rest. absurd (push.out rest)) pop,
          (h, refl, refl, took.2.6),
        )

    pub put_out_stopped : (stop : Stop)
        → PutsOut (pushed_part half old) (next_of half old h) mid new third c (Err stop)
        → RenewAnswers half q old b new third c (Err stop)
    put_out_stopped OutOfMemory none = absurd none
    put_out_stopped (TagSpent token) out =
        let r : Renews old b (pushed_part half old) (Some (next_of half old h)) c =
        record {
          moves = Took q h ∷ Spent out.2.0 ∷ [];
          books = (mid, took, (c, out.2.1, refl));
          items = λ o. omega (arith, shared o, sum_of-append (only o) h.items []);
          buffers = λ i. omega (
            arith,
            ap (times i) (part_number half old),
            ap (λ (n : ℕ). times i (n ∷ [])) (next_number half old h),
          );
          filled = (tt, (tt, tt));
          sized = part_sized half b.setup.size old backed.sized;
          left_sized = next_sized;
        } in
        rw (out.0, out.1) (
          r,
          (Took q h ∷ [], out.2.0, refl),
          λ pop. ⊎_elim (from_full q h) (λ rest. ⊎_elim (λ x. absurd x) (λ x. absurd x) rest) pop,
        )

-- a look for an empty buffer pops nothing from full
pub out_alone : (ms : List Move) → ms ≡ FoundNone Empty ∷ [] → HasPopFromFull ms → ⊥
out_alone ms is pop = ⊎_elim (λ x. x) (λ x. x) (subst HasPopFromFull is pop)

-- the buffer at a position is held, its items are in the charge, and it is of the pool's size
pub stands : {position : Option HeldBuffer} {h : HeldBuffer} {b : Book} → position ≡ Some h → IsBackedAt position b
    → Contains b.account.held h.index × IsPart h.items b.account.charge × (h.size ≡ b.setup.size)
stands {h} {b} is backed =
    let at = subst (λ (p : Option HeldBuffer). IsBackedAt p b) is backed in (
      times_stands b.account.held h.index (omega (arith, at.held h.index, only-same h.index h.index refl)),
      at.charged,
      at.sized,
    )

-- the buffer at the position was pushed
pub cleared : (f : Option HeldBuffer) (b c : Book) → Leaves f b c → (r : Renews f b None None c)
    × (items_at f ≡ [] → HasPushOnFull r.moves → ⊥) × (HasPopFromFull r.moves → ⊥) × (r.moves ≡ shelving_of f)
cleared f b c left =
    let push = shelving f in
    let r : Renews f b None None c =
    record {
      moves = shelving_of f;
      books = shelved f b c left;
      items = λ o. omega (arith, ap (times o) push.given, ap (times o) push.none);
      buffers = λ i. omega (arith, ap (times i) push.number, ap (times i) push.no_number);
      filled = push.filled;
      sized = tt;
      left_sized = tt;
    } in (r, push.quiet, push.out, refl)
