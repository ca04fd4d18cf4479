-- The effect of moves on the book of the worker that makes them.
use Rattle.std.proofs.Common.{◌≡◌, ℕ, ◌+◌, ◌<◌, ◌≤◌, Bool, true, false, ◌&&◌, ◌||◌, List, [], ◌∷◌, Option}
use Rattle.std.proofs.Common.{is_some, is_none, if◌then◌else◌, refl, sym, ap, ◌∙◌, inl, inr, ⊎_elim, arith}
use Rattle.tagged_index.specs.Head.{Head, last_tag}
use Rattle.mark_core.specs.declared.which.Which.{Which}
use Rattle.mark_core.specs.declared.which.Which.TheVariants.{Full, Empty}
use Rattle.mark_core.specs.Counts.{none_found}
use Rattle.mark_core.specs.Events.{IsBusy}
use Rattle.mark_core.specs.Lists.{times, only, IsPart}
use Rattle.mark_core.proofs.Sums.{sum_of-append, times-remove_one, times-without, stands_times}
use Rattle.buffer_pool.specs.Book.{Book, loaded, link_loaded, popped, pushed, empties_of}
use Rattle.buffer_pool.specs.Calls.{HasLoadedLastTag, HeldBuffer}
use Rattle.work_pair.specs.CallEffects.{Keeps}
use Rattle.work_pair.specs.Moves.{Move, Took, Gave, FoundNone, Spent, Moved, Moves, taken_items, taken_number}
use Rattle.work_pair.specs.Moves.{given_items, given_number, popped_items, popped_numbers, pushed_items, pushed_numbers}
use Rattle.work_pair.specs.Moves.{IsOnFull, HasPushOnFull}
use Rattle.work_pair.proofs.Looks.{IsLook, look_again, look_at_all, look_head, look_top, lost_pops, lost_pushes}

-- the holdings and the charge of a worker after moves, by the buffers that were popped and pushed
pub record IsEffect (old new : Book) (given taken given_numbers taken_numbers : List ℕ) : Type 0 where
  pub kept : Keeps old new
  pub open kept use *
  pub charge : (o : ℕ) → times o new.account.charge + times o given ≡ times o old.account.charge + times o taken
  pub held : (i : ℕ)
      → times i new.account.held + times i given_numbers ≡ times i old.account.held + times i taken_numbers
  pub fulls : old.full_empties ≤ new.full_empties
  pub empties : old.empty_empties ≤ new.empty_empties

look_effect : (old new : Book) → IsLook old new → IsEffect old new [] [] [] []
look_effect old new l =
    record {
      kept = grind arith;
      charge = λ o. ap (λ xs. times o xs + 0) l.charge;
      held = λ i. ap (λ xs. times i xs + 0) l.held;
      fulls = l.fulls;
      empties = l.empties;
    }

module _ (q : Which) (h : HeldBuffer) (old new b : Book) (l : IsLook old b) where
  -- the effect of a pop after a look
  pop_effect : new ≡ popped h.index h.items b → IsEffect old new [] h.items [] (h.index ∷ [])
  pop_effect is =
      rw is
      (record {
        kept = grind arith;
        charge = λ o. omega (arith, sum_of-append (only o) b.account.charge h.items, ap (times o) l.charge);
        held = λ i. omega (arith, sum_of-append (only i) b.account.held (h.index ∷ []), ap (times i) l.held);
        fulls = l.fulls;
        empties = l.empties;
      })

  -- the effect of a push after a look
  push_effect : new ≡ pushed q h.index h.items b → 0 < times h.index old.account.held
      → IsPart h.items old.account.charge → IsEffect old new h.items [] (h.index ∷ []) []
  push_effect is there part =
      let here : 0 < times h.index b.account.held = omega (arith, there, ap (times h.index) l.held) in
      let among : IsPart h.items b.account.charge = λ x. omega (arith, part x, ap (times x) l.charge) in
      rw is
      (record {
        kept = grind arith;
        charge = λ o. omega (arith, times-without h.items b.account.charge among o, ap (times o) l.charge);
        held = λ i. omega (arith, times-remove_one i h.index b.account.held here, ap (times i) l.held);
        fulls = l.fulls;
        empties = l.empties;
      })

looked : (q : Which) (head : Head) (old mid new : Book) → IsLook old mid → new ≡ loaded q head mid → IsLook old new
looked q head old mid new l is = rw is (look_again old mid (loaded q head mid) l (look_head q head mid))

-- a move that loaded the last tag was a look
pub spent_look : (q : Which) (old new : Book) → Moved (Spent q) old new → IsLook old new
spent_look q old new moved = ⊎_elim
    (λ p. looked q p.2.0 old p.0 new (lost_pops q old p.0 p.1) p.2.4)
    (λ p. looked q p.2.2.0 old p.2.0 new (lost_pushes q p.0 old p.2.0 p.2.1) p.2.2.3)
    moved

tag_loaded : (q : Which) (head : Head) (mid new : Book) → head.tag ≡ last_tag → new ≡ loaded q head mid
    → HasLoadedLastTag new
tag_loaded Full head mid new last is = rw is (Full, head, refl, last)
tag_loaded Empty head mid new last is = rw is (Empty, head, refl, last)

-- after that move, the head that the worker loaded last has the last tag
pub loaded_last_tag : (q : Which) (old new : Book) → Moved (Spent q) old new → HasLoadedLastTag new
loaded_last_tag q old new moved = ⊎_elim
    (λ p. tag_loaded q p.2.0 p.0 new p.2.3 p.2.4)
    (λ p. tag_loaded q p.2.2.0 p.2.0 new p.2.2.2 p.2.2.3)
    moved

pub empty_look : (q : Which) (old new : Book) → Moved (FoundNone q) old new → IsLook old new
empty_look q old new p = looked q p.2.0 old p.0 new (lost_pops q old p.0 p.1) p.2.2

pub move_effect : (move : Move) (old new : Book) → Moved move old new
    → IsEffect old new (given_items move) (taken_items move) (given_number move) (taken_number move)
move_effect (Took q h) old new p =
    let top = link_loaded q p.2.1 (loaded q p.2.0 p.0) in
    pop_effect q h old new top (look_again old p.0 top (lost_pops q old p.0 p.1) (look_top q p.2.0 p.2.1 p.0)) p.2.5
move_effect (Gave q h) old new p =
    let t = p.1 in
    let b = loaded q t.2.0 t.0 in
    push_effect q h old new b (look_again old t.0 b (lost_pushes q h old t.0 t.1) (look_head q t.2.0 t.0)) t.2.2
    (stands_times old.account.held h.index p.0.held) p.0.charged
move_effect (FoundNone q) old new p = look_effect old new (empty_look q old new p)
move_effect (Spent q) old new p = look_effect old new (spent_look q old new p)

pub moves_effect : (moves : List Move) (old new : Book) → Moves old moves new
    → IsEffect old new (pushed_items moves) (popped_items moves) (pushed_numbers moves) (popped_numbers moves)
moves_effect [] old new same = rw same (look_effect old old (look_at_all old))
moves_effect (move ∷ moves) old new p =
    let one = move_effect move old p.0 p.1 in
    let more = moves_effect moves p.0 new p.2 in
    let add = λ (n : ℕ) (xs ys : List ℕ). sum_of-append (only n) xs ys in
    record {
      kept = grind arith;
      charge = λ o. omega (
        arith,
        one.charge o,
        more.charge o,
        add o (given_items move) (pushed_items moves),
        add o (taken_items move) (popped_items moves),
      );
      held = λ i. omega (
        arith,
        one.held i,
        more.held i,
        add i (given_number move) (pushed_numbers moves),
        add i (taken_number move) (popped_numbers moves),
      );
      fulls = omega (arith, one.fulls, more.fulls);
      empties = omega (arith, one.empties, more.empties);
    }

-- a worker that is not idle stays so
pub busy_after : (moves : List Move) (old new : Book) → Moves old moves new → IsBusy old.account → IsBusy new.account
busy_after moves old new p busy =
    let e = moves_effect moves old new p in
    ⊎_elim (λ more. inl (λ one. more (sym e.share ∙ one))) (λ at_work. inr (e.idle ∙ at_work)) busy

-- a move that is no push on full opens no push
move_closed : (move : Move) (old new : Book) → Moved move old new → (IsOnFull move → ⊥)
    → old.account.open_push ≡ false → new.account.open_push ≡ false
move_closed (Took q h) old new p quiet closed =
    let top = link_loaded q p.2.1 (loaded q p.2.0 p.0) in
    ap (λ (c : Book). c.account.open_push) p.2.5
    ∙ (look_again old p.0 top (lost_pops q old p.0 p.1) (look_top q p.2.0 p.2.1 p.0)).closed closed
move_closed (Gave Full h) old new p quiet closed = absurd (quiet tt)
move_closed (Gave Empty h) old new p quiet closed =
    let t = p.1 in
    let b = loaded Empty t.2.0 t.0 in
    ap (λ (c : Book). c.account.open_push) t.2.2
    ∙ (look_again old t.0 b (lost_pushes Empty h old t.0 t.1) (look_head Empty t.2.0 t.0)).closed closed
move_closed (FoundNone q) old new p quiet closed = (empty_look q old new p).closed closed
move_closed (Spent q) old new p quiet closed = (spent_look q old new p).closed closed

pub moves_closed : (moves : List Move) (old new : Book) → Moves old moves new → (HasPushOnFull moves → ⊥)
    → old.account.open_push ≡ false → new.account.open_push ≡ false
moves_closed [] old new same quiet closed = ap (λ (c : Book). c.account.open_push) same ∙ closed
moves_closed (move ∷ moves) old new p quiet closed =
    moves_closed moves p.0 new p.2 (λ h. quiet (inr h)) (move_closed move old p.0 p.1 (λ h. quiet (inl h)) closed)

-- a look that finds a stack empty raises the count of such looks
pub found_none : (q : Which) (old new : Book) → Moved (FoundNone q) old new → empties_of old q < empties_of new q
found_none Full old new p =
    let l = lost_pops Full old p.0 p.1 in
    let one : none_found p.2.0 ≡ 1 = ap (λ (i : Option ℕ). if is_none i then 1 else 0) p.2.1 in
    omega (arith, l.fulls, one, ap (λ (c : Book). c.full_empties) p.2.2)
found_none Empty old new p =
    let l = lost_pops Empty old p.0 p.1 in
    let one : none_found p.2.0 ≡ 1 = ap (λ (i : Option ℕ). if is_none i then 1 else 0) p.2.1 in
    omega (arith, l.empties, one, ap (λ (c : Book). c.empty_empties) p.2.2)

and_false : (b : Bool) → b && false ≡ false
and_false true = refl
and_false false = refl

-- an open push ends when the full stack is found empty
pub found_none_closes : (old new : Book) → Moved (FoundNone Full) old new → new.account.open_push ≡ false
found_none_closes old new p =
    ap (λ (c : Book). c.account.open_push) p.2.2 ∙ ap (λ (i : Option ℕ). p.0.account.open_push && is_some i) p.2.1
    ∙ and_false p.0.account.open_push

or_true : (b : Bool) → b || true ≡ true
or_true true = refl
or_true false = refl

-- and the account then notes that the worker found the full stack empty
pub found_none_tells : (old new : Book) → Moved (FoundNone Full) old new → new.account.found ≡ true
found_none_tells old new p =
    ap (λ (c : Book). c.account.found) p.2.2 ∙ ap (λ (i : Option ℕ). p.0.account.found || is_none i) p.2.1
    ∙ or_true p.0.account.found
