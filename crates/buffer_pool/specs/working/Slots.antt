-- The slots of the pool's table, one for each buffer. A seat takes out at most one at a time: that of the buffer that
-- it pops or pushes. All other slots are at home, that is in the table.
use Rattle.std.specs.Prelude.{◌≡◌, ℕ, zero, suc, ◌<◌, List, [], ◌∷◌, Option, Some, None, slice_index}
use mathlib.Core.Option.{none, some}
use mathlib.Core.Option as maybe
use lib.ListN.{get_elem?}
use Rattle.atomic_table.specs.Table.{Me}
use Rattle.mark_core.specs.Lists.{times}
use Rattle.buffer_pool.specs.declared.seat_view.SeatView.{SeatView}
use Rattle.buffer_pool.specs.working.Layout.{link_word}

-- how contracts read a buffer: its items, and the most that it takes
pub record Reading (B : Type 0) : Type 0 where
  pub items : B → List ℕ
  pub size : B → ℕ

-- the slots that are out with a seat between two calls, by the view's `out`: none if it is 0, slot i if it is i + 1.
-- The slot has no buffer: the caller has it, as a `Held`
abbrev pub slots_of : {B : Type 0} → ℕ → List (ℕ × Option B)
slots_of zero = []
slots_of (suc i) = (i, None) ∷ []

-- the slots that are out with the seat are those that its view says
abbrev pub Carries : {B : Type 0} → Me (Option B) SeatView → Type 0
Carries m = m.1 ≡ slots_of m.0.out

-- the view once the slot that was out is at home again
abbrev pub free : SeatView → SeatView
free v = record v { out = 0; out_link = 0 }

-- a buffer whose slot is out is held, and its link word is `out_link`
abbrev pub IsTied : List ℕ → SeatView → Type 0
IsTied words v =
    (i : ℕ) → v.out ≡ suc i → (0 < times i v.book.account.held) × (slice_index words (link_word i) ≡ v.out_link)

-- the slot of each held buffer, except the one that is out, is at home and has no buffer
abbrev pub Rests : {B : Type 0} → List (maybe.Option (Option B)) → SeatView → Type 0
Rests homes v = (i : ℕ) → 0 < times i v.book.account.held → (v.out ≡ suc i → ⊥) → get_elem? homes i ≡ some (some None)

-- the items of the buffer in a slot. None if the slot is not at home, or has no buffer
abbrev pub slot_of : {B : Type 0} → Reading B → maybe.Option (Option B) → Option (List ℕ)
slot_of r none = None
slot_of r (some None) = None
slot_of r (some (Some b)) = Some (r.items b)
