-- What no step of a pool can report: the rule of the table excludes it, whatever a pool's author notes and proves.
use Rattle.std.specs.Prelude.{◌≡◌, ◌≢◌, ℕ, ◌+◌, ◌*◌, ◌<◌, true, List, length, Option, Some, slice_index, slice_set}
use mathlib.Core.Option.{some}
use lib.ListN.{get_elem?}
use Rattle.atomic_table.specs.Table.{State, Me, Allows}
use Rattle.tagged_index.specs.Head.{Head, head_of, index_of}
use Rattle.mark_core.specs.declared.which.Which.{Which}
use Rattle.mark_core.specs.declared.which.Which.TheVariants.{Full}
use Rattle.mark_core.specs.Account.{look_of}
use Rattle.mark_core.specs.World.{Setup, Marking}
use Rattle.mark_core.specs.Events.{Event}
use Rattle.mark_core.specs.Runs.{Run, first_heads, opening}
use Rattle.mark_core.specs.Conclusions.{HadHead}
use Rattle.buffer_pool.specs.declared.seat_view.SeatView.{SeatView}
use Rattle.buffer_pool.specs.declared.answers.TryPushed.{TryPushed}
use Rattle.buffer_pool.specs.declared.answers.TryPushed.TheVariants as try_push
use Rattle.buffer_pool.specs.working.Layout.{head_word, link_word}
use Rattle.buffer_pool.specs.working.Slots.{Reading}
use Rattle.buffer_pool.specs.working.Table.{Rule}

-- a try of a push that was not lost
abbrev pub WasNotLost : {H : Type 0} → TryPushed H → Type 0
WasNotLost try_push.Done = Unit {0}
WasNotLost (try_push.Lost back) = ⊥
WasNotLost (try_push.Spent back) = Unit {0}

-- a table between two steps, with `slots` slots: the seat of number `id` has the view of `me`, and the word of number
-- `word` fits in 64 bits
pub record IsBetweenSteps {B : Type 0} (r : Reading B) (e : Setup) (slots id word : ℕ) (me : Me (Option B) SeatView)
    (s : State (Option B) SeatView) : Type 0 where
  pub rule : Rule r e s
  pub slot_count : length s.homes ≡ slots
  pub view : get_elem? s.views id ≡ some me.0
  pub fits : slice_index s.words word < 18446744073709551616

-- the head of the stack has the first tag in the words
abbrev pub HasFirstTag : Setup → List ℕ → Which → Type 0
HasFirstTag e words q = (head_of (slice_index words (head_word q))).tag ≡ e.first_tag

-- the words of a table after a step that applies f to the word of number `word`
abbrev pub words_after : {B : Type 0} → State (Option B) SeatView → ℕ → (ℕ → ℕ) → List ℕ
words_after s word f = slice_set s.words word (f (slice_index s.words word))

-- the stack has the head in no run
abbrev pub NeverWas : Setup → Which → Head → Type 0
NeverWas e q h =
    (events : List Event) (m : Marking) → Run e (opening e e.first_tag) events m
    → HadHead (opening e e.first_tag) events q h → ⊥

-- a head with the first tag that is not the first head never was: for example (none, first tag) on empty, or (0, first
-- tag) on full
abbrev pub OtherFirstHeadsWereNot : Type 0
OtherFirstHeadsWereNot =
    (e : Setup) (q : Which) (h : Head) → h.tag ≡ e.first_tag → h ≢ first_heads e.first_tag q → NeverWas e q h

module _ {B : Type 0} (r : Reading B) where
  -- while no head has changed since the opening, no step on any word can report that an exchange has failed
  abbrev pub NoForgedLoss : Type 0
  NoForgedLoss =
      (e : Setup) (slots id word : ℕ) (me : Me (Option B) SeatView) (f : ℕ → ℕ) (s : State (Option B) SeatView)
      → IsBetweenSteps r e slots id word me s → ((q : Which) → HasFirstTag e (words_after s word f) q)
      → Allows (Rule r e) slots id me word f (λ n after. 0 < after.0.book.failures) → ⊥

  -- no step on any word can report, as the last loaded head of a stack, a head that the stack never had
  abbrev pub NoForgedHead : Type 0
  NoForgedHead =
      (e : Setup) (slots id word : ℕ) (me : Me (Option B) SeatView) (f : ℕ → ℕ) (s : State (Option B) SeatView)
      → IsBetweenSteps r e slots id word me s → (q : Which) (h : Head) → NeverWas e q h
      → Allows (Rule r e) slots id me word f (λ n after. (look_of after.0.book.account q).head ≡ Some h) → ⊥

  -- while the full head has not changed since the opening, no step, such as an exchange of the empty head, can report a
  -- push on full
  abbrev pub NoForgedPush : Type 0
  NoForgedPush =
      (e : Setup) (slots id word : ℕ) (me : Me (Option B) SeatView) (f : ℕ → ℕ) (s : State (Option B) SeatView)
      → IsBetweenSteps r e slots id word me s → HasFirstTag e (words_after s word f) Full
      → Allows (Rule r e) slots id me word f (λ n after. after.0.book.account.open_push ≡ true) → ⊥

  -- no step can exchange a head for the link of its buffer under the same tag, or under a tag that is greater by an
  -- even number, whatever the step reports
  abbrev pub NoEvenPop : Type 0
  NoEvenPop =
      (e : Setup) (slots id : ℕ) (q : Which) (me : Me (Option B) SeatView) (f : ℕ → ℕ) (s : State (Option B) SeatView)
      → IsBetweenSteps r e slots id (head_word q) me s → (i n : ℕ) (now next : Head)
      → head_of (slice_index s.words (head_word q)) ≡ now → head_of (f (slice_index s.words (head_word q))) ≡ next
      → now.index ≡ Some i → next.index ≡ index_of (slice_index s.words (link_word i)) → next.tag ≡ now.tag + 2 * n
      → Allows (Rule r e) slots id me (head_word q) f (λ found after. Unit {0}) → ⊥
