-- The pool's table: the marking that its words, slots and views stand for, and the rule that holds between any two
-- steps.
use Rattle.std.specs.Prelude.{◌≡◌, ℕ, ◌+◌, ◌<◌, ◌≤◌, nat_lt, if◌then◌else◌, List, length, map}
use Rattle.std.specs.Prelude.{Option, Some, None, slice_index}
use mathlib.Core.Option.{some}
use lib.ListN.{get_elem?}
use Rattle.atomic_table.specs.Table.{State}
use Rattle.tagged_index.specs.Head.{head_of, index_of}
use Rattle.mark_core.specs.Lists.{StandsAt}
use Rattle.mark_core.specs.Account.{Account}
use Rattle.mark_core.specs.World.{Setup, Marking}
use Rattle.mark_core.specs.Events.{Event}
use Rattle.mark_core.specs.Counts.{Counts, LeadTo}
use Rattle.buffer_pool.specs.declared.seat_view.SeatView.{SeatView}
use Rattle.buffer_pool.specs.Book.{counts_of}
use Rattle.buffer_pool.specs.working.Views.{AreViewsOf}
use Rattle.buffer_pool.specs.working.MarkBits.{cut_marks, mark_in, mark_words}
use Rattle.buffer_pool.specs.working.Layout.{first_mark, head_word, idle_word, link_word}
use Rattle.buffer_pool.specs.working.Slots.{Reading, IsTied, Rests, slot_of}

-- the mark of each object in the words
abbrev pub marks_of : Setup → List ℕ → ℕ → ℕ
marks_of e words = cut_marks e.objects (mark_in words (first_mark e))

-- the account in a view
abbrev pub account_of : SeatView → Account
account_of v = v.book.account

-- the counts in a view
abbrev pub view_counts : SeatView → Counts
view_counts v = counts_of v.book

-- the links of the first `buffers` buffers: None for all other numbers
abbrev pub cut : ℕ → (ℕ → Option ℕ) → ℕ → Option ℕ
cut buffers link i = if nat_lt i buffers then link i else None

module _ {B : Type 0} (r : Reading B) where
  -- the marking that a table stands for
  abbrev pub marking_of : Setup → State (Option B) SeatView → Marking
  marking_of e s =
      record {
        head = λ q. head_of (slice_index s.words (head_word q));
        link = cut e.buffers (λ i. index_of (slice_index s.words (link_word i)));
        mark = marks_of e s.words;
        slots = map (slot_of r) s.homes;
        idle = slice_index s.words idle_word;
        accounts = map account_of s.views;
      }

  -- a list of events leads from the opening to the marking and to the counts in the views. The story of each view with
  -- a share is a prefix of the list
  pub record Reached (e : Setup) (s : State (Option B) SeatView) : Type 0 where
    pub events : List Event
    pub led : LeadTo e events (marking_of e s) (map view_counts s.views)
    pub views : AreViewsOf events s.views

  -- the invariant between any two steps: the run that led here, and what the code needs besides
  pub record Rule (e : Setup) (s : State (Option B) SeatView) : Type 0 where
    pub word_count : length s.words ≡ 32 + e.buffers + mark_words e.objects
    pub slot_count : length s.homes ≡ e.buffers
    pub sized : (i : ℕ) (b : B) → get_elem? s.homes i ≡ some (some (Some b)) → r.size b ≡ e.size
    pub linked : (i : ℕ) → i < e.buffers → slice_index s.words (link_word i) ≤ e.buffers
    pub tied : (w : ℕ) (v : SeatView) → StandsAt s.views w v → IsTied s.words v
    pub rests : (w : ℕ) (v : SeatView) → StandsAt s.views w v → Rests s.homes v
    pub same_setup : (w : ℕ) (v : SeatView) → StandsAt s.views w v → 0 < v.book.account.share → v.book.setup ≡ e
    pub some_buffer : 0 < e.buffers
    pub reached : Reached e s
