-- What holds of the last state of a closed pool.
use Rattle.std.proofs.Common.{◌≡◌, ℕ, ◌+◌, ◌/◌, ◌%◌, ◌<◌, ◌≤◌, false, List, [], length, map, Contains, Option}
use Rattle.std.proofs.Common.{slice_index, ap, sym, subst, ◌∙◌, ⊎_elim, arith}
use Rattle.buffer_pool.proofs.Words.{cases_lt, get_or_past, get_or-map-range_with_len, length-map-range_with_len, some}
use Rattle.buffer_pool.proofs.Words.{get_elem?, at_get_or, Final, Seen, at_map, Full, StandsAt, times, Setup, Marking}
use Rattle.buffer_pool.proofs.Words.{Counts, LeadTo, Law, whole, IsClosed, LiesIn, linear, closes, lawful_where}
use Rattle.buffer_pool.proofs.Words.{SeatView, Book, counts_of, IsAtTheEnd, MarksTell, deeds, HasSaidAll, IsViewOf}
use Rattle.buffer_pool.proofs.Words.{mark_in, marks_in, mark_at, first_mark, Reading, Rule, marking_of, view_counts}
use Rattle.buffer_pool.proofs.Bits.{cut_object, cut_past}
use Rattle.buffer_pool.proofs.States.{stands}

-- `MarksTell` holds of a lawful marking with these marks, if the account has the whole share and nothing to work on
tell :
    (b : Book) (marks : List ℕ) (last : Marking) (w : ℕ) → length marks ≡ b.setup.objects → Law b.setup last
    → StandsAt last.accounts w b.account → ((o : ℕ) → slice_index marks o ≡ last.mark o)
    → b.account.share ≡ whole → b.account.held ≡ [] → b.account.charge ≡ [] → MarksTell b last marks
tell b marks last w count law own same all none_held none_charged =
    record {
      law = law;
      count = count;
      finished = λ o. (λ two. (closed.finished o).0 (sym (same o) ∙ two), λ k. same o ∙ (closed.finished o).1 k);
      once = closed.once;
      claimed = λ full list o.
          let both = closed.claimed full list o in
          (λ one. both.0 (sym (same o) ∙ one), λ lies. same o ∙ both.1 lies);
      emptied = emptied;
      buffers = λ full empty first second i.
          omega (arith, closed.buffers full empty first second i, ap (times i) none_held);
      seen = λ o k. omega (arith, law.coloured.saw w b.account own o k, same o);
      successors = λ o s two pair. omega (arith, law.coloured.closed o s (sym (same o) ∙ two) pair, same s);
      reachable = λ o one. law.coloured.reachable o (omega (arith, one, same o));
    }
  where
    closed : IsClosed b.setup last w b.account
    closed = closes b.setup last law w b.account own all none_charged

    -- the full stack is empty if no push is open, so no object is on it
    emptied : b.account.open_push ≡ false → (o : ℕ) → 1 ≤ slice_index marks o → slice_index marks o ≡ 2
    emptied shut o one = omega (
      arith,
      one,
      same o,
      linear b.setup last.mark last.slots last.accounts law.coloured o,
      unclaimed,
    )
      where
        list : law.stack Full ≡ []
        list = closed.emptied shut (law.stack Full) (law.owned.chain Full)

        unclaimed : last.mark o ≡ 1 → ⊥
        unclaimed claimed =
            let lies : LiesIn last (law.stack Full) o =
            (closed.claimed (law.stack Full) (law.owned.chain Full) o).0 claimed in
            let k : Contains [] lies.0 = subst (λ (l : List ℕ). Contains l lies.0) list lies.2 in
            omega (arith, k.1)

module _ (words : List ℕ) (first objects : ℕ) where
  -- each object has a mark
  pub marks_length : length (marks_in words first objects) ≡ objects
  marks_length = length-map-range_with_len (mark_in words first) 0 objects

  pub ends_of :
      {B : Type 0} (r : Reading B) (e : Setup) (id : ℕ) (v : SeatView) (slots : List (Option B))
      → first ≡ 32 + e.buffers → objects ≡ e.objects → Final (Seen (Rule r e) id v) words slots
      → v.book.account.share ≡ whole → v.book.account.held ≡ [] → v.book.account.charge ≡ [] → HasSaidAll v
      → (end : IsAtTheEnd v.log v.book (marks_in words first objects))
      × MarksTell v.book end.last (marks_in words first objects)
  ends_of r e id v slots place number final all none_held none_charged done = (
    record {
      events = rule.reached.events;
      last = last;
      counts = each;
      story = (told.since, told.goes_on, ap (λ n. deeds n told.since) mine ∙ told.unsaid ∙ done.unsaid);
      led = led;
      own = (own, own_counts);
      same_marks = marks;
    },
    tell v.book (marks_in words first objects) last v.log.number count
        (lawful_where v.book.setup rule.reached.events last each some_buffer led) own marks all none_held none_charged,
  )
    where
      rule : Rule r e final.0
      rule = final.1.0

      told : IsViewOf rule.reached.events id v
      told = rule.reached.views id v final.1.1 (omega (arith, all))

      last : Marking
      last = marking_of r e final.0

      each : List Counts
      each = map view_counts final.0.views

      -- the worker's number is that of its seat
      mine : v.log.number ≡ id
      mine = told.number done.named

      own : StandsAt last.accounts v.log.number v.book.account
      own = subst (λ n. StandsAt last.accounts n v.book.account) (sym mine) (stands rule id v final.1.1)

      own_counts : StandsAt each v.log.number (counts_of v.book)
      own_counts =
          subst (λ n. StandsAt each n (counts_of v.book)) (sym mine) (at_map view_counts final.0.views id v final.1.1)

      same : v.book.setup ≡ e
      same = rule.same_setup id v final.1.1 (omega (arith, all))

      some_buffer : 0 < v.book.setup.buffers
      some_buffer = subst (λ (g : Setup). 0 < g.buffers) (sym same) rule.some_buffer

      led : LeadTo v.book.setup rule.reached.events last each
      led = subst (λ (g : Setup). LeadTo g rule.reached.events last each) (sym same) rule.reached.led

      marks : (o : ℕ) → slice_index (marks_in words first objects) o ≡ last.mark o
      marks o = ⊎_elim inside past (cases_lt o objects)
        where
          inside : o < objects → slice_index (marks_in words first objects) o ≡ last.mark o
          inside below =
              get_or-map-range_with_len (mark_in words first) 0 objects o o 0 below (omega arith)
              ∙ (λ k. mark_in (sym final.2 k) (place k) o)
              ∙ sym (cut_object e.objects (mark_in final.0.words (first_mark e)) o (omega (arith, below, number)))

          past : objects ≤ o → slice_index (marks_in words first objects) o ≡ last.mark o
          past h =
              get_or_past (marks_in words first objects) o 0 (omega (arith, h, marks_length))
              ∙ sym (cut_past e.objects (mark_in final.0.words (first_mark e)) o (omega (arith, h, number)))

      count : length (marks_in words first objects) ≡ v.book.setup.objects
      count = omega (arith, marks_length, number, ap (λ (g : Setup). g.objects) same)

  -- so do the marks that contracts see
  pub marks_count : (marks : List ℕ) → marks_in words first objects ≡ marks → length marks ≡ objects
  marks_count marks same =
      omega (arith, ap (λ (ms : List ℕ). length ms) same, marks_length)

  -- a number that has a mark is an object
  pub object_below : (object : ℕ) (marks : List ℕ) → marks_in words first objects ≡ marks → object < length marks
      → object < objects
  object_below object marks same inside = omega (arith, inside, marks_count marks same)

  -- the mark of an object at the close is read from its word
  pub mark_there :
      (o place word : ℕ) → o < objects → o / 32 ≡ place → get_elem? words (first + place) ≡ some word
      → slice_index (marks_in words first objects) o ≡ mark_at word (o % 32)
  mark_there o place word below is at =
      get_or-map-range_with_len (mark_in words first) 0 objects o o 0 below (omega arith)
      ∙ ap (λ q. mark_at (slice_index words (first + q)) (o % 32)) is
      ∙ ap (λ x. mark_at x (o % 32)) (at_get_or words (first + place) word 0 at)
