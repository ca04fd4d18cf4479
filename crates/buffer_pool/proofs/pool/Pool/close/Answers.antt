-- The marks in the words are those of the last marking. The number of marks 2 is the length of the worker's list of
-- finished objects, which has each of them once.
use Rattle.std.proofs.Common.{◌≡◌, ◌==◌, ◌∙◌, ℕ, ◌+◌, List, ap, arith, count_by, subst, sym}
use Rattle.std.specs.Slots.{IsFull, slots_items}
use Rattle.buffer_pool.proofs.Words.{finished_counted, buffer_reading, Book, Owner, IsAtTheEnd, MarksTell, Log}
use Rattle.buffer_pool.proofs.Words.{marks_in, setup_of}
use Rattle.buffer_pool.proofs.Closes.{ends_of}
use Rattle.buffer_pool.proofs.pool.Pool.close.Given as given
use Rattle.buffer_pool.proofs.pool.Pool.close.Goals.{After-empty_slots}
use Rattle.buffer_pool.proofs.pool.Pool.close.Goals as goal

-- the clause for a worker with log `log` and book b
abbrev Tells : Log → Book → List ℕ → Type 0
Tells log b marks = (end : IsAtTheEnd log b marks) × MarksTell b end.last marks

-- the marks in the words of a closed table
abbrev marks_of : (g : given.Over) → After-empty_slots g → List ℕ → List ℕ
marks_of g c words = marks_in words c.mark_word-first_mark.result c.self.inside.objects

-- the mark words come after the link words
place :
    (g : given.Over) (c : After-empty_slots g)
    → c.mark_word-first_mark.result ≡ 32 + c.self.inside.table.shared.key.buffers
place g c = omega (arith, c.mark_word-first_mark.ensures, c.self.invariant.1)

told :
    (g : given.Over) (c : After-empty_slots g)
    → Tells c.worker.inside.seat.me.0.log c.worker.inside.seat.me.0.book
    (marks_of g c (slots_items c.empty_slots.new.closed.words))
told g c =
    let seat = c.worker.inside.seat in
    let is = c.worker.view_is in
    let at_close =
    ends_of (slots_items c.close_with-closed.result.words) c.mark_word-first_mark.result c.self.inside.objects
    buffer_reading (setup_of c.self.inside.table.shared.key) seat.id seat.me.0
    (slots_items c.close_with-closed.result.slots) (place g c) c.self.invariant.2
    c.close_with-closed.ensures.values.2 (ap (λ (x : Owner). x.book.account.share) is ∙ c.requires.share)
    (ap (λ (x : Owner). x.book.account.held) is ∙ c.requires.held)
    (ap (λ (x : Owner). x.book.account.charge) is ∙ c.requires.charge) c.worker.invariant.0.all_said in
    subst (λ (words : List ℕ). Tells seat.me.0.log seat.me.0.book (marks_of g c words))
    (sym (ap slots_items c.empty_slots.ensures.words)) at_close

counted :
    (g : given.Over) (c : After-empty_slots g)
    → c.worker.inside.finished ≡ count_by (λ m. m == 2) (marks_of g c (slots_items c.empty_slots.new.closed.words))
counted g c =
    let list = c.worker.inside.seat.me.0.book.account.finished in
    let marks = marks_of g c (slots_items c.empty_slots.new.closed.words) in
    let is = (told g c).1 in
    c.worker.invariant.1 ∙ sym (finished_counted marks list is.once is.finished)

pub of_words-requires-clause-counted : goal.of_words-requires-clause-counted
of_words-requires-clause-counted g c = counted g c

pub of_words-requires-clause-full : goal.of_words-requires-clause-full
of_words-requires-clause-full g c = subst IsFull (sym c.empty_slots.ensures.words) c.close_with-closed.ensures.values.0

-- the same for the worker that the caller sees
told_of_it :
    (g : given.Over) (c : After-empty_slots g)
    → Tells c.args.worker.log c.args.worker.book (marks_of g c (slots_items c.empty_slots.new.closed.words))
told_of_it g c =
    subst (λ (w : Owner). Tells w.log w.book (marks_of g c (slots_items c.empty_slots.new.closed.words)))
    c.worker.view_is (told g c)

pub returns : goal.returns
returns g c =
    subst (Tells c.args.worker.log c.args.worker.book) (sym c.of_words.ensures)
    (told_of_it g (goal.at.returns g c).After-empty_slots)
