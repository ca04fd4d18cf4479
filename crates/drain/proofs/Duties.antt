-- What a thread owed is returned, whatever the leader did meanwhile.
use Rattle.drain.proofs.Words.{Book, Duty, HasTallied, Owner, IsBackUnder, IsDutyUnder, IsThrough, Measure, ap, subst}
use Rattle.drain.proofs.Words.{sym, ◌∙◌, ◌≡◌}
use Rattle.drain.specs.declared.tally.TalliedWorker.{TalliedWorker}
use Rattle.drain.specs.declared.tally.Tally.{Tally}

-- a worker that kept its duty is back
pub came_back : {A V : Type 0} (measure : V → Measure) {graph : V} {leader w : Owner} (t : Tally A) {duty : Duty A V}
    → IsDutyUnder graph leader duty → IsThrough duty.begun.value w → HasTallied (measure duty.graph.value) w t
    → IsBackUnder (measure graph) leader w t
came_back measure {w = w} t owed through tally = record {
  pool = through.0.pool ∙ owed.pool;
  setup = through.0.setup ∙ ap (λ (b : Book). b.setup) owed.book;
  share = through.0.share ∙ ap (λ (b : Book). b.account.share) owed.book;
  free = through.1;
  tally = subst (λ v. HasTallied (measure v) w t) owed.graph_is tally;
}

-- a worker and its tally are back
abbrev pub Back : {A : Type 0} → Measure → Owner → TalliedWorker A → Type 0
Back m leader t = IsBackUnder m leader t.worker t.tally

-- a worker that is back for one leader is back for another of the same pool and setup
pub back_still : {A : Type 0} {m : Measure} {old : Owner} (new : Owner) {w : Owner} {t : Tally A}
    → new.pool ≡ old.pool → new.book.setup ≡ old.book.setup → IsBackUnder m old w t → IsBackUnder m new w t
back_still new pool setup back = record {
  pool = back.pool ∙ sym pool;
  setup = back.setup ∙ sym setup;
  share = back.share;
  free = back.free;
  tally = back.tally;
}
