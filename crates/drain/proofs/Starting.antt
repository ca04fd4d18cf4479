-- The leader, turn by turn, while it passes a unit to each thread that is started.
use Rattle.drain.proofs.Words.{Book, Duty, HasStarted, Owner, IsDutyUnder, List, Setup, [], ap, arith, length}
use Rattle.drain.proofs.Words.{new_book, parted, ℕ, ◌++◌, ◌+◌, ◌<◌, ◌∙◌, ◌∷◌, ◌≡◌}
use Rattle.drain.proofs.Each.{pushed_holds}
use Rattle.drain.proofs.Leading.{gave_away, leads_again}

-- one more thread
module _ {A V X : Type 0} {graph : V} {duty : X → Duty A V} {begun old : Owner} {threads : List X} {number : ℕ}
    (was : HasStarted graph duty begun old threads number) (enough : number < begun.book.account.share) where
  pub one_more_started : {rest worker : Owner} {more : List X} {thread : X} → length threads ≡ number
      → more ≡ threads ++ thread ∷ [] → rest ≡ record old { book = parted 1 old.book; log = rest.log }
      → worker ≡ record old { book = new_book old.book.setup 1; log = worker.log }
      → (duty thread).begun.value ≡ worker → (duty thread).graph.value ≡ graph
      → HasStarted graph duty begun rest more (number + 1)
  one_more_started {rest} {more = more} {thread = thread} long is first second owes same =
      let book = ap (λ (h : Owner). h.book) first in
      let less = ap (λ (b : Book). b.account.share) book in
      let owed : IsDutyUnder graph begun (duty thread) = record {
        pool = ap (λ (h : Owner). h.pool) (owes ∙ second) ∙ was.leads.pool;
        book = ap (λ (h : Owner). h.book) (owes ∙ second) ∙ ap (λ (e : Setup). new_book e 1) was.leads.setup;
        graph_is = same;
      } in
      record {
        leads = leads_again was.leads (gave_away old rest 1 (ap (λ (h : Owner). h.pool) first) book);
        share = omega (arith, less, was.share, enough);
        finished = ap (λ (b : Book). b.account.finished) book ∙ was.finished;
        owed = pushed_holds (λ t. IsDutyUnder graph begun (duty t)) threads more thread number long is was.owed owed;
      }
