-- A known object is the only one that is claimed.
use Rattle.drain.proofs.Words.{All-contains, AreClaimed, Contains, Contains-push, MayClaim, [], option_to_list, subst}
use Rattle.drain.proofs.Words.{sym}
use Rattle.drain.proofs.AtHand.{white_at_work, white_claimed}
use Rattle.drain.proofs.paired_worker.PairedWorker.claim_known.Goals as goal

pub claim_unless_seen-requires-clause-may : goal.claim_unless_seen-requires-clause-may
claim_unless_seen-requires-clause-may g c =
    let may = c.requires.may in
    let o = c.in-Some.object in
    let claims = MayClaim c.args.self.now.worker.book.setup may.0 in (
      may.0,
      may.1,
      All-contains claims (option_to_list c.args.known) o may.2
          (subst (λ known. Contains (option_to_list known) o) (sym c.in-Some.is) (Contains-push [] o)),
    )

pub put-requires-clause-at_hand : goal.put-requires-clause-at_hand
put-requires-clause-at_hand g c =
    let may = c.requires.may in
    (may.0, white_at_work may.0 c.if-claim_unless_seen.true c.claim_unless_seen.ensures.claimed may.1)

pub returns-in_ok-put-clause-claimed : goal.returns-in_ok-put-clause-claimed
returns-in_ok-put-clause-claimed g c =
    let old = c.args.self.now in
    let new = c.put.new.self in
    subst (λ known. AreClaimed (option_to_list known) old.pair old.worker new.pair new.worker) (sym c.in-Some.is)
    (white_claimed c.if-claim_unless_seen.true c.claim_unless_seen.ensures.claimed c.in_ok-put.ensures.put)
