-- A white root that was claimed is in the charge, and has no successors.
use Rattle.std.proofs.Common.{◌∙◌, refl}
use Rattle.pool_tests.proofs.RoundSteps.{claimed_finishable, same_again, same_finished, same_roots}
use Rattle.pool_tests.proofs.mark_bits.claim_and_finish.Goals as goal

pub finish-requires-clause-can : goal.finish-requires-clause-can
finish-requires-clause-can g c =
    let old = c.args.worker.now in
    let new = c.claim_root.new.worker in
    let roots = same_roots 33 old new c.claim_root.ensures.same c.requires.roots in
    claimed_finishable 33 old new c.args.object 0 roots c.claim_root.ensures.book refl

pub returns-clause-pool : goal.returns-clause-pool
returns-clause-pool g c = c.finish.ensures.pool ∙ c.claim_root.ensures.same.pool

pub returns-clause-roots : goal.returns-clause-roots
returns-clause-roots g c =
    let old = c.args.worker.now in
    let mid = c.claim_root.new.worker in
    let new = c.finish.new.worker in
    let done = same_finished mid new c.finish.ensures.pool c.args.object c.finish.ensures.event in
    same_roots 33 old new (same_again old mid new c.claim_root.ensures.same done) c.requires.roots

pub returns-clause-awake : goal.returns-clause-awake
returns-clause-awake g c =
    let mid = c.claim_root.new.worker in
    let done = same_finished mid c.finish.new.worker c.finish.ensures.pool c.args.object c.finish.ensures.event in
    done.idle ∙ c.claim_root.ensures.same.idle ∙ c.requires.awake
