-- The effect of a clearing on the buffers is one on the pair, whose list was given up.
use Rattle.std.proofs.Common.{◌∙◌, true, ap, refl, false, []}
use Rattle.std.proofs.lemmas.Bool.{false≢true}
use Rattle.work_pair.specs.PairState.{pair_items, empty_pair}
use Rattle.work_pair.specs.working.Buffers.{as_pair}
use Rattle.work_pair.proofs.Calls.{none_last}
use Rattle.work_pair.proofs.Pairs.{clears_told, disposes, inner, shelves}
use Rattle.work_pair.proofs.pair.Pair.dispose.Goals as goal

pub clear-requires-clause-backed : goal.clear-requires-clause-backed
clear-requires-clause-backed g c =
    inner c.self.inside c.self.view_is c.requires.backed

pub clear-requires-clause-busy : goal.clear-requires-clause-busy
clear-requires-clause-busy g c some =
    let i = c.self.inside in
    c.requires.busy (λ none. some (none_last i.spill (pair_items (as_pair i.buffers))
    (ap pair_items c.self.view_is ∙ none)))

pub returns-in-Ok-clause-gone : goal.returns-in-Ok-clause-gone
returns-in-Ok-clause-gone g c =
    disposes c.self.inside c.self.view_is c.args.worker.now.book c.requires.backed empty_pair c.clear.new.worker.book
    refl false false [] refl c.in-Ok.ensures.clears.0 (λ stopped. absurd (false≢true stopped))

pub returns-in-Ok-clause-shelved : goal.returns-in-Ok-clause-shelved
returns-in-Ok-clause-shelved g c =
    shelves c.self.inside c.self.view_is c.args.worker.now.book c.requires.backed c.clear.new.worker.book tt
    c.in-Ok.ensures.clears

pub returns-in-Err-clause-spent : goal.returns-in-Err-clause-spent
returns-in-Err-clause-spent g c =
    let i = c.self.inside in
    let b = c.args.worker.now.book in
    let q = as_pair c.clear.new.self in
    let after = c.clear.new.worker.book in
    let told = clears_told (as_pair i.buffers) b q after c.in-Err.stop c.in-Err.ensures.clears in
    let empty = c.clear-in-Err.ensures.items in (
      told.0,
      refl,
      empty,
      disposes c.self.inside c.self.view_is b c.requires.backed q after refl true i.starved
          c.clear-in-Err.new.self empty told.1.0 (λ stopped. told.1.1),
    )
