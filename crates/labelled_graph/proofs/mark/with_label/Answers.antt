-- A label is joined by a union with a set of one label.
use Rattle.labelled_graph.proofs.Stores.{extends_itself, with_one}
use Rattle.labelled_graph.proofs.mark.with_label.Goals as goal

pub returns-in-Cut-clause-extends : goal.returns-in-Cut-clause-extends
returns-in-Cut-clause-extends g c = extends_itself _

pub returns-in_ok-both-in-Labels-clause-joined : goal.returns-in_ok-both-in-Labels-clause-joined
returns-in_ok-both-in-Labels-clause-joined g c =
    let union = c.in_ok-both-in-Labels.ensures.set in
    let whole = rw c.in-Labels.is at c.requires.mark in
    rw c.in-Labels.is (
      union.whole,
      with_one c.args.store.now c.of_label.new.self c.union.new.self c.in-Labels.set.number _ _ c.args.label
          c.of_label.ensures.extends (c.len-sets.ensures.within _ whole) c.in_ok-one-in-Labels.ensures.set.1 union,
    )
