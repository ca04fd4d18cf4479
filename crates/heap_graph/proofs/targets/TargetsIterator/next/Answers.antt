-- Each identifier that is passed is 0, missing, or names the object, so all that the visit misses stays the same.
use Rattle.heap_graph.proofs.Words.{ap, arith, eq-eqb, length, ne_eqb, sym, ◌∙◌}
use Rattle.heap_graph.proofs.Visiting.{begun, gives, goes_named, goes_null, goes_unresolved}
use Rattle.heap_graph.proofs.Walking.{none_of}
use Rattle.heap_graph.proofs.targets.TargetsIterator.next.Goals as goal

pub loop-id-init : goal.loop-id-init
loop-id-init g c =
    let v = c.self.inside in
    begun _ v.row v.bytes v.unresolved v.index.now (g.I.IdSource.ids v.ids) c.self.view_is c.self.invariant

pub returns-in-Some-target-clause-steps : goal.returns-in-Some-target-clause-steps
returns-in-Some-target-clause-steps g c =
    gives _ _ _ (goes_named _ _ _ _ _ _ _ _ c.loop-id.invariant c.in-Some.ensures c.in-Some-target.object
    (sym c.in-Some-target.is ∙ c.target.ensures))

pub returns-in-Some-target-clause-goes : goal.returns-in-Some-target-clause-goes
returns-in-Some-target-clause-goes g c =
    let fewer = ap length (returns-in-Some-target-clause-steps g c).0 in
    record { on = λ _. (tt, tt, omega (arith, fewer)); keeps = tt; rests = λ _. tt }

pub loop-id-preserved-then-id-ne0 : goal.loop-id-preserved-then-id-ne0
loop-id-preserved-then-id-ne0 g c =
    goes_unresolved _ _ _ _ _ _ _ _ c.loop-id.invariant c.in-Some.ensures
    (sym (none_of c.target.result c.in_default-target.not-Some) ∙ c.target.ensures)
    (ne_eqb c.in-Some.id 0 c.if-id-ne0.true)

pub loop-id-preserved : goal.loop-id-preserved
loop-id-preserved g c =
    goes_null _ _ _ _ _ _ _ _ c.loop-id.invariant c.in-Some.ensures
    (sym (none_of c.target.result c.in_default-target.not-Some) ∙ c.target.ensures)
    (eq-eqb c.in-Some.id 0 c.if-id-ne0.false)
