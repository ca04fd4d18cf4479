-- What was gathered from all objects is indexed. Without lowest bits something is always gathered.
use Rattle.heap_graph.proofs.Words.{IfOk-weaker, arith}
use Rattle.std.proofs.lemmas.Option.{MatchOption-at_some}
use Rattle.heap_graph.proofs.Gathering.{all_indexed}
use Rattle.heap_graph.proofs.objects.indexing.index_of.Goals as goal

pub returns-in-Some-2 : goal.returns-in-Some-2
returns-in-Some-2 g c =
    let has = MatchOption-at_some _ _ c.in-Some-2.gathered c.in-Some-2.is c.in_ok-gathered.ensures in
    IfOk-weaker c.of.result _ _ (λ i is. all_indexed _ _ _ c.in-Some-2.gathered i _ has (omega arith) is.0 is.1)
    c.of.ensures

pub returns : goal.returns
returns g c =
    let has = MatchOption-at_some _ _ c.in-Some-3.gathered c.in-Some-3.is c.in_ok-gathered-2.ensures in
    IfOk-weaker c.of-in-Some-3.result _ _
    (λ i is. all_indexed _ _ _ c.in-Some-3.gathered i _ has (omega arith) is.0 is.1) c.of-in-Some-3.ensures
