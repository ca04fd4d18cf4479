-- The graph of linked objects: a lemma has the lists of their identifiers, so no call needs to read them.
use Rattle.heap_graph.proofs.Words.{AreNamedOf, IsGraphOfText, List, SkipEntry, StandFor, rules, subst, sym, ◌≡◌}
use Rattle.heap_graph.proofs.Building.{given_graph, graph_read, stand_for, text_graph_made}
use Rattle.heap_graph.proofs.Counting.{few_roots_in_dump}
use Rattle.heap_graph.proofs.graph.Graph.of.Goals as goal

pub invariant_of-result : goal.invariant_of-result
invariant_of-result g c =
    let skip : List SkipEntry = c.of.result.value.now in (
      (
        graph_read c.args.objects c.requires.0 c.requires.1 c.requires.2 skip c.requires.3,
        ∣ text_graph_made c.args.objects c.requires.0 c.requires.1 c.requires.2 skip c.requires.3 ∣₁,
      ),
      tt,
    )

pub invariant_of-result-2 : goal.invariant_of-result-2
invariant_of-result-2 g c =
    let records = c.requires.2.records in
    let skip : List SkipEntry = c.of.result.value.now in
    let same : skip ≡ c.args.skip.now = (λ i. (c.of.ensures i).now) in
    let named : AreNamedOf records skip c.args.objects c.args.parts.named.plan c.args.parts.named.classes.items =
    subst (λ (list : List SkipEntry). AreNamedOf records list c.args.objects c.args.parts.named.plan
    c.args.parts.named.classes.items) (sym same) c.requires.4.named in
    given_graph c.args.objects.view.bytes skip
    (StandFor c.args.objects c.args.parts.named.plan c.args.parts.rooted.roots.items c.args.parts.named.classes.items
    c.args.parts.rooted.unresolved skip)
    (graph_read c.args.objects c.requires.0 c.requires.1 c.requires.2 skip c.requires.3)
    (text_graph_made c.args.objects c.requires.0 c.requires.1 c.requires.2 skip c.requires.3)
    (stand_for c.args.objects c.args.parts.named.plan records c.args.parts.rooted.roots.items
    c.args.parts.named.classes.items c.args.parts.rooted.unresolved skip (c.stands_within.ensures c.args.objects.view)
    (few_roots_in_dump c.requires.0 c.requires.1 c.requires.2) c.requires.3.linked c.requires.3.fates named
    c.requires.4.rooted) _ (search rules)

pub returns : goal.returns
returns g c =
    let skip : List SkipEntry = c.of.result.value.now in
    let same : skip ≡ c.args.skip.now = (λ i. (c.of.ensures i).now) in
    let graph = graph_read c.args.objects c.requires.0 c.requires.1 c.requires.2 skip c.requires.3 in
    let is : IsGraphOfText c.args.objects.view.bytes skip graph =
    text_graph_made c.args.objects c.requires.0 c.requires.1 c.requires.2 skip c.requires.3 in
    given_graph c.args.objects.view.bytes skip (IsGraphOfText c.args.objects.view.bytes c.args.skip.now)
    graph is
    (subst (λ (list : List SkipEntry). IsGraphOfText c.args.objects.view.bytes list graph) same is) _ (search rules)
