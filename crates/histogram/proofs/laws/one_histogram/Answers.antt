-- The order of the rows is total, so they have one arrangement; the totals are functions of graph and marks.
use Rattle.std.proofs.Common.{sym, ◌∙◌}
use Rattle.histogram.specs.Histogram.{entries, marked_objects}
use Rattle.histogram.proofs.OrderLemmas.{one_arrangement}
use Rattle.histogram.proofs.laws.one_histogram.Goals as goal

pub returns : goal.returns
returns c = λ g marks h k a b.
    let rows = one_arrangement (entries g (marked_objects g marks)) h.rows k.rows a.each_once b.each_once a.in_order
    b.in_order in
    let reachable = a.reachable_is ∙ sym b.reachable_is in
    let unreachable = a.unreachable_is ∙ sym b.unreachable_is in
    let unresolved = a.unresolved_is ∙ sym b.unresolved_is in
    λ i. record { rows = rows i; reachable = reachable i; unreachable = unreachable i; unresolved = unresolved i }
