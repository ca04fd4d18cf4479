-- A sort keeps each line and orders them as their entries are ordered.
use Rattle.std.proofs.Common.{◌≡◌, IsPermutation, map, rules, subst}
use Rattle.std.specs.Ordering.{is_lt}
use Rattle.std.proofs.lemmas.List.Sorted.{IsPermutation-map, answers_always, ranks_by}
use Rattle.histogram.specs.Histogram.{compare}
use Rattle.histogram.specs.HistogramOf.{entry_of}
use Rattle.histogram.proofs.OrderLemmas.{compare_total, sorted_map}
use Rattle.histogram.proofs.report_rows.lines_in_order.Goals as goal

pub returns-clause-each_once : goal.returns-clause-each_once
returns-clause-each_once g c =
    let sorted = c.sort_unstable_by.new.self.items in
    subst (λ es. IsPermutation es (map entry_of sorted)) c.in_ok-lines.ensures
    (IsPermutation-map entry_of c.in_ok-lines.lines.items sorted c.sort_unstable_by.ensures.permutation)

pub returns-clause-in_order : goal.returns-clause-in_order
returns-clause-in_order g c = sorted_map entry_of (λ a b. is_lt (compare a b)) c.sort_unstable_by.new.self.items
    (c.sort_unstable_by.ensures.sorted (λ a b. is_lt (compare (entry_of a) (entry_of b)))
    (ranks_by compare_total entry_of)
    (answers_always _ (λ a r. is_lt r ≡ is_lt (compare (entry_of a.0.now) (entry_of a.1.0.now))) _
    (λ f a r h k. search rules)))
