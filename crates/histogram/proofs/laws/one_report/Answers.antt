-- A text has one graph, a graph one list of marks, both one histogram, and a histogram one report.
use Rattle.std.proofs.Common.{Bool, List, ap, subst, sym, ◌∙◌, ◌≡◌}
use Rattle.histogram.specs.Histogram.{Histogram, IsHistogram}
use Rattle.heap_graph.specs.ObjectGraph.{ObjectGraph}
use Rattle.heap_graph.specs.Reachable.{MarksReachableOf}
use Rattle.histogram.specs.Report.{report_of}
use Rattle.histogram.proofs.laws.one_report.Goals as goal

-- a histogram is that of the same graph with the same marks
moved : (g k : ObjectGraph) (marks other : List Bool) (h : Histogram) → g ≡ k → marks ≡ other → IsHistogram g marks h
    → IsHistogram k other h
moved g k marks other h graphs lists is =
    subst (λ m. IsHistogram k m h) lists (subst (λ x. IsHistogram x marks h) graphs is)

pub returns : goal.returns
returns c = λ text skip report other h k.
    let graphs = c.one_graph.ensures text skip h.graph k.graph h.graph_is k.graph_is in
    let lists = c.one_marking.ensures k.graph h.marks k.marks
    (subst (λ g. MarksReachableOf g h.marks) graphs h.marks_are) k.marks_are in
    let histograms = c.one_histogram.ensures k.graph k.marks h.histogram k.histogram
    (moved h.graph k.graph h.marks k.marks h.histogram graphs lists h.histogram_is) k.histogram_is in
    h.report_is ∙ ap report_of histograms ∙ sym k.report_is
