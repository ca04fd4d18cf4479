-- The report: a line for each row of the histogram, and three lines of totals.
use Rattle.std.specs.Prelude.{Bool, List, [], codes, decimal, flat_map, length, replicate, ℕ, ◌++◌, ◌-◌, ◌∷◌, ◌≡◌}
use Rattle.histogram.specs.Histogram.{Entry, Histogram, IsHistogram}
use Rattle.heap_graph.specs.Reachable.{MarksReachableOf}
use Rattle.heap_graph.specs.ObjectGraph.{IsGraphOfText, ObjectGraph}
use Rattle.heap_graph.specs.Skips.{SkipEntry}

-- `text` right-aligned in `width` places; a wider text is not cut
abbrev pub right_in : ℕ → List ℕ → List ℕ
right_in width text = replicate (width - length text) 32 ++ text

-- the count right-aligned in 10 places, two spaces, the bytes right-aligned in 14 places, two spaces, the name, a
-- newline
unfoldable pub line : ℕ → ℕ → List ℕ → List ℕ
line count bytes name =
    right_in 10 (decimal count) ++ 32 ∷ 32 ∷ right_in 14 (decimal bytes) ++ 32 ∷ 32 ∷ name ++ 10 ∷ []

abbrev pub line_of : Entry → List ℕ
line_of e = line e.count e.bytes e.name

-- the text of a histogram
abbrev pub report_of : Histogram → List ℕ
report_of h =
    flat_map line_of h.rows
    ++ (line h.reachable.0 h.reachable.1 (codes "(reachable)")
    ++ (line h.unreachable.0 h.unreachable.1 (codes "(unreachable)") ++ line h.unresolved 0 (codes "(unresolved)")))

-- `report` is the report of `text` and `skip`, a list of fields that are not followed: `text` is accepted, and `report`
-- is the text of the histogram of the graph of `text` without those fields, with exactly the reachable objects marked.
pub record IsReport (text : List ℕ) (skip : List SkipEntry) (report : List ℕ) : Type 0 where
  pub graph : ObjectGraph
  pub graph_is : IsGraphOfText text skip graph
  pub marks : List Bool
  pub marks_are : MarksReachableOf graph marks
  pub histogram : Histogram
  pub histogram_is : IsHistogram graph marks histogram
  pub report_is : report ≡ report_of histogram
