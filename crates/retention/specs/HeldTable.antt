-- The table of a text and a list of labels: each reachable object is counted once, under exactly those labels without
-- which it would not be reachable.
use Rattle.std.specs.Prelude.{List, [], ℕ, ◌≡◌}
use Rattle.std.specs.Io.KnownBytes.{Appends}
use Rattle.std.specs.Prelude.{Option}
use Rattle.heap_graph.specs.ObjectGraph.{IsGraphOfText, ObjectGraph}
use Rattle.held_table.specs.Table.{IsTable}
use Rattle.held_table.specs.TableText.{table_text}
use Rattle.held_table.specs.declared.line.Joint.{Joint}
use Rattle.held_table.specs.declared.line.Line.{Line}
use Rattle.histogram.specs.Counting.{AppendsBeginning}
use Rattle.label_flow.specs.Flow.{Flow, set_of}
use Rattle.label_list.specs.Entries.{label_count}
use Rattle.label_list.specs.ListText.{SpellsList}
use Rattle.label_list.specs.declared.entry.Entry.{Entry}
use Rattle.label_sets.specs.Sets.{labels_of}
use Rattle.labelled_graph.specs.Holding.{AreHeld}

-- `table` is the table of the dump `text` and of `labels`: `labels` spells entries, `text` is accepted, and the set of
-- each reachable object has exactly the labels without which it would not be reachable (`AreHeld`). The lines count
-- each object once, under its set and its row (`IsTable`).
pub record IsTableOf (text labels table : List ℕ) : Type 0 where
  pub entries : List Entry
  pub spelled : SpellsList labels entries
  pub graph : ObjectGraph
  pub graph_is : IsGraphOfText text [] graph
  pub flow : Flow
  pub labels_are : flow.store.labels ≡ label_count entries
  pub held : AreHeld graph entries (set_of flow) (labels_of flow.store)
  pub joints : List Joint
  pub lines : List Line
  pub lines_are : IsTable graph flow joints lines
  pub table_is : table ≡ table_text graph joints lines

-- that table was written, and nothing else; or a beginning of it
pub record WritesTable (text labels : List ℕ) (old new : Option (List ℕ)) : Type 0 where
  pub table : List ℕ
  pub is : IsTableOf text labels table
  pub written : Appends old new table

pub record WritesPartOfTable (text labels : List ℕ) (old new : Option (List ℕ)) : Type 0 where
  pub table : List ℕ
  pub is : IsTableOf text labels table
  pub written : AppendsBeginning old new table
