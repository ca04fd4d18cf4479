-- The builder takes any identifier, and has those of the loaded classes so far.
use Rattle.heap_graph.proofs.Words.{AreNamesOf, List, Record, filter, is_load, loaded_id}
use Rattle.heap_graph.proofs.Adding.{AreAdded, TakesAll}
use Rattle.heap_graph.proofs.names.Names.loaded_by_id.Given as goal

abbrev pub invariant-loop-at : goal.invariant-loop-at
invariant-loop-at g l = record {
  takes : TakesAll l.builder;
  added : AreAdded (λ (records : List Record). AreNamesOf l.self records)
      (λ (records : List Record). filter is_load records) loaded_id l.builder.ids l.at-index;
}
