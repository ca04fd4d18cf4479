-- The parts of a table.
use Rattle.std.proofs.Common.{All, Some, ap, arith, length, rules, subst, sym, ◌<◌, ◌∙◌, ◌≡◌, ℕ}
use Rattle.std.specs.Ordering.{is_lt}
use Rattle.std.specs.List.{range_with_len}
use Rattle.std.proofs.lemmas.List.Sorted.{answers_always, ranks_by}
use Rattle.heap_graph.specs.ObjectGraph.{object_count}
use Rattle.label_flow.specs.Flow.{set_of}
use Rattle.label_sets.specs.Sets.{IsWhole, Store}
use Rattle.held_table.specs.Joints.{AreJoints, IsDefined, IsUsed}
use Rattle.held_table.specs.Tally.{compare}
use Rattle.held_table.specs.declared.line.Joint.{Joint}
use Rattle.held_table.specs.declared.line.Line.{Line}
use Rattle.held_table.specs.working.Plains.{ArePlains, shown_by}
use Rattle.held_table.proofs.CountingLaws.{tally_permutation}
use Rattle.held_table.proofs.TableLaws.{compare_total, plain_lines, rows_lines, same_labels}
use Rattle.held_table.proofs.table.Table.of.Goals as goal

pub lines_of-requires-clause-sets : goal.lines_of-requires-clause-sets
lines_of-requires-clause-sets g c = λ o s is.
    let whole = subst (λ (st : Store). IsWhole st s) (sym c.store-store.ensures) (c.requires.whole o s is) in
    omega (arith, c.len-sets.ensures.within s whole, c.in_ok-plains.ensures.each, ap length c.as_slice.ensures.value)

pub joints_of-requires-clause-lines : goal.joints_of-requires-clause-lines
joints_of-requires-clause-lines g c =
    plain_lines c.args.graph.now c.args.flow.now.store c.store-store.result.now (length c.as_slice.result.now)
    (length c.as_slice-2.result.now) c.in_ok-lines.lines.items c.sort_unstable_by.new.self.items c.as_slice-3.result.now
    c.sort_unstable_by.ensures.permutation c.in_ok-lines.ensures.shown c.store-store.ensures
    (ap length (c.as_slice-2.ensures.value ∙ sym c.as_slice.ensures.value)) c.as_slice-3.ensures.value

pub returns : goal.returns
returns g c =
    let graph = c.args.graph.now in
    let flow = c.args.flow.now in
    let plains = c.as_slice.result.now in
    let sorted = c.sort_unstable_by.new.self.items in
    let joints = c.in_ok-joints.joints.items in
    let store_is = c.store-store.ensures in
    let long : length c.in_ok-plains.plains.items ≡ length plains = ap length (sym c.as_slice.ensures.value) in
    let plain : ArePlains flow.store (length plains) plains =
    subst (λ ps. ArePlains flow.store (length ps) ps) (sym c.as_slice.ensures.value)
    (subst (λ (st : Store). ArePlains st (length c.in_ok-plains.plains.items) c.in_ok-plains.plains.items) store_is
    (subst (λ n. ArePlains c.store-store.result.now n c.in_ok-plains.plains.items)
    (sym c.in_ok-plains.ensures.each) c.in_ok-plains.ensures.plain)) in
    let within : (o s : ℕ) → set_of flow o ≡ Some s → s < length plains = λ o s is.
    let whole = subst (λ (st : Store). IsWhole st s) (sym store_is) (c.requires.whole o s is) in
    omega (arith, c.len-sets.ensures.within s whole, c.in_ok-plains.ensures.each, long) in
    record {
      shown = shown_by flow plains;
      shown_are = λ o. same_labels flow.store plains plain (set_of flow o) (within o);
      tally = tally_permutation graph (shown_by flow plains) (range_with_len 0 (object_count graph))
          c.in_ok-lines.lines.items sorted c.sort_unstable_by.ensures.permutation c.in_ok-lines.ensures.tally;
      in_order = c.sort_unstable_by.ensures.sorted (λ a b. is_lt (compare a b))
          (ranks_by compare_total (λ (l : Line). l))
          (answers_always _ (λ a r. is_lt r ≡ is_lt (compare a.0.now a.1.0.now)) _ (λ f a r h k. search rules));
      joints_are = subst (λ (st : Store). AreJoints st joints) store_is c.in_ok-joints.ensures.joints;
      defined = subst (λ (st : Store). All (λ (l : Line). IsDefined st joints l.set) sorted) store_is
          (subst (All (λ (l : Line). IsDefined c.store-store.result.now joints l.set)) c.as_slice-3.ensures.value
          c.in_ok-joints.ensures.defined);
      needed = subst (λ ls. All (λ (j : Joint). IsUsed ls joints j.set) joints) c.as_slice-3.ensures.value
          c.in_ok-joints.ensures.needed;
      rows_within = rows_lines graph flow.store (length plains) c.in_ok-lines.lines.items sorted
          c.sort_unstable_by.ensures.permutation c.in_ok-lines.ensures.shown;
    }
