-- One more object is counted.
use Rattle.std.proofs.Common.{arith, length, slice_index, refl, subst, sym, ℕ, ◌%◌, ◌<◌, ◌∙◌, ◌≡◌, ◌≤◌}
use Rattle.heap_graph.proofs.RowNumberLaws.{number_within}
use Rattle.heap_graph.specs.ObjectGraph.{object_count, row_at}
use Rattle.heap_graph.specs.RowNumbers.{row_count, row_number}
use Rattle.heap_graph.specs.declared.row.RowKey.{RowKey}
use Rattle.held_table.specs.working.Plains.{shown_by}
use Rattle.held_table.proofs.CountingLaws.{room_more}
use Rattle.held_table.proofs.TableLaws.{next_shown, next_with, next_without, shown_none, shown_some}
use Rattle.held_table.proofs.lines.lines_of.Goals as goal
use Rattle.held_table.proofs.lines.lines_of.Goals.{in-Some+in_ok-add, in_default}

number_of : {n : ℕ} {a b : RowKey} → n ≡ row_number a → a ≡ b → n ≡ row_number b
number_of {n} is same = subst (λ row. n ≡ row_number row) same is

pub add-requires-clause-room : goal.add-requires-clause-room
add-requires-clause-room g c =
    let few : c.loop-object.object ≤ object_count c.args.graph.now =
    omega (arith, c.loop-object.auto.object-end, c.len-object-end.ensures.value) in
    room_more c.args.graph.now (shown_by c.args.flow.now c.args.plains.now) c.loop-object.object
    c.loop-object.tally.lines.items c.len-object-end.ensures.whole few c.loop-object.invariant.tally

pub loop-object-preserved : goal.loop-object-preserved
loop-object-preserved g c =
    let graph = c.args.graph.now in
    let flow = c.args.flow.now in
    let plains = c.args.plains.now in
    let o = c.loop-object.object in
    let lines = c.loop-object.tally.lines.items in
    elim c.match-set_of.branch [
      | in-Some+in_ok-add w ↦ rw w.tally-is (
          let n = w.in-Some.set.number in
          let s = slice_index plains n in
          let row = w.number.result in
          let bytes = w.bytes-bytes.result in
          let remainder = bytes % 16 in
          let new = w.add.new.self.lines.items in
          let inside : n < length plains = c.requires.sets o n (sym w.in-Some.ensures) in
          let plain = c.requires.plains n inside in
          let key_row = w.visit-visit.result.row in
          let row_is : row ≡ row_number key_row = number_of w.number.ensures w.row.ensures in
          let within : row < row_count graph =
          omega (arith, row_is, number_within graph key_row w.visit-visit.ensures.row_within) in
          record {
            counted = w.in_ok-add.ensures.counted;
            tally = next_with graph (shown_by flow plains) o lines c.loop-object.invariant.tally s row remainder bytes new
                (shown_some flow plains o n w.in-Some.ensures)
                (number_of {b = row_at graph o} row_is w.visit-visit.ensures.row) refl
                (w.bytes-bytes.ensures ∙ w.visit-visit.ensures.bytes) w.in_ok-add.ensures.lines;
            shown = next_shown graph flow.store (length plains) lines new
                (record { set = s; row = row; remainder = remainder }) bytes c.loop-object.invariant.shown
                (record {
                  set_within = omega (arith, plain.within, inside);
                  set_plain = plain.plain;
                  row_within = within;
                })
                w.in_ok-add.ensures.lines;
          }
          )
      | in_default w ↦ rw w.tally-is (record {
        counted = c.loop-object.invariant.counted;
        tally = next_without graph (shown_by flow plains) o lines c.loop-object.invariant.tally
            (shown_none flow plains o w.in_default.ensures);
        shown = c.loop-object.invariant.shown;
      })
    ]
