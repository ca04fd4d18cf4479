-- A linked heap has its classes in the table in the order of their dumps, so they are named in that order.
use Rattle.heap_graph.proofs.Words.{arith, ids_of}
use Rattle.heap_graph.proofs.ClassLaws.{all_named, none_named, one_more_named}
use Rattle.heap_graph.proofs.ClassTableLaws.{same_count}
use Rattle.heap_graph.proofs.objects.Objects.classes.Goals as goal

pub loop-number-init : goal.loop-number-init
loop-number-init g c = λ records names. none_named records
    (ids_of c.args.self.now.classes.table.entries) c.in_ok-classes.classes.items c.in_ok-classes.ensures.items

pub loop-number-preserved : goal.loop-number-preserved
loop-number-preserved g c = λ records names.
    one_more_named records (ids_of c.args.self.now.classes.table.entries) c.loop-number.number
    c.loop-number.classes.items c.push.new.self.items
    c.class_entry.result
    (omega (arith, same_count c.args.self.now.classes.table.entries, c.loop-number-test.true, c.len-count.ensures))
    c.class_entry.ensures.id (c.class_entry.ensures.text records names) c.in_ok-push.ensures.items
    (c.loop-number.invariant records names)

pub returns : goal.returns
returns g c = λ records linked told names.
    all_named records (ids_of c.args.self.now.classes.table.entries) c.loop-number.number c.loop-number.classes.items
    (omega (arith, same_count c.args.self.now.classes.table.entries, c.loop-number-test.false, c.len-count.ensures))
    (told.classes.in_order linked.linked) (c.loop-number.invariant records names)
