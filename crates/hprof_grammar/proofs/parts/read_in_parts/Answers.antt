-- There are no more cuts than threads, and the result of a thread is that of reading its part.
use Rattle.std.proofs.Common.{arith, length, max}
use Rattle.hprof_grammar.proofs.CutsGrow.{cuts_within}
use Rattle.hprof_grammar.proofs.TableLaws.{id_size_high, id_size_low}
use Rattle.hprof_grammar.proofs.parts.read_in_parts.Goals as goal

pub map_jobs-requires-clause-few : goal.map_jobs-requires-clause-few
map_jobs-requires-clause-few g c κs within =
    let few = cuts_within c.part_of.result 31 (length c.in_ok-records.records.now) (max c.args.team.now.threads 1)
    c.in_ok-cuts.cuts.items c.part_of.ensures.some c.part_of.ensures.few c.in_ok-cuts.ensures in
    omega (arith, few, c.in_ok-cuts.cuts.ok)

pub map_jobs-requires-clause-accepts : goal.map_jobs-requires-clause-accepts
map_jobs-requires-clause-accepts g c κs within i cut below is = (
  id_size_low c.args.id_size c.requires.header.id_size,
  id_size_high c.args.id_size c.requires.header.id_size,
)

pub join_parts-requires-clause-parts : goal.join_parts-requires-clause-parts
join_parts-requires-clause-parts g c k d below =
    (c.in-Ok.ensures.each k d (omega (arith, below, c.in-Ok.ensures.len))).1.call.met
