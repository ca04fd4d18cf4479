-- There is no line.
use Rattle.std.proofs.Common.{ap, map, subst, sym, ◌∙◌}
use Rattle.std.specs.List.{IsDistinct}
use Rattle.held_table.specs.Tally.{same_line}
use Rattle.held_table.specs.working.Counting.{key_of}
use Rattle.held_table.proofs.CountingLaws.{once_none}
use Rattle.held_table.proofs.tally.Tally.new.Goals as goal

pub returns-clause-counted : goal.returns-clause-counted
returns-clause-counted g c = record {
  keys_are = c.with_hasher.ensures.empty ∙ ap (map key_of) (sym c.new-2.ensures.items);
  once = subst (IsDistinct same_line) (sym c.new-2.ensures.items) once_none;
}
