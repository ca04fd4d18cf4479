-- The entries so far are those of the text, each followed by a comma. Each turn adds one.
use Rattle.std.proofs.Common.{length, ◌-◌}
use denote.Text.{Utf8}
use denote.Shadow.{shadow}
use Rattle.heap_graph.proofs.SkipCutting.{IsRead}
use Rattle.heap_graph.proofs.skip.Skip.new.Given as goal

abbrev pub invariant-loop-rest : goal.invariant-loop-rest
invariant-loop-rest g l = shadow (Utf8 l.rest) × IsRead l.text l.entries.items l.rest

abbrev pub decreases-loop-rest : goal.decreases-loop-rest
decreases-loop-rest g l = 64 - length l.entries.items
