-- The beginning of the text is shown.
use Rattle.std.proofs.Common.{◌≡◌, ◌++◌, take}
use Rattle.histogram.specs.ShownNames.{shown_text}
use Rattle.histogram.proofs.names.append_shown.Given as goal

abbrev pub invariant-loop-byte : goal.invariant-loop-byte
invariant-loop-byte g l = l.out.items ≡ l.initial.out.items ++ shown_text (take l.byte-index l.text)
