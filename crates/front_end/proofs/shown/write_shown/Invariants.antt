-- The characters before `c` are written.
use Rattle.std.proofs.Common.{length, take}
use Rattle.std.specs.Fmt.{HasWritten, IsPlainFormatter}
use Rattle.std.specs.List.{flat_map}
use Rattle.std.specs.Str.{chars}
use Rattle.front_end.specs.ShownText.{shown_char}
use Rattle.front_end.proofs.shown.write_shown.Given as goal

abbrev pub invariant-loop-c : goal.invariant-loop-c
invariant-loop-c g l =
    IsPlainFormatter l.initial.f
    → HasWritten g.W.Write.write_str_gives l.initial.f
    (flat_map shown_char (take (length l.yielded) (chars l.text))) l.f
