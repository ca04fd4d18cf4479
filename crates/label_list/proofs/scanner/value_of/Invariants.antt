-- The digits so far spell `value`, and those from `digit` on are to follow.
use Rattle.std.proofs.Common.{drop, ◌<◌, ◌^◌, ◌≡◌}
use Rattle.label_list.specs.ListText.{value_after}
use Rattle.label_list.proofs.scanner.value_of.Given as goal

abbrev pub invariant-loop-digit : goal.invariant-loop-digit
invariant-loop-digit l = record {
  small : l.value < 10 ^ l.digit-index;
  spelled : value_after l.value (drop l.digit-index l.digits) ≡ value_after 0 l.digits;
}
