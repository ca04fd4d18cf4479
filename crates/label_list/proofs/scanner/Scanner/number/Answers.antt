-- The bytes before the first that is no digit are digits.
use Rattle.label_list.proofs.Numbers.{all_digits}
use Rattle.label_list.proofs.scanner.Scanner.number.Goals as goal

pub value_of-value-requires-clause-each : goal.value_of-value-requires-clause-each
value_of-value-requires-clause-each c = rw c.digits-digits.ensures.digits (all_digits c.args.self.now.rest.now)
