-- The line of heapmark that reports a refusal.
use Rattle.std.specs.Prelude.{List, codes, ℕ}
use Rattle.front_end.specs.RefusalText.{refusal_line_by}
use Rattle.front_end.specs.declared.refusal.Refusal.{Refusal}

abbrev pub refusal_line : Refusal → List ℕ
refusal_line refusal = refusal_line_by (codes "heapmark") refusal
