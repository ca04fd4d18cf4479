-- What a refusal says of a text, and its own text.
use Rattle.std.specs.Prelude.{List, codes, ℕ, ◌++◌}
use Rattle.std.specs.Fmt.{decimal}
use Rattle.label_list.specs.ListText.{IsFirstBadLine}
use Rattle.label_list.specs.declared.refusal.ListRefusal.{ListRefusal}
use Rattle.label_list.specs.declared.refusal.ListRefusal.TheVariants as refusals

-- Out of memory says nothing of the text.
abbrev pub SaysOf : ListRefusal → List ℕ → Type 0
SaysOf (refusals.BadLine n) text = IsFirstBadLine text n
SaysOf refusals.OutOfMemory text = Unit {0}

abbrev pub list_refusal_text : ListRefusal → List ℕ
list_refusal_text (refusals.BadLine n) = codes "line " ++ decimal n ++ codes " of the labels is no entry"
list_refusal_text refusals.OutOfMemory = codes "out of memory"
