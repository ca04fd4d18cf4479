-- What a line after a refusal is about, as it is printed.
use Rattle.std.specs.Prelude.{List, codes, decimal, ℕ, ◌++◌}
use Rattle.front_end.specs.ShownText.{shown_text}
use Rattle.heapmark.specs.declared.printing.subject.Subject.{Subject}
use Rattle.heapmark.specs.declared.printing.subject.Subject.TheVariants as subject

abbrev pub subject_text : Subject → List ℕ
subject_text (subject.File shown) = shown_text shown.0.now
subject_text (subject.FirstTag tag) = codes "--first-tag " ++ decimal tag
subject_text (subject.Workers workers) = codes "--workers " ++ decimal workers
subject_text (subject.Buffers buffers) = codes "--buffers " ++ decimal buffers
subject_text subject.Skip = codes "--skip"
