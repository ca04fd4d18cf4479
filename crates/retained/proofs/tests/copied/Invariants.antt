-- The texts are those of the words before `word`.
use Rattle.std.proofs.Common.{◌≡◌, map, string_bytes, take}
use Rattle.retained_line.specs.Line.{texts_of}
use Rattle.retained.proofs.tests.copied.Given as goal

abbrev pub invariant-loop-word : goal.invariant-loop-word
invariant-loop-word l = map string_bytes l.texts.items ≡ texts_of (take l.word-index l.words)
