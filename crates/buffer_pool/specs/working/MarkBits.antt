-- The layout of marks in words: two bits for each object, 32 objects to a word.
use Rattle.std.specs.Prelude.{ℕ, ◌+◌, ◌-◌, ◌*◌, ◌/◌, ◌%◌, ◌^◌, List, map, nat_lt, if◌then◌else◌, slice_index}
use Rattle.std.specs.Int.{bit_at}
use Rattle.std.specs.List.{range_with_len}

-- the number of words for the marks of `objects` objects
abbrev pub mark_words : ℕ → ℕ
mark_words objects = (objects + 31) / 32

-- the mark that two bits spell. Written with the high bit first, 00 is white, 01 claimed and 11 finished. The bits 10
-- are no mark: they are read as 3, which is no colour
abbrev pub mark_of : ℕ → ℕ → ℕ
mark_of low high = low + high + 2 * (high - low)

-- the mark number `number` of the 32 marks in `word`
abbrev pub mark_at : ℕ → ℕ → ℕ
mark_at word number = mark_of (bit_at word (2 * number)) (bit_at word (2 * number + 1))

-- the mark of the object o in `words`, of which word number `first` is the first word of marks
abbrev pub mark_in : List ℕ → ℕ → ℕ → ℕ
mark_in words first o = mark_at (slice_index words (first + o / 32)) (o % 32)

-- the marks of `objects` objects in `words`, of which word number `first` is the first word of marks
abbrev pub marks_in : List ℕ → ℕ → ℕ → List ℕ
marks_in words first objects = map (mark_in words first) (range_with_len 0 objects)

-- `bits`, two bits, shifted to the mark of the object o in its word
abbrev pub mark_bits : ℕ → ℕ → ℕ
mark_bits bits o = bits * 2 ^ (2 * (o % 32))

-- the marks of the first `objects` objects: 0 for all other numbers
abbrev pub cut_marks : ℕ → (ℕ → ℕ) → ℕ → ℕ
cut_marks objects mark o = if nat_lt o objects then mark o else 0
