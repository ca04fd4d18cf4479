-- The layout of the words of the pool's table.
use Rattle.std.specs.Prelude.{ℕ, ◌+◌, ◌/◌}
use Rattle.mark_core.specs.declared.which.Which.{Which}
use Rattle.mark_core.specs.declared.which.Which.TheVariants.{Full, Empty}
use Rattle.mark_core.specs.World.{Setup}

-- the word of a head. The two head words are 128 bytes apart, so that they share no cache line. After them come a link
-- word for each buffer and a word of marks for each 32 objects
abbrev pub head_word : Which → ℕ
head_word Full = 0
head_word Empty = 16

abbrev pub link_word : ℕ → ℕ
link_word i = 32 + i

-- the first word of marks
abbrev pub first_mark : Setup → ℕ
first_mark e = 32 + e.buffers

-- the word that has the mark of an object
abbrev pub mark_word : Setup → ℕ → ℕ
mark_word e o = 32 + e.buffers + o / 32

-- the idle word, 64 bytes from each head
abbrev pub idle_word : ℕ
idle_word = 8
