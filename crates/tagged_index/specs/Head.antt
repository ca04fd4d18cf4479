-- The head of a stack: the index on top, if any, and the tag that counts the changes.
use Rattle.std.specs.Prelude.{ℕ, zero, suc, ◌+◌, ◌*◌, ◌/◌, ◌%◌, Option, Some, None}

pub record Head : Type 0 where
  pub index : Option ℕ
  pub tag : ℕ

-- the low 16 bits: 0 for no index, and the index plus 1 otherwise
abbrev pub low_of : Option ℕ → ℕ
low_of None = 0
low_of (Some i) = i + 1

abbrev pub index_of : ℕ → Option ℕ
index_of zero = None
index_of (suc i) = Some i

-- the word that spells a head; below it, the head that a word spells
abbrev pub word_of : Head → ℕ
word_of h = h.tag * 65536 + low_of h.index

abbrev pub head_of : ℕ → Head
head_of w = record { index = index_of (w % 65536); tag = w / 65536 }

abbrev pub last_tag : ℕ
last_tag = 281474976710655

-- the head after a change of h: the index i, if any, and the next tag
abbrev pub after : Head → Option ℕ → Head
after h i = record { index = i; tag = h.tag + 1 }
