-- How a word of the command line is shown to people.
use Rattle.std.specs.Prelude.{List, codes, false, if◌then◌else◌, ℕ, ◌++◌, ◌/◌, ◌%◌, [], ◌∷◌}
use Rattle.std.specs.Char.{encode_utf8, is_control}
use Rattle.std.specs.Fmt.{digit_glyph}
use Rattle.std.specs.List.{flat_map}
use Rattle.std.specs.Str.{chars}

-- `\x` and two hexadecimal digits
abbrev pub escaped_byte : ℕ → List ℕ
escaped_byte byte = codes "\\x" ++ digit_glyph false (byte / 16) ∷ digit_glyph false (byte % 16) ∷ []

-- each byte of the character so
abbrev pub escaped : ℕ → List ℕ
escaped c = flat_map escaped_byte (encode_utf8 c)

-- a control character is escaped, and any other character is as it is
abbrev pub shown_char : ℕ → List ℕ
shown_char c = if is_control c then escaped c else encode_utf8 c

abbrev pub shown_text : List ℕ → List ℕ
shown_text bytes = flat_map shown_char (chars bytes)
