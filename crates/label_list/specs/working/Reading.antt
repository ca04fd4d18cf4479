-- Reading the text from left to right. The contracts of the scanner's methods cite these definitions: each takes the
-- bytes that are left, and returns what is read of them, with the bytes after it.
use Rattle.std.specs.Prelude.{Bool, List, None, Option, Some, [], codes, drop, if◌then◌else◌, length, nat_le, nat_lt}
use Rattle.std.specs.Prelude.{take, ℕ, ◌&&◌, ◌==◌, ◌∷◌, ◌≡◌}
use Rattle.std.specs.Char.{is_ascii_digit}
use Rattle.std.specs.List.{prefix_len}
use Rattle.label_list.specs.ListText.{blank, id_limit, index_limit, label_limit, newline, value_after}
use Rattle.label_list.specs.declared.entry.Entry.{Entry}
use Rattle.label_list.specs.declared.entry.Entry.TheVariants as entries
use Rattle.label_list.specs.declared.entry.Place.{Place}
use Rattle.label_list.specs.declared.entry.Place.TheVariants as places

infixl 10 ◌>>=◌
abbrev pub ◌>>=◌ : {A B : Type 0} → Option A → (A → Option B) → Option B
(Some x) >>= f = f x
None >>= f = None

-- the text after `word`, which it begins with
abbrev pub after : List ℕ → List ℕ → Option (List ℕ)
after [] text = Some text
after (w ∷ ws) [] = None
after (w ∷ ws) (b ∷ bs) = if b == w then after ws bs else None

-- the number of digits that a text begins with
abbrev pub digit_count : List ℕ → ℕ
digit_count = prefix_len is_ascii_digit

abbrev pub is_number : ℕ → List ℕ → Bool
is_number limit digits = (nat_le 1 (length digits) && nat_le (length digits) 20) && nat_lt (value_after 0 digits) limit

-- the number that `digits` spell, if they spell one, and `rest`
abbrev pub number_of : ℕ → List ℕ → List ℕ → Option (ℕ × List ℕ)
number_of limit digits rest = if is_number limit digits then Some (value_after 0 digits, rest) else None

unfoldable pub number_at : ℕ → List ℕ → Option (ℕ × List ℕ)
number_at limit text = number_of limit (take (digit_count text) text) (drop (digit_count text) text)

-- reads after `word`, if the text begins with it, and else as `other` says
abbrev pub when : {A : Type 0} → Option (List ℕ) → (List ℕ → Option A) → Option A → Option A
when (Some rest) read other = read rest
when None read other = other

-- what `first` is, a blank, and what `read` reads after it, joined by `to`
abbrev pub then_at : {A B C : Type 0} → (A → B → C) → Option (A × List ℕ) → (List ℕ → Option (B × List ℕ))
    → Option (C × List ℕ)
then_at to first read = first >>= λ x. after (blank ∷ []) x.1 >>= λ rest. read rest >>= λ y. Some (to x.0 y.0, y.1)

-- what `read` is, mapped by `to`
abbrev pub as_at : {A B : Type 0} → (A → B) → Option (A × List ℕ) → Option (B × List ℕ)
as_at to read = read >>= λ x. Some (to x.0, x.1)

abbrev pub pair_at : List ℕ → Option ((ℕ × ℕ) × List ℕ)
pair_at text = then_at (λ id index. (id, index)) (number_at id_limit text) (number_at index_limit)

unfoldable pub place_at : List ℕ → Option (Place × List ℕ)
place_at text =
    when (after (codes "class ") text) (λ rest. as_at (λ p. places.Class p.0 p.1) (pair_at rest))
    (when (after (codes "object ") text) (λ rest. as_at (λ p. places.Object p.0 p.1) (pair_at rest))
    (when (after (codes "root ") text) (λ rest. as_at places.Root (number_at index_limit rest)) None))

unfoldable pub entry_at : List ℕ → Option (Entry × List ℕ)
entry_at text =
    when (after (codes "label ") text) (λ rest. then_at entries.Label (number_at label_limit rest) place_at)
    (when (after (codes "cut ") text) (λ rest. as_at entries.Cut (place_at rest))
    (when (after (codes "root ") text) (λ rest. as_at entries.Root (number_at id_limit rest)) None))

-- an entry and its newline
unfoldable pub line_at : List ℕ → Option (Entry × List ℕ)
line_at text = entry_at text >>= λ x. after (newline ∷ []) x.1 >>= λ rest. Some (x.0, rest)

-- ---- the effect of a method of the scanner: it leaves `rest`, the bytes after what `read` reads, or reads nothing

abbrev pub Reads : {X : Type 0} → Option X → List ℕ → Option (X × List ℕ) → Type 0
Reads (Some x) rest read = read ≡ Some (x, rest)
Reads None rest read = read ≡ None
