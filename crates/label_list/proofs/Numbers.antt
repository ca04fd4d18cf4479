-- A number is cut at the first byte that is no digit.
use Rattle.std.proofs.Common.{Bool, List, None, Some, [], ap, arith, cond, drop, false, length, refl, sym, take}
use Rattle.std.proofs.Common.{true, ℕ, ◌&&◌, ◌++◌, ◌+◌, ◌∙◌, ◌∷◌, ◌≡◌, one-add}
use Rattle.std.proofs.Math.Seq.{drop-append_seam, take-append_seam}
use Rattle.std.proofs.lemmas.List.{take-append-drop}
use Rattle.std.proofs.lemmas.Bool.{and_from, and_parts, le-leb, leb-true, lt-ltb, ltb-true}
use Rattle.std.proofs.lemmas.List.Folds.{length-prefix_len}
use Rattle.std.proofs.lemmas.Option.{cond_some}
use Rattle.std.specs.Char.{is_ascii_digit}
use Rattle.std.specs.List.{AllByRecursion, take_while}
use Rattle.std.specs.Prelude.{nat_le, nat_lt}
use Rattle.label_list.specs.ListText.{IsDigit, SpellsNumber, value_after}
use Rattle.label_list.specs.working.Reading.{digit_count, is_number, number_at, number_of}

pub counted : (text : List ℕ) → length (take_while is_ascii_digit text) ≡ digit_count text
counted text = length-prefix_len is_ascii_digit text

digit_passes : (b : ℕ) → IsDigit b → is_ascii_digit b ≡ true
digit_passes b is = and_from (nat_le 48 b) (nat_le b 57) (le-leb 48 b is.0) (le-leb b 57 is.1)

digit_from : (b : ℕ) → is_ascii_digit b ≡ true → IsDigit b
digit_from b e =
    let parts = and_parts (nat_le 48 b) (nat_le b 57) e in (leb-true 48 b parts.0, leb-true b 57 parts.1)

count_digits : (digits rest : List ℕ) → AllByRecursion IsDigit digits → digit_count rest ≡ 0
    → digit_count (digits ++ rest) ≡ length digits
count_digits [] rest each ends = ends
count_digits (d ∷ ds) rest each ends =
    let more = count_digits ds rest each.1 ends in
    ap (λ (t : Bool). cond t (1 + digit_count (ds ++ rest)) 0) (digit_passes d each.0) ∙ omega (arith, more)

one_more : (b : ℕ) (bs : List ℕ) (k : ℕ) (t : Bool) → (t ≡ true → IsDigit b) → AllByRecursion IsDigit (take k bs)
    → AllByRecursion IsDigit (take (cond t (1 + k) 0) (b ∷ bs))
one_more b bs k true is each = rw one-add (is refl, each)
one_more b bs k false is each = tt

pub all_digits : (text : List ℕ) → AllByRecursion IsDigit (take (digit_count text) text)
all_digits [] = tt
all_digits (b ∷ bs) = one_more b bs (digit_count bs) (is_ascii_digit b) (digit_from b) (all_digits bs)

-- what is read of a number that a text begins with, if no digit follows
pub number_read : (limit : ℕ) (digits rest : List ℕ) (n : ℕ) → SpellsNumber limit digits n → digit_count rest ≡ 0
    → number_at limit (digits ++ rest) ≡ Some (n, rest)
unfolding number_at
number_read limit digits rest n is ends =
    let text = digits ++ rest in
    let count = count_digits digits rest is.each ends in
    let front : take (digit_count text) text ≡ digits =
    ap (λ (k : ℕ). take k text) count ∙ take-append_seam digits rest in
    let behind : drop (digit_count text) text ≡ rest =
    ap (λ (k : ℕ). drop k text) count ∙ drop-append_seam digits rest in
    let some = le-leb 1 (length digits) is.some in
    let few = le-leb (length digits) 20 is.few in
    let below = lt-ltb (value_after 0 digits) limit (omega (arith, is.value_is, is.below)) in
    let test : is_number limit digits ≡ true =
    and_from (nat_le 1 (length digits) && nat_le (length digits) 20) (nat_lt (value_after 0 digits) limit)
    (and_from (nat_le 1 (length digits)) (nat_le (length digits) 20) some few) below in
    (λ i. number_of limit (front i) (behind i))
    ∙ ap (λ (t : Bool). cond t (Some (value_after 0 digits, rest)) None) test
    ∙ ap (λ (m : ℕ). Some (m, rest)) is.value_is

-- what is read is a number that the text begins with
pub number_found : (limit : ℕ) (text rest : List ℕ) (n : ℕ) → number_at limit text ≡ Some (n, rest)
    → (digits : List ℕ) × SpellsNumber limit digits n × (text ≡ digits ++ rest)
unfolding number_at
number_found limit text rest n e =
    let count = digit_count text in
    let digits = take count text in
    let value = value_after 0 digits in
    let found = cond_some (is_number limit digits) (value, drop count text) (n, rest) e in
    let same : (value ≡ n) × (drop count text ≡ rest) = (λ i. (found.1 i).0, λ i. (found.1 i).1) in
    let tests =
    and_parts (nat_le 1 (length digits) && nat_le (length digits) 20) (nat_lt value limit) found.0 in
    let lengths = and_parts (nat_le 1 (length digits)) (nat_le (length digits) 20) tests.0 in (
      digits,
      record {
        some = leb-true 1 (length digits) lengths.0;
        few = leb-true (length digits) 20 lengths.1;
        each = all_digits text;
        value_is = same.0;
        below = omega (arith, ltb-true value limit tests.1, same.0);
      },
      sym (take-append-drop count text) ∙ ap (λ (xs : List ℕ). digits ++ xs) same.1,
    )
