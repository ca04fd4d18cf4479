-- Values that are spelled one after another are read one after another.
use Rattle.hprof_grammar.proofs.Words.{AllByRecursion, Field, HasValues, IsMember, LabelledValue, List, Member}
use Rattle.hprof_grammar.proofs.Words.{TypePlace, [], ap, append-nil, append_assoc, arith, behind_values, big_bytes}
use Rattle.hprof_grammar.proofs.Words.{big_number, big_number-reads_back, drop, drop-append_seam, drop-drop, flat_map}
use Rattle.hprof_grammar.proofs.Words.{get_or-drop, length, length-append, length-bytes_high_first, map, member_fields}
use Rattle.hprof_grammar.proofs.Words.{members_in, number, numbers_in, raw, refl, size_of, slice_index, spelled, subst}
use Rattle.hprof_grammar.proofs.Words.{suc, sym, take, take-append_seam, type_code, value_end, values_in, zero, ℕ, ◌*◌}
use Rattle.hprof_grammar.proofs.Words.{◌++◌, ◌+◌, ◌<◌, ◌^◌, ◌∙◌, ◌∷◌, ◌≡◌, ◌≤◌}
use Rattle.hprof_grammar.proofs.Bytes.{behind_number}
use Rattle.hprof_grammar.proofs.Fields.{spelled_then}
use Rattle.hprof_grammar.proofs.Places.{widths}

-- ---- numbers

pub length-numbers_in : (w n : ℕ) (bytes : List ℕ) → length (numbers_in w n bytes) ≡ n
length-numbers_in w zero bytes = refl
length-numbers_in w (suc n) bytes = ap suc (length-numbers_in w n (drop w bytes))

pub widths-numbers : (w : ℕ) (xs : List ℕ) → widths (map (number w) xs) ≡ length xs * w
widths-numbers w [] = omega arith
widths-numbers w (x ∷ xs) = omega (arith, widths-numbers w xs)

pub numbers_again : (w : ℕ) (xs rest : List ℕ) → AllByRecursion (λ x. x < 256 ^ w) xs
    → numbers_in w (length xs) (spelled (map (number w) xs) ++ rest) ≡ xs
numbers_again w [] rest fit = refl
numbers_again w (x ∷ xs) rest fit =
    let others = spelled (map (number w) xs) ++ rest in
    let first : big_number w (big_bytes w x ++ others) ≡ x = big_number-reads_back w x others fit.0 in
    let behind : drop w (big_bytes w x ++ others) ≡ others = behind_number w x others in
    rw (append_assoc, first, behind, numbers_again w xs rest fit.1) refl

-- ---- values after type codes

-- w bytes, a type code, a value, and other bytes
pub record IsValue (w size t : ℕ) (text others bytes : List ℕ) : Type 0 where
  pub type : slice_index bytes w ≡ t
  pub value : take size (drop (w + 1) bytes) ≡ text
  pub behind : drop (w + 1 + size) bytes ≡ others
  pub room : w + 1 + size ≤ length bytes

is_value : (w size t : ℕ) (front value others : List ℕ) → length front ≡ w → length value ≡ size
    → IsValue w size t value others (front ++ (t ∷ (value ++ others)))
is_value w size t front value others front_len value_len =
    let bytes = front ++ (t ∷ (value ++ others)) in
    let here : drop w bytes ≡ t ∷ (value ++ others) =
    subst (λ (n : ℕ). drop n bytes ≡ t ∷ (value ++ others)) front_len
    (drop-append_seam front (t ∷ (value ++ others))) in
    let after : drop (w + 1) bytes ≡ value ++ others = sym (drop-drop 1 w bytes) ∙ ap (drop 1) here in
    record {
      type = ap (slice_index bytes) (let same : w ≡ w + 0 = omega arith in same) ∙ sym (get_or-drop w bytes 0 0)
          ∙ ap (λ (l : List ℕ). slice_index l 0) here;
      value = ap (take size) after ∙ subst (λ (n : ℕ). take n (value ++ others) ≡ value) value_len
          (take-append_seam value others);
      behind = sym (drop-drop size (w + 1) bytes) ∙ ap (drop size) after
          ∙ subst (λ (n : ℕ). drop n (value ++ others) ≡ others) value_len (drop-append_seam value others);
      room = omega (arith, length-append front (t ∷ (value ++ others)), length-append value others);
    }

-- the bytes begin with n values, and `others` follow
pub record AreValues (s w n : ℕ) (them : List LabelledValue) (others bytes : List ℕ) : Type 0 where
  pub room : HasValues s w n bytes
  pub values : values_in s w n bytes ≡ them
  pub behind : behind_values s w n bytes ≡ others

module _ {X : Type 0} (s w : ℕ) (place : TypePlace) (front type : X → ℕ) (value : X → List ℕ) where
  abbrev pub value_fields : X → List Field
  value_fields x = number w (front x) ∷ type_code place (type x) ∷ raw (value x) ∷ []

  spelled_first : (x : X) (xs : List X) (rest : List ℕ) → spelled (flat_map value_fields (x ∷ xs)) ++ rest
      ≡ big_bytes w (front x) ++ (type x ∷ (value x ++ (spelled (flat_map value_fields xs) ++ rest)))
  spelled_first x xs rest =
      spelled_then (value_fields x) (flat_map value_fields xs) rest
      ∙ append_assoc (big_bytes w (front x)) (type x ∷ (value x ++ [])) (spelled (flat_map value_fields xs) ++ rest)
      ∙ ap (λ (l : List ℕ). big_bytes w (front x) ++ (type x ∷ (l ++ (spelled (flat_map value_fields xs) ++ rest))))
      (append-nil (value x))

  abbrev pub labelled : X → LabelledValue
  labelled x = record { label = front x; type = type x; value = value x }

  one_more : {x : X} {n : ℕ} {values : List LabelledValue} {behind others bytes : List ℕ}
      → big_number w bytes ≡ front x → IsValue w (size_of s (type x)) (type x) (value x) behind bytes
      → AreValues s w n values others behind → AreValues s w (suc n) (labelled x ∷ values) others bytes
  one_more first h more = record {
    room = rw (h.type, h.behind) (h.room, more.room);
    values = rw (h.type, h.behind, h.value, first, more.values) refl;
    behind = rw (h.type, h.behind) more.behind;
  }

  pub values_again : (Is : X → Type 0)
      → ((x : X) → Is x → (front x < 256 ^ w) × (length (value x) ≡ size_of s (type x)))
      → (xs : List X) (rest : List ℕ) → AllByRecursion Is xs
      → AreValues s w (length xs) (map labelled xs) rest (spelled (flat_map value_fields xs) ++ rest)
  values_again Is fits [] rest all = record { room = tt; values = refl; behind = refl }
  values_again Is fits (x ∷ xs) rest all =
      let fit = fits x all.0 in
      let others = spelled (flat_map value_fields xs) ++ rest in
      let here = is_value w (size_of s (type x)) (type x) (big_bytes w (front x)) (value x) others
      (length-bytes_high_first w (front x)) fit.1 in
      let first = big_number-reads_back w (front x) (type x ∷ (value x ++ others)) fit.0 in
      subst (λ (l : List ℕ). AreValues s w (length (x ∷ xs)) (map labelled (x ∷ xs)) rest l)
      (sym (spelled_first x xs rest)) (one_more {x = x} first here (values_again Is fits xs rest all.1))

pub length-values_in : (s w n : ℕ) (bytes : List ℕ) → length (values_in s w n bytes) ≡ n
length-values_in s w zero bytes = refl
length-values_in s w (suc n) bytes = ap suc (length-values_in s w n (drop (value_end s w bytes) bytes))

-- ---- instance fields

pub length-members_in : (s n : ℕ) (bytes : List ℕ) → length (members_in s n bytes) ≡ n
length-members_in s zero bytes = refl
length-members_in s (suc n) bytes = ap suc (length-members_in s n (drop (s + 1) bytes))

pub widths-members : (s : ℕ) (ms : List Member) → widths (flat_map (member_fields s) ms) ≡ length ms * (s + 1)
widths-members s [] = omega arith
widths-members s (m ∷ ms) = omega (arith, widths-members s ms)

pub members_again : (s : ℕ) (ms : List Member) (rest : List ℕ) → AllByRecursion (IsMember s) ms
    → members_in s (length ms) (spelled (flat_map (member_fields s) ms) ++ rest) ≡ ms
members_again s [] rest fit = refl
members_again s (m ∷ ms) rest fit =
    let others = spelled (flat_map (member_fields s) ms) ++ rest in
    let here = is_value s 0 m.type (big_bytes s m.name) [] others (length-bytes_high_first s m.name) refl in
    let name : big_number s (big_bytes s m.name ++ (m.type ∷ others)) ≡ m.name =
    big_number-reads_back s m.name (m.type ∷ others) fit.0 in
    let behind : drop (s + 1) (big_bytes s m.name ++ (m.type ∷ others)) ≡ others =
    ap (λ (n : ℕ). drop n (big_bytes s m.name ++ (m.type ∷ others)))
    (let same : s + 1 ≡ s + 1 + 0 = omega arith in same) ∙ here.behind in
    rw (append_assoc, name, here.type, behind, members_again s ms rest fit.1) refl
