-- A line is read as the entry that it spells, and as no other.
use Rattle.std.proofs.Common.{List, None, Option, Some, [], ap, append_assoc, cond, refl, subst, sym, ℕ, inl, inr}
use Rattle.std.proofs.Common.{Bool, ◌++◌, ◌∙◌, ◌∷◌, ◌≡◌, ◌==◌}
use Rattle.std.proofs.lemmas.Bool.{eq-eqb, eqb-true}
use Rattle.std.proofs.lemmas.Option.{none-some, same_Some, some_pair_parts}
use Rattle.std.specs.Prelude.{codes}
use Rattle.label_list.proofs.Numbers.{number_found, number_read}
use Rattle.label_list.proofs.Options.{as_then, bind_then, cond_then, when_then}
use Rattle.label_list.specs.ListText.{SpellsEntry, SpellsPair, SpellsPlace, blank, id_limit, index_limit, label_limit}
use Rattle.label_list.specs.ListText.{newline}
use Rattle.label_list.specs.working.Reading.{after, as_at, digit_count, entry_at, line_at, number_at, pair_at, place_at}
use Rattle.label_list.specs.working.Reading.{then_at, when, ◌>>=◌}
use Rattle.label_list.specs.declared.entry.Entry.{Entry}
use Rattle.label_list.specs.declared.entry.Entry.TheVariants as entries
use Rattle.label_list.specs.declared.entry.Place.{Place}
use Rattle.label_list.specs.declared.entry.Place.TheVariants as places

-- ---- words

pub after_whole : (word rest : List ℕ) → after word (word ++ rest) ≡ Some rest
after_whole [] rest = refl
after_whole (w ∷ ws) rest =
    ap (λ (t : Bool). cond t (after ws (ws ++ rest)) None) (eq-eqb w w refl) ∙ after_whole ws rest

pub after_found : (word text rest : List ℕ) → after word text ≡ Some rest → text ≡ word ++ rest
after_found [] text rest e = same_Some text rest e
after_found (w ∷ ws) [] rest e = absurd (none-some rest e)
after_found (w ∷ ws) (b ∷ bs) rest e =
    let found = cond_then (b == w) (after ws bs) rest e in
    let same = eqb-true b w found.0 in
    let more = after_found ws bs rest found.1 in
    λ i. same i ∷ more i

-- ---- two parts with a blank between

then_read : {A B C : Type 0} (to : A → B → C) (first : Option (A × List ℕ)) (read : List ℕ → Option (B × List ℕ))
    (x : A) (y : B) (more rest : List ℕ) → first ≡ Some (x, blank ∷ more) → read more ≡ Some (y, rest)
    → then_at to first read ≡ Some (to x y, rest)
then_read to first read x y more rest e f =
    (λ i. then_at to (e i) read) ∙ (λ i. f i >>= λ z. Some (to x z.0, z.1))

then_found : {A B C : Type 0} (to : A → B → C) (first : Option (A × List ℕ)) (read : List ℕ → Option (B × List ℕ))
    (z : C) (rest : List ℕ) → then_at to first read ≡ Some (z, rest)
    → (x : A) × (y : B) × (more : List ℕ) × (first ≡ Some (x, blank ∷ more)) × (read more ≡ Some (y, rest))
    × (to x y ≡ z)
then_found to first read z rest e =
    let one = bind_then first
    (λ x. after (blank ∷ []) x.1 >>= λ more. read more >>= λ y. Some (to x.0 y.0, y.1)) (z, rest) e in
    let two = bind_then (after (blank ∷ []) one.0.1) (λ more. read more >>= λ y. Some (to one.0.0 y.0, y.1)) (z, rest)
    one.2 in
    let three = as_then (to one.0.0) (read two.0) z rest two.2 in
    let cut = after_found (blank ∷ []) one.0.1 two.0 two.1 in
    (one.0.0, three.0, two.0, one.1 ∙ ap (λ (xs : List ℕ). Some (one.0.0, xs)) cut, three.1, three.2)

-- `a`, a blank and `b`, and then `rest`
parted : (text a b rest : List ℕ) → text ≡ a ++ blank ∷ b → text ++ rest ≡ a ++ blank ∷ (b ++ rest)
parted text a b rest e = ap (λ (xs : List ℕ). xs ++ rest) e ∙ append_assoc a (blank ∷ b) rest

joined : (text a more b rest : List ℕ) → text ≡ a ++ blank ∷ more → more ≡ b ++ rest → text ≡ (a ++ blank ∷ b) ++ rest
joined text a more b rest e f =
    e ∙ ap (λ (xs : List ℕ). a ++ blank ∷ xs) f ∙ sym (append_assoc a (blank ∷ b) rest)

pair_read : (text rest : List ℕ) (id index : ℕ) → SpellsPair text id index → digit_count rest ≡ 0
    → pair_at (text ++ rest) ≡ Some ((id, index), rest)
pair_read text rest id index is ends =
    let more = is.1 ++ rest in
    ap pair_at (parted text is.0 is.1 rest is.4)
    ∙ then_read (λ a b. (a, b)) (number_at id_limit (is.0 ++ blank ∷ more)) (number_at index_limit) id index more rest
    (number_read id_limit is.0 (blank ∷ more) id is.2 refl) (number_read index_limit is.1 rest index is.3 ends)

pair_found : (text rest : List ℕ) (pair : ℕ × ℕ) → pair_at text ≡ Some (pair, rest)
    → (part : List ℕ) × SpellsPair part pair.0 pair.1 × (text ≡ part ++ rest)
pair_found text rest pair e =
    let found = then_found (λ a b. (a, b)) (number_at id_limit text) (number_at index_limit) pair rest e in
    let more = found.2 in
    let id = number_found id_limit text (blank ∷ more) found.0 found.3 in
    let index = number_found index_limit more rest found.1 found.4 in
    let part = id.0 ++ blank ∷ index.0 in
    let spelled : SpellsPair part found.0 found.1 = (id.0, index.0, id.1, index.1, refl) in (
      part,
      subst (λ (p : ℕ × ℕ). SpellsPair part p.0 p.1) found.5 spelled,
      joined text id.0 more index.0 rest id.2 index.2,
    )

-- ---- places

-- a word, and a part after it
worded : (word text rest more part : List ℕ) → text ≡ word ++ more → more ≡ part ++ rest
    → text ≡ (word ++ part) ++ rest
worded word text rest more part e f =
    e ∙ ap (λ (xs : List ℕ). word ++ xs) f ∙ sym (append_assoc word part rest)

as_read : {A B : Type 0} (to : A → B) (read : Option (A × List ℕ)) (x : A) (rest : List ℕ) → read ≡ Some (x, rest)
    → as_at to read ≡ Some (to x, rest)
as_read to read x rest e = λ i. as_at to (e i)

-- a text that begins with a word
begun : (word part text rest : List ℕ) → text ≡ word ++ part → text ++ rest ≡ word ++ (part ++ rest)
begun word part text rest e = ap (λ (xs : List ℕ). xs ++ rest) e ∙ append_assoc word part rest

place_read : (place : Place) (text rest : List ℕ) → SpellsPlace text place → digit_count rest ≡ 0
    → place_at (text ++ rest) ≡ Some (place, rest)
unfolding place_at
place_read (places.Class id index) text rest is ends =
    ap place_at (begun (codes "class ") is.0 text rest is.2)
    ∙ as_read (λ p. places.Class p.0 p.1) (pair_at (is.0 ++ rest)) (id, index) rest
    (pair_read is.0 rest id index is.1 ends)
place_read (places.Object id index) text rest is ends =
    ap place_at (begun (codes "object ") is.0 text rest is.2)
    ∙ as_read (λ p. places.Object p.0 p.1) (pair_at (is.0 ++ rest)) (id, index) rest
    (pair_read is.0 rest id index is.1 ends)
place_read (places.Root index) text rest is ends =
    ap place_at (begun (codes "root ") is.0 text rest is.2)
    ∙ as_read places.Root (number_at index_limit (is.0 ++ rest)) index rest
    (number_read index_limit is.0 rest index is.1 ends)

abbrev FoundPlace : List ℕ → Place → List ℕ → Type 0
FoundPlace text place rest = (part : List ℕ) × SpellsPlace part place × (text ≡ part ++ rest)

pair_place_found : (word : List ℕ) (to : ℕ → ℕ → Place)
    → ((id index : ℕ) (a : List ℕ) → SpellsPair a id index → SpellsPlace (word ++ a) (to id index))
    → (text more rest : List ℕ) (place : Place) → after word text ≡ Some more
    → as_at (λ p. to p.0 p.1) (pair_at more) ≡ Some (place, rest) → FoundPlace text place rest
pair_place_found word to spells text more rest place there e =
    let found = as_then (λ p. to p.0 p.1) (pair_at more) place rest e in
    let pair = pair_found more rest found.0 found.1 in (
      word ++ pair.0,
      subst (λ (p : Place). SpellsPlace (word ++ pair.0) p) found.2 (spells found.0.0 found.0.1 pair.0 pair.1),
      worded word text rest more pair.0 (after_found word text more there) pair.2,
    )

root_place_found : (text more rest : List ℕ) (place : Place) → after (codes "root ") text ≡ Some more
    → as_at places.Root (number_at index_limit more) ≡ Some (place, rest) → FoundPlace text place rest
root_place_found text more rest place there e =
    let word = codes "root " in
    let found = as_then places.Root (number_at index_limit more) place rest e in
    let index = number_found index_limit more rest found.0 found.1 in
    let spelled : SpellsPlace (word ++ index.0) (places.Root found.0) = (index.0, index.1, refl) in (
      word ++ index.0,
      subst (λ (p : Place). SpellsPlace (word ++ index.0) p) found.2 spelled,
      worded word text rest more index.0 (after_found word text more there) index.2,
    )

place_found : (text rest : List ℕ) (place : Place) → place_at text ≡ Some (place, rest) → FoundPlace text place rest
unfolding place_at
place_found text rest place e =
    let to_class : ℕ × ℕ → Place = λ p. places.Class p.0 p.1 in
    let to_object : ℕ × ℕ → Place = λ p. places.Object p.0 p.1 in
    let as_class : List ℕ → Option (Place × List ℕ) = λ more. as_at to_class (pair_at more) in
    let as_object : List ℕ → Option (Place × List ℕ) = λ more. as_at to_object (pair_at more) in
    let as_root : List ℕ → Option (Place × List ℕ) = λ more. as_at places.Root (number_at index_limit more) in
    let third = when (after (codes "root ") text) as_root None in
    let second = when (after (codes "object ") text) as_object third in
    elim (when_then (after (codes "class ") text) as_class second (place, rest) e) [
      | inl f ↦
          pair_place_found (codes "class ") places.Class (λ id index a is. (a, is, refl)) text f.0 rest place f.1 f.2
      | inr e ↦
          elim (when_then (after (codes "object ") text) as_object third (place, rest) e) [
            | inl f ↦
                pair_place_found (codes "object ") places.Object (λ id index a is. (a, is, refl)) text f.0 rest place
                f.1 f.2
            | inr e ↦
                elim (when_then (after (codes "root ") text) as_root None (place, rest) e) [
                  | inl f ↦ root_place_found text f.0 rest place f.1 f.2
                  | inr e ↦ absurd (none-some (place, rest) e)
                ]
          ]
    ]

-- ---- entries and lines

labelled : (word text a b rest : List ℕ) → text ≡ word ++ (a ++ blank ∷ b)
    → text ++ rest ≡ word ++ (a ++ blank ∷ (b ++ rest))
labelled word text a b rest e =
    begun word (a ++ blank ∷ b) text rest e
    ∙ ap (λ (xs : List ℕ). word ++ xs) (append_assoc a (blank ∷ b) rest)

entry_read : (entry : Entry) (text rest : List ℕ) → SpellsEntry text entry → digit_count rest ≡ 0
    → entry_at (text ++ rest) ≡ Some (entry, rest)
unfolding entry_at
entry_read (entries.Label label place) text rest is ends =
    let more = is.1 ++ rest in
    ap entry_at (labelled (codes "label ") text is.0 is.1 rest is.4)
    ∙ then_read entries.Label (number_at label_limit (is.0 ++ blank ∷ more)) place_at label place more rest
    (number_read label_limit is.0 (blank ∷ more) label is.2 refl) (place_read place is.1 rest is.3 ends)
entry_read (entries.Cut place) text rest is ends =
    ap entry_at (begun (codes "cut ") is.0 text rest is.2)
    ∙ as_read entries.Cut (place_at (is.0 ++ rest)) place rest (place_read place is.0 rest is.1 ends)
entry_read (entries.Root id) text rest is ends =
    ap entry_at (begun (codes "root ") is.0 text rest is.2)
    ∙ as_read entries.Root (number_at id_limit (is.0 ++ rest)) id rest (number_read id_limit is.0 rest id is.1 ends)

abbrev FoundEntry : List ℕ → Entry → List ℕ → Type 0
FoundEntry text entry rest = (line : List ℕ) × SpellsEntry line entry × (text ≡ line ++ rest)

label_found : (text more rest : List ℕ) (entry : Entry) → after (codes "label ") text ≡ Some more
    → then_at entries.Label (number_at label_limit more) place_at ≡ Some (entry, rest) → FoundEntry text entry rest
label_found text more rest entry there e =
    let word = codes "label " in
    let found = then_found entries.Label (number_at label_limit more) place_at entry rest e in
    let label = number_found label_limit more (blank ∷ found.2) found.0 found.3 in
    let place = place_found found.2 rest found.1 found.4 in
    let part = label.0 ++ blank ∷ place.0 in
    let spelled : SpellsEntry (word ++ part) (entries.Label found.0 found.1) =
    (label.0, place.0, label.1, place.1, refl) in (
      word ++ part,
      subst (λ (x : Entry). SpellsEntry (word ++ part) x) found.5 spelled,
      worded word text rest more part (after_found word text more there)
          (joined more label.0 found.2 place.0 rest label.2 place.2),
    )

cut_found : (text more rest : List ℕ) (entry : Entry) → after (codes "cut ") text ≡ Some more
    → as_at entries.Cut (place_at more) ≡ Some (entry, rest) → FoundEntry text entry rest
cut_found text more rest entry there e =
    let word = codes "cut " in
    let found = as_then entries.Cut (place_at more) entry rest e in
    let place = place_found more rest found.0 found.1 in
    let spelled : SpellsEntry (word ++ place.0) (entries.Cut found.0) = (place.0, place.1, refl) in (
      word ++ place.0,
      subst (λ (x : Entry). SpellsEntry (word ++ place.0) x) found.2 spelled,
      worded word text rest more place.0 (after_found word text more there) place.2,
    )

root_found : (text more rest : List ℕ) (entry : Entry) → after (codes "root ") text ≡ Some more
    → as_at entries.Root (number_at id_limit more) ≡ Some (entry, rest) → FoundEntry text entry rest
root_found text more rest entry there e =
    let word = codes "root " in
    let found = as_then entries.Root (number_at id_limit more) entry rest e in
    let id = number_found id_limit more rest found.0 found.1 in
    let spelled : SpellsEntry (word ++ id.0) (entries.Root found.0) = (id.0, id.1, refl) in (
      word ++ id.0,
      subst (λ (x : Entry). SpellsEntry (word ++ id.0) x) found.2 spelled,
      worded word text rest more id.0 (after_found word text more there) id.2,
    )

entry_found : (text rest : List ℕ) (entry : Entry) → entry_at text ≡ Some (entry, rest) → FoundEntry text entry rest
unfolding entry_at
entry_found text rest entry e =
    let as_label : List ℕ → Option (Entry × List ℕ) =
    λ more. then_at entries.Label (number_at label_limit more) place_at in
    let as_cut : List ℕ → Option (Entry × List ℕ) = λ more. as_at entries.Cut (place_at more) in
    let as_root : List ℕ → Option (Entry × List ℕ) = λ more. as_at entries.Root (number_at id_limit more) in
    let third = when (after (codes "root ") text) as_root None in
    let second = when (after (codes "cut ") text) as_cut third in
    elim (when_then (after (codes "label ") text) as_label second (entry, rest) e) [
      | inl f ↦ label_found text f.0 rest entry f.1 f.2
      | inr e ↦
          elim (when_then (after (codes "cut ") text) as_cut third (entry, rest) e) [
            | inl f ↦ cut_found text f.0 rest entry f.1 f.2
            | inr e ↦
                elim (when_then (after (codes "root ") text) as_root None (entry, rest) e) [
                  | inl f ↦ root_found text f.0 rest entry f.1 f.2
                  | inr e ↦ absurd (none-some (entry, rest) e)
                ]
          ]
    ]

pub line_read : (line rest : List ℕ) (entry : Entry) → SpellsEntry line entry
    → line_at (line ++ newline ∷ rest) ≡ Some (entry, rest)
unfolding line_at
line_read line rest entry is =
    λ i. entry_read entry line (newline ∷ rest) is refl i >>= λ x. after (newline ∷ []) x.1 >>= λ r. Some (x.0, r)

pub line_found : (text rest : List ℕ) (entry : Entry) → line_at text ≡ Some (entry, rest)
    → (line : List ℕ) × SpellsEntry line entry × (text ≡ line ++ newline ∷ rest)
unfolding line_at
line_found text rest entry e =
    let one = bind_then (entry_at text) (λ x. after (newline ∷ []) x.1 >>= λ more. Some (x.0, more)) (entry, rest) e in
    let two = bind_then (after (newline ∷ []) one.0.1) (λ more. Some (one.0.0, more)) (entry, rest) one.2 in
    let same = some_pair_parts one.0.0 entry two.0 rest two.2 in
    let cut = after_found (newline ∷ []) one.0.1 two.0 two.1 in
    let behind : one.0.1 ≡ newline ∷ rest = cut ∙ ap (λ (xs : List ℕ). newline ∷ xs) same.1 in
    entry_found text (newline ∷ rest) entry (one.1 ∙ (λ i. Some (same.0 i, behind i)))
