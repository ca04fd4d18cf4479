-- The number of labels is above each label, and small.
use Rattle.std.proofs.Common.{List, Some, [], arith, length, max, suc, zero, ℕ, ◌++◌, ◌+◌, ◌<◌, ◌^◌, ◌∷◌, ◌≡◌, ◌≤◌}
use Rattle.std.proofs.Common.{Contains, ap, get_or}
use Rattle.label_list.proofs.Lines.{line_found}
use Rattle.label_list.specs.Entries.{label_count, labels_to}
use Rattle.label_list.specs.ListText.{SpellsEntry, SpellsList}
use Rattle.label_list.specs.working.Reading.{line_at}
use Rattle.label_list.specs.declared.entry.Entry.{Entry}
use Rattle.label_list.specs.declared.entry.Entry.TheVariants as entries
use Rattle.label_list.specs.declared.entry.Place.{Place}

pub count_push : (es : List Entry) (e : Entry) → label_count (es ++ e ∷ []) ≡ max (label_count es) (labels_to e)
count_push [] e = omega arith
count_push (f ∷ fs) e = omega (arith, count_push fs e)

entry_is_few : (e : Entry) (line : List ℕ) → SpellsEntry line e → labels_to e ≤ 2 ^ 20
entry_is_few (entries.Label label place) line is = omega (arith, is.2.below)
entry_is_few (entries.Cut place) line is = omega arith
entry_is_few (entries.Root id) line is = omega arith

pub line_is_few : (text rest : List ℕ) (e : Entry) → line_at text ≡ Some (e, rest) → labels_to e ≤ 2 ^ 20
line_is_few text rest e found = let line = line_found text rest e found in entry_is_few e line.0 line.1

pub few : (es : List Entry) (text : List ℕ) → SpellsList text es → label_count es ≤ 2 ^ 20
few [] text is = omega arith
few (e ∷ es) text is = omega (arith, entry_is_few e is.0 is.2, few es is.1 is.3)

counted_at : (es : List Entry) (k : ℕ) (label : ℕ) (place : Place) → k < length es
    → get_or es k (entries.Label label place) ≡ entries.Label label place → label < label_count es
counted_at [] k label place inside same = omega (arith, inside)
counted_at (e ∷ es) zero label place inside same =
    let count : labels_to e ≡ label + 1 = ap labels_to same in omega (arith, count)
counted_at (e ∷ es) (suc k) label place inside same =
    let more = counted_at es k label place (omega (arith, inside)) same in omega (arith, more)

pub counted : (es : List Entry) (label : ℕ) (place : Place) → Contains es (entries.Label label place)
    → label < label_count es
counted es label place has = counted_at es has.0 label place has.1 has.2
