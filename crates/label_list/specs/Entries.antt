-- What a list of labels says: its entries.
use Rattle.std.specs.Prelude.{List, [], max, ℕ, ◌+◌, ◌∷◌}
use Rattle.label_list.specs.declared.entry.Entry.{Entry}
use Rattle.label_list.specs.declared.entry.Entry.TheVariants as entries

-- one more than the label that an entry names, or 0 if it names none
abbrev pub labels_to : Entry → ℕ
labels_to (entries.Label label _) = label + 1
labels_to (entries.Cut _) = 0
labels_to (entries.Root _) = 0

-- The number of labels of a list: one more than the highest label that an entry names, or 0 if none names one.
abbrev pub label_count : List Entry → ℕ
label_count [] = 0
label_count (e ∷ es) = max (labels_to e) (label_count es)
