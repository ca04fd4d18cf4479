-- The references of an object: what its identifiers name, without those that are cut, with their labels.
use Rattle.std.specs.Prelude.{Bool, List, None, Option, Some, [], filter_map, if◌then◌else◌, nat_lt, option_map, ℕ, ◌+◌}
use Rattle.std.specs.Prelude.{◌^◌, ◌∷◌}
use Rattle.std.specs.List.{cons_option}
use Rattle.heap_graph.specs.Walks.{target_in}
use Rattle.heap_graph.specs.declared.row.RowKey.{RowKey}
use Rattle.label_flow.specs.declared.graph.Reference.{Reference}
use Rattle.label_list.specs.declared.entry.Entry.{Entry}
use Rattle.label_list.specs.declared.entry.Entry.TheVariants as entries
use Rattle.labelled_graph.specs.declared.mark.Mark.{Mark}
use Rattle.labelled_graph.specs.declared.mark.Mark.TheVariants.{Cut, Labels}
use Rattle.labelled_graph.specs.declared.mark.PlacedMark.{PlacedMark}
use Rattle.labelled_graph.specs.declared.place_marks.PlaceMarks.{PlaceMarks}
use Rattle.labelled_graph.specs.working.ClassLists.{list_of}
use Rattle.labelled_graph.specs.working.MarkMaps.{MarkMap, found_at, mark_at}
use Rattle.labelled_graph.specs.working.ObjectMarks.{own_mark_at}

-- the mark of a place of which nothing is said
abbrev pub no_mark : Mark
no_mark = Labels (record { number = 0 })

-- an object's own mark, or that of its class
abbrev pub place_mark : Option Mark → Option Mark → Mark
place_mark (Some own) class = own
place_mark None (Some class) = class
place_mark None None = no_mark

-- no place with a number of 2^32 or more has a mark
abbrev pub limited : ℕ → Mark → Mark
limited i mark = if nat_lt i (2 ^ 32) then mark else no_mark

-- the index after `i`, which stays at 2^32
abbrev pub index_after : ℕ → ℕ
index_after i = if nat_lt i (2 ^ 32) then i + 1 else i

abbrev pub own_mark : {A : Type 0} → PlaceMarks A → ℕ → Option Mark
own_mark m i = if m.has_own then mark_at m.own.now.marks m.object i else None

-- the mark of the identifier number `i` of the object whose marks `m` has
abbrev pub mark_of : {A : Type 0} → PlaceMarks A → ℕ → Mark
mark_of m i = limited i (place_mark (own_mark m i) (found_at m.class.now i))

-- the same from the tables: `o` is the number of the object, `row` its row
abbrev pub object_mark : List (List PlacedMark) → MarkMap → List Bool → RowKey → ℕ → ℕ → Mark
object_mark classes marks has row o i = limited i (place_mark (own_mark_at marks has o i) (found_at
    (list_of classes row) i))

abbrev pub root_mark : MarkMap → ℕ → Mark
root_mark marks i = limited i (place_mark None (mark_at marks 0 i))

-- the reference of an identifier that names `named` and has the mark
abbrev pub reference_of : Option ℕ → Mark → Option Reference
reference_of None mark = None
reference_of (Some object) Cut = None
reference_of (Some object) (Labels labels) = Some (record { object = object; labels = labels })

-- The references of identifiers that name `named`. The first has the number `i`, and `mark` has the mark of each
-- number.
abbrev pub kept : (ℕ → Mark) → ℕ → List (Option ℕ) → List Reference
kept mark i [] = []
kept mark i (n ∷ ns) = cons_option (reference_of n (mark i)) (kept mark (i + 1) ns)

-- the root that an entry adds
abbrev pub added_root : List ℕ → Entry → Option Reference
added_root ids (entries.Label l p) = None
added_root ids (entries.Cut p) = None
added_root ids (entries.Root id) = option_map (λ o. record { object = o; labels = record { number = 0 } })
    (target_in ids id)

abbrev pub added_roots : List ℕ → List Entry → List Reference
added_roots ids list = filter_map (added_root ids) list
