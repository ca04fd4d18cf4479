-- The classes of the table, with the texts that name them.
use Rattle.heap_graph.proofs.Words.{Class, ClassEntry, List, Option, Record, [], ap, class_dumps, class_text, heap_of}
use Rattle.heap_graph.proofs.Words.{length, map, named_classes, option_copied, slice_get-get_or, slice_index, sym, take}
use Rattle.heap_graph.proofs.Words.{take_all, ℕ, ◌++◌, ◌+◌, ◌<◌, ◌∙◌, ◌∷◌, ◌≡◌, ◌≤◌}
use Rattle.std.proofs.lemmas.Simd.{map-map}
use Rattle.heap_graph.specs.ObjectGraph.{NamedClass}
use Rattle.heap_graph.specs.working.Refinement.{named_class}
use Rattle.heap_graph.proofs.EntryLaws.{map_one, take_one}

-- the class with identifier `id`, and the text that names it
abbrev named_by : List Record → ℕ → NamedClass
named_by records id = record { id = id; text = class_text records id }

-- `classes` are the first n classes of `ids`, with the texts that name them
abbrev pub AreNamed : List Record → List ℕ → ℕ → List ClassEntry → Type 0
AreNamed records ids n classes = map named_class classes ≡ map (named_by records) (take n ids)

pub none_named : (records : List Record) (ids : List ℕ) (classes : List ClassEntry) → classes ≡ []
    → AreNamed records ids 0 classes
none_named records [] classes none = ap (λ (es : List ClassEntry). map named_class es) none
none_named records (id ∷ ids) classes none = ap (λ (es : List ClassEntry). map named_class es) none

named_is : (records : List Record) (e : ClassEntry) (id : ℕ) → e.id ≡ id
    → option_copied e.text ≡ class_text records e.id → named_class e ≡ named_by records id
named_is records e id same text =
    ap (λ (t : Option (List ℕ)). let named : NamedClass = record { id = e.id; text = t } in named) text
    ∙ ap (λ (i : ℕ). named_by records i) same

pub one_more_named : (records : List Record) (ids : List ℕ) (n : ℕ) (old new : List ClassEntry) (e : ClassEntry)
    → n < length ids → e.id ≡ slice_index ids n → option_copied e.text ≡ class_text records e.id
    → new ≡ old ++ e ∷ [] → AreNamed records ids n old → AreNamed records ids (n + 1) new
one_more_named records ids n old new e below id text added are =
    ap (λ (es : List ClassEntry). map named_class es) added ∙ map_one named_class old e
    ∙ ap (λ (ds : List NamedClass). ds ++ named_class e ∷ []) are
    ∙ ap (λ (d : NamedClass). map (named_by records) (take n ids) ++ d ∷ [])
    (named_is records e (slice_index ids n) id text)
    ∙ sym (map_one (named_by records) (take n ids) (slice_index ids n))
    ∙ sym (ap (λ (xs : List ℕ). map (named_by records) xs)
    (take_one ids n (slice_index ids n) (slice_get-get_or ids n 0 below)))

-- these are all classes, if the identifiers are those of the class dumps
pub all_named : (records : List Record) (ids : List ℕ) (n : ℕ) (classes : List ClassEntry) → length ids ≤ n
    → ids ≡ map (λ (c : Class). c.object) (class_dumps (heap_of records)) → AreNamed records ids n classes
    → map named_class classes ≡ named_classes records
all_named records ids n classes all in_order are =
    are ∙ ap (λ (xs : List ℕ). map (named_by records) xs) (take_all n ids all ∙ in_order)
    ∙ map-map (named_by records) (λ (c : Class). c.object) (class_dumps (heap_of records))
