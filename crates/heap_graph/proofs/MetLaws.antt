-- The classes that the entries of a list of fields are compared with, for one more object; and what an entry meets.
use Rattle.heap_graph.proofs.Words.{Bool, Class, List, None, Option, Record, SkipEntry, Some, SubRecord, [], ap}
use Rattle.heap_graph.proofs.Words.{append-nil, as_class, class_dump, class_dumps, cons_option, declares_described}
use Rattle.heap_graph.proofs.Words.{described, filter_map, filter_map-append, heap_of, is_met, list_any, map, refl}
use Rattle.heap_graph.proofs.Words.{slice_get, sym, take, ℕ, ◌++◌, ◌+◌, ◌∙◌, ◌∷◌, ◌≡◌}
use Rattle.std.proofs.Common.{◌||◌}
use Rattle.heap_graph.specs.MetEntries.{declares}
use Rattle.heap_graph.specs.working.DescribedClasses.{DescribedClass}
use Rattle.heap_graph.proofs.EntryLaws.{map_one, take_one}

module _ (records : List Record) (os : List SubRecord) (n : ℕ) (o : SubRecord) (here : slice_get os n ≡ Some o) where
  abbrev before : List Class
  before = filter_map as_class (take n os)

  abbrev pub AreDescribed : List DescribedClass → ℕ → Type 0
  AreDescribed classes count = classes ≡ map (described records) (filter_map as_class (take count os))

  one_more : filter_map as_class (take (n + 1) os) ≡ before ++ cons_option (as_class o) []
  one_more = ap (filter_map as_class) (take_one os n o here) ∙ filter_map-append as_class (take n os) (o ∷ [])

  pub one_class_more : (c : Class) (d : DescribedClass) (old new : List DescribedClass) → o ≡ class_dump c
      → d ≡ described records c → new ≡ old ++ d ∷ [] → AreDescribed old n → AreDescribed new (n + 1)
  one_class_more c d old new is same pushed are =
      pushed ∙ ap (λ (ds : List DescribedClass). ds ++ d ∷ []) are
      ∙ ap (λ (x : DescribedClass). map (described records) before ++ x ∷ []) same
      ∙ sym (ap (map (described records)) (one_more
      ∙ ap (λ (x : SubRecord). before ++ cons_option (as_class x) []) is) ∙ map_one (described records) before c)

  pub no_class_more : (classes : List DescribedClass) → as_class o ≡ None → AreDescribed classes n
      → AreDescribed classes (n + 1)
  no_class_more classes none are =
      are ∙ sym (ap (map (described records)) (one_more
      ∙ ap (λ (k : Option Class). before ++ cons_option k []) none ∙ append-nil before))

pub met_by_one : (records : List Record) (e : SkipEntry) (cs : List Class)
    → list_any (declares_described records e) (map (described records) cs) ≡ list_any (declares records e) cs
met_by_one records e [] = refl
met_by_one records e (c ∷ cs) = ap (λ (b : Bool). declares records e c || b) (met_by_one records e cs)

-- one more entry
pub one_more_met : (records : List Record) (es : List SkipEntry) (n : ℕ) (e : SkipEntry) (b : Bool)
    (cs : List DescribedClass) (old new : List Bool) → slice_get es n ≡ Some e
    → cs ≡ map (described records) (class_dumps (heap_of records)) → b ≡ list_any (declares_described records e) cs
    → new ≡ old ++ b ∷ [] → old ≡ map (is_met records) (take n es) → new ≡ map (is_met records) (take (n + 1) es)
one_more_met records es n e b cs old new here classes met pushed before =
    let all = class_dumps (heap_of records) in
    pushed ∙ ap (λ (bs : List Bool). bs ++ b ∷ []) before
    ∙ ap (λ (x : Bool). map (is_met records) (take n es) ++ x ∷ [])
    (met ∙ ap (list_any (declares_described records e)) classes ∙ met_by_one records e all)
    ∙ sym (ap (map (is_met records)) (take_one es n e here) ∙ map_one (is_met records) (take n es) e)
