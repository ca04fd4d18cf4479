-- From a dump to its graph.
use Rattle.heap_graph.proofs.Words.{AreClassNumbers, AreIndexed, AreLinked, AreLinkedOf, AreNamedOf, AreNames}
use Rattle.heap_graph.proofs.Words.{AreObjects, ArePlacesOf, AreRootsOf, ClassEntry, GraphOf, GraphOf-prop}
use Rattle.heap_graph.proofs.Words.{HasLinkFault, HaveFatesOf, Indexed, IsDumpOf, IsFaultOf, IsFirstFault, IsGraphOf}
use Rattle.heap_graph.proofs.Words.{IsGraphOfText, IsLinked, IsPlaced, IsReadOf, LinkFault, List, ObjectGraph, Objects}
use Rattle.heap_graph.proofs.Words.{Places, Plan, Record, RecordStandsAt, Resolves, Sight, SkipEntry, StandFor}
use Rattle.heap_graph.proofs.Words.{StandInTurn, Stands, SubRecord, SubRecordStandsAt, [], ap, arith, bytes_of}
use Rattle.heap_graph.proofs.Words.{count_by, filter, filter_map, heap_of, id_of, is_load, is_skipped, is_string}
use Rattle.heap_graph.proofs.Words.{is_unresolved, length, limit, map, named_classes, objects, refl, root_ids}
use Rattle.heap_graph.proofs.Words.{root_objects, row_of, slice_get, spelling_of, subst, sym, target_in, targets}
use Rattle.heap_graph.proofs.Words.{unresolved_in, ℕ, ◌++◌, ◌+◌, ◌∙◌, ◌≡◌, ◌≤◌}
use Rattle.heap_graph.proofs.Counting.{few_in_dump, few_of_records}
use Rattle.heap_graph.proofs.IdLists.{are_lists, have_id_lists}
use Rattle.heap_graph.proofs.UnresolvedLaws.{few_in_lists, roots_unresolved}
use Rattle.heap_graph.proofs.Sizes.{id_size_range}
use Rattle.heap_graph.proofs.TargetLaws.{same_unresolved, same_targets}
use Rattle.heap_graph.proofs.Wholeness.{is_whole}

-- ---- the parts of the bytes, by a view of them

pub seen_by : {X : Type 0} (IsAt : ℕ → List ℕ → ℕ → X → Type 0) (v : Sight) (bytes : List ℕ) (s : ℕ)
    (places known : List ℕ) (things : List X)
    → v.bytes ≡ bytes → v.id_size ≡ s → places ≡ known → StandInTurn (IsAt s bytes) known things
    → StandInTurn (IsAt v.id_size v.bytes) places things
seen_by IsAt v bytes s places known things bytes_are size_is places_are stand =
    subst (λ (xs : List ℕ). StandInTurn (IsAt v.id_size v.bytes) xs things) (sym places_are)
    (subst (λ (n : ℕ). StandInTurn (IsAt n v.bytes) known things) (sym size_is)
    (subst (λ (bs : List ℕ). StandInTurn (IsAt s bs) known things) (sym bytes_are) stand))

pub same_sight : (v w : Sight) → v.bytes ≡ w.bytes → v.id_size ≡ w.id_size → v ≡ w
same_sight v w e f = λ i. record { bytes = e i; id_size = f i }

module _ (bytes : List ℕ) (dump : Places) (is : IsDumpOf bytes dump) where
  pub are_linked : (v : Sight) (places ids : List ℕ) → v.bytes ≡ bytes → v.id_size ≡ dump.id_size
      → AreObjects v places ids (heap_of is.records) → IsLinked v.id_size (heap_of is.records)
      → AreLinked v places ids (heap_of is.records)
  are_linked v places ids bytes_are size_is are linked =
      let range = id_size_range dump.id_size is.spells.id_size in
      record {
        are = are;
        low = omega (arith, size_is, range.0);
        high = omega (arith, size_is, range.1);
        short = omega (arith, ap length bytes_are, is.spells.size);
        linked = linked;
      }

  pub are_names : (v : Sight) (strings loaded : List ℕ) → v.bytes ≡ bytes → v.id_size ≡ dump.id_size
      → strings ≡ dump.strings → loaded ≡ dump.loaded → IsPlaced bytes dump is.records
      → AreNames v strings loaded is.records
  are_names v strings loaded bytes_are size_is strings_are loaded_are placed = record {
    few_strings = omega (arith, ap length strings_are, placed.strings.count, few_of_records bytes dump is is_string);
    few_loaded = omega (arith, ap length loaded_are, placed.loaded.count, few_of_records bytes dump is is_load);
    string_each = seen_by RecordStandsAt v bytes dump.id_size strings dump.strings
        (filter is_string is.records) bytes_are size_is strings_are placed.strings;
    loaded_each = seen_by RecordStandsAt v bytes dump.id_size loaded dump.loaded
        (filter is_load is.records) bytes_are size_is loaded_are placed.loaded;
  }

  pub has_fault : (s : ℕ) (places : List ℕ) (fault : LinkFault) → s ≡ dump.id_size → places ≡ dump.objects
      → IsFaultOf s (heap_of is.records) places fault → HasLinkFault bytes fault.code fault.offset
  has_fault s places fault size_is places_are f =
      let same = places_are ∙ ap (λ (d : Places). d.objects) is.places in
      record {
        id_size = dump.id_size;
        records = is.records;
        spells = is.spells;
        orderly = is.orderly;
        number = f.number;
        rule = f.rule;
        first = subst (λ (n : ℕ). IsFirstFault n (heap_of is.records) f.number f.rule) size_is f.first;
        code_is = f.code_is;
        place_is = sym (ap (λ (ps : List ℕ). slice_get ps f.number) same) ∙ f.place_is;
      }

-- ---- the objects at the places of a dump

-- the places that were taken out of a dump are those of its objects
abbrev pub handed_places : (bytes : List ℕ) (dump now : Places) (s : ℕ) (handed : List ℕ) → IsDumpOf bytes dump
    → now ≡ record dump { objects = [] } → s ≡ now.id_size → handed ≡ dump.objects → ArePlacesOf bytes s handed dump
handed_places bytes dump now s handed is rest size_is handed_are = record {
  is = is;
  size_is = size_is ∙ ap (λ (d : Places). d.id_size) rest;
  places_are = handed_are;
}

module _ (bytes : List ℕ) (s : ℕ) (places : List ℕ) (dump : Places) (are : ArePlacesOf bytes s places dump) where
  pub size_in_range : (1 ≤ s) × (s ≤ 8)
  size_in_range =
      let range = id_size_range dump.id_size are.is.spells.id_size in
      (omega (arith, are.size_is, range.0), omega (arith, are.size_is, range.1))

  module _ (placed : IsPlaced bytes dump are.is.records) where
    pub objects_stand : (v : Sight) → v.bytes ≡ bytes → v.id_size ≡ s
        → StandInTurn (Stands v) places (objects (heap_of are.is.records))
    objects_stand v bytes_are size_is =
        seen_by SubRecordStandsAt v bytes dump.id_size places dump.objects (objects (heap_of are.is.records)) bytes_are
        (size_is ∙ are.size_is) are.places_are placed.objects

    -- objects that were indexed by a view v are the same by another view w
    pub are_indexed : {A : Type 0} (v w : Sight) (i : Indexed A) (known : List ℕ) → v.bytes ≡ bytes → v.id_size ≡ s
        → w.bytes ≡ bytes → w.id_size ≡ s → known ≡ places
        → ((heap : List SubRecord) → StandInTurn (Stands v) known (objects heap) → AreIndexed v known heap i)
        → AreIndexed w places (heap_of are.is.records) i
    are_indexed v w i known v_bytes v_size w_bytes w_size same indexed =
        let here = objects (heap_of are.is.records) in
        let stand = subst (λ (xs : List ℕ). StandInTurn (Stands v) xs here) (sym same)
        (objects_stand v v_bytes v_size) in
        let it = indexed (heap_of are.is.records) stand in
        record {
          are = record { stand = objects_stand w w_bytes w_size; ids_are = it.are.ids_are };
          class_dumps =
              subst (λ (xs : List ℕ). AreClassNumbers here (length xs) i.class_dumps.items) same it.class_dumps;
        }

    pub few_objects : length places ≤ limit
    few_objects = omega (arith, ap length are.places_are, placed.objects.count, few_in_dump bytes dump are.is)

-- ---- the graph

pub roots_resolved : (heap : List SubRecord) (ids wanted old new : List ℕ) (unresolved : ℕ)
    → ids ≡ map id_of (objects heap) → old ≡ [] → wanted ≡ root_ids heap → Resolves ids wanted old new unresolved
    → AreRootsOf heap new unresolved
roots_resolved heap ids wanted old new unresolved ids_are none wanted_are r = record {
  roots_are = r.appended ∙ ap (λ (xs : List ℕ). xs ++ filter_map (target_in ids) wanted) none
      ∙ same_targets heap ids wanted ids_are ∙ ap (targets heap) wanted_are;
  unresolved_is =
      r.counted ∙ same_unresolved heap ids wanted ids_are ∙ ap (count_by (is_unresolved heap)) wanted_are;
}

-- the graph, with the identifiers that the objects hold
abbrev pub graph_with : ℕ → List Record → List (List ℕ) → ObjectGraph
graph_with s records lists = record {
  ids = map id_of (objects (heap_of records));
  id_lists = lists;
  references = map (targets (heap_of records)) lists;
  root_names = root_ids (heap_of records);
  roots = root_objects (heap_of records);
  rows = map (row_of (heap_of records)) (objects (heap_of records));
  bytes = map (bytes_of s) (objects (heap_of records));
  classes = named_classes records;
  unresolved = unresolved_in (heap_of records) lists;
}

-- the lists of identifiers of the objects
abbrev pub lists_of : {A : Type 0} (o : Objects A) (records : List Record) (skip : List SkipEntry)
    → AreLinkedOf o (heap_of records) → HaveFatesOf o (heap_of records) → List (List ℕ)
lists_of o records skip linked told = (have_id_lists (is_skipped records skip) o (heap_of records) linked told).lists

pub graph_made : {A : Type 0} (o : Objects A) (records : List Record) (skip : List SkipEntry)
    (linked : AreLinkedOf o (heap_of records)) (told : HaveFatesOf o (heap_of records))
    → IsGraphOf o.view.id_size records skip (graph_with o.view.id_size records (lists_of o records skip linked told))
graph_made o records skip linked told = record {
  ids_are = refl;
  id_lists_are = are_lists (is_skipped records skip) o.view.id_size (heap_of records)
      (have_id_lists (is_skipped records skip) o (heap_of records) linked told);
  references_are = refl;
  root_names_are = refl;
  roots_are = refl;
  rows_are = refl;
  bytes_are = refl;
  classes_are = refl;
  unresolved_is = refl;
}

module _ {A : Type 0} (o : Objects A) (plan : Plan A) (records : List Record) (roots : List ℕ)
    (classes : List ClassEntry) (unresolved : ℕ) (skip : List SkipEntry) where
  pub stand_for : ((at : ℕ) (sub : SubRecord) → Stands o.view at sub
      → at + length (spelling_of o.view.id_size sub) ≤ length o.view.bytes)
      → length (root_ids (heap_of records)) ≤ limit
      → (linked : AreLinkedOf o (heap_of records)) → (told : HaveFatesOf o (heap_of records))
      → AreNamedOf records skip o plan classes → AreRootsOf (heap_of records) roots unresolved
      → StandFor o plan roots classes unresolved skip
      (graph_with o.view.id_size records (lists_of o records skip linked told))
  stand_for within few_roots linked told named found =
      let g = graph_with o.view.id_size records (lists_of o records skip linked told) in
      let graph = graph_made o records skip linked told in
      let have = have_id_lists (is_skipped records skip) o (heap_of records) linked told in
      record {
        records = records;
        linked = linked;
        fates = told;
        planned = named.planned;
        graph = graph;
        whole = is_whole o.view o.places.items o.index records skip g linked within (few_in_lists have) few_roots graph;
        roots_are = sym found.roots_are;
        classes_are = sym named.classes_are;
        unresolved_is = roots_unresolved graph ∙ sym found.unresolved_is;
      }

-- the graph of the objects that were read
abbrev pub graph_read : {A : Type 0} (o : Objects A) (text : List ℕ) (dump : Places) (is : IsDumpOf text dump)
    (skip : List SkipEntry) → IsReadOf text dump is o → ObjectGraph
graph_read o text dump is skip read =
    graph_with o.view.id_size is.records (lists_of o is.records skip read.linked read.fates)

pub text_graph_made : {A : Type 0} (o : Objects A) (text : List ℕ) (dump : Places) (is : IsDumpOf text dump)
    (skip : List SkipEntry) (read : IsReadOf text dump is o)
    → IsGraphOfText o.view.bytes skip (graph_read o text dump is skip read)
text_graph_made o text dump is skip read =
    let g = graph_read o text dump is skip read in
    let linked = subst (λ (n : ℕ). IsLinked n (heap_of is.records)) read.size_is read.linked.linked in
    subst (λ (bytes : List ℕ). IsGraphOfText bytes skip g) (sym read.bytes_are) (record {
      id_size = dump.id_size;
      records = is.records;
      accepted = record { spells = is.spells; orderly = is.orderly; linked = linked };
      graph = subst (λ (n : ℕ). IsGraphOf n is.records skip g) read.size_is
          (graph_made o is.records skip read.linked read.fates);
    })

-- what holds of one graph of a text and a list holds of each, since there is only one
pub given_graph : (text : List ℕ) (skip : List SkipEntry) (P : ObjectGraph → Type 0) (g : ObjectGraph)
    → IsGraphOfText text skip g → P g → (other : ObjectGraph) → ∥ IsGraphOfText text skip other ∥₁ → P other
given_graph text skip P g is holds other given =
    subst P (ap (λ (x : GraphOf text skip). x.0) (GraphOf-prop text skip (g, ∣ is ∣₁) (other, given))) holds
