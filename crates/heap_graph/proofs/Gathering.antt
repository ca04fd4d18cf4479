-- What is gathered from objects, part by part.
use Rattle.heap_graph.proofs.Words.{AreClassNumbers, AreIndexed, HasGathered, Indexed, List, None, Ok, Option, Sight}
use Rattle.heap_graph.proofs.Words.{Some, StandInTurn, Stands, SubRecord, [], ap, arith, get_or, length, length-append}
use Rattle.heap_graph.proofs.Words.{map, min, objects, refl, slice_get, subst, suc, sym, take_all, ℕ, ◌%◌, ◌*◌, ◌++◌}
use Rattle.heap_graph.proofs.Words.{◌+◌, ◌-◌, ◌/◌, ◌<◌, ◌∙◌, ◌∷◌, ◌≡◌, ◌≤◌}
use Rattle.std.proofs.Common.{◌≢◌}
use Rattle.std.specs.Prelude.{Result}
use Rattle.std.specs.declared.alloc.AllocError.{AllocError}
use Rattle.std.proofs.lemmas.List.{append-nil, append_assoc}
use Rattle.std.proofs.lemmas.Option.{MatchOption-at_none, MatchOption-at_some}
use Rattle.std.proofs.lemmas.Result.{IfOk-at_ok}
use Rattle.hprof_grammar.specs.Dump.{id_of}
use Rattle.id_index.specs.declared.index.LowBits.{LowBits}
use Rattle.heap_graph.specs.declared.objects.gathering.Gathered.{Gathered}
use Rattle.heap_graph.specs.working.GatheredParts.{AreJoined, AreOfFirst, IsOfPart}
use Rattle.heap_graph.proofs.Adding.{keys_more}
use Rattle.heap_graph.proofs.Parts.{next_part, reaches}

-- no object comes before the first
none_first : (os : List SubRecord) → AreOfFirst os 0 [] []
none_first os = record {
  ids_are = refl;
  class_dumps = record {
    ascending = λ j k less h. absurd (omega (arith, h));
    below = λ k h. absurd (omega (arith, h));
    each = λ k h. absurd (omega (arith, h));
    all = λ number h is. absurd (omega (arith, h));
  };
}

abbrev pub Stand : Sight → List ℕ → List SubRecord → Type 0
Stand v places heap = StandInTurn (Stands v) places (objects heap)

-- the result of gathering a part
abbrev pub Answer : Type 0 → Type 0
Answer A = Result (Option (Gathered A)) AllocError

module _ {A : Type 0} (v : Sight) (places : List ℕ) (bits : LowBits) where
  pub nothing : (g : Gathered A) (start : ℕ) → g.ids.ids ≡ [] → g.class_dumps.items ≡ [] → g.ids.shift ≡ bits.shift
      → g.ids.low ≡ bits.low → HasGathered v places bits start start g
  nothing g start no_ids no_dumps shift low = record {
    many = omega (arith, ap length no_ids);
    shift = shift;
    low = low;
    behind = λ heap ids numbers stand first. record {
      ids_are = ap (λ (xs : List ℕ). ids ++ xs) no_ids ∙ append-nil ids ∙ first.ids_are;
      class_dumps = subst (λ (xs : List ℕ). AreClassNumbers (objects heap) start xs)
          (sym (ap (λ (xs : List ℕ). numbers ++ xs) no_dumps ∙ append-nil numbers)) first.class_dumps;
    };
  }

  -- one more object
  pub one_more : (old new : Gathered A) (start number id : ℕ) → HasGathered v places bits start number old
      → new.ids.ids ≡ old.ids.ids ++ id ∷ [] → new.ids.shift ≡ old.ids.shift → new.ids.low ≡ old.ids.low
      → ((heap : List SubRecord) → Stand v places heap
      → (o : SubRecord) × (slice_get (objects heap) number ≡ Some o) × (id ≡ id_of o))
      → ((heap : List SubRecord) (before : List ℕ) → Stand v places heap
      → AreClassNumbers (objects heap) number (before ++ old.class_dumps.items)
      → AreClassNumbers (objects heap) (number + 1) (before ++ new.class_dumps.items))
      → HasGathered v places bits start (number + 1) new
  one_more old new start number id had pushed shift low there noted = record {
    many = omega (arith, had.many, ap length pushed, length-append old.ids.ids (id ∷ []));
    shift = shift ∙ had.shift;
    low = low ∙ had.low;
    behind = λ heap ids numbers stand first.
        let it = there heap stand in
        let were = had.behind heap ids numbers stand first in
        record {
          ids_are = keys_more id_of
              (ap (λ (xs : List ℕ). ids ++ xs) pushed ∙ sym (append_assoc ids old.ids.ids (id ∷ [])))
              (objects heap) number it.0 it.1 it.2 were.ids_are;
          class_dumps = noted heap numbers stand were.class_dumps;
        };
  }

  -- a part joins those before it
  pub joined : (old next new : Gathered A) (start middle end : ℕ) → HasGathered v places bits start middle old
      → HasGathered v places bits middle end next → AreJoined old next new → HasGathered v places bits start end new
  joined old next new start middle end had has are = record {
    many = omega (arith, had.many, has.many, ap length are.ids, length-append old.ids.ids next.ids.ids);
    shift = are.shift ∙ had.shift;
    low = are.low ∙ had.low;
    behind = λ heap ids numbers stand first.
        let it = has.behind heap (ids ++ old.ids.ids) (numbers ++ old.class_dumps.items) stand
        (had.behind heap ids numbers stand first) in
        record {
          ids_are = ap (λ (xs : List ℕ). ids ++ xs) are.ids ∙ sym (append_assoc ids old.ids.ids next.ids.ids)
              ∙ it.ids_are;
          class_dumps = subst (λ (xs : List ℕ). AreClassNumbers (objects heap) end xs)
              (append_assoc numbers old.class_dumps.items next.class_dumps.items
              ∙ ap (λ (xs : List ℕ). numbers ++ xs) (sym are.class_dumps)) it.class_dumps;
        };
  }

  -- all objects
  pub all_indexed : (g : Gathered A) (i : Indexed A) (end : ℕ) → HasGathered v places bits 0 end g
      → end ≡ length places → i.index ≡ g.ids.ids → i.class_dumps.items ≡ g.class_dumps.items
      → (heap : List SubRecord) → Stand v places heap → AreIndexed v places heap i
  all_indexed g i end has to made kept heap stand =
      let it = has.behind heap [] [] stand (none_first (objects heap)) in
      record {
        are = record {
          stand = stand;
          ids_are = made ∙ it.ids_are
              ∙ ap (map id_of) (take_all end (objects heap) (omega (arith, to, stand.count)));
        };
        class_dumps = subst (λ (xs : List ℕ). AreClassNumbers (objects heap) (length places) xs) (sym kept)
            (subst (λ (n : ℕ). AreClassNumbers (objects heap) n g.class_dumps.items) to it.class_dumps);
      }

  -- ---- the results of the parts, in order

  -- the result for part n
  abbrev pub IsAnswer : ℕ → ℕ → Answer A → Type 0
  IsAnswer size n answer = IsOfPart v places bits size n answer

  -- the remaining results are those of `left` parts from part n on
  abbrev pub AreLeft : ℕ → ℕ → ℕ → List (Answer A) → Type 0
  AreLeft size n left answers = (k : ℕ) (d : Answer A) → k < left → IsAnswer size (n + k) (get_or answers k d)

  pub all_left : (size left : ℕ) (answers items : List (Answer A)) → items ≡ answers
      → ((k : ℕ) (d : Answer A) → k < left → IsAnswer size k (get_or answers k d)) → AreLeft size 0 left items
  all_left size left answers items same each k d below =
      let first : k ≡ 0 + k = omega arith in
      subst (λ (m : ℕ). IsAnswer size m (get_or items k d)) first
      (subst (λ (xs : List (Answer A)). IsAnswer size k (get_or xs k d)) (sym same) (each k d below))

  module _ (size n left : ℕ) (answers rest : List (Answer A)) (x : Answer A) (is : answers ≡ x ∷ rest)
      (are : AreLeft size n left answers) where
    pub next_answer : 0 < left → IsAnswer size n x
    next_answer some =
        subst (λ (m : ℕ). IsAnswer size m x) (omega arith)
        (subst (λ (xs : List (Answer A)). IsAnswer size (n + 0) (get_or xs 0 x)) is (are 0 x some))

    pub others_left : (less : ℕ) → less + 1 ≡ left → AreLeft size (n + 1) less rest
    others_left less one k d below =
        subst (λ (m : ℕ). IsAnswer size m (get_or rest k d)) (omega arith)
        (subst (λ (xs : List (Answer A)). IsAnswer size (n + suc k) (get_or xs (suc k) d)) is
        (are (suc k) d (omega (arith, below, one))))

  -- the result is what was gathered from the part, or that an identifier has other lowest bits
  pub answered : (size n : ℕ) (x : Answer A) (found : Option (Gathered A)) (g : Gathered A) (it : IsAnswer size n x)
      → x ≡ Ok found → found ≡ Some g
      → HasGathered v places bits (n * size) (n * size + length it.part) g
  answered size n x found g it ok some =
      MatchOption-at_some (bits.shift ≢ 0) (HasGathered v places bits (n * size) (n * size + length it.part)) g some
      (IfOk-at_ok _ ok it.gives)

  pub unanswered : (size n : ℕ) (x : Answer A) (found : Option (Gathered A)) → IsAnswer size n x
      → x ≡ Ok found → found ≡ None → bits.shift ≢ 0
  unanswered size n x found it ok none =
      MatchOption-at_none (bits.shift ≢ 0) (HasGathered v places bits (n * size) (n * size + length it.part)) none
      (IfOk-at_ok _ ok it.gives)

  -- part n joins those before it
  pub one_more_part : (size n : ℕ) (old next new : Gathered A) (part : List ℕ)
      → n * size + length part ≤ length places → length part ≡ min size (length places - n * size)
      → HasGathered v places bits 0 (min (n * size) (length places)) old
      → HasGathered v places bits (n * size) (n * size + length part) next → AreJoined old next new
      → HasGathered v places bits 0 (min ((n + 1) * size) (length places)) new
  one_more_part size n old next new part within long had has are =
      let from : min (n * size) (length places) ≡ n * size = omega (arith, within) in
      let to : n * size + length part ≡ min ((n + 1) * size) (length places) =
      omega (arith, next_part n size, long, within) in
      joined old next new 0 (n * size) (min ((n + 1) * size) (length places))
      (subst (λ (m : ℕ). HasGathered v places bits 0 m old) from had)
      (subst (λ (m : ℕ). HasGathered v places bits (n * size) m next) to has) are

  -- after the last part all objects are gathered
  pub all_parts : (size n : ℕ) (all : Gathered A) → 0 < size → n ≡ length places / size + min 1 (length places % size)
      → HasGathered v places bits 0 (min (n * size) (length places)) all
      → HasGathered v places bits 0 (0 + length places) all
  all_parts size n all some is had =
      let end = reaches n (length places) size some is in
      subst (λ (m : ℕ). HasGathered v places bits 0 m all) (omega (arith, end)) had
