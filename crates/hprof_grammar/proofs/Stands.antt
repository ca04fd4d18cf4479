-- The places of a dump hold its parts: each record and sub-record begins where the spellings before it end.
use Rattle.hprof_grammar.proofs.Words.{AllByRecursion, Bool, IsDumpOf, IsPlaced, IsRecord, IsSubRecord, List, Places}
use Rattle.hprof_grammar.proofs.Words.{Record, RecordStandsAt, Some, StandInTurn, SubRecord, SubRecordStandsAt, [], ap}
use Rattle.hprof_grammar.proofs.Words.{append-nil, arith, big_bytes, body_of, cond, false, filter, flat_map, framed}
use Rattle.hprof_grammar.proofs.Words.{header, heap, heap_list, is_load, is_object, is_root, is_string, length}
use Rattle.hprof_grammar.proofs.Words.{length-bytes_high_first, map, map-append, placed, placed_subs, places_where}
use Rattle.hprof_grammar.proofs.Words.{record_spelling, refl, slice_get, spelling_of, spellings, subs_of, subst, suc}
use Rattle.hprof_grammar.proofs.Words.{sym, tag_of, time_of, true, zero, ℕ, ◌++◌, ◌+◌, ◌∙◌, ◌∷◌, ◌≡◌}
use Rattle.hprof_grammar.proofs.Fields.{all_join}
use Rattle.hprof_grammar.proofs.Places.{Spell, first_stands, next_stands, some_stand}

-- ---- records

pub record_stands : (s : ℕ) (text : List ℕ) (at : ℕ) (r : Record) → RecordStandsAt s text at r
    → Spell text at (record_spelling s r)
record_stands s text at r h = some_stand text at (tag_of r)
    (big_bytes 4 (time_of r) ++ (big_bytes 4 (length (body_of s r)) ++ body_of s r)) h.rest h.bytes_are

-- the body follows a tag, a time and a length
pub body_stands : (text : List ℕ) (at tag time : ℕ) (body : List ℕ) → Spell text at (framed tag time body)
    → Spell text (at + 9) body
body_stands text at tag time body h =
    let front = tag ∷ big_bytes 4 time in
    let size = big_bytes 4 (length body) in
    let behind = next_stands text (at + length front) size body (next_stands text at front (size ++ body) h) in
    let there : at + length front + length size ≡ at + 9 =
    omega (arith, length-bytes_high_first 4 time, length-bytes_high_first 4 (length body)) in
    subst (λ (n : ℕ). Spell text n body) there behind

records_stand : (s : ℕ) (text : List ℕ) (at : ℕ) (records : List Record) → Spell text at (spellings s records)
    → AllByRecursion (IsRecord s) records
    → AllByRecursion (λ (p : ℕ × Record). RecordStandsAt s text p.0 p.1) (placed s at records)
records_stand s text at [] h each = tt
records_stand s text at (r ∷ rs) h each =
    let here = first_stands text at (record_spelling s r) (spellings s rs) h in
    let behind = next_stands text at (record_spelling s r) (spellings s rs) h in (
      record { rest = here.rest; bytes_are = here.bytes_are; is = each.0 },
      records_stand s text (at + length (record_spelling s r)) rs behind each.1,
    )

-- ---- sub-records

subs_stand : (s : ℕ) (text : List ℕ) (at : ℕ) (subs : List SubRecord) → Spell text at (flat_map (spelling_of s) subs)
    → AllByRecursion (IsSubRecord s) subs
    → AllByRecursion (λ (p : ℕ × SubRecord). SubRecordStandsAt s text p.0 p.1) (placed_subs s at subs)
subs_stand s text at [] h each = tt
subs_stand s text at (x ∷ xs) h each =
    let here = first_stands text at (spelling_of s x) (flat_map (spelling_of s) xs) h in
    let behind = next_stands text at (spelling_of s x) (flat_map (spelling_of s) xs) h in (
      record { rest = here.rest; bytes_are = here.bytes_are; is = each.0 },
      subs_stand s text (at + length (spelling_of s x)) xs behind each.1,
    )

record_subs : (s : ℕ) (text : List ℕ) (at : ℕ) (r : Record) → RecordStandsAt s text at r
    → AllByRecursion (λ (p : ℕ × SubRecord). SubRecordStandsAt s text p.0 p.1) (placed_subs s (at + 9) (subs_of r))
record_subs s text at (heap tag time subs) h =
    subs_stand s text (at + 9) subs
    (body_stands text at tag time (flat_map (spelling_of s) subs) (record_stands s text at (heap tag time subs) h))
    h.is.parts.1
record_subs s text at r h = tt

heap_stands : (s : ℕ) (text : List ℕ) (ps : List (ℕ × Record))
    → AllByRecursion (λ (p : ℕ × Record). RecordStandsAt s text p.0 p.1) ps
    → AllByRecursion (λ (p : ℕ × SubRecord). SubRecordStandsAt s text p.0 p.1)
    (flat_map (λ p. placed_subs s (p.0 + 9) (subs_of p.1)) ps)
heap_stands s text [] h = tt
heap_stands s text (p ∷ ps) h =
    all_join (λ (q : ℕ × SubRecord). SubRecordStandsAt s text q.0 q.1) (placed_subs s (p.0 + 9) (subs_of p.1))
    (flat_map (λ q. placed_subs s (q.0 + 9) (subs_of q.1)) ps) (record_subs s text p.0 p.1 h.0)
    (heap_stands s text ps h.1)

-- ---- without their places

placed_only : (s at : ℕ) (records : List Record) → map (λ (p : ℕ × Record). p.1) (placed s at records) ≡ records
placed_only s at [] = refl
placed_only s at (r ∷ rs) = ap (λ (l : List Record). r ∷ l) (placed_only s (at + length (record_spelling s r)) rs)

subs_only : (s at : ℕ) (subs : List SubRecord) → map (λ (p : ℕ × SubRecord). p.1) (placed_subs s at subs) ≡ subs
subs_only s at [] = refl
subs_only s at (x ∷ xs) = ap (λ (l : List SubRecord). x ∷ l) (subs_only s (at + length (spelling_of s x)) xs)

heap_only : (s : ℕ) (ps : List (ℕ × Record))
    → map (λ (p : ℕ × SubRecord). p.1) (flat_map (λ p. placed_subs s (p.0 + 9) (subs_of p.1)) ps)
    ≡ flat_map subs_of (map (λ (p : ℕ × Record). p.1) ps)
heap_only s [] = refl
heap_only s (p ∷ ps) =
    let first = subs_only s (p.0 + 9) (subs_of p.1) in
    let others = heap_only s ps in
    map-append (λ (q : ℕ × SubRecord). q.1) (placed_subs s (p.0 + 9) (subs_of p.1))
    (flat_map (λ q. placed_subs s (q.0 + 9) (subs_of q.1)) ps) ∙ rw (first, others) refl

-- ---- in turn

none_in_turn : {X : Type 0} (IsAt : ℕ → X → Type 0) → StandInTurn IsAt [] []
none_in_turn IsAt = record { count = refl; each = λ k place e. cc }

one_more : {X : Type 0} (IsAt : ℕ → X → Type 0) (at : ℕ) (x : X) (places : List ℕ) (things : List X) → IsAt at x
    → StandInTurn IsAt places things → StandInTurn IsAt (at ∷ places) (x ∷ things)
one_more {X = X} IsAt at x places things here h = record { count = ap suc h.count; each = find }
  where
    find : (k place : ℕ) → slice_get (at ∷ places) k ≡ Some place → (y : X) × (slice_get (x ∷ things) k ≡ Some y)
        × IsAt place y
    find zero place e = (x, refl, subst (λ (n : ℕ). IsAt n x) (let same : at ≡ place = cc in same) here)
    find (suc k) place e = h.each k place e

one_or_none : {X : Type 0} (IsAt : ℕ → X → Type 0) (b : Bool) (p : ℕ × X) (ps : List (ℕ × X)) (things : List X)
    → IsAt p.0 p.1 → StandInTurn IsAt (map (λ (q : ℕ × X). q.0) ps) things
    → StandInTurn IsAt (map (λ (q : ℕ × X). q.0) (cond b (p ∷ ps) ps)) (cond b (p.1 ∷ things) things)
one_or_none IsAt true p ps things here h = one_more IsAt p.0 p.1 (map (λ q. q.0) ps) things here h
one_or_none IsAt false p ps things here h = h

in_turn : {X : Type 0} (IsAt : ℕ → X → Type 0) (is : X → Bool) (ps : List (ℕ × X))
    → AllByRecursion (λ (p : ℕ × X). IsAt p.0 p.1) ps
    → StandInTurn IsAt (places_where is ps) (filter is (map (λ (p : ℕ × X). p.1) ps))
in_turn IsAt is [] h = none_in_turn IsAt
in_turn {X = X} IsAt is (p ∷ ps) h =
    one_or_none IsAt (is p.1) p (filter (λ (q : ℕ × X). is q.1) ps) (filter is (map (λ (q : ℕ × X). q.1) ps)) h.0
    (in_turn IsAt is ps h.1)

-- ---- the places of a dump

behind_header : (text : List ℕ) (s time : ℕ) (records : List Record) → text ≡ header s time ++ spellings s records
    → Spell text 31 (spellings s records)
behind_header text s time records e =
    let all : Spell text 0 (header s time ++ spellings s records) =
    record {
      inside = omega (arith, ap length e);
      rest = [];
      bytes_are = e ∙ sym (append-nil (header s time ++ spellings s records));
    } in
    next_stands text 0 (header s time) (spellings s records) all

pub all_placed : (text : List ℕ) (dump : Places) (is : IsDumpOf text dump) → IsPlaced text dump is.records
all_placed text dump is =
    let s = dump.id_size in
    let ps = placed s 31 is.records in
    let records = records_stand s text 31 is.records (behind_header text s is.spells.time is.records is.spells.whole)
    is.spells.each in
    let subs = heap_stands s text ps records in
    let only_records = placed_only s 31 is.records in
    let only_subs = heap_only s ps ∙ ap (flat_map subs_of) only_records in
    record {
      time = is.spells.time;
      header = record { rest = spellings s is.records; bytes_are = is.spells.whole; fits = is.spells.time_fits };
      strings = rw (ap (λ (d : Places). d.strings) is.places)
          (rw only_records at (in_turn (RecordStandsAt s text) is_string ps records));
      loaded = rw (ap (λ (d : Places). d.loaded) is.places)
          (rw only_records at (in_turn (RecordStandsAt s text) is_load ps records));
      roots = rw (ap (λ (d : Places). d.roots) is.places)
          (rw only_subs at (in_turn (SubRecordStandsAt s text) is_root (heap_list s is.records) subs));
      objects = rw (ap (λ (d : Places). d.objects) is.places)
          (rw only_subs at (in_turn (SubRecordStandsAt s text) is_object (heap_list s is.records) subs));
    }
