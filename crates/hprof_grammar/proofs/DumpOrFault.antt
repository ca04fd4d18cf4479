-- A text spells a dump or has a first fault: for any bytes, by the parser's steps on lists.
use Rattle.hprof_grammar.proofs.Words.{AddsAll, AddsRecord, AddsRecords, AddsSubs, AreBytes, Before, Bool, Ended, Err}
use Rattle.hprof_grammar.proofs.Words.{Flaw, FormatFault, FrameFault, HasFirstFault, HasHeader, HasRecordFault}
use Rattle.hprof_grammar.proofs.Words.{HasSubFault, List, None, Ok, Option, SnapshotState, Places, Result, Segments}
use Rattle.hprof_grammar.proofs.Words.{Some, SpellsDump, StepsTo, Whole, [], ap, append-nil, arith, bad_header, behind}
use Rattle.hprof_grammar.proofs.Words.{big_bytes, big_number, cases_eq, cases_lt, drop, false, flaw_code, frame_at}
use Rattle.hprof_grammar.proofs.Words.{framed, inl, inr, is_done, is_heap_tag, is_id_size, is_length_of}
use Rattle.hprof_grammar.proofs.Words.{is_snapshot_tag, length, length-append, limit, magic, nat_eq, nat_tests}
use Rattle.hprof_grammar.proofs.Words.{nothing_of, refl, short_header, spelling_of, starts_with, sub_record_at, subst}
use Rattle.hprof_grammar.proofs.Words.{suc, too_large, true, with_loaded, with_string, wrong_length, wrong_order, zero}
use Rattle.hprof_grammar.proofs.Words.{ℕ, ◌++◌, ◌+◌, ◌-◌, ◌∷◌, ◌≡◌, ◌≤◌, ◌⊎◌}
use Rattle.hprof_grammar.proofs.Bytes.{IsBytes, bytes-behind, bytes-drop, bytes-front}
use Rattle.hprof_grammar.proofs.FrameContents.{IsPlacedFrame, heap_broken, heap_framed, load_framed, other_framed}
use Rattle.hprof_grammar.proofs.FrameContents.{string_framed}
use Rattle.hprof_grammar.proofs.Frames.{FrameTaken, cut_record, frame_takes}
use Rattle.hprof_grammar.proofs.Headers.{begins_with_magic, dump_read, header_stands, id_size_wrong, magic_is_found}
use Rattle.hprof_grammar.proofs.Headers.{record_fault_read}
use Rattle.hprof_grammar.proofs.Heaps.{reached, step_more, subs_fault, subs_left}
use Rattle.hprof_grammar.proofs.SnapshotOrderLaws.{first_segment, next_segment, no_dump_in_segments, no_end_first}
use Rattle.hprof_grammar.proofs.SnapshotOrderLaws.{no_more, others_keep, segments_end, whole_comes}
use Rattle.hprof_grammar.proofs.RecordSteps.{one_record, records_begin, records_join}
use Rattle.hprof_grammar.proofs.SubRecords.{sub_takes}
use Rattle.hprof_grammar.proofs.Wholes.{bytes_left, fault_at_end, fault_in_record, fault_where_cut, frame_room}

-- a reading returns a value or a flaw
read_or_not : {A : Type 0} (r : Result A Flaw) → ((x : A) × (r ≡ Ok x)) ⊎ ((flaw : Flaw) × (r ≡ Err flaw))
read_or_not (Ok x) = inl (x, refl)
read_or_not (Err flaw) = inr (flaw, refl)

-- ---- the sub-records of a heap record

abbrev SubsTold : ℕ → List ℕ → Places → Type 0
SubsTold at body old = ((new : Places) × AddsSubs at body [] old new)
    ⊎ ((fault : FormatFault) × HasSubFault old.id_size at body fault)

subs_told : (fuel : ℕ) {at : ℕ} {body : List ℕ} (rest : List ℕ) {old new : Places} → length rest ≤ fuel → IsBytes body
    → AddsSubs at body rest old new → SubsTold at body old
subs_told fuel [] {new = new} room h adds = inl (new, adds)
subs_told zero (tag ∷ rest) room h adds = absurd (omega (arith, room))
subs_told (suc fuel) (tag ∷ rest) {old} room h adds = elim (read_or_not (sub_record_at old.id_size (tag ∷ rest))) [
  | inl z ↦
      let taken = sub_takes old.id_size (tag ∷ rest) z.0 (subs_left adds h) z.1 in
      let shorter : length z.0.1 ≤ fuel =
      omega (arith, room, ap length taken.bytes_are, length-append (spelling_of old.id_size z.0.0) z.0.1) in
      subs_told fuel z.0.1 shorter h (step_more adds taken.is taken.bytes_are)
  | inr bad ↦ inr (
    record { code = flaw_code bad.0; offset = reached adds },
    subs_fault adds h (omega arith) (ap behind bad.1) refl refl,
  )
]

-- ---- a record in its frame

order_told : (was : SnapshotState) (tag : ℕ) → (next : Option SnapshotState) × StepsTo was tag next
order_told was tag = elim (cases_eq tag 0x0C) [
  | inl e ↦ rw e (dump was)
  | inr no_dump ↦ elim (cases_eq tag 0x1C) [
    | inl e ↦ rw e (segment was)
    | inr no_segment ↦ elim (cases_eq tag 0x2C) [
      | inl e ↦ rw e (end was)
      | inr no_end ↦ (Some was, λ tags h. others_keep was tags tag (other no_dump no_segment no_end) h)
    ]
  ]
] where
  dump : (order : SnapshotState) → (next : Option SnapshotState) × StepsTo order 0x0C next
  dump Before = (Some Whole, λ tags h. whole_comes tags h)
  dump Segments = (None, λ tags h on. no_dump_in_segments tags h on)
  dump order = (None, λ tags h on. no_more order tags 0x0C refl refl h on)

  segment : (order : SnapshotState) → (next : Option SnapshotState) × StepsTo order 0x1C next
  segment Before = (Some Segments, λ tags h. first_segment tags h)
  segment Segments = (Some Segments, λ tags h. next_segment tags h)
  segment order = (None, λ tags h on. no_more order tags 0x1C refl refl h on)

  end : (order : SnapshotState) → (next : Option SnapshotState) × StepsTo order 0x2C next
  end Before = (None, λ tags h on. no_end_first tags h on)
  end Segments = (Some Ended, λ tags h. segments_end tags h)
  end order = (None, λ tags h on. no_more order tags 0x2C refl refl h on)

  other : (tag ≡ 0x0C → ⊥) → (tag ≡ 0x1C → ⊥) → (tag ≡ 0x2C → ⊥) → is_snapshot_tag tag ≡ false
  other a b c = grind (arith, nat_tests)

module _ (at tag time : ℕ) (body : List ℕ) (was : SnapshotState) (old : Places) where
  abbrev FrameTold : Type 0
  FrameTold = ((next : SnapshotState) × (new : Places) × AddsRecord at tag time body was next old new)
      ⊎ ((fault : FormatFault) × FrameFault old.id_size at tag body was fault)

  heap_or_other : {next : SnapshotState} → IsPlacedFrame tag body was next old → (tag ≡ 0x01 → ⊥) → (tag ≡ 0x02 → ⊥)
      → (b : Bool) → is_heap_tag tag ≡ b → FrameTold
  heap_or_other {next} frame no_string no_load false e =
      inl (next, old, other_framed frame (no_string, no_load, e))
  heap_or_other {next} frame no_string no_load true e =
      let begin : AddsSubs (at + 9) body body old old = record {
        subs = [];
        parts = refl;
        each = tt;
        joined = rw (append-nil old.roots, append-nil old.objects) refl;
      } in
      elim (subs_told (length body) body (omega arith) frame.bytes begin) [
        | inl found ↦ inl (next, found.0, heap_framed frame e found.1)
        | inr bad ↦ inr (bad.0, heap_broken frame e bad.1)
      ]

  body_told : {next : SnapshotState} → IsPlacedFrame tag body was next old → FrameTold
  body_told {next} frame = elim (cases_eq tag 0x01) [
    | inl e ↦ inl (next, with_string old at, string_framed frame e refl)
    | inr no_string ↦ elim (cases_eq tag 0x02) [
      | inl e ↦ inl (next, with_loaded old at, load_framed frame e refl)
      | inr no_load ↦ heap_or_other frame no_string no_load (is_heap_tag tag) refl
    ]
  ]

  frame_told : IsBytes body → FrameTold
  frame_told bytes = by_length (is_length_of old.id_size tag (length body)) refl
    where
      by_order : is_length_of old.id_size tag (length body) ≡ true → (next : Option SnapshotState)
          → StepsTo was tag next → FrameTold
      by_order allowed None breaks = inr (record { code = 8; offset = at }, wrong_order refl refl allowed breaks)
      by_order allowed (Some next) order =
          body_told (record { bytes = bytes; length_allowed = allowed; order = order })

      by_length : (b : Bool) → is_length_of old.id_size tag (length body) ≡ b → FrameTold
      by_length false e = inr (record { code = 4; offset = at }, wrong_length refl refl e)
      by_length true e = let order = order_told was tag in by_order e order.0 order.1

-- ---- the records

abbrev RecordsTold : List ℕ → Places → Type 0
RecordsTold bytes old = ((new : Places) × AddsAll bytes old new)
    ⊎ ((fault : FormatFault) × HasRecordFault old.id_size bytes fault)

-- the body of the first frame is bytes
body_bytes : {rest : List ℕ} {tag time : ℕ} {body left : List ℕ} → IsBytes rest → FrameTaken rest tag time body left
    → IsBytes body
body_bytes {tag = tag} {time} {body} {left} h frame =
    let whole = bytes-front (framed tag time body) left (subst IsBytes frame.bytes_are h) in
    bytes-behind (big_bytes 4 (length body)) body
    (bytes-behind (tag ∷ big_bytes 4 time) (big_bytes 4 (length body) ++ body) whole)

records_end : {bytes : List ℕ} {was : SnapshotState} {old new : Places} → AddsRecords bytes [] was old new → (b : Bool)
    → is_done was ≡ b → RecordsTold bytes old
records_end {was = was} {new = new} adds true e = inl (new, (was, e, adds))
records_end {bytes} adds false e = inr (record { code = 8; offset = 31 + length bytes }, fault_at_end adds e refl)

records_told : (fuel : ℕ) {bytes : List ℕ} (rest : List ℕ) {was : SnapshotState} {old new : Places} → length rest ≤ fuel
    → IsBytes bytes → AddsRecords bytes rest was old new → RecordsTold bytes old
records_told fuel [] {was} room h adds = records_end adds (is_done was) refl
records_told zero (tag ∷ rest) room h adds = absurd (omega (arith, room))
records_told (suc fuel) {bytes} (tag ∷ rest) {was} {new = new} room h adds =
    let there = bytes_left adds h in
    let place = 31 + (length bytes - length (tag ∷ rest)) in
    elim (read_or_not (frame_at (tag ∷ rest))) [
      | inl z ↦
          let frame = frame_takes there z.1 in
          elim (frame_told place z.0.0.0 z.0.0.1 z.0.0.2 was new (body_bytes there frame)) [
            | inl one ↦ records_told fuel z.0.1 (omega (arith, room, frame_room frame)) h
                (records_join adds (one_record frame one.2) refl)
            | inr bad ↦ inr (bad.0, fault_in_record adds frame refl bad.1)
          ]
      | inr bad ↦ inr (
        record { code = 3; offset = place },
        fault_where_cut adds (omega arith) (cut_record (omega arith) there bad.1) refl refl,
      )
    ]

-- ---- the header, and the whole text

all_bytes : (text : List ℕ) → AreBytes text → IsBytes text
all_bytes [] h k = omega arith
all_bytes (b ∷ text) h zero = h.0
all_bytes (b ∷ text) h (suc k) = all_bytes text h.1 k

abbrev HeaderTold : List ℕ → Type 0
HeaderTold text = ((s : ℕ) × HasHeader s text) ⊎ HasFirstFault text

header_told : (text : List ℕ) → IsBytes text → HeaderTold text
header_told text bytes = elim (cases_lt limit (length text)) [
  | inl long ↦ inr (14, limit, too_large long)
  | inr size ↦ begins size (starts_with nat_eq text magic) refl
] where
  sized : length text ≤ limit → 31 ≤ length text → text ≡ magic ++ drop 19 text → (b : Bool)
      → is_id_size (big_number 4 (drop 19 text)) ≡ b → HeaderTold text
  sized size room magic_is true e =
      inl (
        big_number 4 (drop 19 text),
        header_stands (big_number 4 (drop 19 text)) text bytes size room magic_is refl e,
      )
  sized size room magic_is false e =
      inr (
        2,
        19,
        id_size_wrong (big_number 4 (drop 19 text)) text bytes size room magic_is refl e,
      )

  begins : length text ≤ limit → (b : Bool) → b ≡ starts_with nat_eq text magic → HeaderTold text
  begins size false e = inr (
    1,
    0,
    bad_header size (λ h. let found : ◌≡◌ {A = Bool} false true = magic_is_found text false e h in cc),
  )
  begins size true e =
      let magic_is = begins_with_magic text true e refl in
      elim (cases_lt (length text) 31) [
        | inl small ↦ inr (3, 0, short_header (drop 19 text, magic_is) small)
        | inr room ↦ sized size room magic_is (is_id_size (big_number 4 (drop 19 text))) refl
      ]

pub all_told : (text : List ℕ) → AreBytes text → SpellsDump text ⊎ HasFirstFault text
all_told text h =
    let bytes = all_bytes text h in
    elim (header_told text bytes) [
      | inl head ↦ elim (records_told (length (drop 31 text)) (drop 31 text) (omega arith)
          (bytes-drop 31 text bytes) (records_begin {before = Before} (drop 31 text) (nothing_of head.0))) [
            | inl dump ↦ inl (dump.0, dump_read text head.0 dump.0 head.1 dump.1)
            | inr wrong ↦ inr (wrong.0.code, wrong.0.offset, record_fault_read text head.0 wrong.0 head.1 wrong.1)
          ]
      | inr wrong ↦ inr wrong
    ]
