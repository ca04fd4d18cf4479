-- The records that the bytes after the header begin with.
use Rattle.hprof_grammar.proofs.Words.{AddsRecords, AddsRecordsFrom, AllByRecursion, Before, CanGoOn, FormatFault}
use Rattle.hprof_grammar.proofs.Words.{FrameFault, HasRecordFault, IsAt, IsOrderly, IsRecord, IsSubRecord, List}
use Rattle.hprof_grammar.proofs.Words.{LongestSubs, SnapshotState, Places, Record, RecordFault, RunsPastEnd, SubFault}
use Rattle.hprof_grammar.proofs.Words.{SubRecord, [], ap, append-nil, append_assoc, arith, bad_length, body_of, false}
use Rattle.hprof_grammar.proofs.Words.{flat_map, framed, heap, in_heap, inl, inr, is_done, is_heap_tag, is_length_of}
use Rattle.hprof_grammar.proofs.Words.{length, length-append, map, map-append, no_snapshot, other, out_of_order}
use Rattle.hprof_grammar.proofs.Words.{record_spelling, refl, short, spelling_of, spellings, subst, sym, tag_of}
use Rattle.hprof_grammar.proofs.Words.{time_of, true, truncated, unknown_tag, wrong_heap, wrong_length, wrong_order}
use Rattle.hprof_grammar.proofs.Words.{wrong_type, ℕ, ◌++◌, ◌+◌, ◌-◌, ◌<◌, ◌∙◌, ◌∷◌, ◌≡◌, ◌≤◌}
use Rattle.hprof_grammar.proofs.Bytes.{IsBytes, bytes-behind}
use Rattle.hprof_grammar.proofs.Fields.{all_split}
use Rattle.hprof_grammar.proofs.FrameBeginnings.{cut_or_whole, length-framed, same_frame}
use Rattle.hprof_grammar.proofs.Frames.{FrameTaken}
use Rattle.hprof_grammar.proofs.Fronts.{fronts}
use Rattle.hprof_grammar.proofs.OneDump.{records_determined}
use Rattle.hprof_grammar.proofs.SnapshotOrderLaws.{at_goes_on, not_done_is_not}
use Rattle.hprof_grammar.proofs.SubRecords.{no_sub_fault, subs_determined}

abbrev tags_of : List Record → List ℕ
tags_of records = map tag_of records

-- ---- the longest list of records

-- tags that can go on with `more` can go on without them
goes_on_front : (tags more : List ℕ) → CanGoOn (tags ++ more) → CanGoOn tags
goes_on_front tags more h = (more ++ h.0, subst IsOrderly (append_assoc tags more h.0) h.1)

-- no record that `rest` begins with can continue `records`
abbrev IsStuck : ℕ → List Record → List ℕ → Type 0
IsStuck s records rest = (z : Record) (left : List ℕ) → IsRecord s z → rest ≡ record_spelling s z ++ left
    → CanGoOn (map tag_of records ++ tag_of z ∷ []) → ⊥

module _ (s : ℕ) (records others : List Record) (rest left : List ℕ) where
  no_longer : AllByRecursion (IsRecord s) records → AllByRecursion (IsRecord s) others → IsStuck s records rest
      → CanGoOn (tags_of others) → spellings s records ++ rest ≡ spellings s others ++ left
      → length others ≤ length records
  no_longer h k stuck go e =
      elim (fronts (record_spelling s) (IsRecord s) (records_determined s) records others rest left h k e) [
        | inl g ↦ ends g.0 g.1 g.2
        | inr g ↦ omega (arith, ap length g.1, length-append others g.0)
      ] where
        ends : (zs : List Record) → others ≡ records ++ zs → rest ≡ spellings s zs ++ left
            → length others ≤ length records
        ends [] p q = omega (arith, ap length p, length-append records [])
        ends (z ∷ zs) p q =
            let all = all_split (IsRecord s) records (z ∷ zs) (rw p at k) in
            let tags : tags_of others ≡ (tags_of records ++ tag_of z ∷ []) ++ tags_of zs =
            ap tags_of p ∙ simp (map-append, append_assoc) in
            absurd (stuck z (spellings s zs ++ left) all.1.0
            (q ∙ append_assoc (record_spelling s z) (spellings s zs) left)
            (goes_on_front (tags_of records ++ tag_of z ∷ []) (tags_of zs) (subst CanGoOn tags go)))

-- ---- places at which the list is stuck

stuck_at_end : (s : ℕ) (records : List Record) → IsStuck s records []
stuck_at_end s records z left is e go =
    omega (arith, ap length e, length-framed (tag_of z) (time_of z) (body_of s z) left)

stuck_where_cut : (s : ℕ) (records : List Record) (rest : List ℕ) → RunsPastEnd rest → IsStuck s records rest
stuck_where_cut s records rest cut z left is e go =
    cut_or_whole rest (tag_of z) (time_of z) (body_of s z) left is.length_fits e cut

-- if a sub-record has a fault, some bytes are left
fault_some : (s : ℕ) (rest : List ℕ) (code : ℕ) → SubFault s rest code → rest ≡ [] → ⊥
fault_some s rest code (unknown_tag tag left e) h = cc
fault_some s rest code (short x left f e) h = cc
fault_some s rest code (wrong_type x left f e) h = cc

-- a body in which a sub-record has a fault is not spelled by whole sub-records
no_whole_body : {s code : ℕ} {body : List ℕ} {subs : List SubRecord} (others : List SubRecord) {rest : List ℕ}
    → LongestSubs s body subs rest → SubFault s rest code → AllByRecursion (IsSubRecord s) others
    → body ≡ flat_map (spelling_of s) others → ⊥
no_whole_body {s} {code} {subs = subs} others {rest} longest fault all e =
    elim (fronts (spelling_of s) (IsSubRecord s) (subs_determined s) subs others rest [] longest.each all
    (sym longest.parts ∙ e ∙ sym (append-nil (flat_map (spelling_of s) others)))) [
      | inl g ↦ goes g.0 g.1 g.2
      | inr g ↦ stops g.0 g.2
    ] where
      goes : (zs : List SubRecord) → others ≡ subs ++ zs → rest ≡ flat_map (spelling_of s) zs ++ [] → ⊥
      goes [] p q = fault_some s rest code fault q
      goes (z ∷ zs) p q =
          let is = all_split (IsSubRecord s) subs (z ∷ zs) (rw p at all) in
          no_sub_fault s z (flat_map (spelling_of s) zs ++ []) code is.1.0
          (subst (λ (l : List ℕ). SubFault s l code)
          (q ∙ append_assoc (spelling_of s z) (flat_map (spelling_of s) zs) []) fault)

      stops : (zs : List SubRecord) → [] ≡ flat_map (spelling_of s) zs ++ rest → ⊥
      stops [] q = fault_some s rest code fault (sym q)
      stops (z ∷ zs) q = cc

-- a heap record's body is the spelling of its sub-records
heap_body : (s : ℕ) (z : Record) → IsRecord s z → is_heap_tag (tag_of z) ≡ true → (subs : List SubRecord)
    × AllByRecursion (IsSubRecord s) subs × (body_of s z ≡ flat_map (spelling_of s) subs)
heap_body s (heap tag time subs) is h = (subs, is.parts.1, refl)
heap_body s (other tag time body) is h = absurd (let no_heap = is.parts.2 in cc)
heap_body s z is h = absurd (cc)

module _ {s at tag time : ℕ} {body after rest : List ℕ} {fault : FormatFault} (records : List Record)
    (was : SnapshotState) (frame : FrameTaken rest tag time body after) (comes : IsAt was (map tag_of records)) where
  -- after a fault in a frame no whole record can continue the list
  stuck_in_frame : FrameFault s at tag body was fault → IsStuck s records rest
  stuck_in_frame wrong z left is e go =
      let same = same_frame tag time body after (tag_of z) (time_of z)
      (body_of s z) left frame.length_fits is.length_fits (sym frame.bytes_are ∙ e) in
      let tags : tag ≡ tag_of z = same.tags in
      let bodies : body ≡ body_of s z = same.bodies in
      let allowed_here : is_length_of s tag (length body) ≡ true = rw (tags, bodies) is.length_allowed in
      elim wrong [
        | wrong_length code place not_allowed ↦ cc
        | wrong_order code place allowed breaks ↦ breaks (map tag_of records) comes
            (subst (λ (n : ℕ). CanGoOn (map tag_of records ++ n ∷ [])) (sym tags) go)
        | wrong_heap is_heap allowed goes bad ↦
            let whole = heap_body s z is (subst (λ (n : ℕ). is_heap_tag n ≡ true) tags is_heap) in
            no_whole_body whole.0 bad.longest bad.wrong whole.1 (bodies ∙ whole.2)
      ]

  told : (code place : ℕ) → fault.code ≡ code → fault.offset ≡ place
      → RecordFault s records at (framed tag time body ++ after) code place
      → RecordFault s records at rest fault.code fault.offset
  told code place c p h = rw (frame.bytes_are, c, p) h

  fault_in_frame : FrameFault s at tag body was fault → RecordFault s records at rest fault.code fault.offset
  fault_in_frame wrong = elim wrong [
    | wrong_length code place not_allowed ↦ told 4 at code place
        (bad_length tag time body after frame.length_fits not_allowed)
    | wrong_order code place allowed breaks ↦ told 8 at code place
        (out_of_order tag time body after frame.length_fits allowed (breaks (map tag_of records) comes))
    | wrong_heap is_heap allowed goes bad ↦
        told fault.code (at + 9 + length (flat_map (spelling_of s) bad.subs)) refl bad.place
        (in_heap tag time body after bad.subs bad.rest fault.code frame.length_fits is_heap
        (goes (map tag_of records) comes) bad.longest bad.wrong)
  ]

-- ---- the loop over the records: its faults

-- the records so far lead up to this place
module _ {bytes rest : List ℕ} {was : SnapshotState} {old new : Places}
    (adds : AddsRecords bytes rest was old new) where
  come : IsAt was (map tag_of adds.records)
  come = adds.order [] refl

  fault_here : {at : ℕ} {fault : FormatFault} → at ≡ 31 + (length bytes - length rest)
      → IsStuck old.id_size adds.records rest → RecordFault old.id_size adds.records at rest fault.code fault.offset
      → HasRecordFault old.id_size bytes fault
  fault_here {at} e stuck wrong =
      let s = old.id_size in
      let place : 31 + length (spellings s adds.records) ≡ at =
      omega (arith, e, ap length adds.parts, length-append (spellings s adds.records) rest) in
      record {
        records = adds.records;
        rest = rest;
        longest = record {
          parts = adds.parts;
          each = adds.each;
          goes_on = at_goes_on was (map tag_of adds.records) come;
          longest = λ others left f h go. no_longer s adds.records others rest left adds.each h stuck go
              (sym adds.parts ∙ f);
        };
        wrong = rw place wrong;
      }

  pub fault_in_record : {at tag time : ℕ} {body after : List ℕ} {fault : FormatFault}
      → FrameTaken rest tag time body after → at ≡ 31 + (length bytes - length rest)
      → FrameFault new.id_size at tag body was fault → HasRecordFault old.id_size bytes fault
  fault_in_record {at} {tag} {body = body} {fault = fault} frame e wrong =
      let here : FrameFault old.id_size at tag body was fault =
      subst (λ (s : ℕ). FrameFault s at tag body was fault) (ap (λ (p : Places). p.id_size) adds.joined) wrong in
      fault_here e (stuck_in_frame adds.records was frame come here)
      (fault_in_frame adds.records was frame come here)

  pub fault_where_cut : {at : ℕ} {fault : FormatFault} → 0 < length rest → RunsPastEnd rest
      → at ≡ 31 + (length bytes - length rest) → fault ≡ record { code = 3; offset = at }
      → HasRecordFault old.id_size bytes fault
  fault_where_cut some cut e f =
      rw f (fault_here e (stuck_where_cut old.id_size adds.records rest cut) (truncated rest some cut))

pub fault_at_end : {bytes : List ℕ} {was : SnapshotState} {old new : Places} {fault : FormatFault}
    → AddsRecords bytes [] was old new → is_done was ≡ false → fault ≡ record { code = 8; offset = 31 + length bytes }
    → HasRecordFault old.id_size bytes fault
fault_at_end {was = was} {old} adds undone f =
    rw f (fault_here adds (omega arith) (stuck_at_end old.id_size adds.records)
    (no_snapshot (not_done_is_not was (map tag_of adds.records) undone (come adds))))

-- ---- what remains to be read at a turn of the loop

module _ {at : ℕ} {before was : SnapshotState} {bytes rest : List ℕ} {old new : Places}
    (adds : AddsRecordsFrom at before bytes rest was old new) where
  -- records that begin after the header, with no record before them, are those of the whole file
  pub from_header : at ≡ 31 → before ≡ Before → AddsRecords bytes rest was old new
  from_header place order = subst (λ (o : SnapshotState). AddsRecordsFrom 31 o bytes rest was old new) order
      (subst (λ (n : ℕ). AddsRecordsFrom n before bytes rest was old new) place adds)

  pub bytes_left : IsBytes bytes → IsBytes rest
  bytes_left h = bytes-behind (spellings old.id_size adds.records) rest (subst IsBytes adds.parts h)

  pub left_within : length rest ≤ length bytes
  left_within = omega (arith, ap length adds.parts, length-append (spellings old.id_size adds.records) rest)

pub frame_room : {rest : List ℕ} {tag time : ℕ} {body left : List ℕ} → FrameTaken rest tag time body left
    → length rest ≡ 9 + (length body + length left)
frame_room {tag = tag} {time} {body} {left} frame = ap length frame.bytes_are ∙ length-framed tag time body left
