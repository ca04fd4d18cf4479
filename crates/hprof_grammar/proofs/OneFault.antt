-- A text has at most one first fault, and none if it spells a dump.
use Rattle.hprof_grammar.proofs.Words.{AllByRecursion, CanGoOn, FirstFault, HasMagic, IsDumpOf, IsOrderly, IsRecord}
use Rattle.hprof_grammar.proofs.Words.{List, LongestRecords, Places, Record, RecordFault, SubFault, SubRecord, [], ap}
use Rattle.hprof_grammar.proofs.Words.{append-nil, arith, bad_header, bad_id_size, bad_length, big_bytes, body_of}
use Rattle.hprof_grammar.proofs.Words.{false, flat_map, framed, header, in_heap, in_records, is_id_size, length}
use Rattle.hprof_grammar.proofs.Words.{length-append, magic, map, no_snapshot, out_of_order, record_spelling, refl}
use Rattle.hprof_grammar.proofs.Words.{short_header, spelling_of, spellings, subst, sym, tag_of, time_of, too_large}
use Rattle.hprof_grammar.proofs.Words.{true, truncated, ℕ, ◌++◌, ◌+◌, ◌<◌, ◌^◌, ◌∙◌, ◌∷◌, ◌≡◌, ◌≤◌}
use Rattle.hprof_grammar.proofs.FrameBeginnings.{cut_or_whole, header_parts, length-framed, length-header, same_frame}
use Rattle.hprof_grammar.proofs.FrameBeginnings.{same_header, same_size}
use Rattle.hprof_grammar.proofs.Fronts.{longest_front, same_fronts}
use Rattle.hprof_grammar.proofs.Heaps.{one_longest_subs}
use Rattle.hprof_grammar.proofs.OneDump.{records_determined}
use Rattle.hprof_grammar.proofs.SubRecords.{one_sub_fault}
use Rattle.hprof_grammar.proofs.TableLaws.{heap_length, is_id_size-lt}

-- ---- what is wrong after the records

-- two faults have the same code and the same place
abbrev Agree : ℕ → ℕ → ℕ → ℕ → Type 0
Agree code place code_too place_too = (code ≡ code_too) × (place ≡ place_too)

-- there is no frame at the end
no_frame : (tag time : ℕ) (body after : List ℕ) → [] ≡ framed tag time body ++ after → ⊥
no_frame tag time body after e = omega (arith, ap length e, length-framed tag time body after)

-- one place has one fault
module _ {s : ℕ} {records : List Record} {at : ℕ} where
  agree : {rest rest_too : List ℕ} {code place code_too place_too : ℕ} → rest ≡ rest_too
      → RecordFault s records at rest code place → RecordFault s records at rest_too code_too place_too
      → Agree code place code_too place_too
  agree e (no_snapshot h) (no_snapshot k) = (refl, refl)
  agree e (no_snapshot h) (truncated _ some cut) = absurd (omega (arith, some, ap length e))
  agree e (no_snapshot h) (bad_length tag time body after _ _) = absurd (no_frame tag time body after e)
  agree e (no_snapshot h) (out_of_order tag time body after _ _ _) = absurd (no_frame tag time body after e)
  agree e (no_snapshot h) (in_heap tag time body after _ _ _ _ _ _ _ _) = absurd (no_frame tag time body after e)
  agree e (truncated _ some cut) (no_snapshot k) = absurd (omega (arith, some, ap length e))
  agree e (truncated _ some cut) (truncated _ some_too cut_too) = (refl, refl)
  agree e (truncated rest some cut) (bad_length tag time body after fits _) =
      absurd (cut_or_whole rest tag time body after fits e cut)
  agree e (truncated rest some cut) (out_of_order tag time body after fits _ _) =
      absurd (cut_or_whole rest tag time body after fits e cut)
  agree e (truncated rest some cut) (in_heap tag time body after _ _ _ fits _ _ _ _) =
      absurd (cut_or_whole rest tag time body after fits e cut)
  agree e (bad_length tag time body after fits wrong) (no_snapshot k) = absurd (no_frame tag time body after (sym e))
  agree e (bad_length tag time body after fits wrong) (truncated rest some cut) =
      absurd (cut_or_whole rest tag time body after fits (sym e) cut)
  agree e (bad_length tag time body after fits wrong) (bad_length _ _ _ _ _ _) = (refl, refl)
  agree e (bad_length tag time body after fits wrong) (out_of_order u v other more fits_too right no_more) =
      let f = same_frame tag time body after u v other more fits fits_too e in
      absurd (cc)
  agree e (bad_length tag time body after fits wrong) (in_heap u v other more _ _ _ fits_too is _ _ _) =
      let f = same_frame tag time body after u v other more fits fits_too e in
      absurd (cc (heap_length s u (length other) is))
  agree e (out_of_order tag time body after _ _ _) (no_snapshot k) = absurd (no_frame tag time body after (sym e))
  agree e (out_of_order tag time body after fits right no_more) (truncated rest some cut) =
      absurd (cut_or_whole rest tag time body after fits (sym e) cut)
  agree e (out_of_order tag time body after fits right no_more) (bad_length u v other more fits_too wrong) =
      let f = same_frame tag time body after u v other more fits fits_too e in
      absurd (cc)
  agree e (out_of_order _ _ _ _ _ _ _) (out_of_order _ _ _ _ _ _ _) = (refl, refl)
  agree e (out_of_order tag time body after fits right no_more) (in_heap u v other more _ _ _ fits_too is goes _ _) =
      let f = same_frame tag time body after u v other more fits fits_too e in
      absurd (no_more (subst (λ (t : ℕ). CanGoOn (map tag_of records ++ t ∷ [])) (sym f.tags) goes))
  agree e (in_heap tag time body after _ _ _ _ _ _ _ _) (no_snapshot k) =
      absurd (no_frame tag time body after (sym e))
  agree e (in_heap tag time body after _ _ _ fits _ _ _ _) (truncated rest some cut) =
      absurd (cut_or_whole rest tag time body after fits (sym e) cut)
  agree e (in_heap tag time body after _ _ _ fits is _ _ _) (bad_length u v other more fits_too wrong) =
      let f = same_frame tag time body after u v other more fits fits_too e in
      absurd (cc (heap_length s tag (length body) is))
  agree e (in_heap tag time body after _ _ _ fits is goes _ _) (out_of_order u v other more fits_too right no_more) =
      let f = same_frame tag time body after u v other more fits fits_too e in
      absurd (no_more (subst (λ (t : ℕ). CanGoOn (map tag_of records ++ t ∷ [])) f.tags goes))
  agree e (in_heap tag time body after subs left code fits is goes longest wrong)
      (in_heap u v other more subs_too left_too code_too fits_too is_too goes_too longest_too wrong_too) =
      let f = same_frame tag time body after u v other more fits fits_too e in
      let same = one_longest_subs (rw f.bodies at longest) longest_too in (
        one_sub_fault s left_too code code_too (subst (λ (l : List ℕ). SubFault s l code) same.1 wrong) wrong_too,
        ap (λ (x : List SubRecord). at + 9 + length (flat_map (spelling_of s) x)) same.0,
      )

-- ---- the longest list of whole records

one_longest_records : {s : ℕ} {body : List ℕ} {records records_too : List Record} {rest rest_too : List ℕ}
    → LongestRecords s body records rest → LongestRecords s body records_too rest_too
    → (records ≡ records_too) × (rest ≡ rest_too)
one_longest_records {s} {records = records} {records_too} {rest} {rest_too} h k =
    let most : length records_too ≤ length records = h.longest records_too rest_too k.parts k.each k.goes_on in
    let most_too : length records ≤ length records_too = k.longest records rest h.parts h.each h.goes_on in
    same_fronts (record_spelling s) (IsRecord s) (records_determined s) records records_too rest rest_too
    (omega arith) h.each k.each (sym h.parts ∙ k.parts)

-- an orderly list of records that spells all the bytes is the longest
whole_is_longest : (s : ℕ) (records : List Record) → AllByRecursion (IsRecord s) records
    → IsOrderly (map tag_of records) → LongestRecords s (spellings s records) records []
whole_is_longest s records each orderly = record {
  parts = sym (append-nil (spellings s records));
  each = each;
  goes_on = ([], rw (append-nil (map tag_of records)) orderly);
  longest = λ others left e h goes. longest_front (record_spelling s) (IsRecord s)
      (records_determined s) records others [] left each h
      (λ z more is none. no_frame (tag_of z) (time_of z) (body_of s z) more none)
      (append-nil (spellings s records) ∙ e);
}

-- nothing is wrong after an orderly list that spells all the bytes
no_fault_behind : {s at : ℕ} {records : List Record} {rest : List ℕ} {code place : ℕ} → rest ≡ []
    → IsOrderly (map tag_of records) → RecordFault s records at rest code place → ⊥
no_fault_behind e orderly (no_snapshot h) = h orderly
no_fault_behind e orderly (truncated _ some cut) = omega (arith, some, ap length e)
no_fault_behind e orderly (bad_length tag time body after _ _) = no_frame tag time body after (sym e)
no_fault_behind e orderly (out_of_order tag time body after _ _ _) = no_frame tag time body after (sym e)
no_fault_behind e orderly (in_heap tag time body after _ _ _ _ _ _ _ _) = no_frame tag time body after (sym e)

-- ---- the header

header_has_magic : (s time : ℕ) (text rest : List ℕ) → text ≡ header s time ++ rest → HasMagic text
header_has_magic s time text rest e = (big_bytes 4 s ++ (big_bytes 8 time ++ rest), e ∙ header_parts s time rest)

header_whole : (s time : ℕ) (text rest : List ℕ) → text ≡ header s time ++ rest → length text < 31 → ⊥
header_whole s time text rest e h =
    omega (arith, h, ap length e, length-append (header s time) rest, length-header s time)

-- a header has no size of identifiers that is not allowed
module _ (s s_too time : ℕ) (text rest body : List ℕ) where
  bad_size_there : s < 256 ^ 4 → is_id_size s ≡ false
      → text ≡ magic ++ (big_bytes 4 s ++ rest) → is_id_size s_too ≡ true → text ≡ header s_too time ++ body → ⊥
  bad_size_there fits wrong e right k =
      let sizes = same_size s s_too rest (big_bytes 8 time ++ body) fits (is_id_size-lt s_too right)
      (sym e ∙ k ∙ header_parts s_too time body) in
      let both : true ≡ false = sym right ∙ ap is_id_size (sym sizes.0) ∙ wrong in
      cc

-- ---- the laws

pub one_fault : (text : List ℕ) (code place other_code other_place : ℕ) → FirstFault text code place
    → FirstFault text other_code other_place → (code ≡ other_code) × (place ≡ other_place)
one_fault text c p d q (too_large long) (too_large long_too) = (refl, refl)
one_fault text c p d q (too_large long) (bad_header size none) = absurd (omega arith)
one_fault text c p d q (too_large long) (short_header has small) = absurd (omega arith)
one_fault text c p d q (too_large long) (bad_id_size _ _ size _ _ _ _) = absurd (omega arith)
one_fault text c p d q (too_large long) (in_records _ _ _ _ _ _ _ size _ _ _ _) = absurd (omega arith)
one_fault text c p d q (bad_header size none) (too_large long) = absurd (omega arith)
one_fault text c p d q (bad_header size none) (bad_header size_too none_too) = (refl, refl)
one_fault text c p d q (bad_header size none) (short_header has small) = absurd (none has)
one_fault text c p d q (bad_header size none) (bad_id_size s rest _ _ _ e _) = absurd (none (big_bytes 4 s ++ rest, e))
one_fault text c p d q (bad_header size none) (in_records s time body _ _ _ _ _ _ e _ _) =
    absurd (none (header_has_magic s time text body e))
one_fault text c p d q (short_header has small) (too_large long) = absurd (omega arith)
one_fault text c p d q (short_header has small) (bad_header size none) = absurd (none has)
one_fault text c p d q (short_header has small) (short_header has_too small_too) = (refl, refl)
one_fault text c p d q (short_header has small) (bad_id_size _ _ _ room _ _ _) = absurd (omega arith)
one_fault text c p d q (short_header has small) (in_records s time body _ _ _ _ _ _ e _ _) =
    absurd (header_whole s time text body e small)
one_fault text c p d q (bad_id_size _ _ size _ _ _ _) (too_large long) = absurd (omega arith)
one_fault text c p d q (bad_id_size s rest _ _ _ e _) (bad_header size none) = absurd (none (big_bytes 4 s ++ rest, e))
one_fault text c p d q (bad_id_size _ _ _ room _ _ _) (short_header has small) = absurd (omega arith)
one_fault text c p d q (bad_id_size _ _ _ _ _ _ _) (bad_id_size _ _ _ _ _ _ _) = (refl, refl)
one_fault text c p d q (bad_id_size s rest _ _ fits e wrong) (in_records s_too time body _ _ _ _ _ is k _ _) =
    absurd (bad_size_there s s_too time text rest body fits wrong e is k)
one_fault text c p d q (in_records _ _ _ _ _ _ _ size _ _ _ _) (too_large long) = absurd (omega arith)
one_fault text c p d q (in_records s time body _ _ _ _ _ _ e _ _) (bad_header size none) =
    absurd (none (header_has_magic s time text body e))
one_fault text c p d q (in_records s time body _ _ _ _ _ _ e _ _) (short_header has small) =
    absurd (header_whole s time text body e small)
one_fault text c p d q (in_records s time body _ _ _ _ _ is e _ _) (bad_id_size s_too left _ _ fits k wrong) =
    absurd (bad_size_there s_too s time text left body fits wrong k is e)
one_fault text c p d q (in_records s time body records rest code place _ is e longest wrong)
    (in_records s_too time_too body_too records_too rest_too code_too place_too _ is_too k longest_too wrong_too) =
    let head = same_header s time s_too time_too body body_too is is_too (sym e ∙ k) in
    let longest_here : LongestRecords s_too body_too records rest =
    subst (λ (n : ℕ). LongestRecords n body_too records rest) head.0
    (subst (λ (b : List ℕ). LongestRecords s b records rest) head.1 longest) in
    let same = one_longest_records longest_here longest_too in
    let wrong_here = subst (λ (n : ℕ). RecordFault n records (31 + length (spellings n records)) rest code place)
    head.0 wrong in
    agree same.1
    (subst (λ (l : List Record). RecordFault s_too l (31 + length (spellings s_too l)) rest code place) same.0
    wrong_here) wrong_too

pub dump_or_fault : (text : List ℕ) (dump : Places) (code place : ℕ) → IsDumpOf text dump → FirstFault text code place
    → ⊥
dump_or_fault text dump c p d (too_large long) = let size = d.spells.size in omega arith
dump_or_fault text dump c p d (bad_header size none) =
    none (header_has_magic dump.id_size d.spells.time text (spellings dump.id_size d.records) d.spells.whole)
dump_or_fault text dump c p d (short_header has small) =
    header_whole dump.id_size d.spells.time text (spellings dump.id_size d.records) d.spells.whole small
dump_or_fault text dump c p d (bad_id_size s rest size room fits e wrong) =
    bad_size_there s dump.id_size d.spells.time text rest
    (spellings dump.id_size d.records) fits wrong e d.spells.id_size d.spells.whole
dump_or_fault text dump c p d (in_records s time body records rest code place size is e longest wrong) =
    let head = same_header s time dump.id_size d.spells.time body
    (spellings dump.id_size d.records) is d.spells.id_size (sym e ∙ d.spells.whole) in
    let longest_here : LongestRecords dump.id_size (spellings dump.id_size d.records) records rest =
    subst (λ (n : ℕ). LongestRecords n (spellings dump.id_size d.records) records rest) head.0
    (subst (λ (b : List ℕ). LongestRecords s b records rest) head.1 longest) in
    let same = one_longest_records longest_here (whole_is_longest dump.id_size d.records d.spells.each d.orderly) in
    no_fault_behind same.1 (rw (same.0) d.orderly) wrong
