-- The header of a dump: a text that has it, the fault of a text that has none, and the result of reading the records
-- after it.
use Rattle.hprof_grammar.proofs.Words.{AddsAll, Bool, Decides-eqb, FirstFault, FormatFault, HasHeader, HasMagic}
use Rattle.hprof_grammar.proofs.Words.{HasRecordFault, IsDumpOf, List, Places, [], ap, append-nil, arith, bad_id_size}
use Rattle.hprof_grammar.proofs.Words.{big_bytes, big_number, drop, false, header, in_records, is_id_size, length}
use Rattle.hprof_grammar.proofs.Words.{limit, magic, map, nat_eq, nothing_of, refl, spellings, starts_is, starts_with}
use Rattle.hprof_grammar.proofs.Words.{subst, sym, tag_of, true, ℕ, ◌++◌, ◌<◌, ◌^◌, ◌∙◌, ◌≡◌, ◌≤◌}
use Rattle.hprof_grammar.proofs.Bytes.{IsBytes, bytes-drop, number-lt, number_stands}
use Rattle.hprof_grammar.proofs.FrameBeginnings.{header_parts}
use Rattle.hprof_grammar.proofs.SnapshotOrderLaws.{done_is_orderly}

-- ---- the text of the header

-- if the test of its first bytes is true, a text begins with the magic bytes
pub begins_with_magic : (text : List ℕ) (r : Bool) → r ≡ starts_with nat_eq text magic → r ≡ true
    → text ≡ magic ++ drop 19 text
begins_with_magic text r e = (starts_is Decides-eqb text magic r e).0

pub magic_is_found : (text : List ℕ) (r : Bool) → r ≡ starts_with nat_eq text magic → HasMagic text → r ≡ true
magic_is_found text r e h = (starts_is Decides-eqb text magic r e).1 h.0 h.1

-- ---- the numbers after the magic bytes

pub header_stands : (s : ℕ) (text : List ℕ) → IsBytes text → length text ≤ limit → 31 ≤ length text
    → text ≡ magic ++ drop 19 text → s ≡ big_number 4 (drop 19 text) → is_id_size s ≡ true → HasHeader s text
header_stands s text bytes size room begins e is =
    let time = big_number 8 (drop 23 text) in
    let sizes : drop 19 text ≡ big_bytes 4 s ++ drop 23 text = number_stands 19 4 text bytes (omega arith)
    ∙ ap (λ n. big_bytes 4 n ++ drop 23 text) (sym e) in
    record {
      size = size;
      id_size = is;
      time = time;
      time_fits = number-lt 8 (drop 23 text) (bytes-drop 23 text bytes);
      whole = begins ∙ ap (λ back. magic ++ back)
          (sizes ∙ ap (λ back. big_bytes 4 s ++ back) (number_stands 23 8 text bytes room))
          ∙ sym (header_parts s time (drop 31 text));
    }

pub id_size_wrong : (s : ℕ) (text : List ℕ) → IsBytes text → length text ≤ limit → 31 ≤ length text
    → text ≡ magic ++ drop 19 text → s ≡ big_number 4 (drop 19 text) → is_id_size s ≡ false → FirstFault text 2 19
id_size_wrong s text bytes size room begins is wrong =
    let sizes : drop 19 text ≡ big_bytes 4 s ++ drop 23 text = number_stands 19 4 text bytes (omega arith)
    ∙ ap (λ n. big_bytes 4 n ++ drop 23 text) (sym is) in
    let fits : s < 256 ^ 4 = rw is (number-lt 4 (drop 19 text) (bytes-drop 19 text bytes)) in
    bad_id_size s (drop 23 text) size room fits (begins ∙ ap (λ back. magic ++ back) sizes) wrong

-- ---- the records after the header

pub dump_read : (text : List ℕ) (s : ℕ) (new : Places) → HasHeader s text → AddsAll (drop 31 text) (nothing_of s) new
    → IsDumpOf text new
dump_read text s new head all =
    let order = all.0 in
    let adds = all.2 in
    let whole : text ≡ header s head.time ++ spellings s adds.records =
    head.whole ∙ ap (λ (rest : List ℕ). header s head.time ++ rest)
    (adds.parts ∙ append-nil (spellings s adds.records)) in
    subst (IsDumpOf text) (sym adds.joined) (record {
      records = adds.records;
      spells = record {
        size = head.size;
        id_size = head.id_size;
        time = head.time;
        time_fits = head.time_fits;
        whole = whole;
        each = adds.each;
      };
      orderly = done_is_orderly order (map tag_of adds.records) all.1 (adds.order [] refl);
      places = refl;
    })

pub record_fault_read : (text : List ℕ) (s : ℕ) (fault : FormatFault) → HasHeader s text
    → HasRecordFault s (drop 31 text) fault → FirstFault text fault.code fault.offset
record_fault_read text s fault head wrong =
    in_records s head.time (drop 31 text) wrong.records wrong.rest fault.code fault.offset head.size head.id_size
    head.whole wrong.longest wrong.wrong
