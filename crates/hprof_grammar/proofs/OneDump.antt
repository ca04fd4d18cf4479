-- A text spells at most one dump: a record is determined by its spelling, and so is the list of records.
use Rattle.hprof_grammar.proofs.Words.{AllByRecursion, HasParts, IsDumpOf, IsRecord, IsSubRecord, List, Places, Record}
use Rattle.hprof_grammar.proofs.Words.{Spells, SubRecord, [], ap, append-nil, arith, big_bytes, body_of, false, heap}
use Rattle.hprof_grammar.proofs.Words.{is_heap_tag, length, load_class, other, places_of, record_spelling, refl}
use Rattle.hprof_grammar.proofs.Words.{spelling_of, spellings, string, sym, tag_of, time_of, true, ℕ, ◌++◌, ◌<◌, ◌^◌}
use Rattle.hprof_grammar.proofs.Words.{◌∙◌, ◌≡◌}
use Rattle.hprof_grammar.proofs.Bytes.{same_number}
use Rattle.hprof_grammar.proofs.Fronts.{IsDetermined, same_list}
use Rattle.hprof_grammar.proofs.FrameBeginnings.{same_frame, same_header}
use Rattle.hprof_grammar.proofs.SubRecords.{subs_determined}

-- the numbers of a LOAD CLASS
module _ (s serial class stack name serial_too class_too stack_too name_too : ℕ) where
  same_load : (serial < 256 ^ 4) × (class < 256 ^ s) × (stack < 256 ^ 4) × (name < 256 ^ s)
      → (serial_too < 256 ^ 4) × (class_too < 256 ^ s) × (stack_too < 256 ^ 4) × (name_too < 256 ^ s)
      → big_bytes 4 serial ++ (big_bytes s class ++ (big_bytes 4 stack ++ big_bytes s name))
      ≡ big_bytes 4 serial_too ++ (big_bytes s class_too ++ (big_bytes 4 stack_too ++ big_bytes s name_too))
      → (serial ≡ serial_too) × (class ≡ class_too) × (stack ≡ stack_too) × (name ≡ name_too)
  same_load h k e =
      let a = same_number 4 serial serial_too (big_bytes s class ++ (big_bytes 4 stack ++ big_bytes s name))
      (big_bytes s class_too ++ (big_bytes 4 stack_too ++ big_bytes s name_too)) h.0 k.0 e in
      let b = same_number s class class_too (big_bytes 4 stack ++ big_bytes s name)
      (big_bytes 4 stack_too ++ big_bytes s name_too) h.1 k.1 a.1 in
      let c = same_number 4 stack stack_too (big_bytes s name) (big_bytes s name_too) h.2 k.2 b.1 in
      let d = same_number s name name_too [] [] h.3 k.3
      (append-nil (big_bytes s name) ∙ c.1 ∙ sym (append-nil (big_bytes s name_too))) in
      (a.0, b.0, c.0, d.0)

sub_some : (s : ℕ) (x : SubRecord) → 0 < length (spelling_of s x)
sub_some s x = omega arith

-- tag, time and body determine the record
one_record : (s : ℕ) (x y : Record) → HasParts s x → HasParts s y → tag_of x ≡ tag_of y → time_of x ≡ time_of y
    → body_of s x ≡ body_of s y → x ≡ y
one_record s (string t id text) (string u id_too text_too) h k tags times e =
    let b = same_number s id id_too text text_too h k e in
    rw (times, b.0, b.1) refl
one_record s (load_class t serial class stack name) (load_class u serial_too class_too stack_too name_too) h k tags
    times e =
    let b = same_load s serial class stack name serial_too class_too stack_too name_too h k e in
    rw (times, b.0, b.1, b.2, b.3) refl
one_record s (heap tag t subs) (heap tag_too u subs_too) h k tags times e =
    let b = same_list (spelling_of s) (IsSubRecord s) (subs_determined s) (sub_some s) subs subs_too h.1 k.1 e in
    rw (tags, times, b) refl
one_record s (other tag t body) (other tag_too u body_too) h k tags times e = rw (tags, times, e) refl
one_record s (string t id text) (load_class u serial class stack name) h k tags times e = absurd (omega (arith, tags))
one_record s (string t id text) (heap tag u subs) h k tags times e =
    absurd (let no_heap : false ≡ true = rw (← tags) at k.0 in cc)
one_record s (string t id text) (other tag u body) h k tags times e = absurd (k.0 (sym tags))
one_record s (load_class t serial class stack name) (string u id text) h k tags times e = absurd (omega (arith, tags))
one_record s (load_class t serial class stack name) (heap tag u subs) h k tags times e =
    absurd (let no_heap : false ≡ true = rw (← tags) at k.0 in cc)
one_record s (load_class t serial class stack name) (other tag u body) h k tags times e = absurd (k.1 (sym tags))
one_record s (heap tag t subs) (string u id text) h k tags times e =
    absurd (let no_heap : false ≡ true = rw tags at h.0 in cc)
one_record s (heap tag t subs) (load_class u serial class stack name) h k tags times e =
    absurd (let no_heap : false ≡ true = rw tags at h.0 in cc)
one_record s (heap tag t subs) (other tag_too u body) h k tags times e =
    absurd (let no_heap : is_heap_tag tag ≡ false = rw tags k.2 in let is = h.0 in cc)
one_record s (other tag t body) (string u id text) h k tags times e = absurd (h.0 tags)
one_record s (other tag t body) (load_class u serial class stack name) h k tags times e = absurd (h.1 tags)
one_record s (other tag t body) (heap tag_too u subs) h k tags times e =
    absurd (let no_heap : is_heap_tag tag_too ≡ false = rw (← tags) h.2 in let is = k.0 in cc)

-- no spelling of a record begins that of another
pub records_determined : (s : ℕ) → IsDetermined (record_spelling s) (IsRecord s)
records_determined s x y rest more h k e =
    let f = same_frame (tag_of x) (time_of x) (body_of s x) rest (tag_of y) (time_of y)
    (body_of s y) more h.length_fits k.length_fits e in
    let time = same_number 4 (time_of x) (time_of y) [] [] h.time k.time (ap (λ (l : List ℕ). l ++ []) f.times) in
    (one_record s x y h.parts k.parts f.tags time.0 f.bodies, f.afters)

record_some : (s : ℕ) (x : Record) → 0 < length (record_spelling s x)
record_some s x = omega arith

-- a text is spelled by at most one list of records
same_records : (s : ℕ) (xs ys : List Record) → AllByRecursion (IsRecord s) xs → AllByRecursion (IsRecord s) ys
    → spellings s xs ≡ spellings s ys → xs ≡ ys
same_records s xs ys h k e = same_list (record_spelling s) (IsRecord s) (records_determined s)
    (record_some s) xs ys h k e

-- a text spells at most one list of records, with one size of identifiers
pub one_list : (text : List ℕ) (s s_too : ℕ) (xs ys : List Record) → Spells text s xs → Spells text s_too ys
    → (s ≡ s_too) × (xs ≡ ys)
one_list text s s_too xs ys h k =
    let head = same_header s h.time s_too k.time (spellings s xs) (spellings s_too ys) h.id_size k.id_size
    (sym h.whole ∙ k.whole) in
    let each : AllByRecursion (IsRecord s) ys = rw (head.0) k.each in
    let texts : spellings s xs ≡ spellings s ys = head.1 ∙ ap (λ (n : ℕ). spellings n ys) (sym head.0) in
    (head.0, same_records s xs ys h.each each texts)

pub one_dump : (text : List ℕ) (dump dump_too : Places) → IsDumpOf text dump → IsDumpOf text dump_too → dump ≡ dump_too
one_dump text dump dump_too h k =
    let one = one_list text dump.id_size dump_too.id_size h.records k.records h.spells k.spells in
    h.places ∙ ap (places_of dump.id_size) one.1 ∙ ap (λ (n : ℕ). places_of n k.records) one.0 ∙ sym k.places
