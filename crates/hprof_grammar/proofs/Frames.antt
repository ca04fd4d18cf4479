-- The frame of a record: what is read was spelled, what is spelled is read, and if no frame can be read the record runs
-- past the end.
use Rattle.hprof_grammar.proofs.Words.{EndsShort, Err, Field, Flaw, List, Ok, RunsPastEnd, Short, TypePlace, UnknownTag}
use Rattle.hprof_grammar.proofs.Words.{WrongType, [], ap, append-nil, append_assoc, arith, big_bytes, block_at, framed}
use Rattle.hprof_grammar.proofs.Words.{length, length-append, number, number_at, raw, refl, spelled, sym, then_at}
use Rattle.hprof_grammar.proofs.Words.{type_code, ℕ, ◌++◌, ◌<◌, ◌^◌, ◌∙◌, ◌∷◌, ◌≡◌}
use Rattle.hprof_grammar.specs.working.Reading.{frame_at}
use Rattle.hprof_grammar.proofs.Bytes.{IsBytes, bytes-tail}
use Rattle.hprof_grammar.proofs.Fields.{Breaks, ends_short, has_wrong_type, spelled-append}
use Rattle.hprof_grammar.proofs.Format.{IsFormat, bind_ok, map_err, number_format, ok_same, raw_format}
use Rattle.hprof_grammar.proofs.Combined.{as_format, pair_format}

-- ---- after the tag: a time, a length, and a body of that length

abbrev HasRoom : ℕ × List ℕ → Type 0
HasRoom p = (p.0 < 256 ^ 4) × (length p.1 < 256 ^ 4)

abbrev frame_fields : ℕ × List ℕ → List Field
frame_fields p = number 4 p.0 ∷ number 4 (length p.1) ∷ raw p.1 ∷ []

block_format : IsFormat (λ (body : List ℕ). length body < 256 ^ 4) (λ body. number 4 (length body) ∷ raw body ∷ [])
    block_at
block_format = as_format {from = λ (body : List ℕ). (length body, body)}
    (pair_format (number_format 4) (λ (n : ℕ). raw_format n)) (record {
      well_to = λ p h. rw (h.1) h.0;
      well_from = λ body h. (h, refl);
      fields_to = λ p h. rw (h.1) refl;
      fields_from = λ body h. refl;
      back = λ body h. refl;
    })

behind_tag : IsFormat HasRoom frame_fields (then_at (number_at 4) (λ _. block_at))
behind_tag = pair_format (number_format 4) (λ (_ : ℕ). block_format)

frame_spelled : (tag time : ℕ) (body rest : List ℕ)
    → tag ∷ (spelled (frame_fields (time, body)) ++ rest) ≡ framed tag time body ++ rest
frame_spelled tag time body rest =
    ap (λ (back : List ℕ). (tag ∷ big_bytes 4 time ++ (big_bytes 4 (length body) ++ back)) ++ rest) (append-nil body)

-- ---- the three laws

-- the bytes are a frame, and then `rest`
pub record FrameTaken (bytes : List ℕ) (tag time : ℕ) (body rest : List ℕ) : Type 0 where
  pub time_fits : time < 256 ^ 4
  pub length_fits : length body < 256 ^ 4
  pub bytes_are : bytes ≡ framed tag time body ++ rest

pub frame_takes : {bytes : List ℕ} {z : (ℕ × ℕ × List ℕ) × List ℕ} → IsBytes bytes → frame_at bytes ≡ Ok z
    → FrameTaken bytes z.0.0 z.0.1 z.0.2 z.1
unfolding frame_at
frame_takes {bytes = []} h e = absurd (cc)
frame_takes {bytes = tag ∷ bytes} {z} h e =
    let p = bind_ok (then_at (number_at 4) (λ _. block_at) bytes)
    (λ (x : (ℕ × List ℕ) × List ℕ). Ok ((tag, x.0.0, x.0.1), x.1)) z e in
    let t = behind_tag.takes bytes p.0 (bytes-tail tag bytes h) p.1 in
    rw (← ok_same {E = Flaw} ((tag, p.0.0.0, p.0.0.1), p.0.1) z p.2) (record {
      time_fits = t.well.0;
      length_fits = t.well.1;
      bytes_are = ap (λ (back : List ℕ). tag ∷ back) t.bytes_are
          ∙ frame_spelled tag p.0.0.0 p.0.0.1 p.0.1;
    })

-- no field of a frame is a type code
no_types : {p : ℕ × List ℕ} (front : List Field) (place : TypePlace) (code : ℕ) (more : List Field)
    → frame_fields p ≡ front ++ type_code place code ∷ more → ⊥
no_types [] place code more e = cc
no_types (x ∷ []) place code more e = cc
no_types (x ∷ y ∷ []) place code more e = cc
no_types (x ∷ y ∷ z ∷ fs) place code more e =
    omega (arith, ap length e, length-append fs (type_code place code ∷ more))

-- the spelling of the fields goes on after bytes that end short
cut_spelling : (fields : List Field) (rest : List ℕ) (s : EndsShort fields rest)
    → spelled fields ≡ rest ++ (s.missing ++ spelled s.more)
cut_spelling fields rest s =
    ap spelled s.in_order ∙ spelled-append s.front (s.cut ∷ s.more)
    ∙ ap (λ (bytes : List ℕ). spelled s.front ++ (bytes ++ spelled s.more)) s.cut_is
    ∙ ap (λ (bytes : List ℕ). spelled s.front ++ bytes) (append_assoc s.part s.missing (spelled s.more))
    ∙ sym (append_assoc (spelled s.front) s.part (s.missing ++ spelled s.more))
    ∙ ap (λ (bytes : List ℕ). bytes ++ (s.missing ++ spelled s.more)) (sym s.bytes_are)

runs_past : (tag : ℕ) (rest : List ℕ) (p : ℕ × List ℕ) (flaw : Flaw) → HasRoom p → Breaks flaw (frame_fields p) rest
    → RunsPastEnd (tag ∷ rest)
runs_past tag rest p UnknownTag room b = absurd b.spoiled
runs_past tag rest p WrongType room b =
    let w = has_wrong_type (frame_fields p) rest b in
    absurd (no_types {p = p} w.front w.place w.code w.more w.in_order)
runs_past tag rest p Short room b =
    let s = ends_short (frame_fields p) rest b in
    record {
      tag = tag;
      time = p.0;
      body = p.1;
      missing = s.missing ++ spelled s.more;
      length_fits = room.1;
      begins = ap (λ (back : List ℕ). tag ∷ big_bytes 4 p.0 ++ (big_bytes 4 (length p.1) ++ back))
          (sym (append-nil p.1)) ∙ ap (λ (back : List ℕ). tag ∷ back) (cut_spelling (frame_fields p) rest s);
      not_whole = omega (arith, length-append s.missing (spelled s.more), s.not_whole);
    }

-- if bytes remain and no frame can be read, the record runs past the end
pub cut_record : {rest : List ℕ} {flaw : Flaw} → 0 < length rest → IsBytes rest → frame_at rest ≡ Err flaw
    → RunsPastEnd rest
unfolding frame_at
cut_record {rest = []} some h e = absurd (omega (arith, some))
cut_record {rest = tag ∷ rest} {flaw} some h e =
    let f = map_err (then_at (number_at 4) (λ _. block_at) rest)
    (λ (x : (ℕ × List ℕ) × List ℕ). ((tag, x.0.0, x.0.1), x.1)) flaw e in
    let b = behind_tag.fails rest flaw (bytes-tail tag rest h) f in
    runs_past tag rest b.0 flaw b.1 b.2
