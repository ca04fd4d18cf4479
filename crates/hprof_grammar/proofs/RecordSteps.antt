-- The loop over the records: before it, and at each turn. Records that were read separately join those before them.
use Rattle.hprof_grammar.proofs.Words.{AddsRecord, AddsRecordsFrom, AllByRecursion, IsAt, IsRecord, List, SnapshotState}
use Rattle.hprof_grammar.proofs.Words.{Places, Record, [], ap, append-nil, append_assoc, arith, filter-append}
use Rattle.hprof_grammar.proofs.Words.{flat_map-append, framed, length, length-append, map, map-append, nothing_of}
use Rattle.hprof_grammar.proofs.Words.{placed, placed_subs, record_spelling, refl, spellings, subs_of, subst, sym}
use Rattle.hprof_grammar.proofs.Words.{tag_of, with_places, with_record, with_records, ℕ, ◌++◌, ◌+◌, ◌-◌, ◌∙◌, ◌∷◌, ◌≡◌}
use Rattle.hprof_grammar.proofs.Fields.{all_join}
use Rattle.hprof_grammar.proofs.Frames.{FrameTaken}

-- ---- places join

placed_join : (s at : ℕ) (xs ys : List Record)
    → placed s at (xs ++ ys) ≡ placed s at xs ++ placed s (at + length (spellings s xs)) ys
placed_join s at [] ys = let e : at ≡ at + 0 = omega arith in ap (λ (n : ℕ). placed s n ys) e
placed_join s at (q ∷ xs) ys =
    let e : at + length (record_spelling s q) + length (spellings s xs)
    ≡ at + length (record_spelling s q ++ spellings s xs) =
    omega (arith, length-append (record_spelling s q) (spellings s xs)) in
    ap (λ (l : List (ℕ × Record)). (at, q) ∷ l) (placed_join s (at + length (record_spelling s q)) xs ys
    ∙ ap (λ (n : ℕ). placed s (at + length (record_spelling s q)) xs ++ placed s n ys) e)

-- the places of the records that follow xs
joined_places : (p : Places) (at : ℕ) (xs ys : List Record) (place : ℕ) → place ≡ at + length (spellings p.id_size xs)
    → with_records p at (xs ++ ys) ≡ with_records (with_records p at xs) place ys
joined_places p at xs ys place e =
    rw e (simp (placed_join, flat_map-append, filter-append, map-append, append_assoc))

-- adding one record is adding a list of one record
one_alone : (p : Places) (at : ℕ) (r : Record) → with_records p at (r ∷ []) ≡ with_record p at r
one_alone p at r = rw (append-nil (placed_subs p.id_size (at + 9) (subs_of r))) refl

-- ---- the loop

pub records_begin : {at : ℕ} {before : SnapshotState} (bytes : List ℕ) (p : Places)
    → AddsRecordsFrom at before bytes bytes before p p
records_begin {before = before} bytes p = record {
  records = [];
  parts = refl;
  each = tt;
  order = λ tags come. subst (IsAt before) (sym (append-nil tags)) come;
  joined = rw (append-nil p.strings, append-nil p.loaded, append-nil p.roots, append-nil p.objects) refl;
}

module _ {at : ℕ} {was next : SnapshotState} {rest left : List ℕ} where
  -- the records that were read after the others join them
  pub records_join : {begin : ℕ} {before : SnapshotState} {bytes : List ℕ} {old new newer : Places}
      → AddsRecordsFrom begin before bytes rest was old new → AddsRecordsFrom at was rest left next new newer
      → at ≡ begin + (length bytes - length rest) → AddsRecordsFrom begin before bytes left next old newer
  records_join {begin} {old = old} {new = new} adds more e =
      let s = old.id_size in
      let xs = adds.records in
      let ys = more.records in
      let size : new.id_size ≡ s = ap (λ (p : Places). p.id_size) adds.joined in
      let behind : rest ≡ spellings s ys ++ left =
      subst (λ (n : ℕ). rest ≡ spellings n ys ++ left) size more.parts in
      let there : at ≡ begin + length (spellings s xs) =
      omega (arith, e, ap length adds.parts, length-append (spellings s xs) rest) in
      record {
        records = xs ++ ys;
        parts = adds.parts ∙ ap (λ (l : List ℕ). spellings s xs ++ l) behind ∙ simp (flat_map-append, append_assoc);
        each = all_join (IsRecord s) xs ys adds.each (subst (λ (n : ℕ). AllByRecursion (IsRecord n) ys) size more.each);
        order = λ tags come.
            subst (IsAt next) (append_assoc tags (map tag_of xs) (map tag_of ys)
            ∙ ap (λ (l : List ℕ). tags ++ l) (sym (map-append tag_of xs ys)))
            (more.order (tags ++ map tag_of xs) (adds.order tags come));
        joined = more.joined ∙ ap (λ (p : Places). with_records p at ys) adds.joined
            ∙ sym (joined_places old begin xs ys at there);
      }

  -- a record whose frame begins here is a list of one record
  pub one_record : {body : List ℕ} {old new : Places} {tag time : ℕ} → FrameTaken rest tag time body left
      → AddsRecord at tag time body was next old new → AddsRecordsFrom at was rest left next old new
  one_record {body} {old = old} {tag = tag} {time} frame one =
      let s = old.id_size in
      let spelled : record_spelling s one.is ≡ framed tag time body = rw (one.tag_is, one.time_is, one.body_is) refl in
      let is_record : IsRecord s one.is = record {
        parts = one.parts;
        time = rw one.time_is frame.time_fits;
        length_fits = rw one.body_is frame.length_fits;
        length_allowed = rw (one.tag_is, one.body_is) one.length_allowed;
      } in
      record {
        records = one.is ∷ [];
        parts = frame.bytes_are
            ∙ ap (λ (l : List ℕ). l ++ left) (sym spelled ∙ sym (append-nil (record_spelling s one.is)));
        each = (is_record, tt);
        order = λ tags come. subst (λ (t : ℕ). IsAt next (tags ++ t ∷ [])) (sym one.tag_is) (one.order tags come);
        joined = one.joined ∙ sym (one_alone old at one.is);
      }

  -- records that were read separately, with nothing before them, add the same to places that were noted before
  pub read_apart : {body : List ℕ} {more : Places} (p : Places)
      → AddsRecordsFrom at was body [] next (nothing_of p.id_size) more → rest ≡ body ++ left
      → AddsRecordsFrom at was rest left next p (with_places p more)
  read_apart p part e = record {
    records = part.records;
    parts = e ∙ ap (λ (l : List ℕ). l ++ left) (part.parts ∙ append-nil (spellings p.id_size part.records));
    each = part.each;
    order = part.order;
    joined = ap (with_places p) part.joined;
  }
