-- Texts that begin with a header or with the frame of a record.
use Rattle.hprof_grammar.proofs.Words.{List, RunsPastEnd, [], ap, append-nil, append_assoc, arith, big_bytes, framed}
use Rattle.hprof_grammar.proofs.Words.{header, is_id_size, length, length-append, length-bytes_high_first, magic, refl}
use Rattle.hprof_grammar.proofs.Words.{sym, true, ℕ, ◌++◌, ◌+◌, ◌<◌, ◌^◌, ◌∙◌, ◌∷◌, ◌≡◌}
use Rattle.hprof_grammar.proofs.Bytes.{same_front, same_number}
use Rattle.hprof_grammar.proofs.TableLaws.{is_id_size-lt}

-- ---- frames

pub length-framed : (tag time : ℕ) (body after : List ℕ)
    → length (framed tag time body ++ after) ≡ 9 + (length body + length after)
length-framed tag time body after =
    omega (
      arith,
      length-append (framed tag time body) after,
      length-append (big_bytes 4 time) (big_bytes 4 (length body) ++ body),
      length-append (big_bytes 4 (length body)) body,
      length-bytes_high_first 4 time,
      length-bytes_high_first 4 (length body),
    )

-- two frames that begin the same text have the same parts
pub record SameFrame (tag time : ℕ) (body after : List ℕ) (tag_too time_too : ℕ)
    (body_too after_too : List ℕ) : Type 0 where
  pub tags : tag ≡ tag_too
  pub times : big_bytes 4 time ≡ big_bytes 4 time_too
  pub bodies : body ≡ body_too
  pub afters : after ≡ after_too

frame_parts : (tag time : ℕ) (body after : List ℕ)
    → framed tag time body ++ after ≡ tag ∷ (big_bytes 4 time ++ (big_bytes 4 (length body) ++ (body ++ after)))
frame_parts tag time body after =
    ap (λ (l : List ℕ). tag ∷ l) (append_assoc (big_bytes 4 time) (big_bytes 4 (length body) ++ body) after
    ∙ ap (λ (l : List ℕ). big_bytes 4 time ++ l) (append_assoc (big_bytes 4 (length body)) body after))

module _ (tag time : ℕ) (body after : List ℕ) (tag_too time_too : ℕ) (body_too after_too : List ℕ) where
  pub same_frame : length body < 256 ^ 4 → length body_too < 256 ^ 4
      → framed tag time body ++ after ≡ framed tag_too time_too body_too ++ after_too
      → SameFrame tag time body after tag_too time_too body_too after_too
  same_frame h k e =
      let whole = sym (frame_parts tag time body after) ∙ e ∙ frame_parts tag_too time_too body_too after_too in
      let behind : big_bytes 4 time ++ (big_bytes 4 (length body) ++ (body ++ after))
      ≡ big_bytes 4 time_too ++ (big_bytes 4 (length body_too) ++ (body_too ++ after_too)) = cc in
      let times = same_front 4 (big_bytes 4 time) (big_bytes 4 time_too) (big_bytes 4 (length body) ++ (body ++ after))
      (big_bytes 4 (length body_too) ++ (body_too ++ after_too)) (length-bytes_high_first 4 time)
      (length-bytes_high_first 4 time_too) behind in
      let sizes = same_number 4 (length body) (length body_too) (body ++ after) (body_too ++ after_too) h k times.1 in
      let bodies = same_front (length body_too) body body_too after after_too sizes.0 refl sizes.1 in
      record { tags = cc; times = times.0; bodies = bodies.0; afters = bodies.1 }

-- a record that runs past the end of the text is no whole frame
pub cut_or_whole : (rest : List ℕ) (tag time : ℕ) (body after : List ℕ) → length body < 256 ^ 4
    → rest ≡ framed tag time body ++ after → RunsPastEnd rest → ⊥
cut_or_whole rest tag time body after h e cut =
    let whole : framed cut.tag cut.time cut.body ++ [] ≡ framed tag time body ++ (after ++ cut.missing) =
    append-nil (framed cut.tag cut.time cut.body) ∙ cut.begins ∙ ap (λ (l : List ℕ). l ++ cut.missing) e
    ∙ append_assoc (framed tag time body) after cut.missing in
    let s = same_frame cut.tag cut.time cut.body [] tag time body (after ++ cut.missing) cut.length_fits h whole in
    omega (arith, cut.not_whole, ap length s.afters, length-append after cut.missing)

-- ---- headers

pub length-header : (s time : ℕ) → length (header s time) ≡ 31
length-header s time = omega (
  arith,
  length-append (big_bytes 4 s) (big_bytes 8 time),
  length-bytes_high_first 4 s,
  length-bytes_high_first 8 time,
)

pub header_parts : (s time : ℕ) (rest : List ℕ)
    → header s time ++ rest ≡ magic ++ (big_bytes 4 s ++ (big_bytes 8 time ++ rest))
header_parts s time rest = append_assoc magic (big_bytes 4 s ++ big_bytes 8 time) rest
    ∙ ap (λ (l : List ℕ). magic ++ l) (append_assoc (big_bytes 4 s) (big_bytes 8 time) rest)

-- two headers that begin the same text have the same size of identifiers, and are followed by the same bytes
pub same_size : (s s_too : ℕ) (rest more : List ℕ) → s < 256 ^ 4 → s_too < 256 ^ 4
    → magic ++ (big_bytes 4 s ++ rest) ≡ magic ++ (big_bytes 4 s_too ++ more) → (s ≡ s_too) × (rest ≡ more)
same_size s s_too rest more h k e =
    let behind = same_front 19 magic magic (big_bytes 4 s ++ rest) (big_bytes 4 s_too ++ more) refl refl e in
    same_number 4 s s_too rest more h k behind.1

module _ (s time s_too time_too : ℕ) (rest more : List ℕ) where
  pub same_header : is_id_size s ≡ true → is_id_size s_too ≡ true
      → header s time ++ rest ≡ header s_too time_too ++ more → (s ≡ s_too) × (rest ≡ more)
  same_header h k e =
      let sizes = same_size s s_too (big_bytes 8 time ++ rest) (big_bytes 8 time_too ++ more) (is_id_size-lt s h)
      (is_id_size-lt s_too k) (sym (header_parts s time rest) ∙ e ∙ header_parts s_too time_too more) in (
        sizes.0,
        (same_front 8 (big_bytes 8 time) (big_bytes 8 time_too) rest more (length-bytes_high_first 8 time)
            (length-bytes_high_first 8 time_too) sizes.1).1,
      )
