-- What the frame of a record has in it, by its tag.
use Rattle.hprof_grammar.proofs.Words.{AddsRecord, AddsSubs, Bool, FormatFault, FrameFault, HasSubFault, IsAt, IsOther}
use Rattle.hprof_grammar.proofs.Words.{List, SnapshotState, Places, [], ap, append-nil, arith, big_bytes, big_number}
use Rattle.hprof_grammar.proofs.Words.{drop, drop_of_length-le, heap, is_heap_tag, is_length_of, length, load_class}
use Rattle.hprof_grammar.proofs.Words.{other, refl, slice_index, string, subst, sym, true, w8, with_loaded, with_string}
use Rattle.hprof_grammar.proofs.Words.{wrong_heap, ℕ, ◌*◌, ◌++◌, ◌+◌, ◌∙◌, ◌∷◌, ◌≡◌, ◌≤◌}
use Rattle.std.proofs.Common.{Fits}
use Rattle.hprof_grammar.proofs.Bytes.{IsBytes, bytes-drop, in_bytes, number-lt, number_parts, number_stands}
use Rattle.hprof_grammar.proofs.SnapshotOrderLaws.{at_goes_on}
use Rattle.hprof_grammar.proofs.TableLaws.{load_length, string_length}

-- a frame whose tag, length and order are allowed
pub record IsPlacedFrame (tag : ℕ) (body : List ℕ) (was next : SnapshotState) (old : Places) : Type 0 where
  pub bytes : IsBytes body
  pub length_allowed : is_length_of old.id_size tag (length body) ≡ true
  pub order : (tags : List ℕ) → IsAt was tags → IsAt next (tags ++ tag ∷ [])

pub placed_frame : {tag : ℕ} {body : List ℕ} {was next : SnapshotState} {old : Places} {s : ℕ} {allowed : Bool}
    → ((k : ℕ) → Fits w8 (slice_index body k)) → s ≡ old.id_size
    → allowed ≡ is_length_of s tag (length body) → allowed ≡ true
    → ((tags : List ℕ) → IsAt was tags → IsAt next (tags ++ tag ∷ [])) → IsPlacedFrame tag body was next old
placed_frame {tag} {body} bytes size test passed order = record {
  bytes = in_bytes body bytes;
  length_allowed = subst (λ (n : ℕ). is_length_of n tag (length body) ≡ true) size (sym test ∙ passed);
  order = order;
}

-- the w bytes at place `at` of a body, as the bytes of their number
abbrev spelled_at : List ℕ → ℕ → ℕ → List ℕ
spelled_at body at w = big_bytes w (big_number w (drop at body))

-- a body of four numbers
four_numbers : (s : ℕ) (body : List ℕ) → IsBytes body → length body ≡ 8 + 2 * s
    → spelled_at body 0 4 ++ (spelled_at body 4 s
    ++ (spelled_at body (4 + s) 4 ++ spelled_at body (4 + s + 4) s)) ≡ body
four_numbers s body h e =
    let last : drop (4 + s + 4 + s) body ≡ [] = drop_of_length-le body (omega arith) in
    sym (number_parts 4 body h (omega arith)
    ∙ ap (λ (l : List ℕ). spelled_at body 0 4 ++ l) (number_stands 4 s body h (omega arith)
    ∙ ap (λ (l : List ℕ). spelled_at body 4 s ++ l) (number_stands (4 + s) 4 body h (omega arith)
    ∙ ap (λ (l : List ℕ). spelled_at body (4 + s) 4 ++ l) (number_stands (4 + s + 4) s body h (omega arith)
    ∙ ap (λ (l : List ℕ). spelled_at body (4 + s + 4) s ++ l) last ∙ append-nil (spelled_at body (4 + s + 4) s)))))

-- ---- the contents of an allowed frame, by its tag

module _ {at tag time : ℕ} {body : List ℕ} {was next : SnapshotState} {old : Places}
    (frame : IsPlacedFrame tag body was next old) where
  pub string_framed : {new : Places} → tag ≡ 0x01 → new ≡ with_string old at
      → AddsRecord at tag time body was next old new
  string_framed e noted =
      let s = old.id_size in
      let room : s ≤ length body =
      string_length s (length body) (subst (λ (n : ℕ). is_length_of s n (length body) ≡ true) e frame.length_allowed) in
      record {
        is = string time (big_number s body) (drop s body);
        tag_is = sym e;
        time_is = refl;
        body_is = sym (number_parts s body frame.bytes room);
        parts = number-lt s body frame.bytes;
        length_allowed = frame.length_allowed;
        order = frame.order;
        joined = noted ∙ rw (append-nil old.loaded, append-nil old.roots, append-nil old.objects) refl;
      }

  pub load_framed : {new : Places} → tag ≡ 0x02 → new ≡ with_loaded old at
      → AddsRecord at tag time body was next old new
  load_framed e noted =
      let s = old.id_size in
      let size : length body ≡ 8 + 2 * s =
      load_length s (length body) (subst (λ (n : ℕ). is_length_of s n (length body) ≡ true) e frame.length_allowed) in
      let number_at = λ (at w : ℕ). big_number w (drop at body) in
      let fits = λ (at w : ℕ). number-lt w (drop at body) (bytes-drop at body frame.bytes) in
      record {
        is = load_class time (number_at 0 4) (number_at 4 s) (number_at (4 + s) 4) (number_at (4 + s + 4) s);
        tag_is = sym e;
        time_is = refl;
        body_is = four_numbers s body frame.bytes size;
        parts = (fits 0 4, fits 4 s, fits (4 + s) 4, fits (4 + s + 4) s);
        length_allowed = frame.length_allowed;
        order = frame.order;
        joined = noted ∙ rw (append-nil old.strings, append-nil old.roots, append-nil old.objects) refl;
      }

  pub heap_framed : {new : Places} → is_heap_tag tag ≡ true → AddsSubs (at + 9) body [] old new
      → AddsRecord at tag time body was next old new
  heap_framed is_heap adds = record {
    is = heap tag time adds.subs;
    tag_is = refl;
    time_is = refl;
    body_is = sym (adds.parts ∙ append-nil _);
    parts = (is_heap, adds.each);
    length_allowed = frame.length_allowed;
    order = frame.order;
    joined = adds.joined ∙ rw (append-nil old.strings, append-nil old.loaded) refl;
  }

  pub other_framed : IsOther tag → AddsRecord at tag time body was next old old
  other_framed is_other = record {
    is = other tag time body;
    tag_is = refl;
    time_is = refl;
    body_is = refl;
    parts = is_other;
    length_allowed = frame.length_allowed;
    order = frame.order;
    joined = rw (append-nil old.strings, append-nil old.loaded, append-nil old.roots, append-nil old.objects) refl;
  }

pub heap_broken : {at tag : ℕ} {body : List ℕ} {was next : SnapshotState} {old : Places} {fault : FormatFault}
    → IsPlacedFrame tag body was next old → is_heap_tag tag ≡ true → HasSubFault old.id_size (at + 9) body fault
    → FrameFault old.id_size at tag body was fault
heap_broken {tag = tag} {next = next} frame is_heap bad =
    wrong_heap is_heap frame.length_allowed (λ tags h. at_goes_on next (tags ++ tag ∷ []) (frame.order tags h)) bad
