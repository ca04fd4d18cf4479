-- Parts that are joined one after another.
use Rattle.hprof_grammar.proofs.Words.{AddsAll, AddsRecords, AddsRecordsFrom, Before, Bool, IsReadPart, List}
use Rattle.hprof_grammar.proofs.Words.{SnapshotState, Part, Places, Seam, [], ap, arith, drop, drop-drop}
use Rattle.hprof_grammar.proofs.Words.{drop_of_length-le, eqb, eqb-true, false, is_done, length, length-drop, not}
use Rattle.hprof_grammar.proofs.Words.{nothing_of, refl, same_true, sameb, subst, sym, take, take-append-drop, the_type}
use Rattle.hprof_grammar.proofs.Words.{true, with_places, ℕ, ◌&&◌, ◌++◌, ◌+◌, ◌-◌, ◌<◌, ◌^◌, ◌∙◌, ◌≡◌, ◌≤◌}
use Rattle.hprof_grammar.proofs.RecordSteps.{read_apart, records_begin, records_join}

both_hold : (x y : Bool) → not (x && y) ≡ false → (x ≡ true) × (y ≡ true)
both_hold true true e = (refl, refl)
both_hold true false e = absurd (cc)
both_hold false y e = absurd (cc)

-- the test whether two seams differ is false only if the seams are equal
pub same_seam : (a b : Seam) → not (eqb a.place b.place && sameb the_type a.order b.order) ≡ false → a ≡ b
same_seam a b e =
    let same = both_hold (eqb a.place b.place) (sameb the_type a.order b.order) e in
    ap (λ (n : ℕ). record { place = n; order = a.order }) (eqb-true a.place b.place same.0)
    ∙ ap (λ (o : SnapshotState). record { place = b.place; order = o }) (same_true the_type tt a.order b.order same.1)

-- the records after the header and before the seam have joined
pub record Reaches (text : List ℕ) (s : ℕ) (seam : Seam) (dump : Places) : Type 0 where
  pub behind : 31 ≤ seam.place
  pub fits : seam.place < 2 ^ 32
  pub adds : AddsRecords (drop 31 text) (drop seam.place text) seam.order (nothing_of s) dump

pub none_joined : (text : List ℕ) (s : ℕ) (dump : Places) → dump ≡ nothing_of s
    → Reaches text s (record { place = 31; order = Before }) dump
none_joined text s dump e = record {
  behind = omega arith;
  fits = omega arith;
  adds = subst (λ (p : Places). AddsRecords (drop 31 text) (drop 31 text) Before (nothing_of s) p) (sym e)
      (records_begin (drop 31 text) (nothing_of s));
}

-- a part that begins at that seam joins those records
pub part_joins : {A : Type 0} {text : List ℕ} {s : ℕ} {seam : Seam} {dump newer : Places} (part : Part A)
    → Reaches text s seam dump → IsReadPart text s part → part.from ≡ seam → newer ≡ with_places dump part.dump
    → length text < 2 ^ 32 → Reaches text s part.to newer
part_joins {A} {text} {s} {seam} {dump} {newer} part was is begins e room =
    let from = part.from.place in
    let to = part.to.place in
    let body = take (to - from) (drop from text) in
    let here : Reaches text s part.from dump = subst (λ (x : Seam). Reaches text s x dump) (sym begins) was in
    let size : dump.id_size ≡ s = ap (λ (p : Places). p.id_size) here.adds.joined in
    let ends : from + (to - from) ≡ to = omega (arith, is.forward) in
    let split : drop from text ≡ body ++ drop to text =
    sym (take-append-drop (to - from) (drop from text)) ∙ ap (λ (l : List ℕ). body ++ l)
    (drop-drop (to - from) from text ∙ ap (λ (n : ℕ). drop n text) ends) in
    let apart = read_apart dump (subst
    (λ (n : ℕ). AddsRecordsFrom from part.from.order body [] part.to.order (nothing_of n) part.dump) (sym size) is.adds)
    split in
    record {
      behind = omega (arith, here.behind, is.forward);
      fits = omega (arith, is.within, room);
      adds = subst (λ (p : Places). AddsRecords (drop 31 text) (drop to text) part.to.order (nothing_of s) p) (sym e)
          (records_join here.adds apart (omega
          (arith, length-drop 31 text, length-drop from text, here.behind, is.forward, is.within)));
    }

-- if the seam is at the end and the snapshot is complete there, all records of the text have joined
pub all_joined : {text : List ℕ} {s : ℕ} {seam : Seam} {dump : Places} → Reaches text s seam dump
    → seam.place ≡ length text → is_done seam.order ≡ true → AddsAll (drop 31 text) (nothing_of s) dump
all_joined {text} {s} {seam} {dump} reaches end done = (
  seam.order,
  done,
  subst (λ (rest : List ℕ). AddsRecords (drop 31 text) rest seam.order (nothing_of s) dump)
      (drop_of_length-le text (omega (arith, end))) reaches.adds,
)
