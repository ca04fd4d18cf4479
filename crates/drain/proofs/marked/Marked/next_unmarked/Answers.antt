-- The unfinished objects are the unmarked ones, and each object has one mark.
use Rattle.drain.proofs.Words.{AreFinished, Bool, List, MarkedObjects, Option, ap, arith, false, find, is_set, le-leb}
use Rattle.drain.proofs.Words.{length, length-map, map, not, refl, slice_index, slice_index_or, suc, sym, zero, ℕ, ◌-◌}
use Rattle.drain.proofs.Words.{◌==◌, ◌∙◌, ◌≡◌, ◌≤◌}
use Rattle.std.proofs.Math.ListN.{get_or-map}
use Rattle.std.specs.List.{range_with_len}
use Rattle.drain.proofs.marked.Marked.next_unmarked.Goals as goal

-- the first mark that is not set, from a number on
abbrev first_unset : ℕ → List Bool → Option ℕ
first_unset from marks = find (λ o. not (slice_index_or marks o false)) (range_with_len from (length marks - from))

finished : (mark : ℕ) → (1 ≤ mark → mark ≡ 2) → (mark == 2) ≡ is_set mark
finished zero two = refl
finished (suc mark) two = ap (λ m. m == 2) (two (omega arith)) ∙ sym (le-leb 1 (suc mark) (omega arith))

unset :
    (marks : List ℕ) → AreFinished marks → (o : ℕ)
    → not (slice_index marks o == 2) ≡ not (slice_index_or (map is_set marks) o false)
unset marks all o = ap not (finished (slice_index marks o) (all o) ∙ sym (get_or-map is_set marks o 0))

pub returns : goal.returns
returns g c =
    let from = c.args.from in
    let marks : List ℕ = c.self.inside.marks in
    let all = c.self.invariant.1 in
    let unmarked : ℕ → Bool = λ o. not (slice_index_or (map is_set marks) o false) in
    c.next_unfinished.ensures
    ∙ (λ t. find (λ o. unset marks all o t) (range_with_len from (length marks - from)))
    ∙ ap (λ n. find unmarked (range_with_len from (n - from))) (sym (length-map marks is_set))
    ∙ ap (λ (m : MarkedObjects). first_unset from m.marks) c.self.view_is
