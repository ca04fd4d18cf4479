-- Sorting loses no entry, and the entries still have the same objects.
use Rattle.std.proofs.Common.{rules}
use Rattle.std.proofs.lemmas.List.Sorted.{IsNonDecreasingBy-from_sort, answers_always}
use Rattle.id_index.proofs.Words.{IsFirstRepeat, List, length, length-map, length_permutation, map, subst, sym}
use Rattle.id_index.proofs.Words.{ℕ, ◌∙◌, ◌≡◌}
use Rattle.id_index.specs.working.WideEntries.{AreEntriesOf, AreOrdered, IsLeastRepeat, id_of, ids_of_entries, key_of}
use Rattle.id_index.specs.declared.wide_entries.WideEntry.{WideEntry}
use Rattle.id_index.proofs.Aligning.{whole_same}
use Rattle.id_index.proofs.Wide.{entries_are, first_repeat, given_back, ordered}
use Rattle.id_index.proofs.wide_entries_builder.WideEntriesBuilder.finish.Goals as goal

pub invariant_of-index : goal.invariant_of-index
invariant_of-index g c =
    let entries : List WideEntry = c.self.inside.entries.items in
    let now : List WideEntry = c.sort_unstable_by_key.new.self.items in
    let same = c.sort_unstable_by_key.ensures.permutation in
    let it = c.self.invariant in
    let up : AreOrdered now =
    ordered entries now same it.numbered it.few
    (IsNonDecreasingBy-from_sort key_of now
    (c.sort_unstable_by_key.ensures.sorted key_of (answers_always _ _ _ (λ f a r g called. search rules)))) in
    let are : AreEntriesOf now (map id_of entries) = entries_are entries now same it.numbered in
    let long : length (map id_of entries) ≡ length now =
    length-map entries id_of ∙ sym (length_permutation entries now same) in
    let ids : map id_of entries ≡ ids_of_entries now = given_back now (map id_of entries) are long in
    let least : IsLeastRepeat now (length now) (length now) c.least_repeat-repeat.result =
    rw c.deref.ensures.value at c.least_repeat-repeat.ensures in
    record {
      ordered = up;
      are = subst (λ (xs : List ℕ). AreEntriesOf now xs) ids are;
      repeated = subst (λ (xs : List ℕ). IsFirstRepeat xs c.least_repeat-repeat.result) ids
          (first_repeat now (map id_of entries) up are c.least_repeat-repeat.result least long);
    }

pub returns : goal.returns
returns g c =
    let entries : List WideEntry = c.self.inside.entries.items in
    let now : List WideEntry = c.sort_unstable_by_key.new.self.items in
    let same = c.sort_unstable_by_key.ensures.permutation in
    c.of-2.ensures ∙ whole_same (ids_of_entries now)
    ∙ sym (given_back now (map id_of entries) (entries_are entries now same c.self.invariant.numbered)
    (length-map entries id_of ∙ sym (length_permutation entries now same)))
    ∙ c.self.view_is
