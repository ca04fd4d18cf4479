-- The list has the entries of the table between the least and the greatest place with the key.
use Rattle.std.proofs.Common.{List, append-nil, ap, arith, subst, sym, ◌++◌, ◌∙◌, ◌≡◌}
use Rattle.labelled_graph.proofs.Lists.{ascends, found_same, from_zero, of_key}
use Rattle.labelled_graph.specs.declared.mark.PlacedMark.{PlacedMark}
use Rattle.labelled_graph.specs.working.MarkMaps.{IsListOf, mark_entries}
use Rattle.labelled_graph.proofs.Maps.{place_cmp}
use Rattle.std.proofs.Common.{ℕ}
use Rattle.std.specs.BTreeMap.Range.{entries_between}
use Rattle.std.specs.Map.{keys_of}
use Rattle.std.specs.Range.{range_inclusive_end, range_inclusive_start}
use Rattle.std.specs.declared.ops.Bound.TheVariants.{Included}
use Rattle.labelled_graph.proofs.marks.Marks.of_key.Goals as goal

pub returns : goal.returns
returns g c =
    let key = c.args.key in
    let map = c.args.self.now.marks in
    let none = c.in-None.ensures.steps.0 in
    let low : entries_between place_cmp (Included (range_inclusive_start c.new.result))
    (Included (range_inclusive_end c.new.result)) map.entries
    ≡ entries_between place_cmp (Included (key, 0)) (Included (range_inclusive_end c.new.result)) map.entries =
    ap (λ (b : ℕ × ℕ). entries_between place_cmp (Included b) (Included (range_inclusive_end c.new.result)) map.entries)
    c.new.ensures.start in
    let high : entries_between place_cmp (Included (key, 0)) (Included (range_inclusive_end c.new.result)) map.entries
    ≡ of_key key map.entries =
    ap (λ (b : ℕ × ℕ). entries_between place_cmp (Included (key, 0)) (Included b) map.entries) c.new.ensures.end in
    let begun : mark_entries c.into_iter-place-iterator.result ≡ mark_entries (of_key key map.entries) =
    ap mark_entries (c.into_iter-place-iterator.ensures.into_iter_gives
    ∙ c.range-place-items.ensures.between c.new.ensures.exhausted ∙ low ∙ high) in
    let whole : c.loop-place.list.items ≡ mark_entries (of_key key map.entries) =
    sym (append-nil c.loop-place.list.items)
    ∙ ap (λ es. c.loop-place.list.items ++ mark_entries es) (sym none) ∙ c.loop-place.invariant ∙ begun in
    subst (λ (xs : List PlacedMark). IsListOf map key xs) (sym whole) (record {
      ascends = ascends key map.entries 0 c.range-place-items.ensures.ordered (from_zero key (keys_of map.entries));
      same = λ i l. found_same key map.entries i (omega (arith, l));
    })
