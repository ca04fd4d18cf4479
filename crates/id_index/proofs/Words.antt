-- The definitions and lemmas of std, and the definitions of specs/, that the proofs use, in one module.
pub use Rattle.std.proofs.Common.{Bool, Contains, IsPermutation, IsSorted, List, None, Option, Some, [], ap, arith}
pub use Rattle.std.proofs.Common.{false, get_or, inl, inr, length, length-append, map, max, min, position, refl}
pub use Rattle.std.proofs.Common.{slice_get, slice_index, subst, suc, sym, take, true, zero, ℕ, ◌%◌, ◌*◌, ◌++◌, ◌+◌}
pub use Rattle.std.proofs.Common.{◌-◌, ◌/◌, ◌<◌, ◌^◌, ◌∙◌, ◌∷◌, ◌≡◌, ◌≢◌, ◌≤◌, ◌⊎◌}
pub use Rattle.std.proofs.Math.ListN.{get_or-append}
pub use Rattle.std.proofs.Math.Nat.{div-eq_of_lt, eq-or-lt_of_le, le-max_left, le-max_right, lt_of_not-le, min-eq_left}
pub use Rattle.std.proofs.Math.Nat.{min-eq_right, min-le_left, min-le_right, mul-mod_left}
pub use Rattle.std.proofs.Math.Pow.{pow_mono, shr_mono}
pub use Rattle.std.proofs.Math.Seq.{get_or-append_seam}
pub use Rattle.std.proofs.lemmas.Bool.{cases_eq, cases_lt, cases_order, cond_above, cond_below, eq-eqb, eqb-false}
pub use Rattle.std.proofs.lemmas.Bool.{eqb-true, lt-ltb, ltb-true, ne_eqb}
pub use Rattle.std.proofs.lemmas.Bool.Decides.{nat_tests}
pub use Rattle.std.proofs.lemmas.Cmp.{nat_cmp_total, on_total, then_total}
pub use Rattle.std.proofs.lemmas.Grind.{common_steps}
pub use Rattle.std.proofs.lemmas.List.{append-nil, ext_get_or, get_or-append-add, get_or-map, get_or-take}
pub use Rattle.std.proofs.lemmas.List.{get_or_append_left, get_or_read, length-map, length-take, length-take-le}
pub use Rattle.std.proofs.lemmas.List.{take_more}
pub use Rattle.std.proofs.lemmas.List.Edits.{length-swap, swapped_from_swap}
pub use Rattle.std.proofs.lemmas.List.Elements.{All-from_get_or, Contains-append_cases, Contains-append_left}
pub use Rattle.std.proofs.lemmas.List.Elements.{Contains-append_right, Contains-get_or, Contains-push}
pub use Rattle.std.proofs.lemmas.List.Elements.{Contains-push_cases}
pub use Rattle.std.proofs.lemmas.List.Folds.{find_at}
pub use Rattle.std.proofs.lemmas.List.FromFn.{fill_by_all, get_or-range_with_len, length-map-range_with_len}
pub use Rattle.std.proofs.lemmas.List.FromFn.{length-range_with_len}
pub use Rattle.std.proofs.lemmas.List.Quantifiers.{position-Some}
pub use Rattle.std.proofs.lemmas.List.Sorted.{All-permutation, Contains-permutation, IsPermutation-keeps}
pub use Rattle.std.proofs.lemmas.List.Sorted.{IsPermutation-swap, IsPermutation-sym, IsPermutation-trans}
pub use Rattle.std.proofs.lemmas.List.Sorted.{length_permutation, ranks_by, sorted_far}
pub use Rattle.std.proofs.lemmas.List.Sums.{fails_before_first, passes_at_first, position_or_len_is}
pub use Rattle.std.proofs.lemmas.Nat.{and_comm, and_le_r, and_mask, and_or_self, div-add-mod', div-mul-add, le_or_l}
pub use Rattle.std.proofs.lemmas.Nat.{mod-mul-add, mod-pow-add, mod_below, one_shl, ones-le, ones_cat, pow-add, pow_pos}
pub use Rattle.std.proofs.lemmas.Nat.{shl-shr, shl_below, shr_split, zero_from_ones}
pub use Rattle.std.proofs.lemmas.Nat.Bits.{bit_at-lt, bit_at-trailing_zeros, bit_at-zero, bit_at_above, bit_at_and}
pub use Rattle.std.proofs.lemmas.Nat.Bits.{bit_at_or, bit_at_set_other, bit_at_set_same, same_from_bits_below}
pub use Rattle.std.proofs.lemmas.Option.{get_or_from_slice_get, gets, slice_get-get_or, slice_get_within}
pub use Rattle.std.specs.Cmp.{IsStrictWeakOrder}
pub use Rattle.std.specs.Int.{bit_at, trailing_zeros, w64}
pub use Rattle.std.specs.Int.Bits.{or_add_and, or_shifted_r, or_zero_l}
pub use Rattle.std.specs.List.{find, position_or_len, range_with_len, swap}
pub use Rattle.std.specs.Option.{option_map_or, option_to_list}
pub use Rattle.std.specs.Ordering.{is_lt}
pub use Rattle.std.specs.Prelude.{IfSome, IsTrue, MatchOption, bit_and, bit_or, count_ones, nat_lt, vec_capacity}
pub use Rattle.std.specs.Prelude.{vec_len, ◌==◌, ◌↔◌}
pub use Rattle.id_index.specs.Aligned.{whole_id, whole_ids}
pub use Rattle.id_index.specs.working.Beginnings.{IsAround, IsBeginning, bucket_of}
pub use Rattle.id_index.specs.working.Building.{AreBuilt, AreBuiltUpTo, AreFewBuilt, AreInTurn, AreOpen}
pub use Rattle.id_index.specs.working.Building.{ArePairwiseApart, IsApart, ids_built, raised_by, extent_cmp, with_last}
pub use Rattle.id_index.specs.Repeats.{IsFirstRepeat}
pub use Rattle.id_index.specs.working.ExtentRepeats.{AreSeen, IsLeastRepeat, IsLowered, IsRepeatAt}
pub use Rattle.id_index.specs.working.Extents.{AreAscending, AreComplete, AreFewAPage, AreSound, DoPagesRise, HasBearer}
pub use Rattle.id_index.specs.working.Extents.{IsBearerAt, IsFirstBearer, IsFirstFrom, IsNumberAt, Tell, end_of, id_in}
pub use Rattle.id_index.specs.working.Extents.{id_of_number, ids_of_extents, no_extent, number_in, page_in, granule_of}
pub use Rattle.id_index.specs.working.Extents.{rank}
pub use Rattle.id_index.specs.working.Extents.{extent_in, extent_of, stands_at}
pub use Rattle.id_index.specs.working.Pruning.{AreFewSeen, AreKept, ArePrunedBefore, AreSorted, IsKeptIfNew}
pub use Rattle.id_index.specs.declared.extents.Extent.{Extent}
