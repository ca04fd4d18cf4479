-- The words and the lemmas of libraries that the proofs of this crate use, and the words of its own contracts.
pub use Rattle.std.proofs.Common.{All, Bool, Contains, Err, List, None, Ok, Option, Result, Some, [], ap, arith}
pub use Rattle.std.proofs.Common.{below_more, cond, count_by, eq-eqb, false, filter, find, get_or, get_or-set_other}
pub use Rattle.std.proofs.Common.{get_or-set_same, if◌then◌else◌, inl, inr, is_none, is_some, le-leb, leb-true, length}
pub use Rattle.std.proofs.Common.{length-set, map, map-id, ne_eqb, not, option_to_list, refl, replicate, rules}
pub use Rattle.std.proofs.Common.{slice_index, slice_index_or, slice_set, subst, suc, sum_by, sym, true, vec_capacity}
pub use Rattle.std.proofs.Common.{vec_len, zero, ℕ, ⊎_elim, ◌%◌, ◌&&◌, ◌*◌, ◌++◌, ◌+◌, ◌-◌, ◌<◌, ◌==◌, ◌^◌, ◌||◌, ◌↔◌}
pub use Rattle.std.proofs.Common.{◌∙◌, ◌∷◌, ◌≡◌, ◌≢◌, ◌≤◌, ◌⊎◌}
pub use Rattle.std.proofs.lemmas.Bool.{cases_lt, eqb-true, false≢true}
pub use Rattle.std.proofs.lemmas.Iterator.Consumers.{YieldsList-end, YieldsList-from_shown, YieldsList-turn}
pub use Rattle.std.proofs.lemmas.List.{ext_get_or, get_or-map, get_or-replicate, get_or_append_left, get_or_default}
pub use Rattle.std.proofs.lemmas.List.{get_or_past, get_or_push, length-map, length-replicate, length_push}
pub use Rattle.std.proofs.lemmas.List.Elements.{All-contains, All-from_get_or, Contains-append_cases}
pub use Rattle.std.proofs.lemmas.List.Elements.{Contains-append_left, Contains-append_right, Contains-get_or}
pub use Rattle.std.proofs.lemmas.List.Elements.{Contains-push, Contains-push_cases}
pub use Rattle.std.proofs.lemmas.List.Sums.{sum_by-append, sum_by-cons, sum_by-le, sum_by_push}
pub use Rattle.std.specs.Iterator.{AlwaysYields, IsFinite, Yields, YieldsFirst, item_count, size}
pub use Rattle.std.specs.Prelude.{IfNone, IfSome, OnOk, nat_le}
pub use Rattle.std.specs.Vec.Iter.{into_iter_items, into_iter_len}
pub use Rattle.mark_core.proofs.Chosen.{AreThose, IsOnce, chosen_sums, ones}
pub use Rattle.mark_core.proofs.Sums.{only-same, stands_times, sum_of-append, times-remove_one, times_stands}
pub use Rattle.mark_core.specs.Events.{CanClaim, CanFinish, CanIdle, IsBusy}
pub use Rattle.mark_core.specs.Lists.{only, times}
pub use Rattle.mark_core.specs.World.{Marking, Setup}
pub use Rattle.buffer_pool.specs.Book.{Book, claimed, finished, idle_loaded, idled, joined, loaded, new_book, parted}
pub use Rattle.buffer_pool.specs.Book.{woken}
pub use Rattle.buffer_pool.specs.Calls.{Owner, Sees}
pub use Rattle.buffer_pool.specs.Closing.{MarksTell}
pub use Rattle.work_pair.proofs.Calls.{none_first, none_last}
pub use Rattle.work_pair.specs.CallEffects.{CallEffect, Puts, TouchesNoFull}
pub use Rattle.work_pair.specs.PairState.{AreOfSize, IsBacked, IsOpen, PairState, buffered_items, empty_pair}
pub use Rattle.work_pair.specs.PairState.{pair_items, without_spill}
pub use Rattle.heap_graph.proofs.RowNumberLaws.{number_within, row_of_its_number, row_there}
pub use Rattle.heap_graph.specs.ObjectGraph.{ObjectGraph, bytes_at, class_count, object_count, references_of, row_at}
pub use Rattle.heap_graph.specs.Reachable.{IsMarked, IsReachable, IsReferenceOf, IsRootOf, LeadsTo, MarksReachable}
pub use Rattle.heap_graph.specs.Reachable.{MarksReachableOf}
pub use Rattle.heap_graph.specs.RowNumbers.{numbered_row, row_number}
pub use Rattle.heap_graph.specs.Whole.{IsRowIn, IsWhole, unresolved_at}
pub use Rattle.heap_graph.specs.declared.row.RowKey.{RowKey}
pub use Rattle.drain.specs.Marks.{AreFinished, IsMarkingOf, MarkedObjects, is_set}
pub use Rattle.drain.specs.Sums.{no_object, sum_at, sum_of_row}
pub use Rattle.drain.specs.Totals.{marked_objects, of_row, same_row, total}
pub use Rattle.drain.specs.declared.sum.Sum.{Sum}
pub use Rattle.drain.specs.declared.worker_threads.Duty.{Duty}
pub use Rattle.drain.specs.working.AtWork.{AreClaimed, CameFrom, GoesOn, HasAtHand, HasNoneLeft, IsAtWork, IsFree}
pub use Rattle.drain.specs.working.AtWork.{IsClaimed, IsPut, IsSetupOf, IsThrough, Leads, MayClaim, SawRoots, WorksOn}
pub use Rattle.drain.specs.working.Duties.{AreBackUnder, HasStarted, IsBackUnder, IsDutyUnder}
pub use Rattle.drain.specs.working.Idle.{IsAwake}
pub use Rattle.drain.specs.working.Jobs.{HasScanned, MayWork}
pub use Rattle.drain.specs.working.Measures.{measure_of, scanned_in}
pub use Rattle.drain.specs.working.Pairs.{pairs_from, pairs_of}
pub use Rattle.drain.specs.working.RecentlySeen.{HasSeenAll}
pub use Rattle.drain.specs.working.Giving.{PutsAgain, Unspills}
pub use Rattle.drain.specs.working.Tallies.{IsMeasureOf, IsSmall, IsTallyOf, Measure, one_more, sum_in, together}
pub use Rattle.drain.specs.working.Tallying.{AreTalliesOfNone, HasTallied, Tallies}
