-- Collects what the proofs use of the crates below, and the words of this crate that they use.
pub use lib.ListN.{get_elem?}
pub use mathlib.Core.Option.{none, some, some-injective, some-ne-none}
pub use native.Mathlib.Decide.{dec_le, ℕ_discrete}
pub use prog.Atomic.{either}
pub use Rattle.std.proofs.Common.{All, List, None, Option, Some, [], ap, arith, if◌then◌else◌, length, length-set, map}
pub use Rattle.std.proofs.Common.{nat_lt, refl, set, slice_index, subst, suc, sym, ℕ, ◌%◌, ◌++◌, ◌+◌, ◌<◌, ◌∙◌, ◌∷◌}
pub use Rattle.std.proofs.Common.{◌≡◌, ◌≤◌}
pub use Rattle.std.proofs.lemmas.Bool.{cases_lt, false≢true}
pub use Rattle.std.proofs.lemmas.List.{append-nil, append_assoc, get_or-set_other, get_or-set_same, get_or_past}
pub use Rattle.std.proofs.lemmas.List.{length-map, length-replicate, map-append, map-set, set-get_or, set-set}
pub use Rattle.std.proofs.lemmas.List.Elements.{All-append, All-contains}
pub use Rattle.std.proofs.lemmas.List.FromFn.{get_or-map-range_with_len, length-map-range_with_len}
pub use Rattle.std.proofs.lemmas.Nat.Bits.{bit_at-lt, bit_at-trailing_zeros, bit_at-zero, bit_at_above, bit_at_cat_high}
pub use Rattle.std.proofs.lemmas.Nat.Bits.{bit_at_cat_low, bit_at_not, bit_at_or, shr_and_one}
pub use Rattle.std.specs.Slots.{slots_items}
pub use Rattle.atomic_table.proofs.Lists.{at_longer, at_map, at_set, at_snoc, exchanged, set_again, set_else, set_here}
pub use Rattle.atomic_table.specs.Seated.{TableId}
pub use Rattle.atomic_table.specs.Table.{Act, Allows, Final, Joins, Me, Seen, Splits, State, Step, Valid, carried_after}
pub use Rattle.atomic_table.specs.Table.{chain, gives, keeps, put_back, rest, step, stepped, takes}
pub use Rattle.atomic_table.specs.declared.shared.Seat.{Seat}
pub use Rattle.atomic_table.specs.declared.shared.Shared.{Shared}
pub use Rattle.buffer_pool.specs.Book.{Book, claimed, counts_of, failed, finished, idle_loaded, idled, joined}
pub use Rattle.buffer_pool.specs.Book.{link_loaded, loaded, new_book, parted, popped, pushed, woken}
pub use Rattle.buffer_pool.specs.Calls.{HeldBuffer, Owner, LostPops, LostPushes, MayPush, Shows, TriesPop, TriesPush}
pub use Rattle.buffer_pool.specs.Closing.{IsAtTheEnd, MarksTell}
pub use Rattle.buffer_pool.specs.Ranges.{IsInside, IsWithin}
pub use Rattle.buffer_pool.specs.Steps.{lost_pops, lost_pushes, try_pop_steps, try_push_steps}
pub use Rattle.buffer_pool.specs.WorkerLog.{Did, EndsStory, IsNewcomer, LeadsToBook, Log, deeds, first_log}
pub use Rattle.buffer_pool.specs.declared.answers.TryPopped.{TryPopped}
pub use Rattle.buffer_pool.specs.declared.buffer.Buffer.{Buffer}
pub use Rattle.buffer_pool.specs.declared.key.Key.{Key}
pub use Rattle.buffer_pool.specs.declared.seat_view.SeatView.{SeatView}
pub use Rattle.buffer_pool.specs.working.BetweenCalls.{IsBare, IsLaid, IsSound, SitsAt}
pub use Rattle.buffer_pool.specs.working.Buffers.{buffer_reading}
pub use Rattle.buffer_pool.specs.working.Layout.{first_mark, head_word, idle_word, link_word, mark_word}
pub use Rattle.buffer_pool.specs.working.MarkBits.{cut_marks, mark_at, mark_bits, mark_in, mark_of, mark_words}
pub use Rattle.buffer_pool.specs.working.MarkBits.{marks_in}
pub use Rattle.buffer_pool.specs.working.Opening.{HasFirstWords, IsFirstSlot}
pub use Rattle.buffer_pool.specs.working.Plays.{CanPut, HasMissed, HasPushed, HasTaken, IsOurs, IsUpToDate, RestsWith}
pub use Rattle.buffer_pool.specs.working.Plays.{came_back, claim_made, finish_made, head_seen, idle_seen, link_seen}
pub use Rattle.buffer_pool.specs.working.Plays.{caught_up, link_stored, rested, set_aside, top_put, top_taken}
pub use Rattle.buffer_pool.specs.working.Plays.{went_idle}
pub use Rattle.buffer_pool.specs.working.Setups.{first_view, given_part, joined_view, kept_part, no_share_view}
pub use Rattle.buffer_pool.specs.working.Setups.{setup_of}
pub use Rattle.buffer_pool.specs.working.Slots.{Carries, IsTied, Reading, Rests, free, slot_of, slots_of}
pub use Rattle.buffer_pool.specs.working.Table.{Reached, Rule, account_of, cut, marking_of, marks_of, view_counts}
pub use Rattle.buffer_pool.specs.working.Views.{AreViewsOf, HasSaidAll, IsTakenIn, IsViewOf, logged}
pub use Rattle.mark_core.proofs.Closing.{closes, has_each_once}
pub use Rattle.mark_core.proofs.Colours.{charged, linear}
pub use Rattle.mark_core.proofs.Counting.{lawful_where, leads_on}
pub use Rattle.mark_core.proofs.Finished.{finished_counted, finished_few}
pub use Rattle.mark_core.proofs.Ownership.{held_apart, place_one, stacked_below, top_stands}
pub use Rattle.mark_core.proofs.Places.{at_below, at_get_or, at_one, put_else, put_here}
pub use Rattle.mark_core.proofs.Sums.{only-other, only-same, stands_append, stands_push, stands_times, sum_of-append}
pub use Rattle.mark_core.proofs.Sums.{term_le, terms_le, times-remove_one, times-without, times_stands}
pub use Rattle.mark_core.specs.Account.{Account, after_claim, after_join, after_load, after_load_link, after_pop}
pub use Rattle.mark_core.specs.Account.{look_of, no_share, part}
pub use Rattle.mark_core.specs.Colours.{IsReachableIn}
pub use Rattle.mark_core.specs.Counts.{Counts, LeadTo, add_counts, count_failure, count_load, count_load_idle, counted}
pub use Rattle.mark_core.specs.Counts.{counts_at, no_counts}
pub use Rattle.mark_core.specs.Events.{CanClaim, CanExchange, CanFinish, CanIdle, CanPop, CanWake, Claim, Event, Fail}
pub use Rattle.mark_core.specs.Events.{Finish, IdleDown, IdleUp, IsBusy, Join, Kind, Load, LoadIdle, LoadLink, Pop}
pub use Rattle.mark_core.specs.Events.{Push, Split, StoreLink, effect, happens, last_link, link_from, stack_popped}
pub use Rattle.mark_core.specs.Events.{word_down, word_up}
pub use Rattle.mark_core.specs.Law.{Law}
pub use Rattle.mark_core.specs.Lists.{IsPart, StandsAt, only, remove_one, times, without}
pub use Rattle.mark_core.specs.Ownership.{held_times}
pub use Rattle.mark_core.specs.Runs.{AreApart, HasEachOnce, IsClosed, LiesIn, Run, first_heads, first_link, opening}
pub use Rattle.mark_core.specs.Shares.{whole}
pub use Rattle.mark_core.specs.World.{IsThere, Marking, Setup, account_at, items_of, put, put_which}
pub use Rattle.mark_core.specs.declared.which.Which.{Which}
pub use Rattle.mark_core.specs.declared.which.Which.TheVariants.{Empty, Full}
pub use Rattle.tagged_index.specs.Head.{Head, after, head_of, index_of, last_tag, low_of, word_of}
pub use Rattle.tagged_index.specs.Words.{index_of-low_of, restored}
