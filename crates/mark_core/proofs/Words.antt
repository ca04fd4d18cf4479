-- Passes on the names of the definitions that the lemmas use, so that a file imports them from one module.
pub use Rattle.mark_core.specs.Account.{Account, Look, look_of, no_share, after_claim, after_finish, after_join}
pub use Rattle.mark_core.specs.Account.{after_pop, after_push, part, after_split, after_load, after_idle_up}
pub use Rattle.mark_core.specs.Account.{after_idle_down, blank, after_load_link}
pub use Rattle.mark_core.specs.Colours.{IsColoured, stacked_times, HasColour, IsReachableIn, charged_times}
pub use Rattle.mark_core.specs.Colours.{finished_times}
pub use Rattle.mark_core.specs.Conclusions.{FirstTagsAreFirst, HadHead, HasChanged, LoadedHeadsWere}
pub use Rattle.mark_core.specs.Conclusions.{PushesFollowChanges, TagsKeepParity, one_stack, push_count, pushes_among}
pub use Rattle.mark_core.specs.Conclusions.{Exchanges, LossesAreContested, first_length}
pub use Rattle.mark_core.specs.Counts.{Counts, LeadTo, add_counts, all_counted, count_load, counted, counts_at}
pub use Rattle.mark_core.specs.Counts.{no_counts}
pub use Rattle.mark_core.specs.Events.{Claim, Finish, Join, StoreLink, Pop, Push, IsBusy, CanClaim, CanFinish, Kind}
pub use Rattle.mark_core.specs.Events.{Split, Load, LoadLink, Fail, IdleUp, IdleDown, Event, Allows, IsPossible, effect}
pub use Rattle.mark_core.specs.Events.{happens, stack_popped, word_up, word_down, LoadIdle, CanPop, last_link}
pub use Rattle.mark_core.specs.Events.{link_from}
pub use Rattle.mark_core.specs.Law.{Law}
pub use Rattle.mark_core.specs.Lists.{IsPart, StandsAt, times, sum_of, one_where, only, without}
pub use Rattle.mark_core.specs.Ownership.{Chain, IsRecent, IsOwned, HasOpenPush, held_times, AreInSlots}
pub use Rattle.mark_core.specs.Quiet.{HasGivenUnits, QuietIsDone}
pub use Rattle.mark_core.specs.Runs.{RunsKeepLaw, EventsKeepLaw, IsRun, opening, Run, first_heads, Changes, IsListOf}
pub use Rattle.mark_core.specs.Runs.{first_link, HasEachOnce, AreApart, LiesIn, IsClosed, StacksChange, TagsRise}
pub use Rattle.mark_core.specs.Runs.{PopsFindLinks, MarksRise}
pub use Rattle.mark_core.specs.Shares.{whole, IsShared, HasNothing, shares}
pub use Rattle.mark_core.specs.StepCall.{Listing, IsLawful, Does, Tries, heads_of, with_head, exchanged, marking_of}
pub use Rattle.mark_core.specs.StepCall.{IsReadyToPush, weight, HasNumber, HasAccount, CanStep, MayDo, Follows, Steps}
pub use Rattle.mark_core.specs.World.{items_of, account_at, put, put_which, Setup, Marking, IsThere}
pub use Rattle.mark_core.specs.declared.which.Which.{Which}
pub use Rattle.mark_core.specs.declared.which.Which.TheVariants.{Full, Empty}
