-- Each clause is a lemma of its own.
use Rattle.mark_core.proofs.Runs.{runs_keep_law, happens_keeps}
use Rattle.mark_core.proofs.Changes.{stacks_change, tags_rise, pops_find_links, marks_rise}
use Rattle.mark_core.proofs.Closing.{has_each_once, are_apart, closes}
use Rattle.mark_core.proofs.Counting.{lawful_where}
use Rattle.mark_core.proofs.Contested.{losses_are_contested}
use Rattle.mark_core.proofs.Firsts.{first_tags_are_first, loaded_heads_were, pushes_follow_changes}
use Rattle.mark_core.proofs.Parity.{tags_keep_parity}
use Rattle.mark_core.proofs.Quiet.{quiet_is_done}
use Rattle.mark_core.proofs.law.all_runs_keep_law.Goals as goal

pub returns : goal.returns
returns c =
    record {
      law = runs_keep_law;
      events = happens_keeps;
      stacks = stacks_change;
      tags = tags_rise;
      links = pops_find_links;
      marks = marks_rise;
      once = has_each_once;
      apart = are_apart;
      closed = closes;
      lists = lawful_where;
      loaded = loaded_heads_were;
      first = first_tags_are_first;
      parity = tags_keep_parity;
      losses = losses_are_contested;
      pushes = pushes_follow_changes;
      quiet = quiet_is_done;
    }
