-- A list of events that leads to a marking can be continued by each event that is possible there.
use Rattle.std.proofs.Common.{◌≡◌, ◌<◌, List, [], ◌∷◌, ◌++◌, ap, sym, refl, subst, ◌∙◌}
use Rattle.mark_core.proofs.Words.{Setup, Marking, Event, IsPossible, happens, Law, opening, Run, Counts, LeadTo}
use Rattle.mark_core.proofs.Words.{no_counts, counted, all_counted}
use Rattle.mark_core.proofs.Runs.{runs_keep_law}

module _ (e : Setup) (event : Event) where
  runs_on : (events : List Event) (first last : Marking) → Run e first events last → IsPossible e last event
      → Run e first (events ++ event ∷ []) (happens last event)
  runs_on [] first last run can = (subst (λ x. IsPossible e x event) run can, ap (λ x. happens x event) run)
  runs_on (ev ∷ events) first last run can = (run.0, runs_on events (happens first ev) last run.1 can)

  counts_on :
      (events : List Event) (first last : Marking) (counts : List Counts) → Run e first events last
      → all_counted first counts (events ++ event ∷ [])
      ≡ counted last (all_counted first counts events) event.worker event.kind
  counts_on [] first last counts run = ap (λ x. counted x counts event.worker event.kind) (sym run)
  counts_on (ev ∷ events) first last counts run =
      counts_on events (happens first ev) last (counted first counts ev.worker ev.kind) run.1

  pub leads_on :
      (events : List Event) (m : Marking) (counts : List Counts) → LeadTo e events m counts → IsPossible e m event
      → LeadTo e (events ++ event ∷ []) (happens m event) (counted m counts event.worker event.kind)
  leads_on events m counts led can =
      record {
        run = runs_on events (opening e e.first_tag) m led.run can;
        counts = ap (λ x. counted m x event.worker event.kind) led.counts
            ∙ sym (counts_on events (opening e e.first_tag) m (no_counts ∷ []) led.run);
      }

-- the marking that a list of events leads to is lawful
pub lawful_where : (e : Setup) (events : List Event) (m : Marking) (counts : List Counts) → 0 < e.buffers
    → LeadTo e events m counts → Law e m
lawful_where e events m counts some_buffer led =
    runs_keep_law e m (opening e e.first_tag, events, (e.first_tag, some_buffer, refl), led.run)
