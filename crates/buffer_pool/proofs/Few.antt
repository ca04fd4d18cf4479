-- A worker's story leads to a lawful marking. Each of its finished objects is reachable, so it is an object, and none
-- was finished twice. So their number is at most that of all objects.
use Rattle.std.proofs.Common.{◌≡◌, ℕ, ◌<◌, ◌≤◌, [], ◌∷◌, length, arith}
use Rattle.buffer_pool.proofs.Words.{All-contains, TableId, IsReachableIn, Law, Setup, times, has_each_once}
use Rattle.buffer_pool.proofs.Words.{lawful_where, finished_few, Book, LeadsToBook, Log, IsLaid}

-- each reachable number is an object
reached_within : (t : TableId) (e : Setup) → IsLaid t e → (o : ℕ) → IsReachableIn e o → o < e.objects
reached_within t e laid o ([], root) = All-contains (λ x. x < e.objects) e.roots o laid.roots root
reached_within t e laid o (p ∷ back, leads) =
    (All-contains (λ (x : ℕ × ℕ). (x.0 < e.objects) × (x.1 < e.objects)) e.pairs (p, o) laid.pairs leads.0).1

module _ (t : TableId) (log : Log) (b : Book) (laid : IsLaid t b.setup) (story : LeadsToBook log b) where
  law : Law b.setup story.0
  law = lawful_where b.setup log.story story.0 story.1 (omega (arith, laid.few)) story.2

  pub once_finished : (o : ℕ) → times o b.account.finished ≤ 1
  once_finished o = omega (arith, (has_each_once b.setup story.0 law log.number b.account story.3).objects o)

  pub few_finished : length b.account.finished ≤ b.setup.objects
  few_finished = finished_few b.setup story.0 law within log.number b.account story.3
    where
      within : (o : ℕ) → 1 ≤ story.0.mark o → o < b.setup.objects
      within o marked = reached_within t b.setup laid o (law.coloured.reachable o marked)

  pub small_count : (count : ℕ) → count ≡ length b.account.finished → count ≤ 16777216
  small_count count counted = omega (arith, counted, few_finished, laid.objects)
