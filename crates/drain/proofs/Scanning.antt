-- A worker that got an object, claimed what it refers to and finished it: its tally had room, and takes the object in.
use Rattle.drain.proofs.Words.{CameFrom, Contains, HasTallied, Owner, IsAtWork, IsAwake, IsMeasureOf, IsSetupOf}
use Rattle.drain.proofs.Words.{IsSmall, IsTallyOf, List, Measure, Setup, Sum, WorksOn, [], ap, arith, length}
use Rattle.drain.proofs.Words.{length_push, subst, sym, ℕ, ◌++◌, ◌↔◌, ◌∙◌, ◌∷◌, ◌≡◌, ◌≤◌}
use Rattle.drain.specs.declared.job.Job.{Job}
use Rattle.drain.specs.declared.paired_worker.PairedWorker.{PairedWorker}
use Rattle.drain.specs.declared.tally.Tally.{Tally}
use Rattle.drain.specs.working.Jobs.{IsOnJob}
use Rattle.drain.proofs.Tallies.{tally_is_small}

-- the same setup has the same objects, roots and pairs
pub same_setup : {count : ℕ} {roots : List ℕ} {pairs : List (ℕ × ℕ)} {old new : Setup} → new ≡ old
    → IsSetupOf count roots pairs old → IsSetupOf count roots pairs new
same_setup same was = subst (IsSetupOf _ _ _) (sym same) was

-- a worker that came from one on a job is still on that job
pub still_on_job :
    {A V G S : Type 0} {count : V → ℕ} {roots : V → List ℕ} {pairs : V → List (ℕ × ℕ)} {measure : V → Measure}
    {job : Job A V G S} {old new : PairedWorker A} {before after : Tally A}
    → IsOnJob count roots pairs measure job [] old before → CameFrom old.worker new.worker
    → IsAtWork new.pair [] new.worker → HasTallied (measure job.graph.now) new.worker after
    → IsOnJob count roots pairs measure job [] new after
still_on_job was came at_work tally = record {
  pool = came.pool ∙ was.pool;
  setup = same_setup came.setup was.setup;
  at_work = at_work;
  tally = tally;
}

-- a worker that worked on since it was awake is awake
pub still_awake : {old new : Owner} → IsAwake old → WorksOn old new → IsAwake new
still_awake was on = record { share = on.came.share ∙ was.share; idle = on.idle ∙ was.idle }

-- workers that finished the same objects have the same tally
pub same_tally : {m : Measure} {old new : List ℕ} {rows : List Sum} {unresolved : ℕ} → new ≡ old
    → IsTallyOf m old rows unresolved → IsTallyOf m new rows unresolved
same_tally {m} {old} {new} {rows} {unresolved} same was = subst (λ xs. IsTallyOf m xs rows unresolved) (sym same) was

-- what a visit yields is exactly what the object refers to, by the pairs of the setup
pub given_pairs : (o : ℕ) (given : List ℕ) {pairs own : List (ℕ × ℕ)} → own ≡ pairs
    → ((x : ℕ) → Contains given x ↔ Contains pairs (o, x)) → (x : ℕ) → Contains given x ↔ Contains own (o, x)
given_pairs o given same exact x =
    subst (λ (ps : List (ℕ × ℕ)). Contains given x ↔ Contains ps (o, x)) (sym same) (exact x)

-- a tally to which the last finished object is still to be added
pub small_before : (o : ℕ) {m : Measure} {count : ℕ} {old end : List ℕ} {rows : List Sum} {unresolved : ℕ}
    → IsMeasureOf count m → end ≡ old ++ o ∷ [] → length end ≤ count → IsTallyOf m old rows unresolved
    → IsSmall rows unresolved
small_before o {m} {count} {old} bounded is few was =
    let short : length old ≤ count = omega (arith, ap (λ (xs : List ℕ). length xs) is, length_push old o, few) in
    tally_is_small bounded short was
