-- The token of a stop, and of a fault, is of the pool on which the worker was stopped.
use Rattle.std.proofs.Common.{subst, sym, ℕ, ◌≡◌}
use Rattle.buffer_pool.specs.Calls.{PoolId}
use Rattle.work_pair.specs.CallEffects.{IsStopOf}
use Rattle.work_pair.specs.declared.stop.Stop.{Stop}
use Rattle.work_pair.specs.declared.stop.Stop.TheVariants as stop
use Rattle.drain.specs.Stops.{IsFaultFrom, IsRefusedThread, stopped}
use Rattle.drain.specs.declared.marked.RunFault.{RunFault}
use Rattle.drain.specs.declared.marked.RunFault.TheVariants as fault

each_stop : (pool : PoolId) (from : Stop) → IsStopOf pool from → IsFaultFrom pool.first_tag (stopped from)
each_stop pool (stop.TagSpent token) of_pool = of_pool
each_stop pool stop.OutOfMemory of_pool = tt

pub of_stop : (pool : PoolId) (from : Stop) (e : RunFault) → e ≡ stopped from → IsStopOf pool from
    → IsFaultFrom pool.first_tag e
of_stop pool from e is of_pool = subst (IsFaultFrom pool.first_tag) (sym is) (each_stop pool from of_pool)

pub of_memory : (first : ℕ) (e : RunFault) → e ≡ fault.OutOfMemory → IsFaultFrom first e
of_memory first e is = subst (IsFaultFrom first) (sym is) tt

pub of_refused : (first : ℕ) (e : RunFault) → IsRefusedThread e → IsFaultFrom first e
of_refused first (fault.WorkerRefused token) refused = tt
of_refused first (fault.TagSpent token) refused = absurd refused
of_refused first fault.OutOfMemory refused = absurd refused

-- the same pool, under another name
pub of_same_pool : {pool other : PoolId} (from : Stop) → other ≡ pool → IsStopOf other from → IsStopOf pool from
of_same_pool {pool} {other} from same of_other = subst (λ (p : PoolId). IsStopOf p from) same of_other

-- the same first tag
pub of_same_tag : {first other : ℕ} (e : RunFault) → other ≡ first → IsFaultFrom other e → IsFaultFrom first e
of_same_tag {first} {other} e same of_other = subst (λ (n : ℕ). IsFaultFrom n e) same of_other

pub of_leader : {pool other : PoolId} (e : RunFault) → other ≡ pool → IsFaultFrom other.first_tag e
    → IsFaultFrom pool.first_tag e
of_leader {pool} {other} e same of_other = subst (λ (p : PoolId). IsFaultFrom p.first_tag e) same of_other
