-- The events of pops and pushes, in order. Each other call has one event, which its clause `did` names.
use Rattle.std.specs.Prelude.{ℕ, zero, suc, List, [], ◌∷◌, ◌++◌, Option, Result}
use Rattle.mark_core.specs.declared.which.Which.{Which}
use Rattle.mark_core.specs.Events.{Kind, Load, LoadLink, StoreLink, Pop, Push, Fail}
use Rattle.buffer_pool.specs.Calls.{HeldBuffer as Held, ended, last_try}
use Rattle.buffer_pool.specs.WorkerLog.{Log, Did}
use Rattle.buffer_pool.specs.declared.answers.TryPopped.{TryPopped}
use Rattle.buffer_pool.specs.declared.answers.TryPopped.TheVariants as try_pop
use Rattle.buffer_pool.specs.declared.answers.TryPushed.{TryPushed}
use Rattle.buffer_pool.specs.declared.answers.TryPushed.TheVariants as try_push
use Rattle.buffer_pool.specs.declared.answers.Popped.{Popped}

-- one try of a pop
abbrev pub try_pop_steps : {H : Type 0} → Which → TryPopped H → List Kind
try_pop_steps q (try_pop.Took h) = Load q ∷ LoadLink q ∷ Pop q ∷ []
try_pop_steps q try_pop.Empty = Load q ∷ []
try_pop_steps q try_pop.Lost = Load q ∷ LoadLink q ∷ Fail q ∷ []
try_pop_steps q try_pop.Spent = Load q ∷ []

-- one try of a push of a buffer, with the link that is stored at it
abbrev pub try_push_steps : Which → Held → Option ℕ → TryPushed Held → List Kind
try_push_steps q h link try_push.Done = Load q ∷ StoreLink h.index link ∷ Push q h.index h.items ∷ []
try_push_steps q h link (try_push.Lost back) = Load q ∷ StoreLink h.index link ∷ Fail q ∷ []
try_push_steps q h link (try_push.Spent back) = Load q ∷ []

-- n tries of a pop, each of them lost
abbrev pub lost_pops : Which → ℕ → List Kind
lost_pops q zero = []
lost_pops q (suc lost) = lost_pops q lost ++ Load q ∷ LoadLink q ∷ Fail q ∷ []

-- a pop: tries that were lost, and the last one
abbrev pub PopDid : {H : Type 0} → Which → Popped H → Log → Log → Type 0
PopDid q result old new = (lost : ℕ) × Did old (lost_pops q lost ++ try_pop_steps q (last_try result)) new

-- lost tries of a push of a buffer, one for each of the links. The list begins with the link of the last try
abbrev pub lost_pushes : Which → Held → List (Option ℕ) → List Kind
lost_pushes q h [] = []
lost_pushes q h (link ∷ links) = lost_pushes q h links ++ try_push_steps q h link (try_push.Lost h)

-- a push of a buffer: tries that were lost, and the last one
abbrev pub PushDid : {U : Type 0} → Which → Held → Result U Held → Log → Log → Type 0
PushDid q h result old new =
    (links : List (Option ℕ)) × (link : Option ℕ)
    × Did old (lost_pushes q h links ++ try_push_steps q h link (ended result)) new
