-- What loads and failed exchanges do not change.
use Rattle.std.proofs.Common.{◌≡◌, ℕ, ◌≤◌, false, Option, arith}
use Rattle.tagged_index.specs.Head.{Head}
use Rattle.mark_core.specs.declared.which.Which.{Which}
use Rattle.mark_core.specs.declared.which.Which.TheVariants.{Full, Empty}
use Rattle.buffer_pool.specs.Book.{Book, loaded, link_loaded, failed}
use Rattle.buffer_pool.specs.Calls.{HeldBuffer, LostPops, LostPushes}
use Rattle.buffer_pool.specs.Calls.LostPops.{none as no_pop, more as more_pops}
use Rattle.buffer_pool.specs.Calls.LostPushes.{none as no_push, more as more_pushes}

-- a worker only looked at its stacks: it holds what it held, and may have found more stacks empty
pub record IsLook (old new : Book) : Type 0 where
  pub setup : new.setup ≡ old.setup
  pub share : new.account.share ≡ old.account.share
  pub idle : new.account.idle ≡ old.account.idle
  pub held : new.account.held ≡ old.account.held
  pub charge : new.account.charge ≡ old.account.charge
  pub seen : new.account.seen ≡ old.account.seen
  pub finished : new.account.finished ≡ old.account.finished
  pub fulls : old.full_empties ≤ new.full_empties
  pub empties : old.empty_empties ≤ new.empty_empties
  pub closed : old.account.open_push ≡ false → new.account.open_push ≡ false

pub look_at_all : (b : Book) → IsLook b b
look_at_all b = grind arith

pub look_again : (a b c : Book) → IsLook a b → IsLook b c → IsLook a c
look_again a b c s t = grind arith

pub look_head : (q : Which) (head : Head) (b : Book) → IsLook b (loaded q head b)
look_head Full head b = grind arith
look_head Empty head b = grind arith

pub look_link : (q : Which) (link : Option ℕ) (b : Book) → IsLook b (link_loaded q link b)
look_link Full link b = grind arith
look_link Empty link b = grind arith

pub look_failed : (b : Book) → IsLook b (failed b)
look_failed b = grind arith

-- the loads of a head and its link are a look
pub look_top : (q : Which) (head : Head) (link : Option ℕ) (b : Book) → IsLook b (link_loaded q link (loaded q head b))
look_top q head link b = look_again b (loaded q head b) (link_loaded q link (loaded q head b)) (look_head q head b)
    (look_link q link (loaded q head b))

-- lost tries are looks
pub lost_pops : (q : Which) (old new : Book) → LostPops q old new → IsLook old new
lost_pops q old new (no_pop b) = look_at_all b
lost_pops q old new (more_pops first mid last rest lost) =
    let b = link_loaded q lost.2 (loaded q lost.0 mid) in
    let one = look_again mid b (failed b) (look_top q lost.0 lost.2 mid) (look_failed b) in
    look_again first mid last (lost_pops q first mid rest) (rw lost.5 one)

pub lost_pushes : (q : Which) (h : HeldBuffer) (old new : Book) → LostPushes q h old new → IsLook old new
lost_pushes q h old new (no_push b) = look_at_all b
lost_pushes q h old new (more_pushes first mid last rest lost) =
    let b = loaded q lost.0 mid in
    let one = look_again mid b (failed b) (look_head q lost.0 mid) (look_failed b) in
    look_again first mid last (lost_pushes q h first mid rest) (rw lost.3 one)
