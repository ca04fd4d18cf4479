-- The law, which holds at the opening and after each event.
use Rattle.std.specs.Prelude.{ℕ, List}
use Rattle.mark_core.specs.declared.which.Which.{Which}
use Rattle.mark_core.specs.World.{Setup, Marking}
use Rattle.mark_core.specs.Ownership.{IsOwned, AreInSlots}
use Rattle.mark_core.specs.Colours.{IsColoured}
use Rattle.mark_core.specs.Shares.{IsShared}

pub record Law (e : Setup) (m : Marking) : Type 0 where
  -- the buffers of each stack, the first on top
  pub stack : Which → List ℕ
  pub owned : IsOwned e.buffers m.head m.link m.accounts stack
  pub in_slots : AreInSlots e.buffers m.slots stack
  pub coloured : IsColoured e m.mark m.slots m.accounts
  pub shared : IsShared m.accounts
