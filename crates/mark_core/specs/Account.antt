-- An account: what one worker has and knows. Then the effect of each event on the account that takes part in it.
use Rattle.std.specs.Prelude.{ℕ, ◌+◌, ◌-◌, ◌==◌, if◌then◌else◌, Bool, true, false, ◌&&◌, ◌||◌, List, [], ◌∷◌, ◌++◌}
use Rattle.std.specs.Prelude.{Option, Some, None, is_some, is_none}
use Rattle.tagged_index.specs.Head.{Head}
use Rattle.mark_core.specs.declared.which.Which.{Which}
use Rattle.mark_core.specs.declared.which.Which.TheVariants.{Full, Empty}
use Rattle.mark_core.specs.Lists.{remove_one, without}

-- what an account last loaded of a stack: the head, if any, and the link of the buffer that the head names, if loaded
-- after the head. The link is Some None if that buffer is the last
pub record Look : Type 0 where
  pub head : Option Head
  pub link : Option (Option ℕ)

pub record Account : Type 0 where
  -- its units: an account exists while it has at least one
  pub share : ℕ
  -- the buffers that it holds
  pub held : List ℕ
  -- the objects in its charge
  pub charge : List ℕ
  -- the objects that it saw marked
  pub seen : List ℕ
  -- the objects that it finished
  pub finished : List ℕ
  -- what it last loaded of the full stack and of the empty one
  pub full : Look
  pub empty : Look
  -- it pushed on full, or took over an open push in a join, and has not found the full stack empty since
  pub open_push : Bool
  -- its idle number: 1 while it is idle and 0 while it is not; after a join, the sum of the two accounts' numbers
  pub idle : ℕ
  -- the idle word that it last loaded
  pub last_idle : Option ℕ
  -- it has found the full stack empty (loaded a head without a buffer), and has not pushed there since
  pub found : Bool
  -- it gave units to another account
  pub parted : Bool
  -- it pushed on full since it first gave units away
  pub pushed : Bool
  -- it was joined: another to it, or it to another
  pub joined : Bool

abbrev pub look_of : Account → Which → Look
look_of a Full = a.full
look_of a Empty = a.empty

-- nothing was loaded
abbrev pub blank : Look
blank = record { head = None; link = None }

-- an account with some units and nothing else
abbrev pub part : ℕ → Account
part units =
    record {
      share = units;
      held = [];
      charge = [];
      seen = [];
      finished = [];
      full = blank;
      empty = blank;
      open_push = false;
      idle = 0;
      last_idle = None;
      found = false;
      parted = false;
      pushed = false;
      joined = false;
    }

-- what is left of an account that was joined to another
abbrev pub no_share : Account
no_share = record (part 0) { joined = true }

-- a claim of the object o, whose mark was `found`: o is seen, and joins the charge if it was white
abbrev pub after_claim : ℕ → ℕ → Account → Account
after_claim o found a =
    record a { charge = if found == 0 then a.charge ++ o ∷ [] else a.charge; seen = a.seen ++ o ∷ [] }

-- the object o leaves the charge and is finished
abbrev pub after_finish : ℕ → Account → Account
after_finish o a = record a { charge = remove_one o a.charge; finished = a.finished ++ o ∷ [] }

-- some units went to another account
abbrev pub after_split : ℕ → Account → Account
after_split units a = record a { share = a.share - units; parted = true }

-- the account b was joined to a: lists are appended, shares and idle numbers added, an open push of either stays open,
-- and the join is noted. What a last loaded stays, and so do its notes `found`, `parted` and `pushed`
abbrev pub after_join : Account → Account → Account
after_join a b =
    record {
      share = a.share + b.share;
      held = a.held ++ b.held;
      charge = a.charge ++ b.charge;
      seen = a.seen ++ b.seen;
      finished = a.finished ++ b.finished;
      full = a.full;
      empty = a.empty;
      open_push = a.open_push || b.open_push;
      idle = a.idle + b.idle;
      last_idle = a.last_idle;
      found = a.found;
      parted = a.parted;
      pushed = a.pushed;
      joined = true;
    }

-- the head h of a stack was loaded: the link loaded before is forgotten. A head of the full stack without a buffer is
-- noted in `found`, and ends an open push
abbrev pub after_load : Which → Head → Account → Account
after_load Full h a =
    record a {
      full = record { head = Some h; link = None };
      open_push = a.open_push && is_some h.index;
      found = a.found || is_none h.index;
    }
after_load Empty h a = record a { empty = record { head = Some h; link = None } }

-- the link of the buffer that the last loaded head names was loaded as l
abbrev pub after_load_link : Which → Option ℕ → Account → Account
after_load_link Full l a = record a { full = record { head = a.full.head; link = Some l } }
after_load_link Empty l a = record a { empty = record { head = a.empty.head; link = Some l } }

-- the buffer i was popped: it is held, and its items join the charge
abbrev pub after_pop : ℕ → List ℕ → Account → Account
after_pop i items a = record a { held = a.held ++ i ∷ []; charge = a.charge ++ items }

-- a note after a push: `set` if the push was on the full stack, and `was`, the old note, if it was on the empty one
abbrev pub on_full : Which → Bool → Bool → Bool
on_full Full set was = set
on_full Empty set was = was

-- the buffer i was pushed with items: it is no longer held, and the items leave the charge. After a push on full the
-- push is open, `found` is false, and `pushed` is true if units were given away before
abbrev pub after_push : Which → ℕ → List ℕ → Account → Account
after_push q i items a =
    record a {
      held = remove_one i a.held;
      charge = without items a.charge;
      open_push = on_full q true a.open_push;
      found = on_full q false a.found;
      pushed = on_full q (a.pushed || a.parted) a.pushed;
    }

-- the account went idle
abbrev pub after_idle_up : Account → Account
after_idle_up a = record a { idle = a.idle + 1 }

-- the account came back
abbrev pub after_idle_down : Account → Account
after_idle_down a = record a { idle = a.idle - 1 }

-- the idle word was loaded
abbrev pub after_load_idle : ℕ → Account → Account
after_load_idle n a = record a { last_idle = Some n }
