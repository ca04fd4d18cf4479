-- Codes of accounts, setups, books, events and logs: a ghost field of a view needs one for its type. A code maps the
-- type to one that has a code already, and back.
use Rattle.std.specs.Prelude.{◌≡◌, ◌⊎◌, ℕ, Bool, true, false, List, Option, Some, None, refl}
use Rattle.std.proofs.Common.{inl, inr}
use Rattle.std.specs.Coded.{Coded, code_by, coded×, coded⊎, coded_ℕ, coded_bool, coded_list, coded_option}
use Rattle.tagged_index.specs.Head.{Head}
use Rattle.mark_core.specs.Account.{Account, Look}
use Rattle.mark_core.specs.World.{Setup}
use Rattle.mark_core.specs.declared.which.Which.{Which}
use Rattle.mark_core.specs.declared.which.Which.TheVariants.{Full, Empty}
use Rattle.mark_core.specs.Events.{Kind, Claim, Finish, Split, Join, Load, LoadLink, StoreLink, Pop, Push, Fail, IdleUp}
use Rattle.mark_core.specs.Events.{IdleDown, LoadIdle, Event}
use Rattle.buffer_pool.specs.Book.{Book}
use Rattle.buffer_pool.specs.WorkerLog.{Log}

abbrev pub head_code : Coded Head
head_code =
    code_by (Option ℕ × ℕ) (coded× (coded_option coded_ℕ) coded_ℕ)
    (λ h. (h.index, h.tag)) (λ p. record { index = p.0; tag = p.1 }) (λ _. refl)

abbrev pub look_code : Coded Look
look_code =
    code_by (Option Head × Option (Option ℕ)) (coded× (coded_option head_code) (coded_option (coded_option coded_ℕ)))
    (λ l. (l.head, l.link)) (λ p. record { head = p.0; link = p.1 }) (λ _. refl)

-- the share and the open push, the lists, what was last loaded of the stacks, the idle number and word, and the notes
abbrev pub account_code : Coded Account
account_code =
    code_by
    (((ℕ × Bool) × ((List ℕ × List ℕ) × ((List ℕ × List ℕ) × (Look × Look))))
    × ((ℕ × Option ℕ) × ((Bool × Bool) × (Bool × Bool))))
    (coded× (coded× (coded× coded_ℕ coded_bool)
    (coded× (coded× (coded_list coded_ℕ) (coded_list coded_ℕ))
    (coded× (coded× (coded_list coded_ℕ) (coded_list coded_ℕ)) (coded× look_code look_code))))
    (coded× (coded× coded_ℕ (coded_option coded_ℕ))
    (coded× (coded× coded_bool coded_bool) (coded× coded_bool coded_bool))))
    (λ a. (
      ((a.share, a.open_push), ((a.held, a.charge), ((a.seen, a.finished), (a.full, a.empty)))),
      ((a.idle, a.last_idle), ((a.found, a.parted), (a.pushed, a.joined))),
    ))
    (λ p.
    record {
      share = p.0.0.0;
      open_push = p.0.0.1;
      held = p.0.1.0.0;
      charge = p.0.1.0.1;
      seen = p.0.1.1.0.0;
      finished = p.0.1.1.0.1;
      full = p.0.1.1.1.0;
      empty = p.0.1.1.1.1;
      idle = p.1.0.0;
      last_idle = p.1.0.1;
      found = p.1.1.0.0;
      parted = p.1.1.0.1;
      pushed = p.1.1.1.0;
      joined = p.1.1.1.1;
    })
    (λ _. refl)

abbrev pub setup_code : Coded Setup
setup_code =
    code_by (((ℕ × ℕ) × (ℕ × ℕ)) × (List ℕ × List (ℕ × ℕ)))
    (coded× (coded× (coded× coded_ℕ coded_ℕ) (coded× coded_ℕ coded_ℕ))
    (coded× (coded_list coded_ℕ) (coded_list (coded× coded_ℕ coded_ℕ))))
    (λ e. (((e.objects, e.buffers), (e.size, e.first_tag)), (e.roots, e.pairs)))
    (λ p.
    record {
      objects = p.0.0.0;
      buffers = p.0.0.1;
      size = p.0.1.0;
      first_tag = p.0.1.1;
      roots = p.1.0;
      pairs = p.1.1;
    })
    (λ _. refl)

abbrev pub book_code : Coded Book
book_code =
    code_by ((Setup × Account) × ((ℕ × ℕ) × (ℕ × ℕ)))
    (coded× (coded× setup_code account_code) (coded× (coded× coded_ℕ coded_ℕ) (coded× coded_ℕ coded_ℕ)))
    (λ b. ((b.setup, b.account), ((b.loads, b.failures), (b.full_empties, b.empty_empties))))
    (λ p.
    record {
      setup = p.0.0;
      account = p.0.1;
      loads = p.1.0.0;
      failures = p.1.0.1;
      full_empties = p.1.1.0;
      empty_empties = p.1.1.1;
    })
    (λ _. refl)

-- a stack is coded as whether it is the full one
abbrev is_full : Which → Bool
is_full Full = true
is_full Empty = false

abbrev stack_of : Bool → Which
stack_of true = Full
stack_of false = Empty

pub same_stack : (q : Which) → stack_of (is_full q) ≡ q
same_stack Full = refl
same_stack Empty = refl

abbrev pub which_code : Coded Which
which_code = code_by Bool coded_bool is_full stack_of same_stack

-- what the kinds have that have only a number: a claim, a finish, a split, a join
abbrev Numbered : Type 0
Numbered = (ℕ ⊎ ℕ) ⊎ (ℕ ⊎ ℕ)

-- what those have that have only a stack: the loads of a head and of a link, a pop, a failed exchange
abbrev Stacked : Type 0
Stacked = (Which ⊎ Which) ⊎ (Which ⊎ Which)

-- what the others have: a store of a link, a push, and the three steps on the idle word. These have nothing, so each is
-- one of the three values of `Option Bool`
abbrev Others : Type 0
Others = ((ℕ × Option ℕ) ⊎ ((Which × ℕ) × List ℕ)) ⊎ Option Bool

-- what a kind has. Below, the kind that has it
abbrev parts_of : Kind → Numbered ⊎ (Stacked ⊎ Others)
parts_of (Claim o) = inl (inl (inl o))
parts_of (Finish o) = inl (inl (inr o))
parts_of (Split units) = inl (inr (inl units))
parts_of (Join v) = inl (inr (inr v))
parts_of (Load q) = inr (inl (inl (inl q)))
parts_of (LoadLink q) = inr (inl (inl (inr q)))
parts_of (Pop q) = inr (inl (inr (inl q)))
parts_of (Fail q) = inr (inl (inr (inr q)))
parts_of (StoreLink i l) = inr (inr (inl (inl (i, l))))
parts_of (Push q i items) = inr (inr (inl (inr ((q, i), items))))
parts_of IdleUp = inr (inr (inr None))
parts_of IdleDown = inr (inr (inr (Some false)))
parts_of LoadIdle = inr (inr (inr (Some true)))

abbrev kind_of : Numbered ⊎ (Stacked ⊎ Others) → Kind
kind_of (inl (inl (inl o))) = Claim o
kind_of (inl (inl (inr o))) = Finish o
kind_of (inl (inr (inl units))) = Split units
kind_of (inl (inr (inr v))) = Join v
kind_of (inr (inl (inl (inl q)))) = Load q
kind_of (inr (inl (inl (inr q)))) = LoadLink q
kind_of (inr (inl (inr (inl q)))) = Pop q
kind_of (inr (inl (inr (inr q)))) = Fail q
kind_of (inr (inr (inl (inl p)))) = StoreLink p.0 p.1
kind_of (inr (inr (inl (inr p)))) = Push p.0.0 p.0.1 p.1
kind_of (inr (inr (inr None))) = IdleUp
kind_of (inr (inr (inr (Some false)))) = IdleDown
kind_of (inr (inr (inr (Some true)))) = LoadIdle

pub same_kind : (kind : Kind) → kind_of (parts_of kind) ≡ kind
same_kind (Claim o) = refl
same_kind (Finish o) = refl
same_kind (Split units) = refl
same_kind (Join v) = refl
same_kind (Load q) = refl
same_kind (LoadLink q) = refl
same_kind (Pop q) = refl
same_kind (Fail q) = refl
same_kind (StoreLink i l) = refl
same_kind (Push q i items) = refl
same_kind IdleUp = refl
same_kind IdleDown = refl
same_kind LoadIdle = refl

abbrev numbered_code : Coded Numbered
numbered_code = coded⊎ (coded⊎ coded_ℕ coded_ℕ) (coded⊎ coded_ℕ coded_ℕ)

abbrev stacked_code : Coded Stacked
stacked_code = coded⊎ (coded⊎ which_code which_code) (coded⊎ which_code which_code)

abbrev others_code : Coded Others
others_code =
    coded⊎ (coded⊎ (coded× coded_ℕ (coded_option coded_ℕ)) (coded× (coded× which_code coded_ℕ) (coded_list coded_ℕ)))
    (coded_option coded_bool)

abbrev pub kind_code : Coded Kind
kind_code =
    code_by (Numbered ⊎ (Stacked ⊎ Others)) (coded⊎ numbered_code (coded⊎ stacked_code others_code))
    parts_of kind_of same_kind

abbrev pub event_code : Coded Event
event_code =
    code_by (ℕ × Kind) (coded× coded_ℕ kind_code)
    (λ e. (e.worker, e.kind)) (λ p. record { worker = p.0; kind = p.1 }) (λ _. refl)

abbrev pub log_code : Coded Log
log_code =
    code_by (ℕ × List Event) (coded× coded_ℕ (coded_list event_code))
    (λ l. (l.number, l.story)) (λ p. record { number = p.0; story = p.1 }) (λ _. refl)
