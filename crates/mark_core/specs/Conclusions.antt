-- What holds after a run: of loaded heads, first tags, tags and lengths of stacks, failed exchanges, and open pushes.
use Rattle.std.specs.Prelude.{◌≡◌, ◌≢◌, ◌⊎◌, ℕ, ◌+◌, ◌*◌, ◌<◌, true, List, [], ◌∷◌, ◌++◌, length, Some}
use Rattle.tagged_index.specs.Head.{Head}
use Rattle.mark_core.specs.declared.which.Which.{Which}
use Rattle.mark_core.specs.declared.which.Which.TheVariants.{Full, Empty}
use Rattle.mark_core.specs.Lists.{StandsAt, sum_of}
use Rattle.mark_core.specs.Account.{Account, look_of}
use Rattle.mark_core.specs.World.{Setup, Marking}
use Rattle.mark_core.specs.Events.{Kind, Load, Pop, Push, Fail, Event, happens}
use Rattle.mark_core.specs.Law.{Law}
use Rattle.mark_core.specs.Runs.{IsListOf, Run, first_heads, opening}
use Rattle.mark_core.specs.Counts.{Counts, LeadTo}

-- the law holds of each marking to which events lead from the opening, if there is a buffer
abbrev pub ListsKeepLaw : Type 0
ListsKeepLaw =
    (e : Setup) (events : List Event) (m : Marking) (counts : List Counts)
    → 0 < e.buffers → LeadTo e events m counts → Law e m

-- the stack q had the head h at the marking m or after one of the events, the first of which happens to m
abbrev pub HadHead : Marking → List Event → Which → Head → Type 0
HadHead m [] q h = m.head q ≡ h
HadHead m (event ∷ events) q h = (m.head q ≡ h) ⊎ HadHead (happens m event) events q h

-- the head that an account last loaded of a stack is one that the stack had in the run
abbrev pub LoadedHeadsWere : Type 0
LoadedHeadsWere =
    (e : Setup) (events : List Event) (m : Marking) → Run e (opening e e.first_tag) events m
    → (w : ℕ) (a : Account) (q : Which) (h : Head) → StandsAt m.accounts w a → (look_of a q).head ≡ Some h
    → HadHead (opening e e.first_tag) events q h

-- only the first of the heads that a stack has in a run has the first tag
abbrev pub FirstTagsAreFirst : Type 0
FirstTagsAreFirst =
    (e : Setup) (events : List Event) (m : Marking) → Run e (opening e e.first_tag) events m
    → (q : Which) (h : Head) → HadHead (opening e e.first_tag) events q h
    → h.tag ≡ e.first_tag → h ≡ first_heads e.first_tag q

-- how many buffers a stack has at the opening
abbrev pub first_length : Setup → Which → ℕ
first_length e Full = 0
first_length e Empty = e.buffers

-- 1 if both are the same stack, and 0 otherwise
abbrev pub one_stack : Which → Which → ℕ
one_stack Full Full = 1
one_stack Empty Empty = 1
one_stack p q = 0

-- 1 if an event of this kind pushes on the stack q, and 0 otherwise
abbrev pub push_count : Kind → Which → ℕ
push_count (Push p i items) q = one_stack p q
push_count kind q = 0

-- how many of the events push on the stack q
abbrev pub pushes_among : List Event → Which → ℕ
pushes_among events q = sum_of (λ event. push_count event.kind q) events

-- the sum of a stack's tag and length keeps its parity. A pop raises the tag by one and lowers the length by one, a
-- push raises both by one. So the sum rises by two at each push on the stack, and no other event changes it
abbrev pub TagsKeepParity : Type 0
TagsKeepParity =
    (e : Setup) (events : List Event) (m : Marking) → 0 < e.buffers → Run e (opening e e.first_tag) events m
    → (q : Which) (list : List ℕ) → IsListOf m q list
    → (m.head q).tag + length list ≡ e.first_tag + first_length e q + 2 * pushes_among events q

-- an event of this kind exchanges the head of the stack q
abbrev pub Exchanges : Which → Kind → Type 0
Exchanges q (Pop p) = p ≡ q
Exchanges q (Push p i items) = p ≡ q
Exchanges q kind = ⊥

-- the worker w loads the head of a stack and later fails to exchange it. If w neither loads nor exchanges the head of
-- this stack in between, another worker exchanges it in between
abbrev pub LossesAreContested : Type 0
LossesAreContested =
    (e : Setup) (first last : Marking) (w : ℕ) (q : Which) (between : List Event)
    → Run e first (record { worker = w; kind = Load q } ∷ between ++ record { worker = w; kind = Fail q } ∷ []) last
    → ((k : ℕ) (event : Event) → StandsAt between k event → event.worker ≡ w
    → (event.kind ≡ Load q → ⊥) × (Exchanges q event.kind → ⊥))
    → (k : ℕ) × (event : Event) × StandsAt between k event × (event.worker ≢ w) × Exchanges q event.kind

-- the head of the stack was exchanged: its tag is above the first
abbrev pub HasChanged : Setup → Marking → Which → Type 0
HasChanged e m q = e.first_tag < (m.head q).tag

-- an account has an open push only if the full head has changed
abbrev pub PushesFollowChanges : Type 0
PushesFollowChanges =
    (e : Setup) (events : List Event) (m : Marking) (counts : List Counts) → LeadTo e events m counts
    → (w : ℕ) (a : Account) → StandsAt m.accounts w a → a.open_push ≡ true → HasChanged e m Full
