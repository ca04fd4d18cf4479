-- What an account does is a step of the world, and the law holds after it.
use Rattle.std.proofs.Common.{ℕ, ◌<◌, Bool, true, false, List, length, Result, Ok, Err, IfErr, IfOk, ap, sym, subst}
use Rattle.std.proofs.Common.{◌∙◌}
use Rattle.std.proofs.lemmas.List.{get_or_default}
use Rattle.mark_core.proofs.Words.{Account, no_share, Marking, account_at, IsThere, Kind, Event, Allows, Law, Listing}
use Rattle.mark_core.proofs.Words.{IsLawful, HasAccount, HasNumber, CanStep, MayDo, Tries, Follows, Steps, marking_of}
use Rattle.mark_core.proofs.Places.{at_get_or}
use Rattle.mark_core.proofs.Runs.{happens_keeps}
use Rattle.mark_core.proofs.Within.{stands_here, is_there}
use Rattle.mark_core.proofs.Weights.{AreNumbered, happens_numbered}

-- an account that does not exist takes no step
pub no_account : (l : Listing) (w : ℕ) (kind : Kind) → ¬ HasAccount l w
    → ¬ CanStep l (record { worker = w; kind = kind })
no_account l w kind away can = away (is_there l.accounts w can.0.0 can.0.1)

-- a step that needs a number for a new account is not taken without one
pub no_number : (l : Listing) (w : ℕ) (kind : Kind) → ¬ HasNumber kind l.accounts
    → ¬ CanStep l (record { worker = w; kind = kind })
no_number l w kind none can = none can.1

-- the account that the list has at this number exists
pub there_at :
    (accounts : List Account) (w : ℕ) → (w < length accounts) × (0 < (account_at accounts w).share)
    → IsThere accounts w (account_at accounts w)
there_at accounts w there =
    let a = account_at accounts w in
    (stands_here accounts w a there.0 (get_or_default accounts w no_share a there.0), there.1)

pub steps_of : (old new : Listing) (w : ℕ) (kind : Kind) (done : Bool) → HasAccount old w
    → HasNumber kind old.accounts → Tries old w kind done new → Steps old (record { worker = w; kind = kind }) done new
steps_of old new w kind true there number does =
    record {
      possible = ((account_at old.accounts w, there_at old.accounts w there, does.allowed), number);
      marking = does.marking;
      setup = does.setup;
      links = does.links;
      slots = does.slots;
      marks = does.marks;
    }
steps_of old new w kind false there number may_not =
    λ can. may_not (subst (λ (x : Account). Allows old.setup (marking_of old) w x kind)
    (sym (at_get_or old.accounts w can.0.0 no_share can.0.1.0)) can.0.2)

-- `steps_of` for a result that may be an error
pub steps_ok :
    {E : Type 0} (old new : Listing) (w : ℕ) (kind : Kind) (answer : Result Bool E) → HasAccount old w
    → HasNumber kind old.accounts
    → IfOk answer (λ done. Tries old w kind done new)
    → IfOk answer (λ done. Steps old (record { worker = w; kind = kind }) done new)
steps_ok old new w kind (Ok done) there number tries = steps_of old new w kind done there number tries
steps_ok old new w kind (Err e) there number tries = tt

-- what holds anyway holds if the call fails
pub always : {T E : Type 0} (P : Type 0) (answer : Result T E) → P → IfErr answer (λ _. P)
always P (Ok x) holds = tt
always P (Err e) holds = holds

-- if an allocation fails, the step was possible
pub steps_refused :
    {E : Type 0} (old : Listing) (w : ℕ) (kind : Kind) (answer : Result Bool E) → HasAccount old w
    → HasNumber kind old.accounts
    → IfErr answer (λ _. MayDo old w kind) → IfErr answer (λ _. CanStep old (record { worker = w; kind = kind }))
steps_refused old w kind (Ok done) there number may = tt
steps_refused old w kind (Err e) there number may =
    ((account_at old.accounts w, there_at old.accounts w there, may), number)

-- the law holds after a step
pub lawful_after : (old new : Listing) (event : Event) → IsLawful old → Follows old event new → IsLawful new
lawful_after old new event lawful f =
    let law : Law old.setup (marking_of new) =
    subst (Law old.setup) (sym f.marking) (happens_keeps old.setup (marking_of old) event lawful.law f.possible.0)
    in
    let before : AreNumbered old.accounts = record { numbered = lawful.numbered; weights = lawful.weights } in
    let after = subst AreNumbered (sym (ap (λ (m : Marking). m.accounts) f.marking))
    (happens_numbered old.setup (marking_of old) event before f.possible.0 f.possible.1) in
    record {
      law = rw f.setup law;
      links = rw f.setup (f.links ∙ lawful.links);
      slots = rw f.setup (f.slots ∙ lawful.slots);
      marks = rw f.setup (f.marks ∙ lawful.marks);
      numbered = after.numbered;
      weights = after.weights;
      few = rw f.setup lawful.few;
      rooted = rw f.setup lawful.rooted;
      paired = rw f.setup lawful.paired;
    }
