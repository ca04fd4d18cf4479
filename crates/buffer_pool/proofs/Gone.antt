-- An account that was joined to another takes no further step.
use Rattle.std.proofs.Common.{◌≡◌, ◌≢◌, ℕ, List, [], ◌∷◌, ◌++◌, set, ap, sym, refl, subst, ◌∙◌, ne_eqb, cond, arith}
use Rattle.buffer_pool.proofs.Words.{append_assoc, ℕ_discrete, at_longer, set_here, set_else, StandsAt, Account, part}
use Rattle.buffer_pool.proofs.Words.{no_share, after_join, Setup, Marking, account_at, IsThere, Event, Kind, Join}
use Rattle.buffer_pool.proofs.Words.{effect, happens, Run, at_below, at_one, EndsStory, deeds, IsTakenIn}
use Rattle.buffer_pool.proofs.Effects.{effect_by}
use Rattle.buffer_pool.proofs.Deeds.{deeds_on}

-- an account without a share
abbrev IsGone : List Account → ℕ → Type 0
IsGone accounts n = (a : Account) × StandsAt accounts n a × (a.share ≡ 0)

-- it remains without a share when other accounts change
gone_beside :
    (accounts : List Account) (n w : ℕ) (b : Account) → IsGone accounts n → n ≢ w → IsGone (set accounts w b) n
gone_beside accounts n w b gone other = (gone.0, set_else accounts w n b other ∙ gone.1, gone.2)

-- and when any account is emptied
gone_emptied : (accounts : List Account) (n v : ℕ) → IsGone accounts n → IsGone (set accounts v no_share) n
gone_emptied accounts n v gone = go (ℕ_discrete n v)
  where
    go : Dec (n ≡ v) → IsGone (set accounts v no_share) n
    go (no other) = gone_beside accounts n v no_share gone other
    go (yes same) = subst (λ k. IsGone (set accounts k no_share) n) same
        (no_share, set_here accounts n no_share (at_below accounts n gone.0 gone.1), refl)

effect_gone :
    (m : Marking) (n w : ℕ) (a : Account) (kind : Kind) → IsGone m.accounts n → n ≢ w
    → IsGone (effect m w a kind).accounts n
effect_gone m n w a kind gone other =
    let beside = λ (b : Account). gone_beside m.accounts n w b gone other in
    effect_by (λ xs. IsGone xs n) m w a gone beside
    (λ b units. (
      (beside b).0,
      at_longer (set m.accounts w b) (part units ∷ []) n (beside b).0 (beside b).1,
      (beside b).2,
    )) (λ b v. gone_emptied (set m.accounts w b) n v (beside b)) kind

-- the account that acts is not one without a share
not_gone : (accounts : List Account) (n w : ℕ) (a : Account) → IsThere accounts w a → IsGone accounts n → n ≢ w
not_gone accounts n w a there gone same =
    let one : a ≡ gone.0 = at_one accounts w a gone.0 there.0 (subst (λ k. StandsAt accounts k gone.0) same gone.1) in
    omega (arith, there.1, gone.2, ap (λ (x : Account). x.share) one)

gone_quiet :
    (e : Setup) (events : List Event) (first last : Marking) (n : ℕ) → Run e first events last → IsGone first.accounts n
    → deeds n events ≡ []
gone_quiet e [] first last n run gone = refl
gone_quiet e (event ∷ events) first last n run gone =
    let other : n ≢ event.worker = not_gone first.accounts n event.worker run.0.0 run.0.1 gone in
    ap (λ t. cond t (event.kind ∷ deeds n events) (deeds n events)) (ne_eqb event.worker n (λ same. other (sym same)))
    ∙ gone_quiet e events (happens first event) last n run.1
    (effect_gone first n event.worker (account_at first.accounts event.worker) event.kind gone other)

-- an account does nothing after it was joined
quiet_after :
    (e : Setup) (before : List Event) (by n : ℕ) (later : List Event) (first last : Marking)
    → Run e first (before ++ record { worker = by; kind = Join n } ∷ later) last → deeds n later ≡ []
quiet_after e (event ∷ events) by n later first last run =
    quiet_after e events by n later (happens first event) last run.1
quiet_after e [] by n later first last run =
    let mine = set first.accounts by (after_join (account_at first.accounts by) (account_at first.accounts n)) in
    let can = run.0.2 in
    let there =
    set_else first.accounts by n (after_join (account_at first.accounts by) (account_at first.accounts n)) can.0
    ∙ can.1.1.0 in
    gone_quiet e later (happens first (record { worker = by; kind = Join n })) last n run.1
    (no_share, set_here mine n no_share (at_below mine n can.1.0 there), refl)

-- so the story that was taken in has all its steps
pub ends_taken :
    (e : Setup) (events : List Event) (first last : Marking) (n : ℕ) (story : List Event) → Run e first events last
    → IsTakenIn events n story → EndsStory (record { number = n; story = story }) events
ends_taken e events first last n story run t =
    let event : Event = record { worker = t.by; kind = Join n } in
    let after =
    quiet_after e (story ++ t.quiet) t.by n t.later first last (subst (λ xs. Run e first xs last) t.all run) in
    let rest : deeds n (event ∷ t.later) ≡ [] =
    ap (λ b. cond b (Join n ∷ deeds n t.later) (deeds n t.later)) (ne_eqb t.by n t.other) ∙ after in (
      t.quiet ++ event ∷ t.later,
      t.all ∙ append_assoc story t.quiet (event ∷ t.later),
      deeds_on n t.quiet (event ∷ t.later) ∙ (λ k. t.nothing k ++ rest k),
    )
