-- No step is by a number that no account has yet, so the new worker of a split has done nothing.
use Rattle.std.proofs.Common.{◌≡◌, ◌≢◌, ◌⊎◌, ℕ, zero, suc, ◌<◌, ◌≤◌, true, List, [], ◌∷◌, ◌++◌, length, Some, set, ap}
use Rattle.std.proofs.Common.{sym, refl, subst, ◌∙◌, inl, inr, ⊎_elim, length-set, length-append, ne_eqb, cond, arith}
use Rattle.buffer_pool.proofs.Words.{false≢true, append_assoc, some, some-injective, some-ne-none, get_elem?, Account}
use Rattle.buffer_pool.proofs.Words.{part, no_share, Setup, Marking, account_at, Event, Kind, Split, Join, effect}
use Rattle.buffer_pool.proofs.Words.{happens, Run, at_below, SeatView, deeds, AreViewsOf, IsTakenIn, IsViewOf}
use Rattle.buffer_pool.proofs.Words.{kept_part, given_part, joined_view, no_share_view}
use Rattle.buffer_pool.proofs.Effects.{effect_by}
use Rattle.buffer_pool.proofs.Deeds.{deeds_on, no_deed, taken_on, told_mine, told_theirs, told_set}

same_some : (a b : ℕ) → Some a ≡ Some b → a ≡ b
same_some a b e = cc

-- the number of accounts never falls
effect_long : (m : Marking) (w : ℕ) (a : Account) (kind : Kind)
    → length m.accounts ≤ length (effect m w a kind).accounts
effect_long m w a =
    effect_by (λ xs. length m.accounts ≤ length xs) m w a (omega arith) (λ b. omega (arith, length-set m.accounts w b))
    (λ b units. omega (arith, length-set m.accounts w b, length-append (set m.accounts w b) (part units ∷ [])))
    (λ b v. omega (arith, length-set m.accounts w b, length-set (set m.accounts w b) v no_share))

run_long : (e : Setup) (events : List Event) (first last : Marking) → Run e first events last
    → length first.accounts ≤ length last.accounts
run_long e [] first last run = omega (arith, ap (λ (m : Marking). length m.accounts) run)
run_long e (event ∷ events) first last run =
    omega (
      arith,
      effect_long first event.worker (account_at first.accounts event.worker) event.kind,
      run_long e events (happens first event) last run.1,
    )

pub nothing_done : (e : Setup) (events : List Event) (first last : Marking) (n : ℕ) → Run e first events last
    → length last.accounts ≤ n → deeds n events ≡ []
nothing_done e [] first last n run past = refl
nothing_done e (event ∷ events) first last n run past =
    let below : event.worker < length first.accounts = at_below first.accounts event.worker run.0.0 run.0.1.0 in
    let long = run_long e (event ∷ events) first last run in
    let other : event.worker ≢ n = λ same. omega (arith, same, below, long, past) in
    ap (λ t. cond t (event.kind ∷ deeds n events) (deeds n events)) (ne_eqb event.worker n other)
    ∙ nothing_done e events (happens first event) last n run.1 past

-- an element of a list with one more at its end is in the list, or is the one at the end
pub at_end : {X : Type 0} (xs : List X) (x u : X) (k : ℕ) → get_elem? (xs ++ x ∷ []) k ≡ some u
    → (get_elem? xs k ≡ some u) ⊎ ((k ≡ length xs) × (x ≡ u))
at_end [] x u zero at = inr (refl, some-injective x u at)
at_end [] x u (suc k) at = absurd (some-ne-none u (sym at))
at_end (y ∷ ys) x u zero at = inl at
at_end (y ∷ ys) x u (suc k) at = ⊎_elim (λ t. inl t) (λ t. inr (omega (arith, t.0), t.1)) (at_end ys x u k at)

module _ (events : List Event) (views : List SeatView) (told : AreViewsOf events views) (id : ℕ) (v : SeatView)
    (is : get_elem? views id ≡ some v) (there : 0 < v.book.account.share) (known : v.named ≡ true) where
  own : IsViewOf events id v
  own = told id v is there

  -- all views hold after a split: the old worker notes it, and the number of the new one has done nothing
  pub told_split :
      deeds (length views) events ≡ []
      → AreViewsOf (events ++ record { worker = id; kind = Split v.aside } ∷ [])
      (set views id (kept_part v) ++ given_part v ∷ [])
  told_split nobody k u at share =
      ⊎_elim
      (λ t. told_set later views id (kept_part v)
      (λ j x other here x_share. told_theirs events j x (told j x here x_share) event (λ same. other (sym same)))
      (λ h. kept) k u t share)
      (λ t. subst (λ n. IsViewOf later n u) (sym (t.0 ∙ length-set views id (kept_part v)))
      (subst (IsViewOf later (length views)) t.1 given))
      (at_end (set views id (kept_part v)) (given_part v) u k at)
    where
      event : Event
      event = record { worker = id; kind = Split v.aside }

      later : List Event
      later = events ++ event ∷ []

      kept : IsViewOf later id (kept_part v)
      kept =
          told_mine events id v own event (kept_part v) known refl refl known refl (own.taken.0 ++ event ∷ [])
          (ap (λ xs. xs ++ event ∷ []) own.taken.1 ∙ append_assoc v.taken own.taken.0 (event ∷ [])) own.apart
          (λ n from. taken_on events event n v.taken (own.ended known n from))

      none : deeds (length views) later ≡ []
      none =
          let other : id ≢ length views = λ same. omega (arith, same, at_below views id v is) in
          deeds_on (length views) events (event ∷ []) ∙ (λ i. nobody i ++ no_deed (length views) event other i)

      given : IsViewOf later (length views) (given_part v)
      given =
          record {
            number = λ named. absurd (false≢true named);
            since = later;
            goes_on = refl;
            unsaid = none;
            taken = (
              own.since ++ event ∷ [],
              ap (λ xs. xs ++ event ∷ []) own.goes_on
                  ∙ append_assoc v.log.story own.since (event ∷ []),
            );
            fresh = λ new. none;
            leads = λ named. absurd (false≢true named);
            apart =
                λ n from. λ same.
                let giver : v.log.number ≡ n = same_some v.log.number n from in
                omega (arith, giver, same, own.number known, at_below views id v is);
            ended = λ named. absurd (false≢true named);
          }

  -- all views hold after a join: the worker notes it, and takes in the story of the other
  pub told_join :
      (other : ℕ) (w : SeatView) → other ≢ id → get_elem? views other ≡ some w → 0 < w.book.account.share
      → w.named ≡ true → w.unsaid ≡ []
      → AreViewsOf (events ++ record { worker = id; kind = Join other } ∷ [])
      (set (set views id (joined_view v w)) other no_share_view)
  told_join other w apart at theirs_there theirs_known theirs_said =
      told_set later (set views id (joined_view v w)) other no_share_view
      (λ k u differ here share. told_set later views id (joined_view v w)
      (λ j x apart_too stood x_share. told_theirs events j x (told j x stood x_share) event
      (λ same. apart_too (sym same))) (λ h. both) k u here share)
      (λ h. absurd (omega (arith, h)))
    where
      event : Event
      event = record { worker = id; kind = Join other }

      later : List Event
      later = events ++ event ∷ []

      theirs : IsViewOf events other w
      theirs = told other w at theirs_there

      joined_from : (n : ℕ) → Some w.log.number ≡ Some n → other ≡ n
      joined_from n from = sym (theirs.number theirs_known) ∙ same_some w.log.number n from

      -- the other did nothing between its story and the join
      taken_in : (n : ℕ) → Some w.log.number ≡ Some n → IsTakenIn later n w.log.story
      taken_in n from =
          subst (λ k. IsTakenIn later k w.log.story) (joined_from n from) (record {
            quiet = theirs.since;
            by = id;
            later = [];
            all = ap (λ xs. xs ++ event ∷ []) theirs.goes_on;
            other = λ same. apart (sym same);
            nothing = theirs.unsaid ∙ theirs_said;
          })

      both : IsViewOf later id (joined_view v w)
      both =
          told_mine events id v own event (joined_view v w) known refl refl known
          (ap (λ n. v.unsaid ++ Join n ∷ []) (theirs.number theirs_known)) (theirs.since ++ event ∷ [])
          (ap (λ xs. xs ++ event ∷ []) theirs.goes_on ∙ append_assoc w.log.story theirs.since (event ∷ []))
          (λ n from. λ same. apart (joined_from n from ∙ same)) taken_in
