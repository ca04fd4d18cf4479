-- The steps of a worker in parts of a story, and each view after one more event.
use Rattle.std.proofs.Common.{◌≡◌, ◌≢◌, ℕ, ◌<◌, ◌==◌, Bool, if◌then◌else◌, true, false, List, [], ◌∷◌, ◌++◌, length}
use Rattle.std.proofs.Common.{Option, Some, None, set, ap, sym, refl, subst, ◌∙◌, ⊎_elim, eq-eqb, ne_eqb, length-append}
use Rattle.std.proofs.Common.{arith}
use Rattle.buffer_pool.proofs.Words.{false≢true, append_assoc, append-nil, some, get_elem?, Event, Kind, Join, SeatView}
use Rattle.buffer_pool.proofs.Words.{Log, Did, LeadsToBook, deeds, free, AreViewsOf, IsTakenIn, IsViewOf, logged}
use Rattle.buffer_pool.proofs.Words.{at_set}

-- the deeds in two parts are those in the first, followed by those in the second
pub deeds_on : (w : ℕ) (xs ys : List Event) → deeds w (xs ++ ys) ≡ deeds w xs ++ deeds w ys
deeds_on w [] ys = refl
deeds_on w (x ∷ xs) ys = go (x.worker == w) (deeds_on w xs ys)
  where
    go : (own : Bool) → deeds w (xs ++ ys) ≡ deeds w xs ++ deeds w ys
        → (if own then x.kind ∷ deeds w (xs ++ ys) else deeds w (xs ++ ys))
        ≡ (if own then x.kind ∷ deeds w xs else deeds w xs) ++ deeds w ys
    go true later = ap (λ ks. x.kind ∷ ks) later
    go false later = later

-- the deed of a worker in its own event is the kind of the event
pub one_deed : (w : ℕ) (event : Event) → event.worker ≡ w → deeds w (event ∷ []) ≡ event.kind ∷ []
one_deed w event own = ap (λ t. if t then event.kind ∷ [] else []) (eq-eqb event.worker w own)

pub no_deed : (w : ℕ) (event : Event) → event.worker ≢ w → deeds w (event ∷ []) ≡ []
no_deed w event other = ap (λ t. if t then event.kind ∷ [] else []) (ne_eqb event.worker w other)

-- a log continued by ks and then by ls is continued by both
pub did_on : (a b c : Log) (ks ls : List Kind) → Did a ks b → Did b ls c → Did a (ks ++ ls) c
did_on a b c ks ls first second = (
  first.0 ++ second.0,
  second.1 ∙ ap (λ (x : Log). record x { story = x.story ++ second.0 }) first.1
      ∙ ap (λ xs. record a { story = xs }) (append_assoc a.story first.0 second.0),
  deeds_on a.number first.0 second.0 ∙ (λ k. first.2 k ++ later k),
)
  where
    later : deeds a.number second.0 ≡ ls
    later = ap (λ (x : Log). deeds x.number second.0) (sym first.1) ∙ second.2

-- the same for three single steps
pub did_three : (a b c d : Log) (x y z : Kind) → Did a (x ∷ []) b → Did b (y ∷ []) c → Did c (z ∷ []) d
    → Did a (x ∷ y ∷ z ∷ []) d
did_three a b c d x y z first second third =
    did_on a b d (x ∷ []) (y ∷ z ∷ []) first (did_on b c d (y ∷ []) (z ∷ []) second third)

pub did_nothing : (a : Log) → Did a [] a
did_nothing a = ([], ap (λ xs. record a { story = xs }) (sym (append-nil a.story)), refl)

-- a story with one more event, and the log of a worker that knows a whole story
abbrev pub and_then : List Event → ℕ → Kind → List Event
and_then events w kind = events ++ record { worker = w; kind = kind } ∷ []

abbrev pub log_of : ℕ → List Event → Log
log_of w events = record { number = w; story = events }

none_some : (n : ℕ) → ◌≡◌ {A = Option ℕ} None (Some n) → ⊥
none_some n e = cc

-- a story that was taken in still is after one more event
pub taken_on :
    (events : List Event) (event : Event) (n : ℕ) (story : List Event) → IsTakenIn events n story
    → IsTakenIn (events ++ event ∷ []) n story
taken_on events event n story t =
    record {
      quiet = t.quiet;
      by = t.by;
      later = t.later ++ event ∷ [];
      all =
          ap (λ xs. xs ++ event ∷ []) t.all
          ∙ append_assoc (story ++ t.quiet) (record { worker = t.by; kind = Join n } ∷ t.later) (event ∷ []);
      other = t.other;
      nothing = t.nothing;
    }

module _ (events : List Event) (w : ℕ) (v : SeatView) (told : IsViewOf events w v) where
  -- the view holds after an event of another worker
  pub told_theirs : (event : Event) → event.worker ≢ w → IsViewOf (events ++ event ∷ []) w v
  told_theirs event other =
      record {
        number = told.number;
        since = told.since ++ event ∷ [];
        goes_on = ap (λ xs. xs ++ event ∷ []) told.goes_on ∙ append_assoc v.log.story told.since (event ∷ []);
        unsaid = deeds_on w told.since (event ∷ []) ∙ ap (λ ks. deeds w told.since ++ ks) (no_deed w event other)
            ∙ append-nil (deeds w told.since) ∙ told.unsaid;
        taken = (
          told.taken.0 ++ event ∷ [],
          ap (λ xs. xs ++ event ∷ []) told.taken.1
              ∙ append_assoc v.taken told.taken.0 (event ∷ []),
        );
        fresh = λ new. deeds_on w events (event ∷ []) ∙ (λ k. told.fresh new k ++ no_deed w event other k);
        leads = told.leads;
        apart = told.apart;
        ended = λ known n from. taken_on events event n v.taken (told.ended known n from);
      }

  -- the view holds after an event of its own worker that the view notes
  pub told_mine : (event : Event) (u : SeatView) → v.named ≡ true → event.worker ≡ w → u.log ≡ v.log → u.named ≡ true
      → u.unsaid ≡ v.unsaid ++ event.kind ∷ []
      → (more : List Event) → events ++ event ∷ [] ≡ u.taken ++ more → ((n : ℕ) → u.from ≡ Some n → n ≢ w)
      → ((n : ℕ) → u.from ≡ Some n → IsTakenIn (events ++ event ∷ []) n u.taken)
      → IsViewOf (events ++ event ∷ []) w u
  told_mine event u known own log named unsaid more taken apart ended =
      record {
        number = λ n. ap (λ (x : Log). x.number) log ∙ told.number known;
        since = told.since ++ event ∷ [];
        goes_on = ap (λ xs. xs ++ event ∷ []) told.goes_on ∙ append_assoc v.log.story told.since (event ∷ [])
            ∙ ap (λ (x : Log). x.story ++ (told.since ++ event ∷ [])) (sym log);
        unsaid = deeds_on w told.since (event ∷ []) ∙ (λ k. told.unsaid k ++ one_deed w event own k) ∙ sym unsaid;
        taken = (more, taken);
        fresh = λ new. absurd (false≢true (sym new ∙ named));
        leads =
            λ n none. absurd (omega (arith, ap length (sym unsaid ∙ none), length-append v.unsaid (event.kind ∷ [])));
        apart = apart;
        ended = λ n. ended;
      }

  -- the view holds after its slot went home
  pub told_free : IsViewOf events w (free v)
  told_free = grind arith

  -- once its log has all events and `more`, the worker did what it had noted and its deeds in `more`
  did_now : v.named ≡ true → (more : List Event) → Did v.log (v.unsaid ++ deeds w more) (log_of w (events ++ more))
  did_now known more = (
    told.since ++ more,
    (λ k. record {
      number = sym (told.number known) k;
      story = (ap (λ xs. xs ++ more) told.goes_on ∙ append_assoc v.log.story told.since more) k;
    }),
    ap (λ n. deeds n (told.since ++ more)) (told.number known) ∙ deeds_on w told.since more
        ∙ ap (λ ks. ks ++ deeds w more) told.unsaid,
  )

  -- if its log gets all events and one more of its own, a worker that had noted nothing did that one; if its log gets
  -- all events, the worker did what it had noted
  pub did_one : v.named ≡ true → v.unsaid ≡ [] → (kind : Kind)
      → Did v.log (kind ∷ []) (log_of w (and_then events w kind))
  did_one known none_left kind =
      let event : Event = record { worker = w; kind = kind } in
      let all = did_now known (event ∷ []) in
      (all.0, all.1, all.2 ∙ (λ k. none_left k ++ one_deed w event refl k))

  pub did_none : v.named ≡ true → Did v.log v.unsaid (log_of w events)
  did_none known =
      let all = did_now known [] in
      (all.0, ap (log_of w) (sym (append-nil events)) ∙ all.1, all.2 ∙ append-nil v.unsaid)

-- a view whose log has all events holds
pub told_now : (events : List Event) (w : ℕ) (v : SeatView) → LeadsToBook (log_of w events) v.book
    → IsViewOf events w (logged (log_of w events) v)
told_now events w v leads =
    record {
      number = λ n. refl;
      since = [];
      goes_on = sym (append-nil events);
      unsaid = refl;
      taken = (events, refl);
      fresh = λ new. absurd (false≢true (sym new));
      leads = λ n none. leads;
      apart = λ n is. absurd (none_some n is);
      ended = λ known n is. absurd (none_some n is);
    }

-- all views hold after one of them changed
pub told_set :
    (events : List Event) (views : List SeatView) (w : ℕ) (v : SeatView)
    → ((k : ℕ) (u : SeatView) → k ≢ w → get_elem? views k ≡ some u → 0 < u.book.account.share → IsViewOf events k u)
    → (0 < v.book.account.share → IsViewOf events w v)
    → AreViewsOf events (set views w v)
told_set events views w v others own k u at there =
    ⊎_elim
    (λ t. subst (λ x. IsViewOf events x u) (sym t.0)
    (subst (IsViewOf events w) t.1 (own (subst (λ (x : SeatView). 0 < x.book.account.share) (sym t.1) there))))
    (λ t. others k u t.0 t.1 there)
    (at_set views w k v u at)

-- the view of one worker changes
module _ (events : List Event) (views : List SeatView) (told : AreViewsOf events views) (w : ℕ) (u : SeatView) where
  -- all views hold after an event of the worker that its log has
  pub told_step : (kind : Kind) → LeadsToBook (log_of w (and_then events w kind)) u.book
      → AreViewsOf (and_then events w kind) (set views w (logged (log_of w (and_then events w kind)) u))
  told_step kind leads =
      told_set (and_then events w kind) views w (logged (log_of w (and_then events w kind)) u)
      (λ k x other at share. told_theirs events k x (told k x at share) (record { worker = w; kind = kind })
      (λ same. other (sym same))) (λ share. told_now (and_then events w kind) w u leads)

  -- all views hold after the worker's log was brought up to date
  pub told_seen : LeadsToBook (log_of w events) u.book → AreViewsOf events (set views w (logged (log_of w events) u))
  told_seen leads =
      told_set events views w (logged (log_of w events) u) (λ k x other at share. told k x at share)
      (λ share. told_now events w u leads)
