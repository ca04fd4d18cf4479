-- Heads along a run: which heads accounts have loaded, and that a failed exchange or an open push requires a changed
-- head.
use Rattle.std.proofs.Common.{◌≡◌, ◌⊎◌, ℕ, zero, suc, ◌<◌, ◌≤◌, Bool, true, false, ◌&&◌, is_some, List, [], ◌∷◌}
use Rattle.std.proofs.Common.{Option, Some, None, slice_index_or, ap, sym, refl, subst, ◌∙◌, inl, inr}
use Rattle.std.proofs.Common.{⊎_elim, arith}
use Rattle.std.proofs.lemmas.Bool.{false≢true, cases_lt, or_cases}
use native.Mathlib.Decide.{dec_le}
use Rattle.tagged_index.specs.Head.{Head}
use Rattle.mark_core.proofs.Words.{Which, Full, Empty, StandsAt, Account, look_of, part, no_share, Setup, Marking}
use Rattle.mark_core.proofs.Words.{account_at, Kind, Split, Join, Load, LoadLink, StoreLink, Pop, Push, Fail, LoadIdle}
use Rattle.mark_core.proofs.Words.{Event, Allows, IsPossible, effect, happens, whole, Run, first_heads, opening, Counts}
use Rattle.mark_core.proofs.Words.{LeadTo, add_counts, all_counted, count_load, counted, counts_at, no_counts}
use Rattle.mark_core.proofs.Words.{FirstTagsAreFirst, HadHead, HasChanged, LoadedHeadsWere, PushesFollowChanges}
use Rattle.mark_core.proofs.Places.{OfEach, set_all, push_all, one_all}
use Rattle.mark_core.proofs.Happens.{happens_as, tried}
use Rattle.mark_core.proofs.Changes.{tags_rise}

-- what is read from a list at any place satisfies P, if each element and the default do
module _ {X : Type 0} (P : X → Type 0) where
  or_default : (xs : List X) (k : ℕ) (d : X) → OfEach P xs → P d → P (slice_index_or xs k d)
  or_default [] k d all none = none
  or_default (x ∷ xs) zero d all none = all 0 x refl
  or_default (x ∷ xs) (suc k) d all none = or_default xs k d (λ j y at. all (suc j) y at) none

-- the heads of both stacks that an account loaded last, if any, satisfy S
module _ (S : Which → Head → Type 0) where
  abbrev Knows : Account → Type 0
  Knows a = ((h : Head) → a.full.head ≡ Some h → S Full h) × ((h : Head) → a.empty.head ≡ Some h → S Empty h)

  knows_look : (a : Account) (q : Which) (h : Head) → Knows a → (look_of a q).head ≡ Some h → S q h
  knows_look a Full h knows last = knows.0 h last
  knows_look a Empty h knows last = knows.1 h last

  loaded_one : (q : Which) (g h : Head) → S q g → Some g ≡ Some h → S q h
  loaded_one q g h here same = let e : g ≡ h = cc in subst (S q) e here

  nothing_loaded : (q : Which) (h : Head) → ◌≡◌ {A = Option Head} None (Some h) → S q h
  nothing_loaded q h e = let f : ⊥ = cc in absurd f

  knows_nothing : (units : ℕ) → Knows (part units)
  knows_nothing units = (nothing_loaded Full, nothing_loaded Empty)

  -- an event keeps this of all accounts if the heads before it satisfy S
  effect_knows : (m : Marking) (w : ℕ) (a : Account) (kind : Kind) → OfEach Knows m.accounts → Knows a
      → ((q : Which) → S q (m.head q)) → OfEach Knows (effect m w a kind).accounts
  effect_knows m w a (Split units) all own heads =
      push_all Knows _ (part units) (set_all Knows m.accounts w _ all own) (knows_nothing units)
  effect_knows m w a (Join v) all own heads =
      set_all Knows _ v no_share (set_all Knows m.accounts w _ all own) (knows_nothing 0)
  effect_knows m w a (Load Full) all own heads =
      set_all Knows m.accounts w _ all ((λ h e. loaded_one Full (m.head Full) h (heads Full) e), own.1)
  effect_knows m w a (Load Empty) all own heads =
      set_all Knows m.accounts w _ all (own.0, (λ h e. loaded_one Empty (m.head Empty) h (heads Empty) e))
  effect_knows m w a (LoadLink Full) all own heads = set_all Knows m.accounts w _ all own
  effect_knows m w a (StoreLink i l) all own heads = all
  effect_knows m w a (Pop q) all own heads =
      tried (λ (n : Marking). OfEach Knows n.accounts) m w a q all (λ i l. set_all Knows m.accounts w _ all own)
  effect_knows m w a (Fail q) all own heads = all
  effect_knows m w a _ all own heads = set_all Knows m.accounts w _ all own

  happens_knows : (e : Setup) (m : Marking) (event : Event) → IsPossible e m event → OfEach Knows m.accounts
      → ((q : Which) → S q (m.head q)) → OfEach Knows (happens m event).accounts
  happens_knows e m event can all heads =
      subst (λ (n : Marking). OfEach Knows n.accounts) (sym (happens_as e m event can))
      (effect_knows m event.worker can.0 event.kind all (all event.worker can.0 can.1.0) heads)

run_knows :
    (S : Which → Head → Type 0) (e : Setup) (events : List Event) (first last : Marking)
    → ((q : Which) (h : Head) → HadHead first events q h → S q h) → Run e first events last
    → OfEach (Knows S) first.accounts → OfEach (Knows S) last.accounts
run_knows S e [] first last had run all = subst (λ (m : Marking). OfEach (Knows S) m.accounts) (sym run) all
run_knows S e (event ∷ events) first last had run all =
    run_knows S e events (happens first event) last (λ q h k. had q h (inr k)) run.1
    (happens_knows S e first event run.0 all (λ q. had q (first.head q) (inl refl)))

-- at the opening no account has loaded a head
opening_knows : (S : Which → Head → Type 0) (e : Setup) → OfEach (Knows S) (opening e e.first_tag).accounts
opening_knows S e = one_all (Knows S) (part whole) (knows_nothing S whole)

pub loaded_heads_were : LoadedHeadsWere
loaded_heads_were e events m run w a q h at last =
    let S : Which → Head → Type 0 = HadHead (opening e e.first_tag) events in
    knows_look S a q h (run_knows S e events (opening e e.first_tag) m (λ p g k. k) run (opening_knows S e) w a at) last

-- if a failed exchange is counted, C holds. An event keeps this if C holds whenever the event is a failed exchange
module _ (C : Type 0) where
  abbrev Failed : Counts → Type 0
  Failed c = 0 < c.failures → C

  load_fails_not : (q : Which) (h : Head) (c : Counts) → Failed c → Failed (count_load q h c)
  load_fails_not Full h c was = was
  load_fails_not Empty h c was = was

  at_fails : (counts : List Counts) (w : ℕ) → OfEach Failed counts → Failed (counts_at counts w)
  at_fails counts w all = or_default Failed counts w no_counts all (λ h. absurd (omega (arith, h)))

  counted_fails : (m : Marking) (counts : List Counts) (w : ℕ) (kind : Kind) → OfEach Failed counts
      → ((q : Which) → kind ≡ Fail q → C) → OfEach Failed (counted m counts w kind)
  counted_fails m counts w (Load q) all fail =
      set_all Failed counts w _ all (load_fails_not q (m.head q) (counts_at counts w) (at_fails counts w all))
  counted_fails m counts w (Fail q) all fail = set_all Failed counts w _ all (λ h. fail q refl)
  counted_fails m counts w (Split units) all fail =
      push_all Failed counts no_counts all (λ h. absurd (omega (arith, h)))
  counted_fails m counts w (Join v) all fail =
      set_all Failed _ v no_counts
      (set_all Failed counts w _ all
      (both (counts_at counts w) (counts_at counts v) (at_fails counts w all) (at_fails counts v all)))
      (λ h. absurd (omega (arith, h)))
    where
      both : (a b : Counts) → Failed a → Failed b → Failed (add_counts a b)
      both a b first second h = go (dec_le 1 a.failures)
        where
          go : Dec (1 ≤ a.failures) → C
          go (yes some) = first some
          go (no none) = second (omega (arith, h, none))
  counted_fails m counts w LoadIdle all fail = set_all Failed counts w _ all (at_fails counts w all)
  counted_fails m counts w _ all fail = all

  -- if an account has an open push, C holds. An event keeps this if C holds whenever the event is a push on full
  abbrev Pushed : Account → Type 0
  Pushed a = a.open_push ≡ true → C

  and_left : (a b : Bool) → a && b ≡ true → a ≡ true
  and_left true b h = refl
  and_left false b h = h

  effect_pushed :
      (m : Marking) (w : ℕ) (a : Account) (kind : Kind) → OfEach Pushed m.accounts → Pushed a
      → ((v : ℕ) → Pushed (account_at m.accounts v)) → ((i : ℕ) (items : List ℕ) → kind ≡ Push Full i items → C)
      → OfEach Pushed (effect m w a kind).accounts
  effect_pushed m w a (Split units) all own others push =
      push_all Pushed _ (part units) (set_all Pushed m.accounts w _ all own) (λ h. absurd (false≢true h))
  effect_pushed m w a (Join v) all own others push =
      set_all Pushed _ v no_share
      (set_all Pushed m.accounts w _ all (λ h. ⊎_elim own (others v) (or_cases a.open_push _ h)))
      (λ h. absurd (false≢true h))
  effect_pushed m w a (Load Full) all own others push =
      set_all Pushed m.accounts w _ all (λ h. own (and_left a.open_push (is_some (m.head Full).index) h))
  effect_pushed m w a (LoadLink Full) all own others push = set_all Pushed m.accounts w _ all own
  effect_pushed m w a (StoreLink i l) all own others push = all
  effect_pushed m w a (Pop q) all own others push =
      tried (λ (n : Marking). OfEach Pushed n.accounts) m w a q all (λ i l. set_all Pushed m.accounts w _ all own)
  effect_pushed m w a (Push Full i items) all own others push =
      set_all Pushed m.accounts w _ all (λ h. push i items refl)
  effect_pushed m w a (Fail q) all own others push = all
  effect_pushed m w a _ all own others push = set_all Pushed m.accounts w _ all own

-- a head of stack q: its tag is at least the first tag, and if it has the first tag it is the first head
abbrev IsFirstOr : Setup → Which → Head → Type 0
IsFirstOr e q h = (e.first_tag ≤ h.tag) × (h.tag ≡ e.first_tag → h ≡ first_heads e.first_tag q)

-- `IsFirstOr` holds of the head, and its tag is at most that of the stack's current head
abbrev WasSeen : Setup → Marking → Which → Head → Type 0
WasSeen e m q h = IsFirstOr e q h × (h.tag ≤ (m.head q).tag)

abbrev SomeChanged : Setup → Marking → Type 0
SomeChanged e m = HasChanged e m Full ⊎ HasChanged e m Empty

-- what holds of each marking of a run and its counts
pub record Firsts (e : Setup) (m : Marking) (counts : List Counts) : Type 0 where
  pub heads : (q : Which) → IsFirstOr e q (m.head q)
  pub looks : OfEach (Knows (WasSeen e m)) m.accounts
  pub failures : OfEach (Failed (SomeChanged e m)) counts
  pub pushes : OfEach (Pushed (HasChanged e m Full)) m.accounts

one_changed : (e : Setup) (m : Marking) (q : Which) → HasChanged e m q → SomeChanged e m
one_changed e m Full h = inl h
one_changed e m Empty h = inr h

module _ (e : Setup) (m : Marking) (counts : List Counts) (event : Event) (can : IsPossible e m event)
    (was : Firsts e m counts) where
  abbrev now : Marking
  now = happens m event

  rises : (q : Which) → (m.head q).tag ≤ (now.head q).tag
  rises q = ⊎_elim (λ same. omega (arith, ap (λ (h : Head). h.tag) same)) (λ up. omega (arith, up))
      (tags_rise m event q)

  heads_now : (q : Which) → IsFirstOr e q (now.head q)
  heads_now q = ⊎_elim (λ same. subst (IsFirstOr e q) (sym same) (was.heads q))
      (λ up. (omega (arith, up, (was.heads q).0), (λ first. absurd (omega (arith, first, up, (was.heads q).0)))))
      (tags_rise m event q)

  still : (q : Which) → HasChanged e m q → HasChanged e now q
  still q h = omega (arith, h, rises q)

  seen_still : (q : Which) (h : Head) → WasSeen e m q h → WasSeen e now q h
  seen_still q h seen = (seen.0, omega (arith, seen.1, rises q))

  looks_now : OfEach (Knows (WasSeen e now)) now.accounts
  looks_now =
      happens_knows (WasSeen e now) e m event can
      (λ k a at. let old = was.looks k a at in
      ((λ h l. seen_still Full h (old.0 h l)), (λ h l. seen_still Empty h (old.1 h l))))
      (λ q. (was.heads q, rises q))

  some_still : SomeChanged e m → SomeChanged e now
  some_still some = ⊎_elim (λ h. inl (still Full h)) (λ h. inr (still Empty h)) some

  -- a failed exchange found another head than the loaded one, so the two are not both the first
  failed_now : (q : Which) → event.kind ≡ Fail q → SomeChanged e now
  failed_now q is =
      ⊎_elim (λ above. some_still (one_changed e m q above))
      (λ low.
      let seen = knows_look (WasSeen e m) can.0 q may.0 (was.looks event.worker can.0 can.1.0) may.1 in
      let first = was.heads q in
      let here : m.head q ≡ first_heads e.first_tag q = first.1 (omega (arith, low, first.0)) in
      let there : may.0 ≡ first_heads e.first_tag q = seen.0.1 (omega (arith, low, seen.0.0, seen.1)) in
      absurd (may.2 (here ∙ sym there)))
      (cases_lt e.first_tag (m.head q).tag)
    where
      may : Allows e m event.worker can.0 (Fail q)
      may = subst (Allows e m event.worker can.0) is can.2

  failures_now : OfEach (Failed (SomeChanged e now)) (counted m counts event.worker event.kind)
  failures_now = counted_fails (SomeChanged e now) m counts event.worker event.kind
      (λ k c at h. some_still (was.failures k c at h)) failed_now

  pushes_now : OfEach (Pushed (HasChanged e now Full)) now.accounts
  pushes_now =
      effect_pushed (HasChanged e now Full) m event.worker
      (account_at m.accounts event.worker) event.kind old (others event.worker) others
      (λ i items is. subst
      (λ k. e.first_tag < ((effect m event.worker (account_at m.accounts event.worker) k).head Full).tag)
      (sym is) (omega (arith, (was.heads Full).0)))
    where
      old : OfEach (Pushed (HasChanged e now Full)) m.accounts
      old k a at h = still Full (was.pushes k a at h)

      others : (v : ℕ) → Pushed (HasChanged e now Full) (account_at m.accounts v)
      others v = or_default (Pushed (HasChanged e now Full)) m.accounts v no_share old
          (λ h. absurd (false≢true h))

  firsts_next : Firsts e now (counted m counts event.worker event.kind)
  firsts_next = record { heads = heads_now; looks = looks_now; failures = failures_now; pushes = pushes_now }

module _ (e : Setup) where
  firsts_run : (events : List Event) (first last : Marking) (counts : List Counts) → Firsts e first counts
      → Run e first events last → Firsts e last (all_counted first counts events)
  firsts_run [] first last counts was run = subst (λ (m : Marking). Firsts e m counts) (sym run) was
  firsts_run (event ∷ events) first last counts was run =
      firsts_run events (happens first event) last (counted first counts event.worker event.kind)
      (firsts_next e first counts event run.0 was) run.1

  -- each head that a stack had satisfies `IsFirstOr`
  had_first :
      (events : List Event) (first last : Marking) (counts : List Counts) (q : Which) (h : Head) → Firsts e first counts
      → Run e first events last → HadHead first events q h → IsFirstOr e q h
  had_first [] first last counts q h was run had = subst (IsFirstOr e q) had (was.heads q)
  had_first (event ∷ events) first last counts q h was run had =
      ⊎_elim (λ here. subst (IsFirstOr e q) here (was.heads q))
      (λ later. had_first events (happens first event) last (counted first counts event.worker event.kind) q h
      (firsts_next e first counts event run.0 was) run.1 later) had

firsts_open : (e : Setup) → Firsts e (opening e e.first_tag) (no_counts ∷ [])
firsts_open e =
    record {
      heads = heads;
      looks = opening_knows (WasSeen e (opening e e.first_tag)) e;
      failures = one_all (Failed _) no_counts (λ h. absurd (omega (arith, h)));
      pushes = one_all (Pushed _) (part whole) (λ h. absurd (false≢true h));
    }
  where
    heads : (q : Which) → IsFirstOr e q (first_heads e.first_tag q)
    heads Full = (omega arith, (λ same. refl))
    heads Empty = (omega arith, (λ same. refl))

pub first_tags_are_first : FirstTagsAreFirst
first_tags_are_first e events m run q h had same =
    (had_first e events (opening e e.first_tag) m (no_counts ∷ []) q h (firsts_open e) run had).1 same

pub firsts_where : (e : Setup) (events : List Event) (m : Marking) (counts : List Counts) → LeadTo e events m counts
    → Firsts e m counts
firsts_where e events m counts led =
    subst (Firsts e m) (sym led.counts)
    (firsts_run e events (opening e e.first_tag) m (no_counts ∷ []) (firsts_open e) led.run)

-- an account counts a failed exchange only if a head has changed
pub failures_follow_changes :
    (e : Setup) (events : List Event) (m : Marking) (counts : List Counts) → LeadTo e events m counts
    → (w : ℕ) (c : Counts) → StandsAt counts w c → 0 < c.failures → HasChanged e m Full ⊎ HasChanged e m Empty
failures_follow_changes e events m counts led w c at some = (firsts_where e events m counts led).failures w c at some

pub pushes_follow_changes : PushesFollowChanges
pushes_follow_changes e events m counts led w a at open_one =
    (firsts_where e events m counts led).pushes w a at open_one
