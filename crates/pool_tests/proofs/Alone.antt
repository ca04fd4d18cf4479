-- A worker with the whole share loses no push: no other worker does anything, and a loss is contested. This rests only
-- on the clauses of the calls, whatever the rule of the table.
use Rattle.std.proofs.Common.{◌≡◌, ℕ, zero, suc, ◌<◌, if◌then◌else◌, List, [], ◌∷◌, ◌++◌, Option, ap, sym, refl, subst}
use Rattle.std.proofs.Common.{◌∙◌, eq-eqb, arith}
use mathlib.Core.Option.{some-injective, some-ne-none}
use native.Mathlib.Decide.{ℕ_discrete}
use Rattle.tagged_index.specs.Head.{Head}
use Rattle.mark_core.specs.declared.which.Which.{Which}
use Rattle.mark_core.specs.declared.which.Which.TheVariants.{Full, Empty}
use Rattle.mark_core.specs.Lists.{StandsAt}
use Rattle.mark_core.specs.Shares.{whole}
use Rattle.mark_core.specs.Account.{Account, after_load}
use Rattle.mark_core.specs.World.{Setup, Marking, account_at, IsThere}
use Rattle.mark_core.specs.Events.{Event, Kind, Load, StoreLink, Fail, IsPossible, happens}
use Rattle.mark_core.specs.Runs.{Run, opening}
use Rattle.mark_core.specs.Counts.{LeadTo}
use Rattle.mark_core.specs.Conclusions.{Exchanges}
use Rattle.mark_core.specs.Law.{Law}
use Rattle.mark_core.proofs.Places.{at_get_or, set_here}
use Rattle.mark_core.proofs.Sums.{terms_le}
use Rattle.mark_core.proofs.Counting.{lawful_where}
use Rattle.mark_core.proofs.Runs.{happens_keeps}
use Rattle.mark_core.proofs.Contested.{losses_are_contested}
use Rattle.buffer_pool.specs.Book.{Book, loaded, failed}
use Rattle.buffer_pool.specs.Calls.{HeldBuffer, TriesPush}
use Rattle.buffer_pool.specs.Steps.{try_push_steps}
use Rattle.buffer_pool.specs.WorkerLog.{Log, Did, LeadsToBook, deeds}
use Rattle.pool_tests.specs.Forged.{WasNotLost}
use Rattle.buffer_pool.specs.declared.answers.TryPushed.{TryPushed}
use Rattle.buffer_pool.specs.declared.answers.TryPushed.TheVariants as try_push
use Rattle.buffer_pool.proofs.Loads.{is_loaded}

-- the account w has the whole share
record Alone (e : Setup) (w : ℕ) (m : Marking) : Type 0 where
  law : Law e m
  account : Account
  at : StandsAt m.accounts w account
  all : account.share ≡ whole

-- a run from where its first events lead
run_rest :
    (e : Setup) (xs ys : List Event) (first mid last : Marking) → Run e first xs mid → Run e first (xs ++ ys) last
    → Run e mid ys last
run_rest e [] ys first mid last here run = subst (λ x. Run e x ys last) (sym here) run
run_rest e (x ∷ xs) ys first mid last here run = run_rest e xs ys (happens first x) mid last here.1 run.1

same_kind : (k l : Kind) (ks ls : List Kind) → k ∷ ks ≡ l ∷ ls → k ≡ l
same_kind k l ks ls e = cc

same_kinds : (k l : Kind) (ks ls : List Kind) → k ∷ ks ≡ l ∷ ls → ks ≡ ls
same_kinds k l ks ls e = cc

no_kinds : (k : Kind) (ks : List Kind) → ◌≡◌ {A = List Kind} [] (k ∷ ks) → ⊥
no_kinds k ks e = cc

share_load : (q : Which) (h : Head) (a : Account) → (after_load q h a).share ≡ a.share
share_load Full h a = refl
share_load Empty h a = refl

module _ (e : Setup) (w : ℕ) where
  abbrev mine : Kind → Event
  mine kind = record { worker = w; kind = kind }

  -- nobody else does anything
  only_one : (m : Marking) (u : ℕ) (b : Account) → Alone e w m → IsThere m.accounts u b → u ≡ w
  only_one m u b alone there = go (ℕ_discrete u w)
    where
      go : Dec (u ≡ w) → u ≡ w
      go (yes same) = same
      go (no other) =
          let two = terms_le (λ (a : Account). a.share) m.accounts w u alone.account b other alone.at there.0 in
          absurd (omega (arith, two, alone.law.shared.sum, alone.all, there.1))

  -- so the first event is what the worker did first
  first_deed :
      (m last : Marking) (since : List Event) (k : Kind) (ks : List Kind) → Alone e w m → Run e m since last
      → deeds w since ≡ k ∷ ks
      → (rest : List Event) × (since ≡ mine k ∷ rest) × (deeds w rest ≡ ks)
  first_deed m last [] k ks alone run did = absurd (no_kinds k ks did)
  first_deed m last (event ∷ rest) k ks alone run did =
      let own : event.worker ≡ w = only_one m event.worker run.0.0 alone run.0.1 in
      let all : event.kind ∷ deeds w rest ≡ k ∷ ks =
      sym (ap (λ t. if t then event.kind ∷ deeds w rest else deeds w rest) (eq-eqb event.worker w own)) ∙ did in
      let kind : event.kind ≡ k = same_kind event.kind k (deeds w rest) ks all in
      (rest, (λ i. record { worker = own i; kind = kind i } ∷ rest), same_kinds event.kind k (deeds w rest) ks all)

  -- and the run goes on behind it
  next_deed :
      (m last : Marking) (since : List Event) (k : Kind) (ks : List Kind) → Alone e w m → Run e m since last
      → deeds w since ≡ k ∷ ks → (rest : List Event) × Run e m (mine k ∷ rest) last × (deeds w rest ≡ ks)
  next_deed m last since k ks alone run did =
      let first = first_deed m last since k ks alone run did in
      (first.0, subst (λ xs. Run e m xs last) first.1 run, first.2)

  load_alone :
      (m : Marking) (q : Which) → Alone e w m → IsPossible e m (mine (Load q)) → Alone e w (happens m (mine (Load q)))
  load_alone m q alone can =
      let a = account_at m.accounts w in
      let same : a ≡ alone.account = at_get_or m.accounts w alone.account _ alone.at in
      record {
        law = happens_keeps e m (mine (Load q)) alone.law can;
        account = after_load q (m.head q) a;
        at = set_here m.accounts w (after_load q (m.head q) a) alone.account alone.at;
        all = share_load q (m.head q) a ∙ ap (λ (x : Account). x.share) same ∙ alone.all;
      }

  store_alone :
      (m : Marking) (i : ℕ) (l : Option ℕ) → Alone e w m → IsPossible e m (mine (StoreLink i l))
      → Alone e w (happens m (mine (StoreLink i l)))
  store_alone m i l alone can =
      record {
        law = happens_keeps e m (mine (StoreLink i l)) alone.law can;
        account = alone.account;
        at = alone.at;
        all = alone.all;
      }

  -- it cannot have failed
  never_fails :
      (m last : Marking) (since : List Event) (q : Which) (i : ℕ) (l : Option ℕ) → Alone e w m → Run e m since last
      → deeds w since ≡ Load q ∷ StoreLink i l ∷ Fail q ∷ [] → ⊥
  never_fails m last since q i l alone run did =
      let one = next_deed m last since (Load q) (StoreLink i l ∷ Fail q ∷ []) alone run did in
      let m1 = happens m (mine (Load q)) in
      let alone1 = load_alone m q alone one.1.0 in
      let two = next_deed m1 last one.0 (StoreLink i l) (Fail q ∷ []) alone1 one.1.1 one.2 in
      let m2 = happens m1 (mine (StoreLink i l)) in
      let three = next_deed m2 last two.0 (Fail q) [] (store_alone m1 i l alone1 two.1.0) two.1.1 two.2 in
      let between = mine (StoreLink i l) ∷ [] in
      let found =
      losses_are_contested e m (happens m2 (mine (Fail q))) w q between (one.1.0, (two.1.0, (three.1.0, refl)))
      (λ k event at own. let is = stored i l k event at in (
        (λ loads. store_no_load i l q (sym is ∙ loads)),
        (λ exchanges. subst (Exchanges q) is exchanges),
      )) in
      found.3 (whose i l found.0 found.1 found.2)
    where
      stored :
          (i : ℕ) (l : Option ℕ) (k : ℕ) (event : Event) → StandsAt (mine (StoreLink i l) ∷ []) k event
          → event.kind ≡ StoreLink i l
      stored i l zero event at = ap (λ (x : Event). x.kind) (sym (some-injective (mine (StoreLink i l)) event at))
      stored i l (suc k) event at = absurd (some-ne-none event (sym at))

      whose :
          (i : ℕ) (l : Option ℕ) (k : ℕ) (event : Event) → StandsAt (mine (StoreLink i l) ∷ []) k event
          → event.worker ≡ w
      whose i l zero event at = ap (λ (x : Event). x.worker) (sym (some-injective (mine (StoreLink i l)) event at))
      whose i l (suc k) event at = absurd (some-ne-none event (sym at))

      store_no_load : (i : ℕ) (l : Option ℕ) (q : Which) → StoreLink i l ≡ Load q → ⊥
      store_no_load i l q e = cc

lost_alone :
    (a b : Log) (old new : Book) (q : Which) (head : Head) (i : ℕ) (link : Option ℕ) → 0 < old.setup.buffers
    → old.account.share ≡ whole
    → LeadsToBook a old → new ≡ failed (loaded q head old) → Did a (Load q ∷ StoreLink i link ∷ Fail q ∷ []) b
    → LeadsToBook b new → ⊥
lost_alone a b old new q head i link some_buffer all first is did second =
    let e = old.setup in
    let setup : new.setup ≡ e = ap (λ (c : Book). c.setup) is ∙ (is_loaded q head old).setup in
    let led : LeadTo e b.story second.0 second.1 =
    subst (λ (f : Setup). LeadTo f b.story second.0 second.1) setup second.2 in
    let story : b.story ≡ a.story ++ did.0 = ap (λ (x : Log). x.story) did.1 in
    let run : Run e (opening e e.first_tag) (a.story ++ did.0) second.0 =
    subst (λ xs. Run e (opening e e.first_tag) xs second.0) story led.run in
    let law = lawful_where e a.story first.0 first.1 some_buffer first.2 in
    let alone : Alone e a.number first.0 = record { law = law; account = old.account; at = first.3; all = all } in
    never_fails e a.number first.0 second.0 did.0 q i link alone
    (run_rest e a.story did.0 (opening e e.first_tag) first.0 second.0 first.2.run run) did.2

pub was_not_lost :
    (a b : Log) (old new : Book) (q : Which) (h : HeldBuffer) (result : TryPushed HeldBuffer) → 0 < old.setup.buffers
    → old.account.share ≡ whole
    → LeadsToBook a old → TriesPush q h old new result → (link : Option ℕ) × Did a (try_push_steps q h link result) b
    → LeadsToBook b new → WasNotLost result
was_not_lost a b old new q h try_push.Done some_buffer all first pushes did second = tt
was_not_lost a b old new q h (try_push.Spent back) some_buffer all first pushes did second = tt
was_not_lost a b old new q h (try_push.Lost back) some_buffer all first pushes did second =
    lost_alone a b old new q pushes.0 h.index did.0 some_buffer all first pushes.3 did.1 second
