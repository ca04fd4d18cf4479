-- What is known of idle accounts after each event of a run, and that a quiet marking has no work left.
use Rattle.std.proofs.Common.{◌≡◌, ◌≢◌, ◌⊎◌, ℕ, zero, suc, ◌+◌, ◌-◌, ◌%◌, ◌^◌, ◌<◌, ◌≤◌, Bool, true, false, ◌||◌}
use Rattle.std.proofs.Common.{is_none, List, [], ◌∷◌, ◌++◌, length, length-set, Option, Some, None, Contains, set}
use Rattle.std.proofs.Common.{slice_index_or, ap, sym, refl, subst, ◌∙◌, inl, inr, ⊎_elim, arith}
use Rattle.std.proofs.lemmas.Bool.{false≢true, or_left, or_parts}
use mathlib.Core.Option.{some-injective, some-ne-none}
use native.Mathlib.Decide.{ℕ_discrete}
use Rattle.mark_core.proofs.Words.{Which, Full, Empty, StandsAt, sum_of, without, Account, part, no_share, after_finish}
use Rattle.mark_core.proofs.Words.{after_split, after_join, after_load, after_pop, after_push, after_idle_up}
use Rattle.mark_core.proofs.Words.{after_idle_down, Setup, Marking, items_of, IsThere, Kind, Claim, Finish, Split, Join}
use Rattle.mark_core.proofs.Words.{Load, LoadLink, StoreLink, Pop, Push, Fail, IdleUp, IdleDown, Event, IsBusy, Allows}
use Rattle.mark_core.proofs.Words.{IsPossible, effect, happens, stack_popped, word_up, word_down, whole, IsRun, opening}
use Rattle.mark_core.proofs.Words.{HasGivenUnits, QuietIsDone}
use Rattle.mark_core.proofs.Places.{at_below, at_get_or, set_here, set_else, set_all, push_all}
use Rattle.mark_core.proofs.Places.{set_at, push_at, set_back, one_all}
use Rattle.mark_core.proofs.Happens.{happens_as, pops_as, along}
use Rattle.mark_core.proofs.Sums.{sum_of-set, sum_of-append, term_le}
use Rattle.mark_core.proofs.Chains.{chain_none}
use Rattle.mark_core.proofs.Runs.{runs_keep_law}

-- an account that was not joined has a share. It is not idle, or it is idle with one unit and an empty charge, and has
-- found the full stack empty
abbrev pub IsResting : Account → Type 0
IsResting a =
    a.joined ≡ false
    → (0 < a.share) × ((a.idle ≡ 0) ⊎ ((a.idle ≡ 1) × (a.share ≡ 1) × (a.charge ≡ []) × (a.found ≡ true)))

-- no account was joined. The first account has pushed nothing on full since it first gave units away. There are other
-- accounts, and each of them has found the full stack empty
pub record HaveFound (accounts : List Account) : Type 0 where
  pub apart : (k : ℕ) (a : Account) → StandsAt accounts k a → a.joined ≡ false
  pub opening : (k : ℕ) (a : Account) → StandsAt accounts k a → k ≡ 0 → a.pushed ≡ false
  pub another : 1 < length accounts
  pub others : (k : ℕ) (a : Account) → StandsAt accounts k a → 0 < k → a.found ≡ true

-- the first account gave units away if there is another account and the first was not joined
abbrev pub HasParted : ℕ → ℕ → Account → Type 0
HasParted many k a = k ≡ 0 → 1 < many → a.joined ≡ false → a.parted ≡ true

abbrev pub idle_sum : List Account → ℕ
idle_sum accounts = sum_of (λ a. a.idle) accounts

-- the idle word is the sum of the idle numbers modulo 2 ^ 64, and the full stack is empty if `HaveFound` holds
pub record IsHushed (idle : ℕ) (top : Option ℕ) (accounts : List Account) : Type 0 where
  pub counted : idle ≡ idle_sum accounts % 2 ^ 64
  pub resting : (k : ℕ) (a : Account) → StandsAt accounts k a → IsResting a
  pub parted : (k : ℕ) (a : Account) → StandsAt accounts k a → HasParted (length accounts) k a
  pub emptied : HaveFound accounts → top ≡ None

at_end : {X : Type 0} (xs : List X) (y : X) → StandsAt (xs ++ y ∷ []) (length xs) y
at_end [] y = refl
at_end (x ∷ xs) y = at_end xs y

or_none : (x : Bool) (n : Option ℕ) (i : ℕ) → n ≡ Some i → x || is_none n ≡ true → x ≡ true
or_none true n i some t = refl
or_none false n i some t = let f : false ≡ true = sym (ap is_none some) ∙ t in absurd (false≢true f)

-- `IsResting` still holds of the account that acts after an event that keeps its share and its idle number, in each of
-- the cases below
module _
    (a b : Account) (rest : IsResting a)
    (share : b.share ≡ a.share) (idle : b.idle ≡ a.idle) (joined : b.joined ≡ a.joined) where
  -- the charge is the same, and `found` stays true if it was true
  same_rest : b.charge ≡ a.charge → (a.found ≡ true → b.found ≡ true) → IsResting b
  same_rest charge found alone =
      let r = rest (sym joined ∙ alone) in (
        omega (arith, r.0, share),
        ⊎_elim (λ z. inl (idle ∙ z)) (λ o. inr (idle ∙ o.0, share ∙ o.1, charge ∙ o.2, found o.3)) r.1,
      )

  -- the account is not idle
  busy_rest : IsBusy a → IsResting b
  busy_rest busy alone =
      let r = rest (sym joined ∙ alone) in (
        omega (arith, r.0, share),
        ⊎_elim (λ z. inl (idle ∙ z)) (λ o. ⊎_elim (λ n. absurd (n o.1)) (λ z. inl (idle ∙ z)) busy) r.1,
      )

  -- the charge is not empty
  charged_rest : (x : ℕ) → Contains a.charge x → IsResting b
  charged_rest x here alone =
      let r = rest (sym joined ∙ alone) in
      let not : a.charge ≡ [] → ⊥ =
      λ none. let inside : Contains [] x = subst (λ xs. Contains xs x) none here in omega (arith, inside.1) in
      (omega (arith, r.0, share), ⊎_elim (λ z. inl (idle ∙ z)) (λ o. absurd (not o.2)) r.1)

-- what is known between two events
abbrev pub Hushed : Marking → Type 0
Hushed m = IsHushed m.idle (m.head Full).index m.accounts

-- the idle word is still the sum modulo 2 ^ 64 after both were raised or lowered by one
up_counted : (idle n k : ℕ) → idle ≡ n % 2 ^ 64 → k ≡ n + 1 → (idle + 1) % 2 ^ 64 ≡ k % 2 ^ 64
up_counted idle n k counted more = omega (arith, counted, more)

down_counted : (idle n k : ℕ) → idle ≡ n % 2 ^ 64 → k + 1 ≡ n → (idle + (2 ^ 64 - 1)) % 2 ^ 64 ≡ k % 2 ^ 64
down_counted idle n k counted less = omega (arith, counted, less)

module _ (e : Setup) (m : Marking) (s : Hushed m) (w : ℕ) (a : Account) (there : IsThere m.accounts w a) where
  rest : IsResting a
  rest = s.resting w a there.0

  -- the account changes, and whether it is joined does not
  module _ (b : Account) (joined : b.joined ≡ a.joined) where
    abbrev now : List Account
    now = set m.accounts w b

    here : StandsAt now w b
    here = set_here m.accounts w b a there.0

    more_than_one : 1 < length now → 1 < length m.accounts
    more_than_one more = omega (arith, more, length-set m.accounts w b)

    -- if `HaveFound` holds after the event, it held before, so the full stack is still empty
    still_empty : b.pushed ≡ a.pushed → (b.found ≡ true → a.found ≡ true) → HaveFound now → (m.head Full).index ≡ None
    still_empty pushed found h =
        s.emptied (record {
          apart = set_back (λ k x. x.joined ≡ false) m.accounts w a b there.0 h.apart (λ p. sym joined ∙ p);
          opening =
              set_back (λ k x. k ≡ 0 → x.pushed ≡ false) m.accounts w a b there.0 h.opening
              (λ was e. sym pushed ∙ was e);
          another = more_than_one h.another;
          others =
              set_back (λ k x. 0 < k → x.found ≡ true) m.accounts w a b there.0 h.others
              (λ was later. found (was later));
        })

    -- `IsHushed` holds after the account's idle number or the head of the full stack changed, if `parted` is as before
    change :
        (idle : ℕ) (top : Option ℕ) → idle ≡ idle_sum now % 2 ^ 64 → IsResting b → b.parted ≡ a.parted
        → (HaveFound now → top ≡ None) → IsHushed idle top now
    change idle top counted rests parted emptied =
        record {
          counted = counted;
          resting = set_all IsResting m.accounts w b s.resting rests;
          parted =
              set_at (HasParted (length now)) m.accounts w b
              (λ k x n at e more alone. s.parted k x at e (more_than_one more) alone)
              (λ e more alone. parted ∙ s.parted w a there.0 e (more_than_one more) (sym joined ∙ alone));
          emptied = emptied;
        }

    same_count : b.idle ≡ a.idle → m.idle ≡ idle_sum now % 2 ^ 64
    same_count same =
        let sums : idle_sum m.accounts ≡ idle_sum now =
        omega (arith, same, sum_of-set (λ (x : Account). x.idle) m.accounts w a b there.0) in
        s.counted ∙ ap (λ n. n % 2 ^ 64) sums

    -- `IsHushed` still holds if the account keeps its idle number, `parted`, `pushed` and `found`
    keep :
        b.idle ≡ a.idle → IsResting b → b.parted ≡ a.parted → b.pushed ≡ a.pushed → b.found ≡ a.found
        → IsHushed m.idle (m.head Full).index now
    keep same rests parted pushed found =
        change m.idle (m.head Full).index (same_count same) rests parted (still_empty pushed (λ p. sym found ∙ p))

    -- after a push on full `HaveFound` does not hold
    push_full :
        (top : Option ℕ) → b.idle ≡ a.idle → IsResting b → b.parted ≡ a.parted → b.pushed ≡ (a.pushed || a.parted)
        → b.found ≡ false → IsHushed m.idle top now
    push_full top same rests parted pushed found =
        change m.idle top (same_count same) rests parted (λ h. absurd (not_found h (ℕ_discrete 0 w)))
      where
        not_found : HaveFound now → Dec (0 ≡ w) → ⊥
        not_found h (yes e) =
            let apart : a.joined ≡ false = sym joined ∙ h.apart w b here in
            let gave : a.parted ≡ true = s.parted w a there.0 (sym e) (more_than_one h.another) apart in
            false≢true (sym (or_parts a.pushed a.parted (sym pushed ∙ h.opening w b here (sym e))).1 ∙ gave)
        not_found h (no n) = false≢true (sym found ∙ h.others w b here (omega (arith, n)))

  -- `IsHushed` still holds if the account changes in nothing that `IsHushed` reads
  keep_all :
      (b : Account) → b.share ≡ a.share → b.idle ≡ a.idle → b.joined ≡ a.joined → b.charge ≡ a.charge
      → b.found ≡ a.found → b.parted ≡ a.parted → b.pushed ≡ a.pushed
      → IsHushed m.idle (m.head Full).index (set m.accounts w b)
  keep_all b share idle joined charge found parted pushed =
      keep b joined idle (same_rest a b rest share idle joined charge (λ h. found ∙ h)) parted pushed found

  -- `IsHushed` still holds if the account is not idle, and changes only in its charge among what `IsHushed` reads
  keep_busy :
      (b : Account) → IsBusy a → b.share ≡ a.share → b.idle ≡ a.idle → b.joined ≡ a.joined → b.parted ≡ a.parted
      → b.pushed ≡ a.pushed → b.found ≡ a.found → IsHushed m.idle (m.head Full).index (set m.accounts w b)
  keep_busy b busy share idle joined = keep b joined idle (busy_rest a b rest share idle joined busy)

  -- a split moves units to a new account, which has found nothing
  split_hushed : (units : ℕ) → 0 < units → units < a.share → Hushed (effect m w a (Split units))
  split_hushed units least less =
      record {
        counted = same_count b refl refl ∙ ap (λ n. n % 2 ^ 64) sums;
        resting =
            push_all IsResting fewer (part units) (set_all IsResting m.accounts w b s.resting rests)
            (λ alone. (least, inl refl));
        parted =
            push_at (HasParted _) fewer (part units) (set_at (HasParted _) m.accounts w b before (λ e more alone. refl))
            (λ e. absurd (omega (arith, e, long)));
        emptied = λ h. absurd (false≢true (h.others (length fewer) (part units) (at_end fewer (part units)) long));
      }
    where
      b : Account
      b = after_split units a

      fewer : List Account
      fewer = set m.accounts w b

      long : 0 < length fewer
      long = omega (arith, at_below m.accounts w a there.0, length-set m.accounts w b)

      sums : idle_sum fewer ≡ idle_sum (fewer ++ part units ∷ [])
      sums = omega (arith, sum_of-append (λ (x : Account). x.idle) fewer (part units ∷ []))

      rests : IsResting b
      rests alone =
          (omega (arith, less), ⊎_elim inl (λ o. absurd (omega (arith, o.1, least, less))) (rest alone).1)

      before :
          (k : ℕ) (x : Account) → k ≢ w → StandsAt m.accounts k x → HasParted (length (fewer ++ part units ∷ [])) k x
      before k x n at e more alone = s.parted k x at e (omega (arith, at_below m.accounts w a there.0, n, e)) alone

  -- a join puts two accounts together, and marks both as joined
  join_hushed :
      (v : ℕ) (b : Account) → v ≢ w → StandsAt m.accounts v b
      → IsHushed m.idle (m.head Full).index (set (set m.accounts w (after_join a b)) v no_share)
  join_hushed v b apart at =
      record {
        counted = s.counted ∙ ap (λ n. n % 2 ^ 64) sums;
        resting =
            set_all IsResting first v no_share (set_all IsResting m.accounts w both s.resting taken) taken;
        parted =
            set_at (HasParted _) first v no_share
            (λ k x n. set_at (HasParted _) m.accounts w both before (λ e more. taken) k x)
            (λ e more. taken);
        emptied = λ h. taken (h.apart v no_share (set_here first v no_share b still));
      }
    where
      both : Account
      both = after_join a b

      first : List Account
      first = set m.accounts w both

      second : List Account
      second = set first v no_share

      still : StandsAt first v b
      still = set_else m.accounts w v both apart ∙ at

      sums : idle_sum m.accounts ≡ idle_sum second
      sums =
          let idle_of : Account → ℕ = λ (x : Account). x.idle in
          omega (arith, sum_of-set idle_of m.accounts w a both there.0, sum_of-set idle_of first v b no_share still)

      taken : {A : Type 0} → true ≡ false → A
      taken alone = absurd (false≢true (sym alone))

      before : (k : ℕ) (x : Account) → k ≢ w → StandsAt m.accounts k x → HasParted (length second) k x
      before k x n at e more alone =
          s.parted k x at e (omega (arith, more, length-set first v no_share, length-set m.accounts w both)) alone

  load_hushed : Hushed (effect m w a (Load Full))
  load_hushed =
      change b refl m.idle (m.head Full).index (same_count b refl refl)
      (same_rest a b rest refl refl refl refl (or_left a.found (is_none (m.head Full).index))) refl
      (emptied (m.head Full).index refl)
    where
      b : Account
      b = after_load Full (m.head Full) a

      emptied :
          (n : Option ℕ) → (m.head Full).index ≡ n → HaveFound (set m.accounts w b) → (m.head Full).index ≡ None
      emptied None none h = none
      emptied (Some i) top h = still_empty b refl refl (or_none a.found (m.head Full).index i top) h

  pop_hushed :
      (q : Which) (i : ℕ) (l : Option ℕ) → (m.head q).index ≡ Some i → IsBusy a
      → Hushed (stack_popped m w a q (Some i) (Some l))
  pop_hushed Full i l top busy =
      let b = after_pop i (items_of (slice_index_or m.slots i None)) a in
      let emptied : HaveFound (set m.accounts w b) → l ≡ None =
      λ h. let none = still_empty b refl refl (λ p. p) h in let f : ⊥ = cc in absurd f in
      change b refl m.idle l (same_count b refl refl) (busy_rest a b rest refl refl refl busy) refl emptied
  pop_hushed Empty i l top busy = keep_busy _ busy refl refl refl refl refl refl

  push_hushed :
      (q : Which) (i : ℕ) (items : List ℕ) → (q ≡ Empty → items ≡ []) → (q ≡ Full → IsBusy a)
      → Hushed (effect m w a (Push q i items))
  push_hushed Full i items bare busy =
      let b = after_push Full i items a in
      push_full b refl (Some i) refl (busy_rest a b rest refl refl refl (busy refl)) refl refl refl
  push_hushed Empty i items bare busy = keep (after_push Empty i items a) refl refl resting refl refl refl
    where
      resting : IsResting (after_push Empty i items a)
      resting alone =
          let r = rest alone in
          let none : items ≡ [] = bare refl in
          (r.0, ⊎_elim inl (λ o. inr (o.0, o.1, ap (λ xs. without xs a.charge) none ∙ o.2, o.3)) r.1)

  effect_hushed : (kind : Kind) → Allows e m w a kind → Hushed (effect m w a kind)
  effect_hushed (Claim o) can = keep_busy _ can.1 refl refl refl refl refl refl
  effect_hushed (Finish o) can =
      let b = after_finish o a in
      keep b refl refl (charged_rest a b rest refl refl refl o can.0) refl refl refl
  effect_hushed (Split units) can = split_hushed units can.0 can.1
  effect_hushed (Join v) can =
      let After : Account → Type 0 =
      λ x. IsHushed m.idle (m.head Full).index (set (set m.accounts w (after_join a x)) v no_share) in
      subst After (sym (at_get_or m.accounts v can.1.0 no_share can.1.1.0)) (join_hushed v can.1.0 can.0 can.1.1.0)
  effect_hushed (Load Full) can = load_hushed
  effect_hushed (LoadLink Full) can = keep_all _ refl refl refl refl refl refl refl
  effect_hushed (StoreLink i l) can = s
  effect_hushed (Pop q) can =
      subst Hushed (sym (pops_as m w a q can.0)) (pop_hushed q can.0.1.0 can.0.2.0 can.0.1.1 can.1)
  effect_hushed (Push q i items) can = push_hushed q i items can.1.3 can.3
  effect_hushed (Fail q) can = s
  effect_hushed IdleUp can =
      let b = after_idle_up a in
      let sum = idle_sum m.accounts in
      let more : idle_sum (set m.accounts w b) ≡ sum + 1 =
      omega (arith, sum_of-set (λ (x : Account). x.idle) m.accounts w a b there.0) in
      change b refl (word_up m.idle) (m.head Full).index
      (up_counted m.idle sum (idle_sum (set m.accounts w b)) s.counted more)
      (λ alone. (there.1, inr (omega (arith, can.1), can.0, can.2, can.3))) refl
      (still_empty b refl refl (λ p. p))
  effect_hushed IdleDown can =
      let b = after_idle_down a in
      let sum = idle_sum m.accounts in
      let most = term_le (λ (x : Account). x.idle) m.accounts w a there.0 in
      let less : idle_sum (set m.accounts w b) + 1 ≡ sum =
      omega (arith, sum_of-set (λ (x : Account). x.idle) m.accounts w a b there.0, can.1, most) in
      change b refl (word_down m.idle) (m.head Full).index
      (down_counted m.idle sum (idle_sum (set m.accounts w b)) s.counted less)
      (λ alone. (there.1, inl (omega (arith, can.1)))) refl
      (still_empty b refl refl (λ p. p))
  effect_hushed _ can = keep_all _ refl refl refl refl refl refl refl

happens_hushed : (e : Setup) (m : Marking) (event : Event) → Hushed m → IsPossible e m event → Hushed (happens m event)
happens_hushed e m event s can =
    subst Hushed (sym (happens_as e m event can)) (effect_hushed e m s event.worker can.0 can.1 event.kind can.2)

opening_hushed : (e : Setup) (tag : ℕ) → Hushed (opening e tag)
opening_hushed e tag =
    record {
      counted = omega arith;
      resting = one_all IsResting (part whole) (λ apart. (omega arith, inl refl));
      parted = λ k x at e more apart. absurd (omega (arith, more));
      emptied = λ h. refl;
    }

pub run_is_hushed : (e : Setup) (m : Marking) → IsRun e m → Hushed m
run_is_hushed e m run =
    let opens = run.2 in
    along e Hushed (happens_hushed e) run.1 run.0 m (subst Hushed (sym opens.2) (opening_hushed e opens.0)) run.3

-- if no account was joined, each idle number is at most the account's share. If the sum of the idle numbers is then
-- that of the shares, the idle number of each account is its share
abbrev AllApart : List Account → Type 0
AllApart cs = (k : ℕ) (a : Account) → StandsAt cs k a → (a.joined ≡ false) × IsResting a

abbrev share_sum : List Account → ℕ
share_sum cs = sum_of (λ a. a.share) cs

one_le : (a : Account) → a.joined ≡ false → IsResting a → a.idle ≤ a.share
one_le a apart rest = ⊎_elim (λ z. omega (arith, z)) (λ o. omega (arith, o.0, o.1)) (rest apart).1

sum_le : (cs : List Account) → AllApart cs → idle_sum cs ≤ share_sum cs
sum_le [] all = omega arith
sum_le (a ∷ cs) all =
    omega (arith, one_le a (all 0 a refl).0 (all 0 a refl).1, sum_le cs (λ k b at. all (suc k) b at))

all_idle :
    (cs : List Account) → AllApart cs → idle_sum cs ≡ share_sum cs
    → (k : ℕ) (a : Account) → StandsAt cs k a → (a.charge ≡ []) × (a.found ≡ true)
all_idle [] all even k a at = absurd (some-ne-none a (sym at))
all_idle (b ∷ cs) all even zero a at =
    let r = (all 0 b refl).1 (all 0 b refl).0 in
    let same : b ≡ a = some-injective b a at in
    let rest = sum_le cs (λ k c f. all (suc k) c f) in
    ⊎_elim (λ z. absurd (omega (arith, z, r.0, even, rest)))
    (λ o. (sym (ap (λ (x : Account). x.charge) same) ∙ o.2, sym (ap (λ (x : Account). x.found) same) ∙ o.3)) r.1
all_idle (b ∷ cs) all even (suc k) a at =
    let first : b.idle ≤ b.share = one_le b (all 0 b refl).0 (all 0 b refl).1 in
    let rest : AllApart cs = λ j c f. all (suc j) c f in
    all_idle cs rest (omega (arith, even, first, sum_le cs rest)) k a at

module _ (idle n : ℕ) (top : Option ℕ) where
  quiet_list :
      (accounts : List Account) → IsHushed idle top accounts → share_sum accounts ≡ whole → 0 < n → idle ≡ n
      → ((k : ℕ) (a : Account) → StandsAt accounts k a → a.joined ≡ false)
      → ((a : Account) → StandsAt accounts 0 a → HasGivenUnits n a)
      → (top ≡ None) × ((k : ℕ) (a : Account) → 0 < k → StandsAt accounts k a → a.charge ≡ [])
  quiet_list [] s sum least word apart opening = absurd (omega (arith, sum))
  quiet_list (a ∷ cs) s sum least word apart opening =
      (s.emptied found, λ k b later at. (others k b at later).0)
    where
      o : HasGivenUnits n a
      o = opening a refl

      none : a.idle ≡ 0
      none =
          let rest = s.resting 0 a refl (apart 0 a refl) in
          ⊎_elim (λ z. z) (λ r. ⊎_elim (λ ne. absurd (ne r.1)) (λ z. z) o.busy) rest.1

      all : AllApart cs
      all k b at = (apart (suc k) b at, s.resting (suc k) b at)

      even : idle_sum cs ≡ share_sum cs
      even = omega (arith, s.counted, word, none, o.units, sum, sum_le cs all)

      longer : (bs : List Account) → 0 < share_sum bs → 1 < suc (length bs)
      longer [] h = absurd (omega arith)
      longer (b ∷ bs) h = omega arith

      others : (k : ℕ) (b : Account) → StandsAt (a ∷ cs) k b → 0 < k → (b.charge ≡ []) × (b.found ≡ true)
      others zero b at later = absurd (omega arith)
      others (suc k) b at later = all_idle cs all even k b at

      found : HaveFound (a ∷ cs)
      found =
          record {
            apart = apart;
            opening = λ k b at e. (opening b (subst (λ j. StandsAt (a ∷ cs) j b) e at)).pushed;
            another = longer cs (omega (arith, least, o.units, sum));
            others = λ k b at later. (others k b at later).1;
          }

pub quiet_is_done : QuietIsDone
quiet_is_done e m n run quiet =
    let law = runs_keep_law e m run in
    let hushed = run_is_hushed e m run in
    let both =
    quiet_list m.idle n (m.head Full).index m.accounts hushed law.shared.sum quiet.least quiet.word quiet.apart
    quiet.opening in
    record { emptied = λ full is. chain_none m.link (m.head Full).index full is both.0; others = both.1 }
