-- The split of a worker and the join of two keep the rule.
use Rattle.std.proofs.Common.{◌≡◌, ◌≢◌, ℕ, ◌<◌, ◌≤◌, true, false, length, List, [], ◌∷◌, ◌++◌, map, Option, Some, None}
use Rattle.std.proofs.Common.{set, ap, sym, refl, subst, ◌∙◌, ⊎_elim, arith}
use Rattle.buffer_pool.proofs.Words.{map-append, some, dec_le, get_elem?, Me, State, Splits, Joins, TableId, at_map}
use Rattle.buffer_pool.proofs.Words.{at_set, at_snoc, set_else, times, only, Account, part, no_share, after_join, Setup}
use Rattle.buffer_pool.proofs.Words.{Marking, account_at, AreApart, HasEachOnce, opening, Event, Split, Join, Counts}
use Rattle.buffer_pool.proofs.Words.{add_counts, counts_at, no_counts, sum_of-append, at_get_or, SeatView, Book, joined}
use Rattle.buffer_pool.proofs.Words.{new_book, parted, IsWithin, IsLaid, IsSound, Log, Did, EndsStory, IsNewcomer}
use Rattle.buffer_pool.proofs.Words.{LeadsToBook, deeds, HasSaidAll, logged, IsUpToDate, kept_part, given_part}
use Rattle.buffer_pool.proofs.Words.{joined_view, no_share_view, Reading, Carries, IsTied, Rests, free, Reached, Rule}
use Rattle.buffer_pool.proofs.Words.{account_of, marking_of, view_counts, append_assoc, length-map}
use Rattle.buffer_pool.proofs.States.{Seated, nothing_out, stands, own_setup, accounts_set, counts_set, counts_same}
use Rattle.buffer_pool.proofs.States.{happened_told}
use Rattle.buffer_pool.proofs.Deeds.{deeds_on, did_on}
use Rattle.buffer_pool.proofs.Newcomers.{nothing_done, told_join, told_split}

-- what the rule requires of one view
record Suits {B : Type 0} (e : Setup) (s : State (Option B) SeatView) (v : SeatView) : Type 0 where
  pub tied : IsTied s.words v
  pub rests : Rests s.homes v
  pub same_setup : 0 < v.book.account.share → v.book.setup ≡ e

module _ {B : Type 0} {r : Reading B} {e : Setup} {s : State (Option B) SeatView} (rule : Rule r e s) where
  suits : (k : ℕ) (u : SeatView) → get_elem? s.views k ≡ some u → Suits e s u
  suits k u at = record { tied = rule.tied k u at; rests = rule.rests k u at; same_setup = rule.same_setup k u at }

  -- the rule holds if only views change and each of them suits
  with_views :
      (views : List SeatView) → ((k : ℕ) (u : SeatView) → get_elem? views k ≡ some u → Suits e s u)
      → Reached r e (record { words = s.words; homes = s.homes; views = views })
      → Rule r e (record { words = s.words; homes = s.homes; views = views })
  with_views views all reached =
      record {
        word_count = rule.word_count;
        slot_count = rule.slot_count;
        sized = rule.sized;
        linked = rule.linked;
        tied = λ k u at. (all k u at).tied;
        rests = λ k u at. (all k u at).rests;
        same_setup = λ k u at. (all k u at).same_setup;
        some_buffer = rule.some_buffer;
        reached = reached;
      }

  -- a view that holds nothing suits
  holds_nothing : (u : SeatView) → u.out ≡ 0 → u.book.account.held ≡ [] → (0 < u.book.account.share → u.book.setup ≡ e)
      → Suits e s u
  holds_nothing u out held setup =
      record {
        tied = λ i o. absurd (nothing_out u.out out i o);
        rests = λ i mine o. absurd (omega (arith, mine, ap (times i) held));
        same_setup = setup;
      }

module _ {B : Type 0} (r : Reading B) (e : Setup) (id : ℕ) (v : SeatView) where
  pub splits : 0 < v.aside → v.aside < v.book.account.share → v.named ≡ true
      → Splits (Rule r e) id v (kept_part v) (given_part v)
  splits some_units less known s rule is = with_views rule views all reached
    where
      at : Seated r e s id v
      at = record { rule = rule; is = is; there = omega (arith, less) }

      views : List SeatView
      views = set s.views id (kept_part v) ++ given_part v ∷ []

      own : Suits e s v
      own = suits rule id v is

      kept : Suits e s (kept_part v)
      kept = record { tied = own.tied; rests = own.rests; same_setup = λ h. own_setup at }

      all : (k : ℕ) (u : SeatView) → get_elem? views k ≡ some u → Suits e s u
      all k u here =
          ⊎_elim (λ t. ⊎_elim (λ x. subst (Suits e s) x.1 kept) (λ x. suits rule k u x.1)
          (at_set s.views id k (kept_part v) u t))
          (λ same. subst (Suits e s) same (holds_nothing rule (given_part v) refl refl (λ h. own_setup at)))
          (at_snoc (set s.views id (kept_part v)) (given_part v) u k here)

      -- the new number has done nothing so far
      nobody : deeds (length s.views) rule.reached.events ≡ []
      nobody =
          nothing_done e rule.reached.events (opening e e.first_tag) (marking_of r e s) (length s.views)
          rule.reached.led.run (omega (arith, length-map s.views account_of))

      accounts : map account_of views ≡ set (map account_of s.views) id (kept_part v).book.account ++ part v.aside ∷ []
      accounts = map-append account_of (set s.views id (kept_part v)) (given_part v ∷ [])
          ∙ ap (λ (xs : List Account). xs ++ part v.aside ∷ []) (accounts_set s.views id (kept_part v))

      reached : Reached r e (record { words = s.words; homes = s.homes; views = views })
      reached =
          happened_told at (Split v.aside) (some_units, less)
          (record { words = s.words; homes = s.homes; views = views })
          (λ k. record (marking_of r e s) { accounts = accounts k })
          (map-append view_counts (set s.views id (kept_part v)) (given_part v ∷ [])
          ∙ ap (λ (xs : List Counts). xs ++ no_counts ∷ []) (counts_same at (kept_part v) refl))
          (told_split rule.reached.events s.views rule.reached.views id v is at.there known nobody)

  module _ (other : ℕ) (w : SeatView) where
    pub joins :
        w.out ≡ 0 → 0 < v.book.account.share → v.named ≡ true → 0 < w.book.account.share → w.named ≡ true
        → w.unsaid ≡ [] → Joins (Rule r e) id v other w (joined_view v w) no_share_view
    joins bare there known theirs_there theirs_known theirs_said s rule is apart after =
        with_views rule views all reached
      where
        at : Seated r e s id v
        at = record { rule = rule; is = is; there = there }

        both : SeatView
        both = joined_view v w

        views : List SeatView
        views = set (set s.views id both) other no_share_view

        other_is : get_elem? s.views other ≡ some w
        other_is = sym (set_else s.views id other both apart) ∙ after

        own : Suits e s v
        own = suits rule id v is

        rests : Rests s.homes both
        rests i mine out = go (dec_le 1 (times i v.book.account.held))
          where
            go : Dec (1 ≤ times i v.book.account.held) → get_elem? s.homes i ≡ some (some None)
            go (yes h) = own.rests i h out
            go (no h) = rule.rests other w other_is i
                (omega (arith, sum_of-append (only i) v.book.account.held w.book.account.held))
                (nothing_out w.out bare i)

        together : Suits e s both
        together =
            record {
              tied = λ i out. (
                omega (
                  arith,
                  (own.tied i out).0,
                  sum_of-append (only i) v.book.account.held w.book.account.held,
                ),
                (own.tied i out).1,
              );
              rests = rests;
              same_setup = λ h. own_setup at;
            }

        all : (k : ℕ) (u : SeatView) → get_elem? views k ≡ some u → Suits e s u
        all k u stood =
            ⊎_elim (λ t. subst (Suits e s) t.1
            (holds_nothing rule no_share_view refl refl (λ h. absurd (omega (arith, h)))))
            (λ t. ⊎_elim (λ x. subst (Suits e s) x.1 together) (λ x. suits rule k u x.1)
            (at_set s.views id k both u t.1))
            (at_set (set s.views id both) other k no_share_view u stood)

        m : Marking
        m = marking_of r e s

        account : account_at m.accounts other ≡ w.book.account
        account = at_get_or m.accounts other w.book.account no_share (stands rule other w other_is)

        accounts : map account_of views
            ≡ set (set m.accounts id (after_join v.book.account (account_at m.accounts other))) other no_share
        accounts = accounts_set (set s.views id both) other no_share_view
            ∙ ap (λ (xs : List Account). set xs other no_share) (accounts_set s.views id both)
            ∙ ap (λ a. set (set m.accounts id (after_join v.book.account a)) other no_share) (sym account)

        counts : List Counts
        counts = map view_counts s.views

        first : counts_at counts id ≡ view_counts v
        first = at_get_or counts id (view_counts v) no_counts (at_map view_counts s.views id v is)

        second : counts_at counts other ≡ view_counts w
        second = at_get_or counts other (view_counts w) no_counts (at_map view_counts s.views other w other_is)

        added : map view_counts views ≡ set (set counts id (add_counts (view_counts v) (view_counts w))) other no_counts
        added = counts_set (set s.views id both) other no_share_view
            ∙ ap (λ (xs : List Counts). set xs other no_counts) (counts_set s.views id both)

        reached : Reached r e (record { words = s.words; homes = s.homes; views = views })
        reached =
            happened_told at (Join other) (apart, (w.book.account, (stands rule other w other_is, theirs_there)))
            (record { words = s.words; homes = s.homes; views = views }) (λ k. record m { accounts = accounts k })
            (added ∙ (λ k. set (set counts id (add_counts (sym first k) (sym second k))) other no_counts))
            (told_join rule.reached.events s.views rule.reached.views id v is there known other w apart other_is
            theirs_there theirs_known theirs_said)

-- what holds of a seat holds of an equal one
moved : {B : Type 0} {m n : Me (Option B) SeatView} (P : Me (Option B) SeatView → Type 0) → n ≡ m → P m → P n
moved {B} P same = subst {A = Me (Option B) SeatView} P (sym {A = Me (Option B) SeatView} same)

-- the units are those that were noted for the split, and the worker knows its number
pub noted_units :
    {B : Type 0} (m n : Me (Option B) SeatView) (log : Log) (units : ℕ)
    → n ≡ (record (logged log (free m.0)) { aside = units }, []) → 0 < units → units < m.0.book.account.share
    → (0 < n.0.aside) × (n.0.aside < n.0.book.account.share) × (n.0.named ≡ true)
noted_units m n log units is some_units less =
    moved (λ x. (0 < x.0.aside) × (x.0.aside < x.0.book.account.share) × (x.0.named ≡ true)) is
    (some_units, less, refl)

-- a seat whose log was brought up to date is sound and keeps its book
sound_now :
    {B : Type 0} (t u : TableId) (m n : Me (Option B) SeatView) (b : Book) → u ≡ t
    → n ≡ (logged n.0.log (free m.0), []) → m.0.book ≡ b → IsLaid t b.setup → 0 < b.account.share
    → IsWithin b.setup b.account → LeadsToBook n.0.log n.0.book → IsSound u n × (n.0.book ≡ b)
sound_now {B} t u m n b table same was laid share within story = (
  subst (λ x. IsSound x n) (sym table) (record {
    laid = subst (λ (k : Book). IsLaid t k.setup) (sym is) laid;
    share = subst (λ (k : Book). 0 < k.account.share) (sym is) share;
    carries = moved Carries same refl;
    within = subst (λ (k : Book). IsWithin k.setup k.account) (sym is) within;
    all_said = moved (λ x. HasSaidAll x.0) same (record { named = refl; unsaid = refl });
    story = story;
  }),
  is,
)
  where
    is : n.0.book ≡ b
    is = ap (λ (x : Me (Option B) SeatView). x.0.book) same ∙ was

-- A split: the units were noted (two), the views were cut (kept and given), and each has its log up to date (now)
module _ {B : Type 0} {t u : TableId} {m two : Me (Option B) SeatView} (units : ℕ) (table : u ≡ t) (log : Log)
    (sound : IsSound t m)
    (aside : two ≡ (record (logged log (free m.0)) { aside = units }, [])) (did : Did m.0.log [] log) where
  abbrev noted : SeatView
  noted = record (logged log (free m.0)) { aside = units }

  kept_is : {kept : Me (Option B) SeatView} → kept ≡ (kept_part two.0, two.1) → kept ≡ (kept_part noted, [])
  kept_is cut = cut ∙ ap (λ (x : Me (Option B) SeatView). (kept_part x.0, x.1)) aside

  given_is : {given : Me (Option B) SeatView} → given ≡ (given_part two.0, []) → given ≡ (given_part noted, [])
  given_is cut = cut ∙ ap (λ (x : Me (Option B) SeatView). (given_part x.0, [])) aside

  -- what the loads after the cut require
  pub kept_may : {kept : Me (Option B) SeatView} → kept ≡ (kept_part two.0, two.1) → units < m.0.book.account.share
      → Carries kept × (0 < kept.0.book.account.share)
  kept_may cut less = moved (λ x. Carries x × (0 < x.0.book.account.share)) (kept_is cut) (refl, omega (arith, less))

  pub given_may : {given : Me (Option B) SeatView} → given ≡ (given_part two.0, []) → 0 < units → Carries given
      × (0 < given.0.book.account.share)
  given_may cut some_units = moved (λ x. Carries x × (0 < x.0.book.account.share)) (given_is cut) (refl, some_units)

  pub keeps_part :
      {kept now : Me (Option B) SeatView} → kept ≡ (kept_part two.0, two.1) → IsUpToDate kept now
      → units < m.0.book.account.share
      → (IsSound u now × (now.0.book ≡ parted units m.0.book)) × Did m.0.log (Split units ∷ []) now.0.log
  keeps_part {kept} {now} cut told less =
      let is = kept_is cut in
      let second : Did log (Split units ∷ []) now.0.log =
      subst {A = Me (Option B) SeatView} (λ x. x.0.named ≡ true → Did x.0.log x.0.unsaid now.0.log) is told.did refl
      in (
        sound_now t u kept now (parted units m.0.book) table told.same
            (ap (λ (x : Me (Option B) SeatView). x.0.book) is) sound.laid (omega (arith, less))
            (record { held = sound.within.held; charge = sound.within.charge }) told.story,
        did_on m.0.log log now.0.log [] (Split units ∷ []) did second,
      )

  pub has_part :
      {given now : Me (Option B) SeatView} → given ≡ (given_part two.0, []) → IsUpToDate given now → 0 < units
      → (IsSound u now × (now.0.book ≡ new_book m.0.book.setup units)) × IsNewcomer m.0.log now.0.log
      × (m.0.log.number ≢ now.0.log.number)
  has_part {given} {now} cut told some_units = (
    sound_now t u given now (new_book m.0.book.setup units) table told.same
        (ap (λ (x : Me (Option B) SeatView). x.0.book) is) sound.laid some_units
        (record { held = λ i k. absurd (omega (arith, k.1)); charge = λ o k. absurd (omega (arith, k.1)) }) told.story,
    (
      (
        did.0 ++ first.0,
        first.1 ∙ ap (λ (x : Log). x.story ++ first.0) did.1 ∙ append_assoc m.0.log.story did.0 first.0,
      ),
      subst {A = Me (Option B) SeatView} (λ x. x.0.named ≡ false → deeds now.0.log.number now.0.log.story ≡ []) is
          told.fresh refl,
    ),
    told.apart m.0.log.number
        (ap (λ (x : Me (Option B) SeatView). x.0.from) is ∙ ap (λ (x : Log). Some x.number) did.1),
  )
    where
      is : given ≡ (given_part noted, [])
      is = given_is cut

      -- the story of the new worker begins with the story at the split
      first : (more : List Event) × (now.0.log.story ≡ log.story ++ more)
      first = subst {A = Me (Option B) SeatView} (λ x. (more : List Event) × (now.0.log.story ≡ x.0.taken ++ more)) is
          told.knows

-- A join: the other's log was brought up to date (freed), the two were joined (both), and then its own (now)
module _ {B : Type 0} {t u : TableId} {m o freed both now : Me (Option B) SeatView} (table : u ≡ t)
    (first : IsSound t m) (second : IsSound t o)
    (other : IsUpToDate o freed) (joint : both ≡ (joined_view m.0 freed.0, m.1)) (told : IsUpToDate both now) where
  is : both ≡ (joined_view m.0 (logged freed.0.log (free o.0)), m.1)
  is = joint ∙ ap (λ (x : Me (Option B) SeatView). (joined_view m.0 x.0, m.1)) other.same

  theirs : Did o.0.log [] freed.0.log
  theirs = let did = other.did second.all_said.named in (did.0, did.1, did.2 ∙ second.all_said.unsaid)

  number : freed.0.log.number ≡ o.0.log.number
  number = ap (λ (x : Log). x.number) theirs.1

  has_both : IsSound u now × (now.0.book ≡ joined m.0.book o.0.book)
  has_both =
      let book : both.0.book ≡ joined m.0.book o.0.book = ap (λ (x : Me (Option B) SeatView). x.0.book) is in
      sound_now t u both now (joined m.0.book o.0.book) table told.same book first.laid (omega (arith, first.share))
      (subst (λ (b : Book). IsWithin b.setup b.account) book told.within) told.story

  did_join : Did m.0.log (Join o.0.log.number ∷ []) now.0.log
  did_join =
      let did = subst {A = Me (Option B) SeatView} (λ x. x.0.named ≡ true → Did x.0.log x.0.unsaid now.0.log) is
      told.did first.all_said.named in
      (did.0, did.1, did.2 ∙ (λ k. first.all_said.unsaid k ++ Join (number k) ∷ []))

  ends_other : EndsStory o.0.log now.0.log.story
  ends_other =
      let ended =
      subst {A = Me (Option B) SeatView} (λ x. x.0.named ≡ true → (n : ℕ) → x.0.from ≡ Some n
      → EndsStory (record { number = n; story = x.0.taken }) now.0.log.story) is told.ended in
      let after = ended first.all_said.named freed.0.log.number refl in (
        theirs.0 ++ after.0,
        after.1 ∙ ap (λ (x : Log). x.story ++ after.0) theirs.1 ∙ append_assoc o.0.log.story theirs.0 after.0,
        deeds_on o.0.log.number theirs.0 after.0 ∙ ap (λ ks. ks ++ deeds o.0.log.number after.0) theirs.2
            ∙ ap (λ n. deeds n after.0) (sym number) ∙ after.2,
      )

  -- the seat is sound and has both books, it did nothing but the join, and its story has all that the other did
  pub has_joined :
      (IsSound u now × (now.0.book ≡ joined m.0.book o.0.book)) × Did m.0.log (Join o.0.log.number ∷ []) now.0.log
      × EndsStory o.0.log now.0.log.story
  has_joined = (has_both, did_join, ends_other)

-- the seat carries the same slot
pub carries_joined : {B : Type 0} (m o : Me (Option B) SeatView) {n : Me (Option B) SeatView}
    → n ≡ (joined_view m.0 o.0, m.1) → Carries m → Carries n
carries_joined m o is carries = moved Carries is carries

-- two accounts that have each thing once together have nothing in common
pub apart_by : (a b : Account) → HasEachOnce (after_join a b) → AreApart a b
apart_by a b each =
    record {
      held = λ i. omega (arith, each.held i, sum_of-append (only i) a.held b.held);
      objects = λ o. omega (
        arith,
        each.objects o,
        sum_of-append (only o) a.charge b.charge,
        sum_of-append (only o) a.finished b.finished,
      );
    }
