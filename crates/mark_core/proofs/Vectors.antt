-- The lists of a world after each event are those of the marking after it.
use Rattle.std.proofs.Common.{◌≡◌, ◌≢◌, ◌↔◌, Bool, true, false, IsTrue, ℕ, ◌<◌, ◌≤◌, max, List, [], length, get_or, set}
use Rattle.std.proofs.Common.{Option, Some, None, Contains, ap, sym, subst, refl, ◌∙◌, get_or-set_same}
use Rattle.std.proofs.Common.{get_or-set_other, length-set}
use Rattle.std.proofs.lemmas.List.{get_or_default, set_comm}
use Rattle.tagged_index.specs.Head.{Head, after, last_tag}
use Rattle.mark_core.proofs.Words.{Which, Full, Empty, IsPart, Account, Look, look_of, no_share, after_claim}
use Rattle.mark_core.proofs.Words.{after_finish, after_join, after_pop, after_push, items_of, account_at, put}
use Rattle.mark_core.proofs.Words.{put_which, Claim, Finish, Join, StoreLink, Pop, Push, IsBusy, CanClaim, CanFinish}
use Rattle.mark_core.proofs.Words.{Listing, IsLawful, Does, Tries, heads_of, with_head, exchanged, marking_of}
use Rattle.mark_core.proofs.Words.{IsReadyToPush}
use Rattle.std.specs.Bool.{OnTrue}
use Rattle.mark_core.proofs.Taking.{false_is_not_true}
use Rattle.mark_core.proofs.Places.{put_each}
use Rattle.mark_core.proofs.Within.{stands_here, held_within}

-- a write into a list replaces one value of the function that reads it
pub put_in : {X : Type 0} (l : List X) (i : ℕ) (x d : X) → i < length l
    → ◌≡◌ {A = ℕ → X} (λ j. get_or (set l i x) j d) (put i x (λ j. get_or l j d))
put_in l i x d inside = λ t j. at j t
  where
    at : (j : ℕ) → get_or (set l i x) j d ≡ put i x (λ k. get_or l k d) j
    at = put_each (λ j z. get_or (set l i x) j d ≡ z) i x (λ k. get_or l k d) (get_or-set_same l i x d inside)
        (λ j n. get_or-set_other l i j x d n)

-- an exchange replaces one head
pub heads_turned : (l : Listing) (q : Which) (h : Head) → heads_of (with_head l q h) ≡ put_which q h (heads_of l)
heads_turned l q h = λ t p. at q p t
  where
    at : (q p : Which) → heads_of (with_head l q h) p ≡ put_which q h (heads_of l) p
    at Full Full = refl
    at Empty Empty = refl
    at _ _ = refl

pub marking_headed : (l : Listing) (q : Which) (h : Head)
    → marking_of (with_head l q h) ≡ record (marking_of l) { head = put_which q h (heads_of l) }
marking_headed l Full h = ap (λ f. record (marking_of l) { head = f }) (heads_turned l Full h)
marking_headed l Empty h = ap (λ f. record (marking_of l) { head = f }) (heads_turned l Empty h)

-- the setup is the same, and the tables are as long as before
record SameTables (new old : Listing) : Type 0 where
  setup : new.setup ≡ old.setup
  links : length new.links ≡ length old.links
  slots : length new.slots ≡ length old.slots
  marks : length new.marks ≡ length old.marks

tables_headed : (l : Listing) (q : Which) (h : Head) → SameTables (with_head l q h) l
tables_headed l Full h = record { setup = refl; links = refl; slots = refl; marks = refl }
tables_headed l Empty h = record { setup = refl; links = refl; slots = refl; marks = refl }

-- the account read at w is the one that the marking has there
pub account_here : (accounts : List Account) (w : ℕ) (a : Account) → w < length accounts → a ≡ get_or accounts w a
    → a ≡ account_at accounts w
account_here accounts w a inside is = is ∙ get_or_default accounts w a no_share inside

-- what the tests of a pop show, if `head` is the current head of the stack
pub record PopTold (head : Head) (a : Account) (q : Which) (i : ℕ) (l : Option ℕ) : Type 0 where
  pub shows : (look_of a q).head ≡ Some head
  pub top : head.index ≡ Some i
  pub link : (look_of a q).link ≡ Some l
  pub busy : IsBusy a

module _ (head : Head) (a : Account) (q : Which) (i : ℕ) (l : Option ℕ) (look : Look) (now : Head) where
  pub pop_told :
      look ≡ look_of a q → now ≡ head → look.head ≡ Some now → now.index ≡ Some i → look.link ≡ Some l → IsBusy a
      → PopTold head a q i l
  pop_told looked loaded shows top link busy =
      record {
        shows = rw (looked, loaded) at shows;
        top = rw loaded at top;
        link = rw looked at link;
        busy = busy;
      }

module _ (s : Listing) (w : ℕ) (a b c : Account) (there : w < length s.accounts) (is_a : a ≡ get_or s.accounts w a)
    (is_b : b ≡ get_or s.accounts w b) where
  same_a : a ≡ account_at s.accounts w
  same_a = account_here s.accounts w a there is_a

  same_b : b ≡ account_at s.accounts w
  same_b = account_here s.accounts w b there is_b

  pub does_claim : (o f : ℕ) (marks : List ℕ) → o < length s.marks → CanClaim s.setup o a × IsBusy a
      → f ≡ get_or s.marks o 0 → marks ≡ set s.marks o (max f 1) → c ≡ after_claim o f b
      → Does s w (Claim o) (record s { marks = marks; accounts = set s.accounts w c })
  does_claim o f marks inside can found raised new =
      let mark : ℕ = get_or s.marks o 0 in
      let written : marks ≡ set s.marks o (max mark 1) = rw found at raised in
      record {
        allowed = rw (← same_a) can;
        marking = rw (new, found, same_b, written, put_in s.marks o (max mark 1) 0 inside);
        setup = refl;
        links = refl;
        slots = refl;
        marks = rw written (length-set s.marks o (max mark 1));
      }

  pub does_finish : (o : ℕ) → o < length s.marks → CanFinish s.setup o a → c ≡ after_finish o b
      → Does s w (Finish o) (record s { marks = set s.marks o 2; accounts = set s.accounts w c })
  does_finish o inside can new =
      record {
        allowed = rw (← same_a) can;
        marking = rw (new, same_b, put_in s.marks o 2 0 inside);
        setup = refl;
        links = refl;
        slots = refl;
        marks = length-set s.marks o 2;
      }

  pub does_store : (i : ℕ) (l : Option ℕ) → i < length s.links → Contains a.held i
      → Does s w (StoreLink i l) (record s { links = set s.links i l })
  does_store i l inside held =
      record {
        allowed = rw (← same_a) held;
        marking = rw (put_in s.links i l None inside);
        setup = refl;
        links = length-set s.links i l;
        slots = refl;
        marks = refl;
      }

  pub does_pop :
      (q : Which) (i : ℕ) (l : Option ℕ) → i < length s.slots → PopTold (heads_of s q) a q i l
      → (heads_of s q).tag < last_tag
      → (h : Head) → h ≡ after (heads_of s q) l → (slot emptied : Option (List ℕ)) → slot ≡ get_or s.slots i slot
      → emptied ≡ None → c ≡ after_pop i (items_of slot) b
      → Does s w (Pop q) (with_head (record s { slots = set s.slots i emptied; accounts = set s.accounts w c }) q h)
  does_pop q i l inside told low h next slot emptied read gone new =
      let here : Account = account_at s.accounts w in
      let tables : Listing = record s { slots = set s.slots i emptied; accounts = set s.accounts w c } in
      let same = tables_headed tables q h in
      let found : slot ≡ get_or s.slots i None = read ∙ get_or_default s.slots i slot None inside in
      let linked_here : (look_of here q).link ≡ Some l = rw (← same_a) told.link in
      record {
        allowed = rw (← same_a) (((told.shows, low), (i, told.top), (l, told.link)), told.busy);
        marking = rw (marking_headed tables q h, next, gone, new, found, same_b, told.top, linked_here);
        setup = same.setup;
        links = same.links;
        slots = same.slots ∙ length-set s.slots i emptied;
        marks = same.marks;
      }

  pub does_push :
      (q : Which) (i : ℕ) (items : List ℕ) → IsReadyToPush s w q i items → (heads_of s q).tag < last_tag
      → IsPart items b.charge
      → (h : Head) → h ≡ after (heads_of s q) (Some i) → c ≡ after_push q i items b
      → Does s w (Push q i items) (with_head
      (record s { slots = set s.slots i (Some items); accounts = set s.accounts w c }) q h)
  does_push q i items may low part h next new =
      let tables : Listing = record s { slots = set s.slots i (Some items); accounts = set s.accounts w c } in
      let same = tables_headed tables q h in
      let part_here = rw same_b at part in
      record {
        allowed = ((may.head, low), (may.held, part_here, may.fits, may.bare), may.link, may.busy);
        marking = rw (marking_headed tables q h, next, new, same_b);
        setup = same.setup;
        links = same.links;
        slots = same.slots ∙ length-set s.slots i (Some items);
        marks = same.marks;
      }

  -- a pop exchanges the head only if its tag is not the last
  pub tries_pop :
      (q : Which) (i : ℕ) (l : Option ℕ) → i < length s.slots → PopTold (heads_of s q) a q i l
      → (slot emptied : Option (List ℕ)) → slot ≡ get_or s.slots i slot → emptied ≡ None
      → c ≡ after_pop i (items_of slot) b
      → (done : Bool) (new : Listing) → IsTrue done ↔ ((heads_of s q).tag < last_tag)
      → OnTrue done (new ≡ exchanged (record s { slots = set s.slots i emptied; accounts = set s.accounts w c }) q
      l)
      → Tries s w (Pop q) done new
  tries_pop q i l inside told slot emptied read gone changed true new low next =
      subst (Does s w (Pop q)) (sym next)
      (does_pop q i l inside told (low.0 refl) (after (heads_of s q) l) refl slot emptied read gone changed)
  tries_pop q i l inside told slot emptied read gone changed false new low next =
      λ can. false_is_not_true (low.1 can.0.0.1)

  pub tries_push :
      (q : Which) (i : ℕ) (items : List ℕ) → IsReadyToPush s w q i items → IsPart items b.charge
      → c ≡ after_push q i items b
      → (done : Bool) (new : Listing) → IsTrue done ↔ ((heads_of s q).tag < last_tag)
      → OnTrue done (new ≡ exchanged
      (record s { slots = set s.slots i (Some items); accounts = set s.accounts w c }) q (Some i))
      → Tries s w (Push q i items) done new
  tries_push q i items may part changed true new low next =
      subst (Does s w (Push q i items)) (sym next)
      (does_push q i items may (low.0 refl) part (after (heads_of s q) (Some i)) refl changed)
  tries_push q i items may part changed false new low next = λ can. false_is_not_true (low.1 can.0.1)

  pub does_join :
      (v : ℕ) (d e : Account) → v ≢ w → v < length s.accounts → d ≡ get_or s.accounts v d → 0 < d.share → e ≡ no_share
      → c ≡ after_join b d
      → Does s w (Join v) (record s { accounts = set (set s.accounts v e) w c })
  does_join v d e other inside read there bare new =
      let same_d : d ≡ account_at s.accounts v = account_here s.accounts v d inside read in
      record {
        allowed = (other, (d, (stands_here s.accounts v d inside read, there)));
        marking = rw (set_comm s.accounts v w e c other, bare, new, same_b, same_d);
        setup = refl;
        links = refl;
        slots = refl;
        marks = refl;
      }

module _ (s : Listing) (w : ℕ) (a : Account) (inside : w < length s.accounts) (is : a ≡ get_or s.accounts w a) where
  -- the tests of a push show that it is ready
  pub may_push :
      (q : Which) (i : ℕ) (items : List ℕ) (look : Look) (now : Head) → look ≡ look_of a q → now ≡ heads_of s q
      → look.head ≡ Some now
      → Contains a.held i → length items ≤ s.setup.size → (q ≡ Empty → items ≡ []) → get_or s.links i None ≡ now.index
      → (q ≡ Full → IsBusy a) → IsReadyToPush s w q i items
  may_push q i items look now looked loaded shows held fits bare link busy =
      let here : a ≡ account_at s.accounts w = account_here s.accounts w a inside is in
      record {
        head = rw (← here) (rw (looked, loaded) at shows);
        held = rw (← here) held;
        fits = fits;
        bare = bare;
        link = rw loaded at link;
        busy = rw (← here) busy;
      }

-- a buffer that may be pushed is one of the setup's
pub push_within : (s : Listing) (w : ℕ) → IsLawful s → w < length s.accounts → (q : Which) (i : ℕ) (items : List ℕ)
    → IsReadyToPush s w q i items → i < s.setup.buffers
push_within s w lawful there q i items may =
    let a : Account = account_at s.accounts w in
    held_within s lawful w a there (get_or_default s.accounts w no_share a there) i may.held
