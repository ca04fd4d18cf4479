-- An exchange of a head for the link of its buffer keeps the rule: it pops, or it fails.
use Rattle.std.proofs.Common.{◌≡◌, ◌≢◌, ℕ, zero, suc, ◌<◌, ◌==◌, List, [], ◌∷◌, ◌++◌, map, Option, Some, None, set}
use Rattle.std.proofs.Common.{slice_index, slice_set, ap, sym, refl, subst, ◌∙◌, Contains, length-set, arith}
use Rattle.buffer_pool.proofs.Words.{none, some, some-ne-none, ℕ_discrete, get_elem?, either, State, Me, Allows, step}
use Rattle.buffer_pool.proofs.Words.{keeps, takes, at_map, set_else, head_of, after, Which, Empty, StandsAt}
use Rattle.buffer_pool.proofs.Words.{times, only, look_of, after_pop, Setup, Marking, items_of, put_which, CanPop, Pop}
use Rattle.buffer_pool.proofs.Words.{Fail, IsBusy, effect, stack_popped as popped_event, linear}
use Rattle.buffer_pool.proofs.Words.{stands_times, sum_of-append, term_le, only-same, only-other, SeatView, popped}
use Rattle.buffer_pool.proofs.Words.{failed, HasMissed, HasTaken, IsOurs, top_taken, mark_in, first_mark, head_word}
use Rattle.buffer_pool.proofs.Words.{link_word, Reading, IsTied, Rests, free, slot_of, Rule, marking_of}
use Rattle.buffer_pool.proofs.Words.{TableId, IsSound, logged, at_one, at_get_or}
use mathlib.Core.Option as maybe
use Rattle.buffer_pool.proofs.Bits.{marked_object}
use Rattle.buffer_pool.proofs.States.{Seated, left, agrees, lawful, changed, accounts_set, counts_same}
use Rattle.buffer_pool.proofs.States.{slots_set, sized_set, happened, story_now, rests_after, log_after}
use Rattle.buffer_pool.proofs.States.{Goes, nothing_out, said_all, written_again, own_setup, on_top, stacked_free}
use Rattle.buffer_pool.proofs.States.{freed, did_event, missed_reached}
use Rattle.buffer_pool.proofs.Loads.{noticed, same_head}
use Rattle.buffer_pool.proofs.TableWords.{one_head, exchange_hit, exchange_miss, link_beside_head, links_beside_head}
use Rattle.buffer_pool.proofs.TableWords.{marks_beside_head, heads_after, idle_beside_head}

-- items at home are those of a buffer there
buffer_there : {B : Type 0} (r : Reading B) (homes : List (maybe.Option (Option B))) (i : ℕ) (items : List ℕ)
    → StandsAt (map (slot_of r) homes) i (Some items) → (b : B) × (get_elem? homes i ≡ some (some (Some b)))
    × (r.items b ≡ items)
buffer_there r [] i items at = absurd (some-ne-none (Some items) (sym at))
buffer_there r (none ∷ hs) zero items at = let f : ⊥ = cc in absurd f
buffer_there r (some None ∷ hs) zero items at = let f : ⊥ = cc in absurd f
buffer_there r (some (Some b) ∷ hs) zero items at = (b, refl, cc)
buffer_there r (h ∷ hs) (suc i) items at = buffer_there r hs i items at

-- a buffer that is at home
module _
    {B : Type 0} {r : Reading B} {e : Setup} {s : State (Option B) SeatView} (rule : Rule r e s) (i : ℕ) (b : B)
    (home : get_elem? s.homes i ≡ some (some (Some b))) where
  in_slot : StandsAt (map (slot_of r) s.homes) i (Some (r.items b))
  in_slot = at_map (slot_of r) s.homes i (some (Some b)) home

  -- its items are objects, since their marks are not 0
  items_within : (o : ℕ) → Contains (r.items b) o → o < e.objects
  items_within o here =
      let m = marking_of r e s in
      let told = (linear e m.mark m.slots m.accounts (lawful rule).coloured o).0 in
      let one = term_le (λ (slot : Option (List ℕ)). times o (items_of slot)) m.slots i (Some (r.items b)) in_slot in
      marked_object e.objects (mark_in s.words (first_mark e)) o
      (omega (arith, told, one, stands_times (r.items b) o here))

  -- it has no items if it is on the empty stack
  bare_on_empty : (q : Which) → (head_of (slice_index s.words (head_word q))).index ≡ Some i → q ≡ Empty
      → r.items b ≡ []
  bare_on_empty q top empty =
      let on = subst (λ k. 0 < times i ((lawful rule).stack k)) empty (on_top rule q i top).0 in
      let one : Some (r.items b) ≡ Some [] =
      at_one (marking_of r e s).slots i (Some (r.items b)) (Some []) in_slot ((lawful rule).in_slots.bare i on) in cc

-- if the head is the loaded one
module _
    {B : Type 0} {r : Reading B} {e : Setup} {s : State (Option B) SeatView} {id : ℕ} {v : SeatView}
    (at : Seated r e s id v) (bare : v.out ≡ 0) (q : Which) (i : ℕ)
    (top : (head_of (slice_index s.words (head_word q))).index ≡ Some i) where
  -- the buffer on top of the stack is at home
  top_home : (b : B) × (get_elem? s.homes i ≡ some (some (Some b)))
  top_home =
      let stacked = (lawful at.rule).in_slots.stacked q i (on_top at.rule q i top).0 in
      let found = buffer_there r s.homes i stacked.0 stacked.1 in (found.0, found.1)

  abbrev pop_view : B → SeatView
  pop_view b = record (logged (log_after at (Pop q)) v)
      { book = popped i (r.items b) v.book; out = suc i; out_link = slice_index s.words (link_word i) }

  popped_rule :
      (b : B) → get_elem? s.homes i ≡ some (some (Some b)) → (x : ℕ) (l : Option ℕ)
      → CanPop (head_of (slice_index s.words (head_word q))) (look_of v.book.account q) → IsBusy v.book.account
      → (look_of v.book.account q).link ≡ Some l → head_of x ≡ after (head_of (slice_index s.words (head_word q))) l
      → Rule r e (left s (set s.words (head_word q) x) (set s.homes i none) id (pop_view b))
  popped_rule b home x l can busy linked_to next =
      changed at words homes w (length-set s.words (head_word q) x) (length-set s.homes i none)
      (λ j h. omega (arith, link_beside_head e s.words q x j, at.rule.linked j h))
      (sized_set at.rule i none (λ c h. let gone : ⊥ = cc in absurd gone)) tied rests others refl
      (happened at (Pop q) (can, busy) words homes w refl
      (agrees (marking_of r e (left s words homes id w)) (taken (r.items b))
      (heads_after e s.words q x (after (m.head q) l) (omega (arith, at.rule.word_count)) next)
      (links_beside_head e s.words q x) (marks_beside_head e s.words q x) (slots_set r s.homes i none)
      (idle_beside_head e s.words q x) (accounts_set s.views id w) ∙ sym pop_is) (counts_same at w refl))
    where
      m : Marking
      m = marking_of r e s

      words : List ℕ
      words = set s.words (head_word q) x

      homes : List (maybe.Option (Option B))
      homes = set s.homes i none

      w : SeatView
      w = pop_view b

      tied : IsTied words w
      tied j out =
          let same : i ≡ j = omega (arith, out) in (
            subst (λ k. 0 < times k (v.book.account.held ++ i ∷ [])) same
                (omega (arith, sum_of-append (only i) v.book.account.held (i ∷ []), only-same i i refl)),
            link_beside_head e s.words q x j ∙ ap (λ k. slice_index s.words (link_word k)) (sym same),
          )

      rests : Rests homes w
      rests j mine not_out =
          let other : j ≢ i = λ same. not_out (ap suc (sym same)) in
          let old : 0 < times j v.book.account.held =
          omega (arith, sum_of-append (only j) v.book.account.held (i ∷ []), only-other j i (λ t. other (sym t))) in
          set_else s.homes i j none other ∙ at.rule.rests id v at.is j old (nothing_out v.out bare j)

      others : (k : ℕ) (u : SeatView) → k ≢ id → get_elem? s.views k ≡ some u → IsTied words u × Rests homes u
      others k u other h = (
        (λ j out. let t = at.rule.tied k u h j out in (t.0, link_beside_head e s.words q x j ∙ t.1)),
        (λ j mine not_out. set_else s.homes i j none (λ same. stacked_free at.rule k u h q i (on_top at.rule q i top).0
            (subst (λ y. 0 < times y u.book.account.held) same mine)) ∙ at.rule.rests k u h j mine not_out),
      )

      -- the marking after the pop: the account gets the items of the slot
      taken : List ℕ → Marking
      taken items = record m {
        head = put_which q (after (m.head q) l) m.head;
        slots = set m.slots i None;
        accounts = set m.accounts id (after_pop i items v.book.account);
      }

      pop_is : effect m id v.book.account (Pop q) ≡ taken (r.items b)
      pop_is =
          (λ k. popped_event m id v.book.account q (top k) (linked_to k))
          ∙ ap (λ slot. taken (items_of slot)) (at_get_or m.slots i (Some (r.items b)) None (in_slot at.rule i b home))

module _ {B : Type 0} (r : Reading B) (e : Setup) (slots id : ℕ) (me : Me (Option B) SeatView) where
  -- what the step on stack k reports if it found the word n
  abbrev pop_told : ℕ → Which → ℕ → Me (Option B) SeatView → Type 0
  pop_told old k n after =
      (n ≡ old → (j : ℕ) → (head_of n).index ≡ Some j → (b : B) × HasTaken r k j (Some b) me after b)
      × ((n ≡ old → ⊥) → HasMissed k me after)

  pub pops :
      {t : TableId} (sound : IsSound t me) (q : Which) (old new i : ℕ) (l : Option ℕ)
      → CanPop (head_of old) (look_of me.0.book.account q) → IsBusy me.0.book.account → (head_of old).index ≡ Some i
      → (look_of me.0.book.account q).link ≡ Some l → head_of new ≡ after (head_of old) l
      → Allows (Rule r e) slots id me (head_word q) (λ n. either (n == old) new n)
      (top_taken r (step slots (head_word q) old new none) me)
  pops sound q old new i l can busy top linked next =
      freed r e slots id (head_word q) (λ n. either (n == old) new n)
      (top_taken r (step slots (head_word q) old new none) me) me sound.carries sound.share
      (λ s at. go s at (ℕ_discrete (slice_index s.words (head_word q)) old))
    where
      v : SeatView
      v = free me.0

      go : (s : State (Option B) SeatView) → Seated r e s id v → Dec (slice_index s.words (head_word q) ≡ old)
          → Goes r e slots id (head_word q) (λ n. either (n == old) new n)
          (top_taken r (step slots (head_word q) old new none) me) [] s
      go s at (yes hit) =
          let n = slice_index s.words (head_word q) in
          let same : old ≡ n = sym hit in
          let top' : (head_of n).index ≡ Some i = ap (λ x. (head_of x).index) hit ∙ top in
          let home = top_home at refl q i top' in
          let b = home.0 in
          let w = pop_view at refl q i top' b in
          let ours : IsOurs r me.0.book.setup b =
          subst (λ f. IsOurs r f b) (sym (own_setup at))
          (record { size = at.rule.sized i b home.1; objects = items_within at.rule i b home.1 }) in
          let rule : Rule r e (left s (set s.words (head_word q) new) (set s.homes i none) id w) =
          popped_rule at refl q i top' b home.1 new l
          (subst (λ x. CanPop (head_of x) (look_of me.0.book.account q)) same can) busy linked
          (next ∙ ap (λ x. after (head_of x) l) same) in (
            w,
            takes i (Some b),
            home.1,
            subst (λ x. Rule r e (left s (set s.words (head_word q) x) (set s.homes i none) id w))
                (sym (exchange_hit n old new hit)) rule,
            (λ p same_word. subst (λ k. pop_told old k n (w, (i, Some b) ∷ [])) (same_head q p same_word) (
              (λ h j t.
                  let k : i ≡ j = let f : Some i ≡ Some j = sym top' ∙ t in cc in (
                    b,
                    record {
                      slots = ap (λ x. (x, Some b) ∷ []) k;
                      out = ap suc k;
                      book = ap (λ x. popped x (r.items b) me.0.book) k;
                      ours = ours;
                      bare = bare_on_empty at.rule i b home.1 q top';
                      all_said = said_all w.log w;
                      did = did_event at sound.all_said.named sound.all_said.unsaid (Pop q);
                      story = story_now at (set s.words (head_word q) new) (set s.homes i none) w.log w rule at.there;
                    },
                  )),
              (λ miss. absurd (miss hit)),
            )),
          )
      go s at (no miss) =
          let n = slice_index s.words (head_word q) in
          let w : SeatView = record (logged (log_after at (Fail q)) v) { book = failed v.book } in
          let rule : Rule r e (left s s.words s.homes id w) =
          noticed at refl s.words w refl (λ j b. refl) refl refl refl
          (missed_reached at q (head_of old) can.0.0 (λ is. miss (one_head n old is))) in (
            w,
            keeps,
            tt,
            subst (λ x. Rule r e (left s (slice_set s.words (head_word q) x) s.homes id w))
                (sym (exchange_miss n old new miss)) (written_again s id (head_word q) w rule),
            (λ p same_word. subst (λ k. pop_told old k n (w, [])) (same_head q p same_word) (
              (λ hit j t. absurd (miss hit)),
              (λ h. rests_after me at sound.all_said (Fail q) w.book s.words at.there rule),
            )),
          )
