-- Loads keep the rule and return what they loaded. Steps that change nothing keep it too.
use Rattle.std.proofs.Common.{◌≡◌, ℕ, ◌+◌, ◌<◌, ◌≤◌, ◌==◌, List, [], ◌∷◌, length, map, Option, Some, set, slice_index}
use Rattle.std.proofs.Common.{slice_set, ap, sym, refl, subst, ◌∙◌, arith}
use Rattle.buffer_pool.proofs.Words.{none, either, TableId, State, Me, Allows, step, keeps, exchanged, Head, head_of}
use Rattle.buffer_pool.proofs.Words.{index_of, Which, Full, Empty, times, look_of, after_load, after_load_link, Setup}
use Rattle.buffer_pool.proofs.Words.{opening, Kind, Load, LoadLink, effect, last_link, link_from, count_load, counted}
use Rattle.buffer_pool.proofs.Words.{has_each_once, SeatView, Book, counts_of, loaded, link_loaded, RestsWith}
use Rattle.buffer_pool.proofs.Words.{head_seen, link_seen, set_aside, caught_up, IsSound, SitsAt, setup_of, Key, Seat}
use Rattle.buffer_pool.proofs.Words.{Shared, logged, charged, stands_times, IsWithin, mark_in, first_mark, head_word}
use Rattle.buffer_pool.proofs.Words.{link_word, Reading, Carries, free, Reached, Rule, marking_of, view_counts}
use Rattle.mark_core.specs.Events as may
use Rattle.buffer_pool.proofs.Bits.{marked_object}
use Rattle.buffer_pool.proofs.States.{Seated, left, lawful, cut_below, stands, changed, accounts_set, counts_same}
use Rattle.buffer_pool.proofs.States.{counts_changed, happened, only_seen, story_now, rests_after, log_after, log_now}
use Rattle.buffer_pool.proofs.States.{nothing_out, written_again, own_setup, told, on_top, held_below, freed}
use Rattle.buffer_pool.proofs.Deeds.{did_none}
use Rattle.buffer_pool.proofs.Gone.{ends_taken}

-- the two stacks have different head words
pub same_head : (q p : Which) → head_word q ≡ head_word p → q ≡ p
same_head Full Full e = refl
same_head Full Empty e = let f : ◌≡◌ {A = ℕ} 0 16 = e in absurd (omega arith)
same_head Empty Full e = let f : ◌≡◌ {A = ℕ} 16 0 = e in absurd (omega arith)
same_head Empty Empty e = refl

-- what a load of a head changes in a book, and what it does not
pub record IsLoaded (q : Which) (h : Head) (b : Book) : Type 0 where
  pub account : (loaded q h b).account ≡ after_load q h b.account
  pub counts : counts_of (loaded q h b) ≡ count_load q h (counts_of b)
  pub setup : (loaded q h b).setup ≡ b.setup
  pub share : (loaded q h b).account.share ≡ b.account.share
  pub held : (loaded q h b).account.held ≡ b.account.held
  pub charge : (loaded q h b).account.charge ≡ b.account.charge

pub is_loaded : (q : Which) (h : Head) (b : Book) → IsLoaded q h b
is_loaded Full h b =
    record { account = refl; counts = refl; setup = refl; share = refl; held = refl; charge = refl }
is_loaded Empty h b =
    record { account = refl; counts = refl; setup = refl; share = refl; held = refl; charge = refl }

-- what a load of a link does not change
kept_linked : (q : Which) (l : Option ℕ) (b : Book)
    → ((link_loaded q l b).account.share ≡ b.account.share) × ((link_loaded q l b).account.held ≡ b.account.held)
kept_linked Full l b = (refl, refl)
kept_linked Empty l b = (refl, refl)

module _
    {B : Type 0} {r : Reading B} {e : Setup} {s : State (Option B) SeatView} {id : ℕ} {v : SeatView}
    (at : Seated r e s id v) (bare : v.out ≡ 0) where
  -- the rule holds after the seat noted something, if no slot moves and no link changes
  pub noticed :
      (words : List ℕ) (w : SeatView) → length words ≡ length s.words
      → ((i : ℕ) → i < e.buffers → slice_index words (link_word i) ≡ slice_index s.words (link_word i))
      → w.out ≡ 0 → w.book.account.held ≡ v.book.account.held → w.book.setup ≡ v.book.setup
      → Reached r e (left s words s.homes id w) → Rule r e (left s words s.homes id w)
  noticed words w count links out held setup reached =
      changed at words s.homes w count refl (λ i h. omega (arith, links i h, at.rule.linked i h)) at.rule.sized
      (λ i o. absurd (nothing_out w.out out i o))
      (λ i mine o. at.rule.rests id v at.is i (subst (λ xs. 0 < times i xs) held mine) (nothing_out v.out bare i))
      (λ k u other h. (
        (λ i o. let t = at.rule.tied k u h i o in (t.0, links i (held_below at.rule k u h i t.0) ∙ t.1)),
        at.rule.rests k u h,
      )) setup reached

  -- in particular after an event that its log has
  pub noted :
      (kind : Kind) → may.Allows e (marking_of r e s) id v.book.account kind → (words : List ℕ) (u : SeatView)
      → length words ≡ length s.words
      → ((i : ℕ) → i < e.buffers → slice_index words (link_word i) ≡ slice_index s.words (link_word i))
      → u.out ≡ 0 → u.book.account.held ≡ v.book.account.held → u.book.setup ≡ v.book.setup
      → marking_of r e (left s words s.homes id (logged (log_after at kind) u))
      ≡ effect (marking_of r e s) id v.book.account kind
      → map view_counts (set s.views id (logged (log_after at kind) u))
      ≡ counted (marking_of r e s) (map view_counts s.views) id kind
      → Rule r e (left s words s.homes id (logged (log_after at kind) u))
  noted kind can words u count links out held setup marking counts =
      noticed words (logged (log_after at kind) u) count links out held setup
      (happened at kind can words s.homes u setup marking counts)

-- what an account holds are buffers of the pool, and what it is charged with are objects, since their marks are not 0
each_within : {B : Type 0} {r : Reading B} {e : Setup} {s : State (Option B) SeatView} {id : ℕ} {v : SeatView}
    → Seated r e s id v → IsWithin v.book.setup v.book.account
each_within {r = r} {e = e} {s = s} {id = id} {v = v} at =
    subst (λ (g : Setup). IsWithin g v.book.account) (sym (own_setup at)) (record {
      held = λ i here. held_below at.rule id v at.is i (stands_times v.book.account.held i here);
      charge = λ o here.
          let m = marking_of r e s in
          let one =
          charged e m.mark m.slots m.accounts (lawful at.rule).coloured id v.book.account
          (stands at.rule id v at.is) o (stands_times v.book.account.charge o here) in
          marked_object e.objects (mark_in s.words (first_mark e)) o (omega (arith, one.0));
    })

module _ {B : Type 0} (r : Reading B) (e : Setup) (slots id : ℕ) (me : Me (Option B) SeatView) where
  pub sees_head :
      {t : TableId} (sound : IsSound t me) (q : Which)
      → Allows (Rule r e) slots id me (head_word q) (λ n. n) (head_seen (step slots (head_word q) 0 0 none) me)
  sees_head sound q =
      freed r e slots id (head_word q) (λ n. n) (head_seen (step slots (head_word q) 0 0 none) me) me sound.carries
      sound.share (λ s at.
      let h = head_of (slice_index s.words (head_word q)) in
      let is = is_loaded q h me.0.book in
      let u : SeatView = record (free me.0) { book = loaded q h me.0.book } in
      let w : SeatView = logged (log_after at (Load q)) u in
      let m = marking_of r e s in
      let rule : Rule r e (left s s.words s.homes id w) =
      noted at refl (Load q) tt s.words u refl (λ i h. refl) refl is.held is.setup
      (λ k. record m { accounts = (accounts_set s.views id w ∙ ap (set m.accounts id) is.account) k })
      (counts_changed at w (count_load q h) is.counts) in (
        w,
        keeps,
        tt,
        written_again s id (head_word q) w rule,
        (λ p same. (
          subst (λ k. RestsWith me (loaded k h me.0.book) (Load k ∷ []) (w, [])) (same_head q p same)
              (rests_after me at sound.all_said (Load q) w.book s.words (omega (arith, is.share, at.there)) rule),
          (λ i top. subst (λ (x : Setup). i < x.buffers) (sym (own_setup at)) (on_top at.rule q i top).1),
        )),
      ))

  pub sees_link :
      {t : TableId} (sound : IsSound t me) (q : Which) (h : Head) (i : ℕ)
      → (look_of me.0.book.account q).head ≡ Some h → h.index ≡ Some i → i < me.0.book.setup.buffers
      → Allows (Rule r e) slots id me (link_word i) (λ n. n) (link_seen q (step slots (link_word i) 0 0 none) me)
  sees_link sound q h i last top below =
      freed r e slots id (link_word i) (λ n. n) (link_seen q (step slots (link_word i) 0 0 none) me) me sound.carries
      sound.share (λ s at.
      let n = slice_index s.words (link_word i) in
      let u : SeatView = record (free me.0) { book = link_loaded q (index_of n) me.0.book } in
      let w : SeatView = logged (log_after at (LoadLink q)) u in
      let m = marking_of r e s in
      let small : i < e.buffers = subst (λ (x : Setup). i < x.buffers) (own_setup at) below in
      let found : last_link m.link (look_of me.0.book.account q).head ≡ index_of n =
      ap (last_link m.link) last ∙ ap (link_from m.link) top
      ∙ cut_below e.buffers (λ k. index_of (slice_index s.words (link_word k))) i small in
      let kept = kept_linked q (index_of n) me.0.book in
      let rule : Rule r e (left s s.words s.homes id w) =
      noted at refl (LoadLink q) (h, i, last, top) s.words u refl (λ j b. refl) refl kept.1 refl
      (λ k. record m {
        accounts = (accounts_set s.views id w
            ∙ ap (λ l. set m.accounts id (after_load_link q l me.0.book.account)) (sym found)) k;
      }) (counts_same at w refl) in (
        w,
        keeps,
        tt,
        written_again s id (link_word i) w rule,
        (
          rests_after me at sound.all_said (LoadLink q) w.book s.words (omega (arith, kept.0, at.there)) rule,
          subst (λ (x : Setup). n ≤ x.buffers) (sym (own_setup at)) (at.rule.linked i small),
        ),
      ))

  -- a compare-exchange of a word for itself notes the units of a split
  pub sets_aside : {t : TableId} (sound : IsSound t me) (word units : ℕ)
      → Allows (Rule r e) slots id me word (λ n. either (n == units) units n)
      (set_aside (step slots word units units none) me)
  sets_aside sound word units =
      freed r e slots id word (λ n. either (n == units) units n) (set_aside (step slots word units units none) me) me
      sound.carries sound.share (λ s at.
      let n = slice_index s.words word in
      let w : SeatView = logged (log_now at) (record (free me.0) { aside = units }) in
      let kept : Rule r e (left s (slice_set s.words word n) s.homes id w) =
      written_again s id word w (noticed at refl s.words w refl (λ j b. refl) refl refl refl (only_seen at w refl)) in
      let did = did_none at.rule.reached.events id (free me.0) (told at) sound.all_said.named in (
        w,
        keeps,
        tt,
        exchanged n units units (λ x. Rule r e (left s (slice_set s.words word x) s.homes id w))
            (λ hit. subst (λ x. Rule r e (left s (slice_set s.words word x) s.homes id w)) hit kept) (λ miss. kept),
        (refl, (did.0, did.1, did.2 ∙ sound.all_said.unsaid)),
      ))

  -- a load shows that the account has each thing once, and only things of the pool
  pub catches_up : (word : ℕ) → Carries me → 0 < me.0.book.account.share
      → Allows (Rule r e) slots id me word (λ n. n) (caught_up (step slots word 0 0 none) me)
  catches_up word carries there =
      freed r e slots id word (λ n. n) (caught_up (step slots word 0 0 none) me) me carries there
      (λ s at.
      let v : SeatView = free me.0 in
      let w : SeatView = logged (log_now at) v in
      let rule : Rule r e (left s s.words s.homes id w) =
      noticed at refl s.words w refl (λ j b. refl) refl refl refl (only_seen at v refl) in (
        w,
        keeps,
        tt,
        written_again s id word w rule,
        record {
          same = refl;
          each = has_each_once e (marking_of r e s) (lawful at.rule) id v.book.account (stands at.rule id v at.is);
          within = each_within at;
          did = did_none at.rule.reached.events id v (told at);
          story = story_now at s.words s.homes (log_now at) v rule there;
          knows = (told at).taken;
          fresh = (told at).fresh;
          apart = (told at).apart;
          ended = λ known n from.
              ends_taken e at.rule.reached.events (opening e e.first_tag) (marking_of r e s) n v.taken
              at.rule.reached.led.run ((told at).ended known n from);
        },
      ))

-- so the link may be loaded at its word
module _
    {B P : Type 0} {words : Shared (Option B) SeatView Key P} {seat : Seat (Option B) SeatView} (r : Reading B)
    (sits : SitsAt words seat) (sound : IsSound seat.table_id seat.me) where
  pub may_see_link :
      (q p : Which) (index : ℕ)
      → ((h : Head) × ((look_of seat.me.0.book.account q).head ≡ Some h) × (h.index ≡ Some index)
      × (index < seat.me.0.book.setup.buffers))
      → q ≡ p
      → (seat.table_id ≡ words.table_id) × (32 + index < words.table_id.words)
      × Allows (Rule r (setup_of words.key)) words.table_id.slots seat.id seat.me (32 + index) (λ n. n)
      (link_seen p (step words.table_id.slots (32 + index) 0 0 none) seat.me)
  may_see_link q p index looked is =
      let slots : seat.table_id.slots ≡ words.table_id.slots = ap (λ (x : TableId). x.slots) sits.same in (
        sits.same,
        omega (arith, looked.3, sits.laid.words, sits.laid.slots, sound.laid.slots, slots),
        sees_link r (setup_of words.key) words.table_id.slots seat.id seat.me sound p looked.0 index
            (subst (λ k. (look_of seat.me.0.book.account k).head ≡ Some looked.0) is looked.1) looked.2 looked.3,
      )
