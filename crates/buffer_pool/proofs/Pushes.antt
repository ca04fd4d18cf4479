-- A store of a held buffer's link, and an exchange of a head for that buffer, keep the rule. The exchange pushes, or it
-- fails.
use Rattle.std.proofs.Common.{◌≡◌, ◌≢◌, ℕ, suc, ◌+◌, ◌<◌, ◌≤◌, ◌==◌, nat_lt, if◌then◌else◌, List, [], ◌∷◌, length}
use Rattle.std.proofs.Common.{Option, Some, None, get_or, set, slice_index, slice_set, ap, sym, refl, subst, subst₂}
use Rattle.std.proofs.Common.{◌∙◌, length-set, arith}
use Rattle.buffer_pool.proofs.Words.{none, some, ℕ_discrete, get_elem?, either, TableId, State, Me, Allows, rest, step}
use Rattle.buffer_pool.proofs.Words.{stepped, carried_after, keeps, takes, gives, set_else, set_again, head_of}
use Rattle.buffer_pool.proofs.Words.{index_of, low_of, after, Which, Full, Empty, times, remove_one, IsPart, look_of}
use Rattle.buffer_pool.proofs.Words.{Setup, Marking, put, CanExchange, StoreLink, Push, Fail, IsBusy, effect}
use Rattle.buffer_pool.proofs.Words.{times-remove_one, times_stands, only-same, only-other, SeatView, Book, pushed}
use Rattle.buffer_pool.proofs.Words.{failed, CanPut, HasPushed, rested, link_stored, top_put, Did, LeadsToBook, IsSound}
use Rattle.buffer_pool.proofs.Words.{SitsAt, setup_of, Key, Seat, Shared, logged, head_word, link_word, Reading, IsTied}
use Rattle.buffer_pool.proofs.Words.{Rests, free, Rule, marking_of, has_each_once}
use mathlib.Core.Option as maybe
use Rattle.buffer_pool.proofs.States.{Seated, Goes, left, agrees, lawful, cut_below, cut_put, changed, accounts_set}
use Rattle.buffer_pool.proofs.States.{accounts_same, counts_same, slots_set, sized_set, happened, story_now, log_after}
use Rattle.buffer_pool.proofs.States.{nothing_out, written_again, own_setup, told, stands, held_alone, held_below}
use Rattle.buffer_pool.proofs.States.{held_away, freed, did_event, missed_reached}
use Rattle.buffer_pool.proofs.TableWords.{one_head, exchange_hit, exchange_miss, link_beside_head, links_beside_head}
use Rattle.buffer_pool.proofs.TableWords.{marks_beside_head, heads_after, idle_beside_head, idle_beside_link}
use Rattle.buffer_pool.proofs.TableWords.{head_below, head_beside_link, link_beside_link, link_here, marks_beside_link}
use Rattle.buffer_pool.proofs.TableWords.{links_after}

-- the link word for a buffer is at most the number of buffers
pub low_small : (index : Option ℕ) (buffers : ℕ) → ((i : ℕ) → index ≡ Some i → i < buffers) → low_of index ≤ buffers
low_small None buffers below = omega arith
low_small (Some i) buffers below = omega (arith, below i refl)

kept_pushed : (q : Which) (i : ℕ) (items : List ℕ) (b : Book)
    → ((pushed q i items b).account.held ≡ remove_one i b.account.held)
    × ((pushed q i items b).account.share ≡ b.account.share)
kept_pushed Full i items b = (refl, refl)
kept_pushed Empty i items b = (refl, refl)

module _ {B : Type 0} (m n : Me (Option B) SeatView) where
  -- a seat carries the buffer in its slot after an exchange put it there
  pub carried_with : (i j : ℕ) (b : B) → n ≡ (m.0, (i, Some b) ∷ rest m.1) → m.1 ≡ (j, None) ∷ []
      → n ≡ (m.0, (i, Some b) ∷ [])
  carried_with i j b exchanged carried = exchanged
      ∙ ap {B = Me (Option B) SeatView} (λ (xs : List (ℕ × Option B)). (m.0, (i, Some b) ∷ rest xs)) carried

  -- it still carries that slot after a step that leaves its slots as they were
  pub still_carried : (i : ℕ) (b : B) → n.1 ≡ m.1 → m.1 ≡ (i, Some b) ∷ [] → n.1 ≡ (i, Some b) ∷ rest n.1
  still_carried i b same carried =
      let now = same ∙ carried in now ∙ ap (λ (xs : List (ℕ × Option B)). (i, Some b) ∷ rest xs) (sym now)

  -- a push under other names of the same buffer and items is the same push
  pub told_of :
      (o : Me (Option B) SeatView) (q : Which) (i j : ℕ) (xs ys : List ℕ) → m.0 ≡ n.0 → i ≡ j → xs ≡ ys
      → HasPushed q i xs m o → HasPushed q j ys n o
  told_of o q i j xs ys same index items told =
      record {
        same = told.same ∙ (λ k. rested {B = B} (same k, []) o.0.log (pushed q (index k) (items k) (same k).book));
        did = subst (λ (x : SeatView). Did x.log (Push q j ys ∷ []) o.0.log) same
            (subst₂ (λ x zs. Did m.0.log (Push q x zs ∷ []) o.0.log) index items told.did);
        story = told.story;
      }

-- if a seat carries one slot only, that is the one that it took
one_carried : {B : Type 0} (i j : ℕ) (b c : B) → ◌≡◌ {A = List (ℕ × Option B)} ((i, Some b) ∷ [])
    ((j, Some c) ∷ []) → (i ≡ j) × (b ≡ c)
one_carried {B = B} i j b c e =
    let first : i ≡ j = ap (λ (xs : List (ℕ × Option B)). (get_or xs 0 (0, None)).0) e in
    let second : Some b ≡ Some c = ap (λ (xs : List (ℕ × Option B)). (get_or xs 0 (0, None)).1) e in (first, cc)

module _
    {B : Type 0} {r : Reading B} {e : Setup} {s : State (Option B) SeatView} {id : ℕ} {v : SeatView}
    (at : Seated r e s id v) (i : ℕ) (mine : 0 < times i v.book.account.held) where
  below : i < e.buffers
  below = held_below at.rule id v at.is i mine

  -- other seats hold other buffers, so a write at this seat's slot leaves theirs
  rests_beside : (h : maybe.Option (Option B)) (k : ℕ) (u : SeatView) → k ≢ id → get_elem? s.views k ≡ some u
      → Rests (set s.homes i h) u
  rests_beside h k u other is j theirs not_out =
      set_else s.homes i j h (λ same. held_alone at.rule id v at.is k u i other is mine
      (subst (λ x. 0 < times x u.book.account.held) same theirs)) ∙ at.rule.rests k u is j theirs not_out

  abbrev stored_view : ℕ → SeatView
  stored_view x = record (logged (log_after at (StoreLink i (index_of x))) v) { out = suc i; out_link = x }

  -- the rule holds after the link of a held buffer was stored and its slot was taken out
  stored_rule :
      (x : ℕ) → v.out ≡ 0 → x ≤ e.buffers
      → Rule r e (left s (set s.words (link_word i) x) (set s.homes i none) id (stored_view x))
  stored_rule x bare small =
      changed at words homes w (length-set s.words (link_word i) x) (length-set s.homes i none) linked
      (sized_set at.rule i none (λ c h. let gone : ⊥ = cc in absurd gone)) tied rests others refl
      (happened at (StoreLink i (index_of x)) (times_stands v.book.account.held i mine) words homes w refl
      (agrees (marking_of r e (left s words homes id w)) (record m { link = put i (index_of x) m.link })
      (λ q. ap head_of (head_beside_link e s.words i x q)) links (marks_beside_link e s.words i x below)
      (slots_set r s.homes i none ∙ set_again m.slots i None (held_away at.rule id v at.is i mine))
      (idle_beside_link e s.words i x) (accounts_same at w refl)) (counts_same at w refl))
    where
      m : Marking
      m = marking_of r e s

      words : List ℕ
      words = set s.words (link_word i) x

      homes : List (maybe.Option (Option B))
      homes = set s.homes i none

      w : SeatView
      w = stored_view x

      in_words : 32 + i < length s.words
      in_words = omega (arith, at.rule.word_count, below)

      linked : (j : ℕ) → j < e.buffers → slice_index words (link_word j) ≤ e.buffers
      linked j h = go (ℕ_discrete j i)
        where
          go : Dec (j ≡ i) → slice_index words (link_word j) ≤ e.buffers
          go (yes same) = subst (λ k. slice_index words (link_word k) ≤ e.buffers) (sym same)
              (omega (arith, link_here e s.words i x in_words))
          go (no other) = omega (arith, link_beside_link e s.words i x j other, at.rule.linked j h)

      tied : IsTied words w
      tied j out = let same : i ≡ j = omega (arith, out) in
          subst (λ k. (0 < times k v.book.account.held) × (slice_index words (link_word k) ≡ x)) same
          (mine, link_here e s.words i x in_words)

      rests : Rests homes w
      rests j held not_out = set_else s.homes i j none (λ same. not_out (ap suc (sym same)))
          ∙ at.rule.rests id v at.is j held (nothing_out v.out bare j)

      others : (k : ℕ) (u : SeatView) → k ≢ id → get_elem? s.views k ≡ some u → IsTied words u × Rests homes u
      others k u other is = (
        (λ j out. let t = at.rule.tied k u is j out in (
          t.0,
          link_beside_link e s.words i x j
              (λ same. held_alone at.rule id v at.is k u i other is mine
              (subst (λ y. 0 < times y u.book.account.held) same t.0)) ∙ t.1,
        )),
        rests_beside none k u other is,
      )

      links : (j : ℕ) → (marking_of r e (left s words homes id w)).link j ≡ put i (index_of x) m.link j
      links j =
          ap (λ y. if nat_lt j e.buffers then y else None) (links_after e s.words i x in_words j)
          ∙ cut_put e.buffers (λ k. index_of (slice_index s.words (link_word k))) i (index_of x) below j

  module _ (b : B) (out : v.out ≡ suc i) (q : Which) where
    abbrev push_view : SeatView
    push_view = record (logged (log_after at (Push q i (r.items b))) (free v))
        { book = pushed q i (r.items b) v.book }

    -- the rule holds after the head was exchanged for the buffer and its slot went home with it
    pushed_rule :
        (x : ℕ) → CanExchange (head_of (slice_index s.words (head_word q))) (look_of v.book.account q)
        → head_of x ≡ after (head_of (slice_index s.words (head_word q))) (Some i)
        → index_of v.out_link ≡ (head_of (slice_index s.words (head_word q))).index
        → IsPart (r.items b) v.book.account.charge → (q ≡ Empty → r.items b ≡ []) → r.size b ≡ v.book.setup.size
        → length (r.items b) ≤ v.book.setup.size → (q ≡ Full → IsBusy v.book.account)
        → Rule r e (left s (set s.words (head_word q) x) (set s.homes i (some (Some b))) id push_view)
    pushed_rule x can next leads part none_empty size fits busy =
        changed at words homes w (length-set s.words (head_word q) x) (length-set s.homes i (some (Some b)))
        (λ j h. omega (arith, link_beside_head e s.words q x j, at.rule.linked j h))
        (sized_set at.rule i (some (Some b)) (λ c h.
        let f : Some b ≡ Some c = maybe.some-injective (Some b) (Some c) h in
        let same : b ≡ c = cc in subst (λ (y : B). r.size y ≡ e.size) same right))
        (λ j o. absurd (nothing_out 0 refl j o)) rests (λ k u other is. (
          (λ j o. let t = at.rule.tied k u is j o in (t.0, link_beside_head e s.words q x j ∙ t.1)),
          rests_beside (some (Some b)) k u other is,
        )) refl
        (happened at (Push q i (r.items b))
        (can, (times_stands v.book.account.held i mine, part, room, none_empty), follows, busy) words homes w refl
        (agrees (marking_of r e (left s words homes id w)) (effect m id v.book.account (Push q i (r.items b)))
        (heads_after e s.words q x (after (m.head q) (Some i)) (omega (arith, at.rule.word_count)) next)
        (links_beside_head e s.words q x) (marks_beside_head e s.words q x) (slots_set r s.homes i (some (Some b)))
        (idle_beside_head e s.words q x) (accounts_set s.views id w)) (counts_same at w refl))
      where
        m : Marking
        m = marking_of r e s

        words : List ℕ
        words = set s.words (head_word q) x

        homes : List (maybe.Option (Option B))
        homes = set s.homes i (some (Some b))

        w : SeatView
        w = push_view

        right : r.size b ≡ e.size
        right = size ∙ ap (λ (k : Setup). k.size) (own_setup at)

        rests : Rests homes w
        rests j held not_out =
            let kept : 0 < times j (remove_one i v.book.account.held) =
            subst (λ xs. 0 < times j xs) (kept_pushed q i (r.items b) v.book).0 held in
            let each = has_each_once e m (lawful at.rule) id v.book.account (stands at.rule id v at.is) in
            let sum = times-remove_one j i v.book.account.held mine in
            let other : j ≢ i = λ same. omega (arith, each.held j, only-same j i (sym same)) in
            let old : 0 < times j v.book.account.held = omega (arith, only-other j i (λ t. other (sym t))) in
            set_else s.homes i j (some (Some b)) other
            ∙ at.rule.rests id v at.is j old (λ o. other (omega (arith, o, out)))

        follows : m.link i ≡ (m.head q).index
        follows =
            cut_below e.buffers (λ k. index_of (slice_index s.words (link_word k))) i below
            ∙ ap index_of (at.rule.tied id v at.is i out).1 ∙ leads

        room : length (r.items b) ≤ e.size
        room = subst (λ (g : Setup). length (r.items b) ≤ g.size) (own_setup at) fits

module _ {B : Type 0} (r : Reading B) (e : Setup) (slots id : ℕ) (me : Me (Option B) SeatView) where
  pub stores :
      {t : TableId} (sound : IsSound t me) (i x : ℕ) → 0 < times i me.0.book.account.held → x ≤ e.buffers
      → Allows (Rule r e) slots id me (link_word i) (λ n. x) (λ n. link_stored (step slots (link_word i) x 0 none) me x)
  stores sound i x mine small =
      freed r e slots id (link_word i) (λ n. x) (λ n. link_stored (step slots (link_word i) x 0 none) me x) me
      sound.carries sound.share (λ s at.
      let v : SeatView = free me.0 in
      let w : SeatView = stored_view at i mine x in
      let words = set s.words (link_word i) x in
      let rule : Rule r e (left s words (set s.homes i none) id w) = stored_rule at i mine x refl small in
      let did = did_event at sound.all_said.named sound.all_said.unsaid (StoreLink i (index_of x)) in (
        w,
        takes i None,
        at.rule.rests id v at.is i mine (nothing_out 0 refl i),
        rule,
        (λ j h. let same : i ≡ j = omega (arith, h) in (
          ap (λ k. (record (logged w.log me.0) { out = suc k; out_link = x }, (k, None) ∷ [])) same,
          subst (λ k. Did me.0.log (StoreLink k (index_of x) ∷ []) w.log) same did,
          story_now at words (set s.homes i none) w.log w rule at.there,
        )),
      ))

  pub pushes :
      (q : Which) (old new i : ℕ) (b : B) → CanPut r q me old new i b
      → Allows (Rule r e) slots id me (head_word q) (λ n. either (n == old) new n)
      (top_put r q (step slots (head_word q) old new none) me)
  pushes q old new i b can s rule count is fits =
      go (record { rule = rule; is = is; there = can.share }) (ℕ_discrete (slice_index s.words (head_word q)) old)
    where
      v : SeatView
      v = me.0

      go : Seated r e s id v → Dec (slice_index s.words (head_word q) ≡ old)
          → Goes r e slots id (head_word q) (λ n. either (n == old) new n)
          (top_put r q (step slots (head_word q) old new none) me) me.1 s
      go at (yes hit) =
          let n = slice_index s.words (head_word q) in
          let same : old ≡ n = sym hit in
          let w : SeatView = push_view at i can.held b can.out q in
          let homes = set s.homes i (some (Some b)) in
          let after_it : Rule r e (left s (set s.words (head_word q) new) homes id w) =
          pushed_rule at i can.held b can.out q new
          (subst (λ x. CanExchange (head_of x) (look_of v.book.account q)) same (can.last, can.short))
          (can.next ∙ ap (λ x. after (head_of x) (Some i)) same)
          (can.leads ∙ ap (λ x. (head_of x).index) same) can.part can.bare can.size can.fits can.busy in
          let put : Rule r e (stepped s (head_word q) (either (n == old) new n) id ((i, Some b) ∷ []) w gives) =
          subst (λ x. Rule r e (left s (set s.words (head_word q) x) homes id w))
          (sym (exchange_hit n old new hit)) after_it in
          let did = did_event at can.all_said.named can.all_said.unsaid (Push q i (r.items b)) in
          let story : LeadsToBook w.log w.book =
          story_now at (set s.words (head_word q) new) homes w.log w after_it
          (omega (arith, can.share, (kept_pushed q i (r.items b) me.0.book).1)) in (
            w,
            gives,
            tt,
            subst (λ c. Rule r e (stepped s (head_word q) (either (n == old) new n) id c w gives))
                (sym can.carried) put,
            (
              (λ h j c t. let one = one_carried i j b c (sym can.carried ∙ t) in
                  let a : (w, []) ≡ rested me w.log (pushed q j (r.items c) me.0.book) =
                  λ k. rested me w.log (pushed q (one.0 k) (r.items (one.1 k)) me.0.book) in
                  record {
                    same = subst (λ xs. (w, carried_after xs gives)
                        ≡ rested me w.log (pushed q j (r.items c) me.0.book)) (sym can.carried) a;
                    did = subst₂ (λ k (y : B). Did me.0.log (Push q k (r.items y) ∷ []) w.log) one.0 one.1 did;
                    story = story;
                  }),
              (λ miss. absurd (miss hit)),
            ),
          )
      go at (no miss) =
          let n = slice_index s.words (head_word q) in
          let w : SeatView = record (logged (log_after at (Fail q)) v) { book = failed v.book } in
          let after_it : Rule r e (left s s.words s.homes id w) =
          changed at s.words s.homes w refl refl at.rule.linked at.rule.sized (at.rule.tied id v at.is)
          (at.rule.rests id v at.is) (λ k u other h. (at.rule.tied k u h, at.rule.rests k u h)) refl
          (missed_reached at q (head_of old) can.last (λ same. miss (one_head n old same))) in (
            w,
            keeps,
            tt,
            subst (λ x. Rule r e (left s (slice_set s.words (head_word q) x) s.homes id w))
                (sym (exchange_miss n old new miss)) (written_again s id (head_word q) w after_it),
            (
              (λ hit j c t. absurd (miss hit)),
              (λ h. (
                refl,
                did_event at can.all_said.named can.all_said.unsaid (Fail q),
                story_now at s.words s.homes w.log w after_it can.share,
              )),
            ),
          )

-- so the step may be made at the head's word
module _
    {B P : Type 0} {words : Shared (Option B) SeatView Key P} {seat : Seat (Option B) SeatView} (r : Reading B)
    (sits : SitsAt words seat) where
  pub may_put : (q p : Which) (old new word : ℕ) → word ≡ head_word q
      → ((i : ℕ) × (b : B) × CanPut r q seat.me old new i b) → q ≡ p
      → (seat.table_id ≡ words.table_id) × (word < words.table_id.words)
      × Allows (Rule r (setup_of words.key)) words.table_id.slots seat.id seat.me word (λ n. either (n == old) new n)
      (top_put r p (step words.table_id.slots word old new none) seat.me)
  may_put q p old new word is_head put is =
      let small = head_below q in
      let slots = words.table_id.slots in (
        sits.same,
        omega (arith, is_head, small, sits.laid.words),
        subst₂ (λ k x. Allows (Rule r (setup_of words.key)) slots seat.id seat.me x (λ n. either (n == old) new n)
            (top_put r k (step slots x old new none) seat.me)) is (sym is_head)
            (pushes r (setup_of words.key) slots seat.id seat.me q old new put.0 put.1 put.2),
      )
