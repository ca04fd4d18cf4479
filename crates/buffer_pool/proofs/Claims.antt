-- Claims and finishes keep the rule, and are the events `Claim` and `Finish`.
use Rattle.std.proofs.Common.{◌≡◌, ℕ, ◌+◌, ◌/◌, ◌%◌, ◌<◌, ◌≤◌, max, bit_or, [], ◌∷◌, map, List, Option, set}
use Rattle.std.proofs.Common.{slice_index, ap, sym, refl, subst, subst₂, ◌∙◌, ⊎_elim, length-set, arith}
use Rattle.buffer_pool.proofs.Words.{All-contains, none, TableId, State, Me, Step, Allows, step, keeps, head_of}
use Rattle.buffer_pool.proofs.Words.{index_of, Account, after_claim, Setup, Marking, put, Kind, Claim, Finish, CanClaim}
use Rattle.buffer_pool.proofs.Words.{CanFinish, IsBusy, effect, counted, linear, SeatView, claimed, finished, RestsWith}
use Rattle.buffer_pool.proofs.Words.{claim_made, finish_made, IsLaid, IsSound, SitsAt, setup_of, Key, Seat, Shared}
use Rattle.buffer_pool.proofs.Words.{mark_in, mark_bits, mark_at, first_mark, link_word, mark_word, Reading, free}
use Rattle.buffer_pool.proofs.Words.{Rule, marking_of, view_counts, logged, has_each_once}
use Rattle.std.specs.Int.{bit_at}
use Rattle.mark_core.specs.Events as may
use Rattle.buffer_pool.proofs.Bits.{cut_object, mark_claimed, mark_finished, one_mark}
use Rattle.buffer_pool.proofs.States.{Seated, left, agrees, lawful, cut_same, accounts_set, counts_same, rests_after}
use Rattle.buffer_pool.proofs.States.{log_after, own_setup, seat_has, stands, freed}
use Rattle.buffer_pool.proofs.Loads.{noted}
use Rattle.buffer_pool.proofs.TableWords.{head_beside_mark, idle_beside_mark, link_beside_mark, marks_after, raised}
use Rattle.buffer_pool.proofs.TableWords.{raised_words}

module _
    {B : Type 0} {r : Reading B} {e : Setup} {s : State (Option B) SeatView} {id : ℕ} {v : SeatView}
    (at : Seated r e s id v) (bare : v.out ≡ 0) where
  -- the marking in which object o has mark x and the seat has account a
  abbrev marked_now : ℕ → ℕ → Account → Marking
  marked_now o x a =
      record (marking_of r e s) {
        mark = put o x (marking_of r e s).mark;
        accounts = set (marking_of r e s).accounts id a;
      }

  -- the rule holds after the bits of c were set at the mark of an object and the account of the seat changed
  marked :
      (o c x : ℕ) (u : SeatView) (kind : Kind) → c < 4 → o < e.objects → mark_at (raised e s.words o c) (o % 32) ≡ x
      → u.out ≡ 0 → u.book.account.held ≡ v.book.account.held → u.book.setup ≡ v.book.setup
      → view_counts u ≡ view_counts v → may.Allows e (marking_of r e s) id v.book.account kind
      → effect (marking_of r e s) id v.book.account kind ≡ marked_now o x u.book.account
      → counted (marking_of r e s) (map view_counts s.views) id kind ≡ map view_counts s.views
      → Rule r e (left s (raised_words e s.words o c) s.homes id (logged (log_after at kind) u))
  marked o c x u kind small below becomes out held setup counts can is_effect is_counted =
      noted at bare kind can words u (length-set s.words (mark_word e o) (raised e s.words o c))
      (link_beside_mark e s.words o c) out held setup (marking ∙ sym is_effect)
      (counts_same at w counts ∙ sym is_counted)
    where
      words : List ℕ
      words = raised_words e s.words o c

      w : SeatView
      w = logged (log_after at kind) u

      link_at : List ℕ → ℕ → Option ℕ
      link_at ws i = index_of (slice_index ws (link_word i))

      marking : marking_of r e (left s words s.homes id w) ≡ marked_now o x u.book.account
      marking =
          agrees (marking_of r e (left s words s.homes id w)) (marked_now o x u.book.account)
          (λ q. ap head_of (head_beside_mark e s.words o c q))
          (cut_same e.buffers (link_at words) (link_at s.words)
          (λ i h. ap index_of (link_beside_mark e s.words o c i h)))
          (marks_after e s.words o c x small below (omega (arith, at.rule.word_count, below)) becomes) refl
          (idle_beside_mark e s.words o c) (accounts_set s.views id w)

-- an object has a mark, so its two bits are not 10
pub mark_known :
    {B : Type 0} {r : Reading B} {e : Setup} {s : State (Option B) SeatView} (rule : Rule r e s) (o : ℕ) → o < e.objects
    → mark_at (slice_index s.words (mark_word e o)) (o % 32) ≤ 2
mark_known {r = r} {e = e} {s = s} rule o below =
    let m = marking_of r e s in
    let seen = cut_object e.objects (mark_in s.words (first_mark e)) o below in
    omega (arith, seen, linear e m.mark m.slots m.accounts (lawful rule).coloured o)

-- the word and the bits of a mark determine the object
one_object :
    (first o p c : ℕ) → c < 4 → bit_at c 0 ≡ 1 → first + o / 32 ≡ first + p / 32 → mark_bits c o ≡ mark_bits c p → o ≡ p
one_object first o p c small odd word bits =
    let place : o % 32 ≡ p % 32 = one_mark c (o % 32) (p % 32) small odd bits in omega (arith, place, word)

module _ {B : Type 0} (r : Reading B) (e : Setup) (slots id : ℕ) (me : Me (Option B) SeatView) where
  pub claims :
      {t : TableId} (sound : IsSound t me) (o : ℕ) → CanClaim me.0.book.setup o me.0.book.account
      → IsBusy me.0.book.account → o < me.0.book.setup.objects
      → Allows (Rule r e) slots id me (mark_word e o) (λ n. bit_or n (mark_bits 1 o))
      (claim_made (step slots (mark_word e o) (mark_bits 1 o) 0 none) me)
  claims sound o can busy within =
      let made = claim_made (step slots (mark_word e o) (mark_bits 1 o) 0 none) me in
      freed r e slots id (mark_word e o) (λ n. bit_or n (mark_bits 1 o)) made me sound.carries sound.share (λ s at.
      let n = slice_index s.words (mark_word e o) in
      let found : ℕ = mark_at n (o % 32) in
      let u : SeatView = record (free me.0) { book = claimed o found me.0.book } in
      let m = marking_of r e s in
      let a = me.0.book.account in
      let below : o < e.objects = subst (λ (g : Setup). o < g.objects) (own_setup at) within in
      let seen : m.mark o ≡ found = cut_object e.objects (mark_in s.words (first_mark e)) o below in
      let known : found ≤ 2 = mark_known at.rule o below in
      let is_effect : effect m id a (Claim o) ≡ marked_now at refl o (max found 1) u.book.account =
      λ k. record m { mark = put o (max (seen k) 1) m.mark; accounts = set m.accounts id (after_claim o (seen k) a) } in
      let words = raised_words e s.words o 1 in
      let rule : Rule r e (left s words s.homes id (logged (log_after at (Claim o)) u)) =
      marked at refl o 1 (max found 1) u (Claim o) (omega arith) below (mark_claimed n (o % 32) known) refl refl refl
      refl (subst (λ (g : Setup). CanClaim g o a) (own_setup at) can, busy) is_effect refl in (
        logged (log_after at (Claim o)) u,
        keeps,
        tt,
        rule,
        (λ p h bits.
            let b : me.0.book.setup.buffers ≡ e.buffers = ap (λ (x : Setup). x.buffers) (own_setup at) in
            let k : o ≡ p = one_object (32 + e.buffers) o p 1 (omega arith) refl (omega (arith, h, b)) bits in
            subst (λ x. RestsWith me (claimed x (mark_at n (x % 32)) me.0.book) (Claim x ∷ [])
            (logged (log_after at (Claim o)) u, []) × (mark_at n (x % 32) ≤ 2)) k
            (rests_after me at sound.all_said (Claim o) u.book words at.there rule, known)),
      ))

  pub finishes :
      {t : TableId} (sound : IsSound t me) (o : ℕ) → CanFinish me.0.book.setup o me.0.book.account
      → o < me.0.book.setup.objects
      → Allows (Rule r e) slots id me (mark_word e o) (λ n. bit_or n (mark_bits 3 o))
      (finish_made (step slots (mark_word e o) (mark_bits 3 o) 0 none) me)
  finishes sound o can within =
      let made = finish_made (step slots (mark_word e o) (mark_bits 3 o) 0 none) me in
      freed r e slots id (mark_word e o) (λ n. bit_or n (mark_bits 3 o)) made me sound.carries sound.share (λ s at.
      let n = slice_index s.words (mark_word e o) in
      let u : SeatView = record (free me.0) { book = finished o me.0.book } in
      let w : SeatView = logged (log_after at (Finish o)) u in
      let a = me.0.book.account in
      let below : o < e.objects = subst (λ (g : Setup). o < g.objects) (own_setup at) within in
      let words = raised_words e s.words o 3 in
      let t : State (Option B) SeatView = left s words s.homes id w in
      let rule : Rule r e t =
      marked at refl o 3 2 u (Finish o) (omega arith) below (mark_finished n (o % 32)) refl refl refl refl
      (subst (λ (g : Setup). CanFinish g o a) (own_setup at) can) refl refl in
      let once =
      has_each_once e (marking_of r e t) (lawful rule) id w.book.account (stands rule id w (seat_has at w)) in (
        w,
        keeps,
        tt,
        rule,
        (λ p h bits.
            let b : me.0.book.setup.buffers ≡ e.buffers = ap (λ (x : Setup). x.buffers) (own_setup at) in
            let k : o ≡ p = one_object (32 + e.buffers) o p 3 (omega arith) refl (omega (arith, h, b)) bits in (
              subst (λ x. RestsWith me (finished x me.0.book) (Finish x ∷ []) (w, [])) k
                  (rests_after me at sound.all_said (Finish o) u.book words at.there rule),
              (λ x. omega (arith, once.objects x)),
            )),
      ))

-- the word of an object by the table's setup exists, and is the one by the worker's setup
module _
    {B P : Type 0} {words : Shared (Option B) SeatView Key P} {seat : Seat (Option B) SeatView}
    (sits : SitsAt words seat) (sound : IsSound seat.table_id seat.me) (buffers o word : ℕ)
    (is : buffers ≡ words.key.buffers) (at : word ≡ 32 + buffers + o / 32) where
  pub own_word : word ≡ mark_word seat.me.0.book.setup o
  own_word = let slots = ap (λ (x : TableId). x.slots) sits.same in
      omega (arith, slots, sits.laid.slots, sound.laid.slots, is, at)

  -- so a step may set bits there
  pub sets_mark :
      (r : Reading B) (bits set : ℕ) → set ≡ mark_bits bits o → o < seat.me.0.book.setup.objects
      → (made : Step (Option B) → Me (Option B) SeatView → ℕ → Me (Option B) SeatView → Type 0)
      → Allows (Rule r (setup_of words.key)) words.table_id.slots seat.id seat.me (mark_word (setup_of words.key) o)
      (λ n. bit_or n (mark_bits bits o))
      (made (step words.table_id.slots (mark_word (setup_of words.key) o) (mark_bits bits o) 0 none) seat.me)
      → (seat.table_id ≡ words.table_id) × (word < words.table_id.words)
      × Allows (Rule r (setup_of words.key)) words.table_id.slots seat.id seat.me word (λ n. bit_or n set)
      (made (step words.table_id.slots word set 0 none) seat.me)
  sets_mark r bits set is_bits below made may = (
    sits.same,
    omega (arith, own_word, below, sound.laid.words, ap (λ (x : TableId). x.words) sits.same),
    subst₂ (λ x y. Allows (Rule r (setup_of words.key)) words.table_id.slots seat.id seat.me x (λ n. bit_or n y)
        (made (step words.table_id.slots x y 0 none) seat.me)) (sym (omega (arith, is, at))) (sym is_bits) may,
  )

-- what an account may claim or finish is an object
pub claimable_within : (t : TableId) (e : Setup) (a : Account) (o : ℕ) → IsLaid t e → CanClaim e o a → o < e.objects
claimable_within t e a o laid can = ⊎_elim (λ root. All-contains (λ x. x < e.objects) e.roots o laid.roots root)
    (λ next. (All-contains (λ (p : ℕ × ℕ). (p.0 < e.objects) × (p.1 < e.objects)) e.pairs
    (next.0, o) laid.pairs next.2).1) can
