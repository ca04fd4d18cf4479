-- Going idle, coming back and looking at the idle word keep the rule, and are the events of those names.
use Rattle.buffer_pool.proofs.Words.{Allows, Book, CanIdle, CanWake, Counts, IdleDown, IdleUp, IsSound, Key, Kind, List}
use Rattle.buffer_pool.proofs.Words.{LoadIdle, Marking, Me, None, Option, Reading, RestsWith, Rule, Seat, SeatView}
use Rattle.buffer_pool.proofs.Words.{Setup, Shared, Shows, SitsAt, State, TableId, [], ap, arith, came_back}
use Rattle.buffer_pool.proofs.Words.{count_load_idle, counted, counts_of, effect, free, head_of, idle_loaded, idle_seen}
use Rattle.buffer_pool.proofs.Words.{idle_word, idled, if◌then◌else◌, index_of, keeps, length-set, logged, map}
use Rattle.buffer_pool.proofs.Words.{marking_of, nat_lt, none, refl, set, setup_of, slice_index, step, subst, sym}
use Rattle.buffer_pool.proofs.Words.{view_counts, went_idle, woken, word_down, word_up, ℕ, ◌<◌, ◌∙◌, ◌∷◌, ◌≡◌}
use Rattle.buffer_pool.proofs.States.{left, agrees, accounts_set, counts_same, counts_changed, happened_led}
use Rattle.buffer_pool.proofs.States.{written_again, own_setup, rests_after, log_after, freed}
use Rattle.buffer_pool.proofs.Loads.{noted}
use Rattle.buffer_pool.proofs.TableWords.{head_beside_idle, link_beside_idle, marks_beside_idle, idle_here}
use Rattle.mark_core.specs.Events as may

-- a step that changes the idle word is an event that changes only that word and the account
module _
    {B : Type 0} (r : Reading B) (e : Setup) (slots id : ℕ) (me : Me (Option B) SeatView) {t : TableId}
    (sound : IsSound t me) where
  idle_changes :
      (kind : Kind) (f : ℕ → ℕ) (b : Book) → b.account.share ≡ me.0.book.account.share
      → b.account.held ≡ me.0.book.account.held → b.setup ≡ me.0.book.setup → counts_of b ≡ counts_of me.0.book
      → ((m : Marking) → may.Allows e m id me.0.book.account kind)
      → ((m : Marking) → effect m id me.0.book.account kind
      ≡ record m { idle = f m.idle; accounts = set m.accounts id b.account })
      → ((m : Marking) (counts : List Counts) → counted m counts id kind ≡ counts)
      → Allows (Rule r e) slots id me idle_word f (λ n after. RestsWith me b (kind ∷ []) after)
  idle_changes kind f b share held setup counts can is_effect is_counted =
      freed r e slots id idle_word f (λ n after. RestsWith me b (kind ∷ []) after) me sound.carries sound.share (λ s at.
      let x : ℕ = f (slice_index s.words idle_word) in
      let words = set s.words idle_word x in
      let u : SeatView = record (free me.0) { book = b } in
      let w : SeatView = logged (log_after at kind) u in
      let m = marking_of r e s in
      let t : State (Option B) SeatView = left s words s.homes id w in
      let changed : marking_of r e t ≡ record m { idle = x; accounts = set m.accounts id b.account } =
      agrees (marking_of r e t) (record m { idle = x; accounts = set m.accounts id b.account })
      (λ q. ap head_of (head_beside_idle e s.words x q))
      (λ i. ap (λ y. if nat_lt i e.buffers then index_of y else None) (link_beside_idle e s.words x i))
      (marks_beside_idle e s.words x) refl (idle_here e s.words x (omega (arith, at.rule.word_count)))
      (accounts_set s.views id w) in
      let rule : Rule r e t =
      noted at refl kind (can m) words u (length-set s.words idle_word x) (λ i h. link_beside_idle e s.words x i) refl
      held setup (changed ∙ sym (is_effect m))
      (counts_same at w counts ∙ sym (is_counted m (map view_counts s.views))) in
      (w, keeps, tt, rule, rests_after me at sound.all_said kind b words (omega (arith, share, at.there)) rule))

-- so the worker may change and load the idle word
module _
    {B P : Type 0} {words : Shared (Option B) SeatView Key P} {seat : Seat (Option B) SeatView} (r : Reading B)
    (sits : SitsAt words seat) (sound : IsSound seat.table_id seat.me) where
  abbrev Goes : (ℕ → ℕ) → (ℕ → Me (Option B) SeatView → Type 0) → Type 0
  Goes f told = (seat.table_id ≡ words.table_id) × (8 < words.table_id.words)
      × Allows (Rule r (setup_of words.key)) words.table_id.slots seat.id seat.me idle_word f told

  pub goes_idle : CanIdle seat.me.0.book.account
      → Goes (λ n. word_up n) (went_idle (step words.table_id.slots idle_word 1 0 none) seat.me)
  goes_idle can = (
    sits.same,
    omega (arith, sits.laid.words),
    idle_changes r (setup_of words.key) words.table_id.slots seat.id seat.me sound IdleUp word_up
        (idled seat.me.0.book) refl refl refl refl (λ m. can) (λ m. refl) (λ m counts. refl),
  )

  pub comes_back : CanWake seat.me.0.book.account
      → Goes (λ n. word_down n) (came_back (step words.table_id.slots idle_word 1 0 none) seat.me)
  comes_back can = (
    sits.same,
    omega (arith, sits.laid.words),
    idle_changes r (setup_of words.key) words.table_id.slots seat.id seat.me sound IdleDown word_down
        (woken seat.me.0.book) refl refl refl refl (λ m. can) (λ m. refl) (λ m counts. refl),
  )

  pub sees_idle : Goes (λ n. n) (idle_seen (step words.table_id.slots idle_word 0 0 none) seat.me)
  sees_idle =
      let me = seat.me in
      let e = setup_of words.key in
      let slots = words.table_id.slots in (
        sits.same,
        omega (arith, sits.laid.words),
        freed r e slots seat.id idle_word (λ n. n) (idle_seen (step slots idle_word 0 0 none) me) me sound.carries
            sound.share (λ s at.
            let n = slice_index s.words idle_word in
            let u : SeatView = record (free me.0) { book = idle_loaded n me.0.book } in
            let w : SeatView = logged (log_after at LoadIdle) u in
            let t : State (Option B) SeatView = left s s.words s.homes seat.id w in
            let marking : marking_of r e t ≡ effect (marking_of r e s) seat.id me.0.book.account LoadIdle =
            λ k. record (marking_of r e s) { accounts = accounts_set s.views seat.id w k } in
            let counts = counts_changed at w count_load_idle refl in
            let shows : Shows e w.log.story n =
            (marking_of r e t, map view_counts t.views, happened_led at LoadIdle tt t marking counts, refl) in
            let rule : Rule r e t =
            noted at refl LoadIdle tt s.words u refl (λ i h. refl) refl refl refl marking counts in (
              w,
              keeps,
              tt,
              written_again s seat.id idle_word w rule,
              (
                rests_after me at sound.all_said LoadIdle u.book s.words at.there rule,
                subst (λ (x : Setup). Shows x w.log.story n) (sym (own_setup at)) shows,
              ),
            )),
      )
