-- Each step keeps the invariant of a seat between two calls.
use Rattle.std.proofs.Common.{◌≡◌, ◌==◌, Bool, true, false, if◌then◌else◌, ℕ, suc, ◌<◌, List, [], ◌∷◌, ◌++◌, Option}
use Rattle.std.proofs.Common.{None, Contains, sym, ap, refl, subst, ⊎_elim, arith}
use Rattle.buffer_pool.proofs.Words.{Me, TableId, Head, Which, Full, Empty, times, remove_one, without, IsPart, Setup}
use Rattle.buffer_pool.proofs.Words.{Kind, stands_times, times_stands, stands_push, stands_append, times-remove_one}
use Rattle.buffer_pool.proofs.Words.{times-without, SeatView, Book, loaded, link_loaded, popped, pushed, claimed}
use Rattle.buffer_pool.proofs.Words.{finished, IsWithin, IsBare, IsLaid, IsSound, RestsWith, rested, Log, LeadsToBook}
use Rattle.buffer_pool.proofs.Words.{HasSaidAll, logged, slots_of}

-- all elements of a list are below a bound after one below it was added, or one was removed
below_push : (xs : List ℕ) (x n : ℕ) → ((y : ℕ) → Contains xs y → y < n) → x < n → (y : ℕ) → Contains (xs ++ x ∷ []) y
    → y < n
below_push xs x n all below y here = ⊎_elim (all y) (λ same. subst (λ z. z < n) same below) (stands_push xs x y here)

below_removed : (xs : List ℕ) (x n : ℕ) → ((y : ℕ) → Contains xs y → y < n) → 0 < times x xs → (y : ℕ)
    → Contains (remove_one x xs) y → y < n
below_removed xs x n all mine y here =
    let there = stands_times (remove_one x xs) y here in
    all y (times_stands xs y (omega (arith, times-remove_one y x xs mine)))

module _ {B : Type 0} {t : TableId} {m : Me (Option B) SeatView} (sound : IsSound t m) where
  -- the seat is sound with another book that has the same setup and share and is within the setup
  sound_rested :
      (log : Log) (b : Book) → b.setup ≡ m.0.book.setup → b.account.share ≡ m.0.book.account.share
      → IsWithin m.0.book.setup b.account → LeadsToBook log b → IsSound t (rested m log b)
  sound_rested log b setup share within story =
      record {
        laid = subst (IsLaid t) (sym setup) sound.laid;
        share = subst (λ n. 0 < n) (sym share) sound.share;
        carries = refl;
        within = subst (λ (e : Setup). IsWithin e b.account) (sym setup) within;
        all_said = record { named = refl; unsaid = refl };
        story = story;
      }

  -- in particular if the account holds and is charged with the same
  pub sound_looked :
      (b : Book) → b.setup ≡ m.0.book.setup → b.account.share ≡ m.0.book.account.share
      → b.account.held ≡ m.0.book.account.held → b.account.charge ≡ m.0.book.account.charge → (log : Log)
      → LeadsToBook log b → IsSound t (rested m log b)
  sound_looked b setup share held charge log =
      sound_rested log b setup share (record {
        held = subst (λ xs. (i : ℕ) → Contains xs i → i < m.0.book.setup.buffers) (sym held) sound.within.held;
        charge = subst (λ xs. (o : ℕ) → Contains xs o → o < m.0.book.setup.objects) (sym charge) sound.within.charge;
      })

  pub sound_loaded :
      (q : Which) (h : Head) (log : Log) → LeadsToBook log (loaded q h m.0.book)
      → IsSound t (rested m log (loaded q h m.0.book))
  sound_loaded Full h = sound_looked (loaded Full h m.0.book) refl refl refl refl
  sound_loaded Empty h = sound_looked (loaded Empty h m.0.book) refl refl refl refl

  pub sound_linked :
      (q : Which) (l : Option ℕ) (log : Log) → LeadsToBook log (link_loaded q l m.0.book)
      → IsSound t (rested m log (link_loaded q l m.0.book))
  sound_linked Full l = sound_looked (link_loaded Full l m.0.book) refl refl refl refl
  sound_linked Empty l = sound_looked (link_loaded Empty l m.0.book) refl refl refl refl

  pub sound_claimed :
      (o found : ℕ) → o < m.0.book.setup.objects → (log : Log) → LeadsToBook log (claimed o found m.0.book)
      → IsSound t (rested m log (claimed o found m.0.book))
  sound_claimed o found below log =
      sound_rested log (claimed o found m.0.book) refl refl
      (record { held = sound.within.held; charge = either_way (found == 0) })
    where
      either_way : (white : Bool) (x : ℕ)
          → Contains (if white then m.0.book.account.charge ++ o ∷ [] else m.0.book.account.charge) x
          → x < m.0.book.setup.objects
      either_way true = below_push m.0.book.account.charge o m.0.book.setup.objects sound.within.charge below
      either_way false = sound.within.charge

  pub sound_finished :
      (o : ℕ) → 0 < times o m.0.book.account.charge → (log : Log) → LeadsToBook log (finished o m.0.book)
      → IsSound t (rested m log (finished o m.0.book))
  sound_finished o mine log =
      sound_rested log (finished o m.0.book) refl refl (record {
        held = sound.within.held;
        charge = below_removed m.0.book.account.charge o m.0.book.setup.objects sound.within.charge mine;
      })

  pub sound_popped :
      (after : Me (Option B) SeatView) (i : ℕ) (items : List ℕ) → i < m.0.book.setup.buffers
      → ((o : ℕ) → Contains items o → o < m.0.book.setup.objects)
      → after.1 ≡ (i, None) ∷ [] → after.0.out ≡ suc i → after.0.book ≡ popped i items m.0.book → HasSaidAll after.0
      → LeadsToBook after.0.log after.0.book → IsSound t after
  sound_popped after i items below objects carried out book done story =
      record {
        laid = subst (λ (b : Book). IsLaid t b.setup) (sym book) sound.laid;
        share = subst (λ (b : Book). 0 < b.account.share) (sym book) sound.share;
        carries = subst (λ n. after.1 ≡ slots_of n) (sym out) carried;
        within = subst (λ (b : Book). IsWithin b.setup b.account) (sym book) (record {
          held = below_push m.0.book.account.held i m.0.book.setup.buffers sound.within.held below;
          charge = charge;
        });
        all_said = done;
        story = story;
      }
    where
      charge : (o : ℕ) → Contains (m.0.book.account.charge ++ items) o → o < m.0.book.setup.objects
      charge o here = ⊎_elim (λ before. sound.within.charge o before) (λ item. objects o item)
          (stands_append m.0.book.account.charge items o here)

  -- a pushed buffer is no longer held, and its items are no longer charged
  pub sound_pushed :
      (q : Which) (i : ℕ) (items : List ℕ) → 0 < times i m.0.book.account.held
      → IsPart items m.0.book.account.charge → (log : Log) → LeadsToBook log (pushed q i items m.0.book)
      → IsSound t (rested m log (pushed q i items m.0.book))
  sound_pushed q i items mine part log = go q
    where
      held : (j : ℕ) → Contains (remove_one i m.0.book.account.held) j → j < m.0.book.setup.buffers
      held = below_removed m.0.book.account.held i m.0.book.setup.buffers sound.within.held mine

      charge : (o : ℕ) → Contains (without items m.0.book.account.charge) o → o < m.0.book.setup.objects
      charge o here =
          let n = stands_times (without items m.0.book.account.charge) o here in
          sound.within.charge o (times_stands m.0.book.account.charge o
          (omega (arith, times-without items m.0.book.account.charge part o)))

      go :
          (p : Which) → LeadsToBook log (pushed p i items m.0.book)
          → IsSound t (rested m log (pushed p i items m.0.book))
      go Full = sound_rested log (pushed Full i items m.0.book) refl refl (record { held = held; charge = charge })
      go Empty = sound_rested log (pushed Empty i items m.0.book) refl refl (record { held = held; charge = charge })

-- a seat is sound if it is equal to one that its story makes sound
pub sound_as :
    {B : Type 0} {t u : TableId} {m n : Me (Option B) SeatView} → (LeadsToBook n.0.log n.0.book → IsSound t n) → u ≡ t
    → m ≡ n → LeadsToBook m.0.log m.0.book → IsSound u m
sound_as {B} {t} {u} {m} {n} sound table same story =
    let moved = subst {A = Me (Option B) SeatView} (λ k. LeadsToBook k.0.log k.0.book) same story in
    subst (λ k. IsSound k m) (sym table) (subst (IsSound t) (sym same) (sound moved))

-- so is a seat that rests with book b, if each seat that rests with b is
pub sound_after :
    {B : Type 0} {t u : TableId} {m new : Me (Option B) SeatView} {b : Book} {kinds : List Kind}
    → ((log : Log) → LeadsToBook log b → IsSound t (rested m log b)) → u ≡ t → RestsWith m b kinds new → IsSound u new
sound_after {B} {t} {u} {m} {new} {b} sound table rests =
    sound_as {n = rested m new.0.log b} (sound new.0.log) table rests.same rests.story

pub bare_rested :
    {B : Type 0} {m new : Me (Option B) SeatView} {b : Book} {kinds : List Kind} → RestsWith m b kinds new → IsBare new
bare_rested rests = subst IsBare (sym rests.same) (record { slots = refl; out = refl })

-- a seat is sound while the slot of a held buffer is out: after a store, or after a failed exchange
pub sound_out :
    {B : Type 0} {t : TableId} {m : Me (Option B) SeatView} (sound : IsSound t m) (log : Log) (i : ℕ) (u : SeatView)
    → u.out ≡ suc i → u.book.setup ≡ m.0.book.setup → u.book.account.share ≡ m.0.book.account.share
    → IsWithin m.0.book.setup u.book.account → LeadsToBook log u.book
    → IsSound {B = B} t (logged log u, (i, None) ∷ [])
sound_out {t = t} sound log i u out setup share within story =
    record {
      laid = subst (IsLaid t) (sym setup) sound.laid;
      share = subst (λ n. 0 < n) (sym share) sound.share;
      carries = ap slots_of (sym out);
      within = subst (λ (e : Setup). IsWithin e u.book.account) (sym setup) within;
      all_said = record { named = refl; unsaid = refl };
      story = story;
    }
