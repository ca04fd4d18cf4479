-- The words and slots of a new pool meet the rule.
use Rattle.std.proofs.Common.{◌≡◌, ◌≢◌, ℕ, zero, suc, ◌+◌, ◌%◌, ◌<◌, ◌≤◌, if◌then◌else◌, List, [], ◌∷◌, ◌++◌, length}
use Rattle.std.proofs.Common.{map, replicate, Option, Some, None, All, set, slice_index, ap, sym, refl, subst, ◌∙◌}
use Rattle.std.proofs.Common.{⊎_elim, length-set, lt-ltb, le-ltb, arith}
use Rattle.buffer_pool.proofs.Words.{get_or-set_same, get_or-set_other, length-replicate, length-map, All-append}
use Rattle.buffer_pool.proofs.Words.{cases_lt, some, some-injective, some-ne-none, get_elem?, TableId, head_of}
use Rattle.buffer_pool.proofs.Words.{index_of, Which, Full, Empty, Setup, first_heads, first_link, SeatView, no_counts}
use Rattle.buffer_pool.proofs.Words.{whole, new_book, LeadsToBook, first_log, IsInside, IsLaid, IsSound, first_view}
use Rattle.buffer_pool.proofs.Words.{HasFirstWords, IsFirstSlot, mark_in, mark_words, mark_at, first_mark, head_word}
use Rattle.buffer_pool.proofs.Words.{link_word, mark_word, Reading, IsTied, Rests, slot_of, Rule, cut, marking_of}
use Rattle.buffer_pool.proofs.Words.{marks_of, IsViewOf}
use Rattle.atomic_table.specs.Table.{opening}
use Rattle.mark_core.specs.Runs as runs
use Rattle.buffer_pool.proofs.Bits.{cut_white, white_mark}
use Rattle.buffer_pool.proofs.States.{agrees, cut_below, cut_past, nothing_out}
use Rattle.buffer_pool.proofs.Deeds.{told_now}
use Rattle.buffer_pool.proofs.TableWords.{head_below}

zeros : (n i : ℕ) → slice_index (replicate n 0) i ≡ 0
zeros zero i = refl
zeros (suc n) zero = refl
zeros (suc n) (suc i) = zeros n i

-- the two heads among zeros are the first words, with no link laid
pub heads_alone :
    (count tag x y : ℕ) → 32 ≤ count → head_of x ≡ first_heads tag Full → head_of y ≡ first_heads tag Empty
    → HasFirstWords count tag 1 (set (set (replicate count 0) 0 x) 16 y)
heads_alone count tag x y long full empty =
    record {
      word_count = length-set bare 16 y ∙ long_as;
      heads = heads;
      idle = elsewhere 8 (λ f. omega (arith, f)) (λ f. omega (arith, f));
      links = λ i low. absurd (omega (arith, low));
      rest = λ k far. elsewhere k (λ f. omega (arith, f, far)) (λ f. omega (arith, f, far));
    }
  where
    bare : List ℕ
    bare = set (replicate count 0) 0 x

    long_as : length bare ≡ count
    long_as = length-set (replicate count 0) 0 x ∙ length-replicate count 0

    heads : (q : Which) → head_of (slice_index (set bare 16 y) (head_word q)) ≡ first_heads tag q
    heads Full = ap head_of (get_or-set_other bare 16 0 y 0 (λ f. omega (arith, f))
        ∙ get_or-set_same (replicate count 0) 0 x 0 (omega (arith, long, length-replicate {A = ℕ} count 0))) ∙ full
    heads Empty = ap head_of (get_or-set_same bare 16 y 0 (omega (arith, long, long_as))) ∙ empty

    elsewhere : (k : ℕ) → k ≢ 0 → k ≢ 16 → slice_index (set bare 16 y) k ≡ 0
    elsewhere k full empty = get_or-set_other bare 16 k y 0 (λ f. empty (omega (arith, f)))
        ∙ get_or-set_other (replicate count 0) 0 k x 0 (λ f. full (omega (arith, f))) ∙ zeros count k

-- the first words with one more link laid
pub link_laid : (count tag next at x : ℕ) (words : List ℕ) → HasFirstWords count tag next words → 0 < next
    → at ≡ 31 + next → at < count → x ≡ next + 1 → HasFirstWords count tag (next + 1) (set words at x)
link_laid count tag next at x words first some_link place inside value =
    record {
      word_count = length-set words at x ∙ first.word_count;
      heads = λ q. ap head_of (get_or-set_other words at (head_word q) x 0 (λ f. omega (arith, f, head_below q)))
          ∙ first.heads q;
      idle = get_or-set_other words at 8 x 0 (λ f. omega (arith, f, place)) ∙ first.idle;
      links = λ i low. ⊎_elim (λ earlier. get_or-set_other words at (link_word i) x 0 (λ f. omega (arith, f, earlier))
          ∙ first.links i earlier) (λ last. here i (omega (arith, last, low)) (omega (arith, last, low)))
          (cases_lt (i + 1) next);
      rest = λ k far. get_or-set_other words at k x 0 (λ f. omega (arith, f, far)) ∙ first.rest k (omega (arith, far));
    }
  where
    here : (i : ℕ) → at ≡ 32 + i → x ≡ i + 2 → slice_index (set words at x) (link_word i) ≡ i + 2
    here i same value = subst (λ k. slice_index (set words at x) k ≡ i + 2) same
        (get_or-set_same words at x 0 (omega (arith, first.word_count, inside)) ∙ value)

-- the slots of new buffers are those of an opening marking
module _ {B : Type 0} (r : Reading B) (size : ℕ) where
  slots_bare : (slots : List (Option B)) → All (IsFirstSlot r size) slots
      → map (slot_of r) (map some slots) ≡ replicate (length slots) (Some [])
  slots_bare [] all = refl
  slots_bare (s ∷ ss) all =
      let t : IsFirstSlot r size s = all 0 s (omega arith) in
      let here : slot_of r (some s) ≡ Some [] = ap (λ (x : Option B). slot_of r (some x)) t.1 ∙ ap Some t.2 in
      let rest = slots_bare ss (λ k d low. all (suc k) d (omega (arith, low))) in
      λ k. here k ∷ rest k

  slots_sized : (slots : List (Option B)) (i : ℕ) (b : B) → All (IsFirstSlot r size) slots
      → get_elem? (map some slots) i ≡ some (some (Some b)) → r.size b ≡ size
  slots_sized [] i b all at = absurd (some-ne-none (some (Some b)) (sym at))
  slots_sized (s ∷ ss) zero b all at =
      let t : IsFirstSlot r size s = all 0 s (omega arith) in
      let same : Some t.0 ≡ Some b = sym t.1 ∙ some-injective s (Some b) (some-injective (some s) (some (Some b)) at) in
      let one : t.0 ≡ b = cc in
      sym (ap r.size one) ∙ t.3
  slots_sized (s ∷ ss) (suc i) b all at = slots_sized ss i b (λ k d low. all (suc k) d (omega (arith, low))) at

-- P holds of each view if it holds of the only one
only_one : (P : ℕ → SeatView → Type 0) (v : SeatView) → P 0 v → (w : ℕ) (u : SeatView) → get_elem? (v ∷ []) w ≡ some u
    → P w u
only_one P v here zero u at = subst (P 0) (some-injective v u at) here
only_one P v here (suc w) u at = absurd (some-ne-none u (sym at))

-- the empty story leads to the first book
first_story : (e : Setup) → LeadsToBook first_log (new_book e whole)
first_story e = (runs.opening e e.first_tag, no_counts ∷ [], record { run = refl; counts = refl }, refl, refl)

pub starts :
    {B : Type 0} (r : Reading B) (e : Setup) (words : List ℕ) (slots : List (Option B)) → 0 < e.buffers
    → HasFirstWords (32 + e.buffers + mark_words e.objects) e.first_tag e.buffers words → length slots ≡ e.buffers
    → All (IsFirstSlot r e.size) slots
    → Rule r e (opening words slots (first_view e))
starts {B} r e words slots some_buffer first count all =
    record {
      word_count = first.word_count;
      slot_count = length-map slots some ∙ count;
      sized = λ i b at. slots_sized r e.size slots i b all at;
      linked = linked;
      tied = only_one (λ w v. IsTied words v) (first_view e) (λ i out. absurd (nothing_out 0 refl i out));
      rests = only_one (λ w v. Rests (map some slots) v) (first_view e) (λ i mine out. absurd (omega (arith, mine)));
      same_setup = only_one (λ w v. 0 < v.book.account.share → v.book.setup ≡ e) (first_view e) (λ h. refl);
      some_buffer = some_buffer;
      reached =
          record {
            events = [];
            led = record { run = opened; counts = refl };
            views = λ w v at there. only_one (IsViewOf []) (first_view e) (told_now [] 0 (first_view e) (first_story e))
                w v at;
          };
    }
  where
    linked : (i : ℕ) → i < e.buffers → slice_index words (link_word i) ≤ e.buffers
    linked i low = ⊎_elim (λ earlier. omega (arith, earlier, first.links i earlier))
        (λ last. omega (arith, first.rest (link_word i) (omega (arith, last)))) (cases_lt (i + 1) e.buffers)

    linked_first : (i : ℕ) → i < e.buffers → index_of (slice_index words (link_word i)) ≡ first_link e.buffers i
    linked_first i low = ⊎_elim
        (λ earlier.
        let two : slice_index words (link_word i) ≡ suc (i + 1) = omega (arith, first.links i earlier) in
        ap index_of two ∙ sym (ap (λ t. if t then Some (i + 1) else None) (lt-ltb (i + 1) e.buffers earlier)))
        (λ last. ap index_of (first.rest (link_word i) (omega (arith, last)))
        ∙ sym (ap (λ t. if t then Some (i + 1) else None) (le-ltb (i + 1) e.buffers last)))
        (cases_lt (i + 1) e.buffers)

    -- the links are those of an opening, and past the buffers there is none
    links : (i : ℕ) → cut e.buffers (λ k. index_of (slice_index words (link_word k))) i ≡ first_link e.buffers i
    links i = ⊎_elim (λ low. cut_below e.buffers link i low ∙ linked_first i low)
        (λ past. cut_past e.buffers link i past
        ∙ sym (ap (λ t. if t then Some (i + 1) else None) (le-ltb (i + 1) e.buffers (omega (arith, past)))))
        (cases_lt i e.buffers)
      where
        link : ℕ → Option ℕ
        link k = index_of (slice_index words (link_word k))

    white : (o : ℕ) → marks_of e words o ≡ 0
    white o =
        cut_white e.objects (mark_in words (first_mark e)) o
        (ap (λ y. mark_at y (o % 32)) (first.rest (mark_word e o) (omega arith)) ∙ white_mark (o % 32))

    opened : marking_of r e (opening words slots (first_view e)) ≡ runs.opening e e.first_tag
    opened =
        agrees (marking_of r e (opening words slots (first_view e))) (runs.opening e e.first_tag) first.heads links
        white (slots_bare r e.size slots all ∙ ap (λ n. replicate n (Some [])) count) first.idle refl

-- each slot has its buffer after one more was pushed
pub slot_pushed : {B : Type 0} (r : Reading B) (size : ℕ) (slots : List (Option B)) (b : B)
    → All (IsFirstSlot r size) slots → r.items b ≡ [] → r.size b ≡ size
    → All (IsFirstSlot r size) (slots ++ Some b ∷ [])
slot_pushed r size slots b all bare sized = All-append (IsFirstSlot r size) slots (Some b ∷ []) all one
  where
    one : All (IsFirstSlot r size) (Some b ∷ [])
    one zero d low = (b, refl, bare, sized)
    one (suc k) d low = absurd (omega (arith, low))

-- a table with these words and slots is laid for the setup
pub laid_first :
    (t : TableId) (e : Setup) (tag asked : ℕ) (words : List ℕ) (slots : ℕ) → t.words ≡ length words → t.slots ≡ slots
    → HasFirstWords (32 + e.buffers + mark_words e.objects) tag e.buffers words → slots ≡ e.buffers
    → IsInside e.objects e.buffers e.size asked → All (λ o. o < e.objects) e.roots
    → All (λ p. (p.0 < e.objects) × (p.1 < e.objects)) e.pairs → IsLaid t e
laid_first t e tag asked words slots word_count slot_count first count inside roots pairs =
    record {
      words = word_count ∙ first.word_count;
      slots = slot_count ∙ count;
      few = inside.few;
      many = inside.many;
      objects = inside.objects;
      roots = roots;
      pairs = pairs;
    }

-- the first seat is sound
pub sound_first : {B : Type 0} (t : TableId) (e : Setup) → IsLaid t e → IsSound {B = B} t (first_view e, [])
sound_first t e laid =
    record {
      laid = laid;
      share = omega arith;
      carries = refl;
      story = first_story e;
      within = record { held = λ i k. absurd (omega (arith, k.1)); charge = λ o k. absurd (omega (arith, k.1)) };
      all_said = record { named = refl; unsaid = refl };
    }
