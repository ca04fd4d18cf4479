-- The words of a table after one of them changed.
use Rattle.std.proofs.Common.{◌≡◌, ◌≢◌, ℕ, ◌+◌, ◌/◌, ◌%◌, ◌<◌, ◌≤◌, ◌==◌, bit_or, nat_lt, if◌then◌else◌, List, length}
use Rattle.std.proofs.Common.{None, set, slice_index, ap, sym, ◌∙◌, eq-eqb, ne_eqb, arith}
use Rattle.buffer_pool.proofs.Words.{get_or-set_same, get_or-set_other, ℕ_discrete, either, Head, head_of, index_of}
use Rattle.buffer_pool.proofs.Words.{word_of, restored, Which, Full, Empty, Setup, put, put_which, put_here, put_else}
use Rattle.buffer_pool.proofs.Words.{mark_in, mark_bits, mark_at, first_mark, head_word, link_word, mark_word, cut}
use Rattle.buffer_pool.proofs.Words.{marks_of}
use Rattle.buffer_pool.proofs.Bits.{cut_object, mark_beside}

-- different words are different heads
pub one_head : (m n : ℕ) → head_of m ≡ head_of n → m ≡ n
one_head m n same = sym (restored m) ∙ ap word_of same ∙ restored n

-- the word of a head is below the links
pub head_below : (q : Which) → head_word q < 32
head_below Full = omega arith
head_below Empty = omega arith

-- a compare-exchange that finds the old word leaves the new one
pub exchange_hit : (n old new : ℕ) → n ≡ old → either (n == old) new n ≡ new
exchange_hit n old new hit = ap (λ b. either b new n) (eq-eqb n old hit)

pub exchange_miss : (n old new : ℕ) → n ≢ old → either (n == old) new n ≡ n
exchange_miss n old new miss = ap (λ b. either b new n) (ne_eqb n old miss)

module _ (e : Setup) (words : List ℕ) where
  -- the word k is as it was
  abbrev pub Keeps : List ℕ → ℕ → Type 0
  Keeps new k = slice_index new k ≡ slice_index words k

  -- the mark of an object is as it was if its word is
  same_mark : (new : List ℕ) (o : ℕ) → Keeps new (mark_word e o) → marks_of e new o ≡ marks_of e words o
  same_mark new o same = ap (λ y. if nat_lt o e.objects then mark_at y (o % 32) else 0) same

  -- after a write of a head
  module _ (q : Which) (x : ℕ) where
    pub link_beside_head : (i : ℕ) → Keeps (set words (head_word q) x) (link_word i)
    link_beside_head i = get_or-set_other words (head_word q) (link_word i) x 0 (λ h. omega (arith, h, head_below q))

    pub links_beside_head :
        (i : ℕ)
        → cut e.buffers (λ k. index_of (slice_index (set words (head_word q) x) (link_word k))) i
        ≡ cut e.buffers (λ k. index_of (slice_index words (link_word k))) i
    links_beside_head i = ap (λ y. if nat_lt i e.buffers then index_of y else None) (link_beside_head i)

    pub idle_beside_head : Keeps (set words (head_word q) x) 8
    idle_beside_head = go q
      where
        go : (p : Which) → Keeps (set words (head_word p) x) 8
        go Full = get_or-set_other words 0 8 x 0 (λ h. omega (arith, h))
        go Empty = get_or-set_other words 16 8 x 0 (λ h. omega (arith, h))

    pub marks_beside_head : (o : ℕ) → marks_of e (set words (head_word q) x) o ≡ marks_of e words o
    marks_beside_head o =
        same_mark (set words (head_word q) x) o
        (get_or-set_other words (head_word q) (mark_word e o) x 0 (λ h. omega (arith, h, head_below q)))

    pub heads_after : (h : Head) → 32 ≤ length words → head_of x ≡ h → (p : Which)
        → head_of (slice_index (set words (head_word q) x) (head_word p))
        ≡ put_which q h (λ k. head_of (slice_index words (head_word k))) p
    heads_after h long is p = go q p is
      where
        go : (q p : Which) → head_of x ≡ h → head_of (slice_index (set words (head_word q) x) (head_word p))
            ≡ put_which q h (λ k. head_of (slice_index words (head_word k))) p
        go Full Full is = ap head_of (get_or-set_same words 0 x 0 (omega arith)) ∙ is
        go Full Empty is = ap head_of (get_or-set_other words 0 16 x 0 (λ f. omega (arith, f)))
        go Empty Full is = ap head_of (get_or-set_other words 16 0 x 0 (λ f. omega (arith, f)))
        go Empty Empty is = ap head_of (get_or-set_same words 16 x 0 (omega arith)) ∙ is

  -- after a write of a buffer's link
  module _ (i x : ℕ) where
    pub head_beside_link : (q : Which) → Keeps (set words (link_word i) x) (head_word q)
    head_beside_link q = get_or-set_other words (link_word i) (head_word q) x 0 (λ h. omega (arith, h, head_below q))

    pub idle_beside_link : Keeps (set words (link_word i) x) 8
    idle_beside_link = get_or-set_other words (link_word i) 8 x 0 (λ h. omega (arith, h))

    pub link_beside_link : (j : ℕ) → j ≢ i → Keeps (set words (link_word i) x) (link_word j)
    link_beside_link j other = get_or-set_other words (link_word i) (link_word j) x 0 (λ h. other (omega (arith, h)))

    pub link_here : 32 + i < length words → slice_index (set words (link_word i) x) (link_word i) ≡ x
    link_here below = get_or-set_same words (link_word i) x 0 below

    pub marks_beside_link : i < e.buffers → (o : ℕ) → marks_of e (set words (link_word i) x) o ≡ marks_of e words o
    marks_beside_link below o =
        same_mark (set words (link_word i) x) o
        (get_or-set_other words (link_word i) (mark_word e o) x 0 (λ h. omega (arith, h, below)))

    pub links_after : 32 + i < length words → (j : ℕ)
        → index_of (slice_index (set words (link_word i) x) (link_word j))
        ≡ put i (index_of x) (λ k. index_of (slice_index words (link_word k))) j
    links_after below j = go (ℕ_discrete j i)
      where
        go : Dec (j ≡ i) → index_of (slice_index (set words (link_word i) x) (link_word j))
            ≡ put i (index_of x) (λ k. index_of (slice_index words (link_word k))) j
        go (yes same) = ap (λ k. index_of (slice_index (set words (link_word i) x) (link_word k))) same
            ∙ ap index_of (link_here below)
            ∙ sym (put_here i j (index_of x) (λ k. index_of (slice_index words (link_word k))) same)
        go (no other) = ap index_of (link_beside_link j other)
            ∙ sym (put_else i j (index_of x) (λ k. index_of (slice_index words (link_word k))) other)

  -- after the bits of c were set at an object's mark
  module _ (o c : ℕ) where
    abbrev pub raised : ℕ
    raised = bit_or (slice_index words (mark_word e o)) (mark_bits c o)

    abbrev pub raised_words : List ℕ
    raised_words = set words (mark_word e o) raised

    pub head_beside_mark : (q : Which) → Keeps raised_words (head_word q)
    head_beside_mark q =
        get_or-set_other words (mark_word e o) (head_word q) raised 0 (λ h. omega (arith, h, head_below q))

    pub idle_beside_mark : Keeps raised_words 8
    idle_beside_mark = get_or-set_other words (mark_word e o) 8 raised 0 (λ h. omega (arith, h))

    pub link_beside_mark : (i : ℕ) → i < e.buffers → Keeps raised_words (link_word i)
    link_beside_mark i below =
        get_or-set_other words (mark_word e o) (link_word i) raised 0 (λ h. omega (arith, h, below))

    -- the mark of the object is raised to x, and each other mark is as it was
    pub marks_after :
        (x : ℕ) → c < 4 → o < e.objects → mark_word e o < length words → mark_at raised (o % 32) ≡ x
        → (p : ℕ) → marks_of e raised_words p ≡ put o x (marks_of e words) p
    marks_after x small object below is p = go (ℕ_discrete p o)
      where
        there : slice_index raised_words (mark_word e o) ≡ raised
        there = get_or-set_same words (mark_word e o) raised 0 below

        -- another object keeps its mark, in the same word or in another one
        beside : p ≢ o → Dec (p / 32 ≡ o / 32) → mark_in raised_words (first_mark e) p ≡ mark_in words (first_mark e) p
        beside other (yes w) =
            let at : mark_word e p ≡ mark_word e o = omega (arith, w) in
            let place : p % 32 ≢ o % 32 = λ same. other (omega (arith, same, w)) in
            ap (λ k. mark_at (slice_index raised_words k) (p % 32)) at ∙ ap (λ y. mark_at y (p % 32)) there
            ∙ mark_beside (slice_index words (mark_word e o)) c (o % 32) (p % 32) small place
            ∙ ap (λ k. mark_at (slice_index words k) (p % 32)) (sym at)
        beside other (no w) =
            ap (λ y. mark_at y (p % 32))
            (get_or-set_other words (mark_word e o) (mark_word e p) raised 0 (λ h. w (omega (arith, h))))

        go : Dec (p ≡ o) → marks_of e raised_words p ≡ put o x (marks_of e words) p
        go (yes same) =
            ap (marks_of e raised_words) same ∙ cut_object e.objects (mark_in raised_words (first_mark e)) o object
            ∙ ap (λ y. mark_at y (o % 32)) there ∙ is ∙ sym (put_here o p x (marks_of e words) same)
        go (no other) =
            ap (λ y. if nat_lt p e.objects then y else 0) (beside other (ℕ_discrete (p / 32) (o / 32)))
            ∙ sym (put_else o p x (marks_of e words) other)

  -- after a write of the idle word
  module _ (x : ℕ) where
    pub head_beside_idle : (q : Which) → Keeps (set words 8 x) (head_word q)
    head_beside_idle Full = get_or-set_other words 8 0 x 0 (λ h. omega (arith, h))
    head_beside_idle Empty = get_or-set_other words 8 16 x 0 (λ h. omega (arith, h))

    pub link_beside_idle : (i : ℕ) → Keeps (set words 8 x) (link_word i)
    link_beside_idle i = get_or-set_other words 8 (link_word i) x 0 (λ h. omega (arith, h))

    pub marks_beside_idle : (o : ℕ) → marks_of e (set words 8 x) o ≡ marks_of e words o
    marks_beside_idle o =
        same_mark (set words 8 x) o (get_or-set_other words 8 (mark_word e o) x 0 (λ h. omega (arith, h)))

    pub idle_here : 32 ≤ length words → slice_index (set words 8 x) 8 ≡ x
    idle_here long = get_or-set_same words 8 x 0 (omega arith)
