-- The words and slots of a new pool.
use Rattle.std.specs.Prelude.{◌≡◌, ℕ, ◌+◌, ◌<◌, ◌≤◌, List, [], length, Option, Some, slice_index}
use Rattle.tagged_index.specs.Head.{head_of}
use Rattle.mark_core.specs.declared.which.Which.{Which}
use Rattle.mark_core.specs.Runs.{first_heads}
use Rattle.buffer_pool.specs.working.Layout.{head_word, idle_word, link_word}
use Rattle.buffer_pool.specs.working.Slots.{Reading}

-- the `count` words of a new pool, of whose buffers the first `linked` are linked so far. Both heads have the tag
-- `tag`, with no buffer on the full stack and buffer 0 on top of the empty one. Each of the linked buffers but the last
-- links to the next one. The idle word, the link of the last of these buffers, and each later word are 0
pub record HasFirstWords (count tag linked : ℕ) (words : List ℕ) : Type 0 where
  pub word_count : length words ≡ count
  pub heads : (q : Which) → head_of (slice_index words (head_word q)) ≡ first_heads tag q
  pub idle : slice_index words idle_word ≡ 0
  pub links : (i : ℕ) → i + 1 < linked → slice_index words (link_word i) ≡ i + 2
  pub rest : (k : ℕ) → 31 + linked ≤ k → slice_index words k ≡ 0

-- a slot with a buffer that takes `size` items and has none
abbrev pub IsFirstSlot : {B : Type 0} → Reading B → ℕ → Option B → Type 0
IsFirstSlot {B} r size slot = (b : B) × (slot ≡ Some b) × (r.items b ≡ []) × (r.size b ≡ size)
