-- What is gathered from objects part by part.
use Rattle.std.specs.Prelude.{IfOk, List, MatchOption, Option, Result, get_or, length, map, min, take, ◌++◌, ◌+◌, ◌<◌}
use Rattle.std.specs.Prelude.{◌%◌, ◌*◌, ◌-◌, ◌/◌, ◌^◌, ◌≡◌, ◌≢◌, ◌≤◌, ℕ}
use Rattle.std.specs.declared.alloc.AllocError.{AllocError}
use Rattle.hprof_grammar.specs.Dump.{id_of}
use Rattle.hprof_grammar.specs.Standing.{Sight, StandInTurn, Stands}
use Rattle.hprof_grammar.specs.SubRecord.{SubRecord}
use Rattle.id_index.specs.declared.index.LowBits.{LowBits}
use Rattle.heap_graph.specs.Heap.{objects}
use Rattle.heap_graph.specs.declared.objects.gathering.Gathered.{Gathered}
use Rattle.heap_graph.specs.working.ClassNumbers.{AreClassNumbers}

-- the objects of a heap list are at `places`, and are fewer than 2^32
pub record MayIndex (v : Sight) (places : List ℕ) : Type 0 where
  pub few : length places < 2 ^ 32
  pub stand : (heap : List SubRecord) × StandInTurn (Stands v) places (objects heap)

-- like `MayIndex`; `part` has no more places than there are objects from number `start` on; `bits` are at most 63 bits
pub record MayGather (v : Sight) (places : List ℕ) (bits : LowBits) (start : ℕ) (part : List ℕ) : Type 0 where
  pub may : MayIndex v places
  pub within : start + length part ≤ length places
  pub shifted : bits.shift < 64
  pub low : bits.low < 2 ^ bits.shift

-- the identifiers of the first `n` objects, and the numbers of the class dumps among them
pub record AreOfFirst (os : List SubRecord) (n : ℕ) (ids numbers : List ℕ) : Type 0 where
  pub ids_are : ids ≡ map id_of (take n os)
  pub class_dumps : AreClassNumbers os n numbers

-- `g` was gathered from the objects from number `start` up to `end`. Appended to the identifiers and class dumps of the
-- objects before `start`, `g` yields those of the objects before `end`.
pub record HasGathered {A : Type 0} (v : Sight) (places : List ℕ) (bits : LowBits) (start end : ℕ)
    (g : Gathered A) : Type 0 where
  pub many : start + length g.ids.ids ≡ end
  pub shift : g.ids.shift ≡ bits.shift
  pub low : g.ids.low ≡ bits.low
  pub behind : (heap : List SubRecord) (ids numbers : List ℕ) → StandInTurn (Stands v) places (objects heap)
      → AreOfFirst (objects heap) start ids numbers
      → AreOfFirst (objects heap) end (ids ++ g.ids.ids) (numbers ++ g.class_dumps.items)

-- the result of a part: `None` only if lowest bits are omitted at all
abbrev pub IsGathering : {A : Type 0} → Sight → List ℕ → LowBits → ℕ → List ℕ
    → Result (Option (Gathered A)) AllocError → Type 0
IsGathering v places bits start part result =
    IfOk result (λ found. MatchOption found (bits.shift ≢ 0)
    (λ g. HasGathered v places bits start (start + length part) g))

-- what was gathered from two neighbouring parts, joined
pub record AreJoined {A : Type 0} (old next new : Gathered A) : Type 0 where
  pub ids : new.ids.ids ≡ old.ids.ids ++ next.ids.ids
  pub shift : new.ids.shift ≡ old.ids.shift
  pub low : new.ids.low ≡ old.ids.low
  pub class_dumps : new.class_dumps.items ≡ old.class_dumps.items ++ next.class_dumps.items

-- the result of the part with number `n`, where each part has `size` places, and the last one perhaps fewer
pub record IsOfPart {A : Type 0} (v : Sight) (places : List ℕ) (bits : LowBits) (size n : ℕ)
    (result : Result (Option (Gathered A)) AllocError) : Type 0 where
  pub part : List ℕ
  pub within : n * size + length part ≤ length places
  pub long : length part ≡ min size (length places - n * size)
  pub gives : IsGathering v places bits (n * size) part result

-- the results of all such parts of the places
pub record AreOfParts {A : Type 0} (v : Sight) (places : List ℕ) (bits : LowBits) (size : ℕ)
    (results : List (Result (Option (Gathered A)) AllocError)) : Type 0 where
  pub may : MayGather v places bits 0 places
  pub some : 0 < size
  pub count : length results ≡ length places / size + min 1 (length places % size)
  pub each : (n : ℕ) (d : Result (Option (Gathered A)) AllocError) → n < length results
      → IsOfPart v places bits size n (get_or results n d)
