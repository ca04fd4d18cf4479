-- A dump has fewer objects than bytes, and also fewer roots, strings and loaded classes.
use Rattle.heap_graph.proofs.Words.{Bool, IsDumpOf, IsPlaced, List, Places, Record, SubRecord, [], ap, arith, big_bytes}
use Rattle.heap_graph.proofs.Words.{body_of, count_by-le-length, filter, flat_map, header, heap, heap_of, id_of}
use Rattle.heap_graph.proofs.Words.{is_object, is_root, length, length-append, length-filter, length-map, limit}
use Rattle.heap_graph.proofs.Words.{load_class, objects, other, record_spelling, root_ids, spelling_of, spellings}
use Rattle.heap_graph.proofs.Words.{string, subs_of, time_of, ℕ, ◌++◌, ◌<◌, ◌^◌, ◌∷◌, ◌≡◌, ◌≤◌}

few_subs : (s : ℕ) (subs : List SubRecord) → length subs ≤ length (flat_map (spelling_of s) subs)
few_subs s [] = omega arith
few_subs s (x ∷ xs) = omega (arith, few_subs s xs, length-append (spelling_of s x) (flat_map (spelling_of s) xs))

in_body : (s : ℕ) (r : Record) → length (subs_of r) ≤ length (body_of s r)
in_body s (string time id text) = omega arith
in_body s (load_class time serial class stack name) = omega arith
in_body s (heap tag time subs) = few_subs s subs
in_body s (other tag time body) = omega arith

in_record : (s : ℕ) (r : Record) → length (subs_of r) ≤ length (record_spelling s r)
in_record s r = omega (
  arith,
  in_body s r,
  length-append (big_bytes 4 (time_of r)) (big_bytes 4 (length (body_of s r)) ++ body_of s r),
  length-append (big_bytes 4 (length (body_of s r))) (body_of s r),
)

in_records : (s : ℕ) (rs : List Record) → length (heap_of rs) ≤ length (spellings s rs)
in_records s [] = omega arith
in_records s (r ∷ rs) = omega (
  arith,
  in_record s r,
  in_records s rs,
  length-append (subs_of r) (heap_of rs),
  length-append (record_spelling s r) (spellings s rs),
)

few_kept : {X : Type 0} (p : X → Bool) (xs : List X) → length (filter p xs) ≤ length xs
few_kept p xs = omega (arith, length-filter p xs, count_by-le-length p xs)

few_records : (s : ℕ) (rs : List Record) → length rs ≤ length (spellings s rs)
few_records s [] = omega arith
few_records s (r ∷ rs) = omega (arith, few_records s rs, length-append (record_spelling s r) (spellings s rs))

module _ (text : List ℕ) (dump : Places) (is : IsDumpOf text dump) where
  short_spellings : length (spellings dump.id_size is.records) ≤ limit
  short_spellings =
      let parts = length-append (header dump.id_size is.spells.time) (spellings dump.id_size is.records) in
      omega (arith, is.spells.size, ap length is.spells.whole, parts)

  few_in_heap : length (heap_of is.records) ≤ limit
  few_in_heap = omega (arith, in_records dump.id_size is.records, short_spellings)

  pub few_of_records : (p : Record → Bool) → length (filter p is.records) ≤ limit
  few_of_records p = omega (arith, few_kept p is.records, few_records dump.id_size is.records, short_spellings)

  pub few_in_dump : length (objects (heap_of is.records)) ≤ limit
  few_in_dump = omega (arith, few_kept is_object (heap_of is.records), few_in_heap)

  pub few_placed : (places : List ℕ) → IsPlaced text dump is.records → places ≡ dump.objects → length places < 2 ^ 32
  few_placed places placed same = omega (arith, ap length same, placed.objects.count, few_in_dump)

  pub few_roots_in_dump : length (root_ids (heap_of is.records)) ≤ limit
  few_roots_in_dump =
      let roots = length-map (filter is_root (heap_of is.records)) id_of in
      omega (arith, roots, few_kept is_root (heap_of is.records), few_in_heap)
