-- What identifiers name, from the identifiers of the objects and from the heap list.
use Rattle.heap_graph.proofs.Words.{Bool, List, None, Option, SubRecord, ap, cond, count_by, false, filter_map}
use Rattle.heap_graph.proofs.Words.{is_unresolved, map, objects, target_in, target_of, targets, ℕ, ◌==◌, ◌∙◌, ◌≡◌}
use Rattle.std.specs.Prelude.{is_none}
use Rattle.hprof_grammar.specs.Dump.{id_of}
use Rattle.heap_graph.specs.working.Resolving.{is_unresolved_in}
use Rattle.heap_graph.proofs.Firsts.{position-map}

target_at : (heap : List SubRecord) (id : ℕ) → target_in (map id_of (objects heap)) id ≡ target_of heap id
target_at heap id = ap (λ (o : Option ℕ). cond (id == 0) None o) (position-map id_of (λ x. x == id) (objects heap))

unresolved_there : (heap : List SubRecord) (id : ℕ)
    → is_unresolved_in (map id_of (objects heap)) id ≡ is_unresolved heap id
unresolved_there heap id =
    ap (λ (o : Option ℕ). cond (id == 0) false (is_none o)) (position-map id_of (λ x. x == id) (objects heap))

pub same_targets : (heap : List SubRecord) (ids wanted : List ℕ) → ids ≡ map id_of (objects heap)
    → filter_map (target_in ids) wanted ≡ targets heap wanted
same_targets heap ids wanted e =
    let same : target_in (map id_of (objects heap)) ≡ target_of heap = λ i id. target_at heap id i in
    ap (λ (xs : List ℕ). filter_map (target_in xs) wanted) e ∙ ap (λ (f : ℕ → Option ℕ). filter_map f wanted) same

pub same_unresolved : (heap : List SubRecord) (ids wanted : List ℕ) → ids ≡ map id_of (objects heap)
    → count_by (is_unresolved_in ids) wanted ≡ count_by (is_unresolved heap) wanted
same_unresolved heap ids wanted e =
    let same : is_unresolved_in (map id_of (objects heap)) ≡ is_unresolved heap = λ i id. unresolved_there heap id i in
    ap (λ (xs : List ℕ). count_by (is_unresolved_in xs) wanted) e ∙ ap (λ (f : ℕ → Bool). count_by f wanted) same
