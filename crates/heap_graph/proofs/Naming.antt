-- What identifiers name, for one more identifier.
use Rattle.heap_graph.proofs.Words.{List, None, Option, Resolves, Some, [], ap, append_assoc, cons_option, false}
use Rattle.heap_graph.proofs.Words.{filter_map, filter_map-append, get_or, length, refl, sym, take, target_in, true, ℕ}
use Rattle.heap_graph.proofs.Words.{◌++◌, ◌+◌, ◌<◌, ◌∙◌, ◌∷◌, ◌≡◌}
use Rattle.std.specs.Option.{option_to_list}
use Rattle.std.proofs.lemmas.List.{take_more}
use Rattle.std.proofs.lemmas.List.Sums.{count_by_more_no, count_by_more_yes}
use Rattle.heap_graph.specs.working.Resolving.{ResolvesOne, is_unresolved_in}

one_target : (h : ℕ → Option ℕ) (x : ℕ) → filter_map h (x ∷ []) ≡ option_to_list (h x)
one_target h x = elim (h x) as (λ o. cons_option o [] ≡ option_to_list o) [ None ↦ refl | Some y ↦ refl ]

appended_more : (all ids old now new : List ℕ) (i : ℕ) → i < length ids
    → now ≡ old ++ filter_map (target_in all) (take i ids)
    → new ≡ now ++ option_to_list (target_in all (get_or ids i 0))
    → new ≡ old ++ filter_map (target_in all) (take (i + 1) ids)
appended_more all ids old now new i h e f =
    f ∙ ap (λ (xs : List ℕ). xs ++ option_to_list (target_in all (get_or ids i 0))) e
    ∙ append_assoc old (filter_map (target_in all) (take i ids)) (option_to_list (target_in all (get_or ids i 0)))
    ∙ ap (λ (xs : List ℕ). old ++ xs)
    (sym (ap (filter_map (target_in all)) (take_more ids i 0 h) ∙ filter_map-append (target_in all) (take i ids)
    (get_or ids i 0 ∷ []) ∙ ap (λ (xs : List ℕ). filter_map (target_in all) (take i ids) ++ xs)
    (one_target (target_in all) (get_or ids i 0))))

pub resolves_unresolved : (all ids old now new : List ℕ) (i unresolved : ℕ) → i < length ids
    → Resolves all (take i ids) old now unresolved → ResolvesOne all (get_or ids i 0) now new true
    → Resolves all (take (i + 1) ids) old new (unresolved + 1)
resolves_unresolved all ids old now new i unresolved h r one = record {
  appended = appended_more all ids old now new i h r.appended one.appended;
  counted = ap (λ (n : ℕ). n + 1) r.counted
      ∙ sym (count_by_more_yes (is_unresolved_in all) ids i 0 h (sym one.unresolved_is));
}

pub resolves_found : (all ids old now new : List ℕ) (i unresolved : ℕ) → i < length ids
    → Resolves all (take i ids) old now unresolved → ResolvesOne all (get_or ids i 0) now new false
    → Resolves all (take (i + 1) ids) old new unresolved
resolves_found all ids old now new i unresolved h r one = record {
  appended = appended_more all ids old now new i h r.appended one.appended;
  counted = r.counted ∙ sym (count_by_more_no (is_unresolved_in all) ids i 0 h (sym one.unresolved_is));
}
