-- What a mark says of a place.
use Rattle.std.specs.Prelude.{None, Option, Some, ℕ, ◌↔◌, ◌≡◌, ◌⊎◌}
use Rattle.label_sets.specs.Sets.{HasLabel, IsWhole, Store}
use Rattle.labelled_graph.specs.declared.mark.Mark.{Mark}
use Rattle.labelled_graph.specs.declared.mark.Mark.TheVariants.{Cut, Labels}

-- the mark is a whole set of exactly the labels that `has` names
abbrev pub IsSetOf : Store → (ℕ → Type 0) → Mark → Type 0
IsSetOf store has Cut = ⊥
IsSetOf store has (Labels set) = IsWhole store set.number × ((l : ℕ) → HasLabel store set.number l ↔ has l)

-- the mark's set, if it has one, is whole
abbrev pub IsSound : Store → Mark → Type 0
IsSound store Cut = Unit {0}
IsSound store (Labels set) = IsWhole store set.number

abbrev pub IsSoundIfSome : Store → Option Mark → Type 0
IsSoundIfSome store None = Unit {0}
IsSoundIfSome store (Some mark) = IsSound store mark

-- the mark of a place that had the mark `before`, after it was given the label `l`
abbrev pub IsWithLabel : Store → Store → Mark → ℕ → Mark → Type 0
IsWithLabel old new Cut l mark = mark ≡ Cut
IsWithLabel old new (Labels set) l mark = IsSetOf new (λ k. HasLabel old set.number k ⊎ (k ≡ l)) mark

-- the same if it may have had no mark, and was given a label or was cut
abbrev pub IsJoined : Store → Store → Option Mark → Option ℕ → Mark → Type 0
IsJoined old new before None mark = mark ≡ Cut
IsJoined old new None (Some l) mark = IsSetOf new (λ k. k ≡ l) mark
IsJoined old new (Some before) (Some l) mark = IsWithLabel old new before l mark

-- ---- what was said of a place: that it is cut, and which labels it has

pub record HasExactly (store : Store) (is_cut : Type 0) (has : ℕ → Type 0) (set : ℕ) : Type 0 where
  pub uncut : is_cut → ⊥
  pub whole : IsWhole store set
  pub exact : (l : ℕ) → HasLabel store set l ↔ has l

-- the mark says the same as was said
abbrev pub Says : Store → Type 0 → (ℕ → Type 0) → Mark → Type 0
Says store is_cut has Cut = is_cut
Says store is_cut has (Labels set) = HasExactly store is_cut has set.number

-- nothing was said
pub record IsUnsaid (is_cut : Type 0) (has : ℕ → Type 0) : Type 0 where
  pub uncut : is_cut → ⊥
  pub none : (l : ℕ) → has l → ⊥

abbrev pub SaysIfSome : Store → Type 0 → (ℕ → Type 0) → Option Mark → Type 0
SaysIfSome store is_cut has None = IsUnsaid is_cut has
SaysIfSome store is_cut has (Some mark) = Says store is_cut has mark
