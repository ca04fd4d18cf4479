-- The cuts of a dump's records.
use Rattle.std.specs.Prelude.{List, [], ℕ, ◌+◌, ◌<◌, ◌∷◌, ◌≡◌, ◌≤◌}
use Rattle.hprof_grammar.specs.declared.cuts.Cut.{Cut}

-- The cuts cover all bytes from `from` to `end`. Each cut begins where the previous one ends. The last has at least one
-- byte, each other one has `size` bytes or more.
abbrev pub AreCuts : ℕ → ℕ → List Cut → ℕ → Type 0
AreCuts size from [] end = from ≡ end
AreCuts size from (cut ∷ []) end = (cut.from.place ≡ from) × (cut.to ≡ end) × (from < end)
AreCuts size from (cut ∷ next ∷ more) end =
    (cut.from.place ≡ from) × (from + size ≤ cut.to) × AreCuts size cut.to (next ∷ more) end
