-- The refusals for which a hint says what to do.
use Rattle.std.specs.Prelude.{ℕ, ◌≡◌, ◌⊎◌}

-- a file that is no dump, ends too early or is too large; too little memory; too few tags or threads; bad options
abbrev pub HasHint : ℕ → Type 0
HasHint code =
    (code ≡ 1) ⊎ (code ≡ 3) ⊎ (code ≡ 6) ⊎ (code ≡ 8) ⊎ (code ≡ 14) ⊎ (code ≡ 15) ⊎ (code ≡ 16) ⊎ (code ≡ 18)
    ⊎ (code ≡ 21)
