-- What an error of clap says of the words.
use Rattle.std.proofs.Common.{inl, inr, rules, subst, ◌≡◌, ◌⊎◌}
use Rattle.clap.specs.Words.{IsAmong, Kinds}
use Rattle.clap.specs.declared.error.kind.ErrorKind.{ErrorKind}
use Rattle.clap.specs.declared.error.kind.ErrorKind.TheVariants as variant

-- an error that prints the help or the version is one of those that the words request
pub asks : (kinds : Kinds) (kind : ErrorKind) → (kind ≡ variant.DisplayHelp) ⊎ (kind ≡ variant.DisplayVersion)
    → (kind ≡ variant.OutOfMemory) ⊎ IsAmong kind kinds
    → IsAmong variant.DisplayHelp kinds ⊎ IsAmong variant.DisplayVersion kinds
asks kinds kind (inl help) (inl memory) = search rules
asks kinds kind (inr version) (inl memory) = search rules
asks kinds kind (inl help) (inr among) = inl (subst (λ k. IsAmong k kinds) help among)
asks kinds kind (inr version) (inr among) = inr (subst (λ k. IsAmong k kinds) version among)
