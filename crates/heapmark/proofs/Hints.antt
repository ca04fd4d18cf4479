-- The lines after a refusal: about the file, about an option, or none.
use Rattle.std.proofs.Common.{List, Option, codes, decimal, inl, inr, refl, subst, sym, ℕ, ◌++◌, ◌≡◌}
use Rattle.front_end.proofs.PrintedLine.{nothing_about}
use Rattle.heapmark.specs.SecondLine.{IsOption, PrintsAbout, PrintsHint}
use Rattle.front_end.specs.ShownText.{shown_text}

pub is_first_tag : (n : ℕ) → IsOption (codes "--first-tag " ++ decimal n)
is_first_tag n = inr (n, inl refl)

pub is_workers : (n : ℕ) → IsOption (codes "--workers " ++ decimal n)
is_workers n = inr (n, inr (inl refl))

pub is_buffers : (n : ℕ) → IsOption (codes "--buffers " ++ decimal n)
is_buffers n = inr (n, inr (inr refl))

pub of_named : (file : List ℕ) (old new : Option (List ℕ)) → PrintsAbout (shown_text file) old new
    → PrintsHint file old new
of_named file old new printed = inl printed

pub of_option : (file option : List ℕ) (old new : Option (List ℕ)) → IsOption option → PrintsAbout option old new
    → PrintsHint file old new
of_option file option old new is printed = inr (option, is, printed)

pub no_hint : (file : List ℕ) (known : Option (List ℕ)) → PrintsHint file known known
no_hint file known = inl (nothing_about (codes "heapmark") (shown_text file) known)
