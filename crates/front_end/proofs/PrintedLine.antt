-- What a writer took of a line before it failed is a beginning of the line.
use Rattle.std.proofs.Common.{All, Err, List, None, Ok, OnOk, Option, Result, Some, [], append-nil, arith, codes}
use Rattle.std.proofs.Common.{is_ok, length, subst, sym, take, true, true≢false, ℕ, ◌++◌, ◌≡◌, ◌≢◌, ◌≤◌, ◌∙◌}
use Rattle.std.specs.Io.KnownBytes.{Appends, Keeps}
use Rattle.front_end.specs.PrintedLine.{PrintsAboutBy}
use Rattle.front_end.specs.RefusalText.{line_by}
use Rattle.histogram.specs.Counting.{AppendsBeginning}

pub begun : (old new : Option (List ℕ)) (bytes : List ℕ) (at : ℕ) → at ≤ length bytes
    → Appends old new (take at bytes) → AppendsBeginning old new bytes
begun old new bytes at within taken = (at, within, taken)

pub kept : (old mid new : Option (List ℕ)) (bytes : List ℕ) (at : ℕ) → at ≤ length bytes
    → Appends old mid (take at bytes) → Keeps mid new → AppendsBeginning old new bytes
kept None mid new bytes at within taken keeps = (at, within, tt)
kept (Some xs) None new bytes at within taken keeps = absurd taken
kept (Some xs) (Some ys) None bytes at within taken keeps = absurd keeps
kept (Some xs) (Some ys) (Some zs) bytes at within taken keeps = (at, within, keeps ∙ taken)

-- if nothing is written, that is a beginning, too
appends_nothing : (known : Option (List ℕ)) → Appends known known []
appends_nothing None = tt
appends_nothing (Some xs) = sym (append-nil xs)

pub nothing : (known : Option (List ℕ)) (bytes : List ℕ) → AppendsBeginning known known bytes
nothing known bytes = (0, omega arith, appends_nothing known)

-- a line about a subject, or nothing of it

pub about : (program subject bytes text : List ℕ) (old new : Option (List ℕ)) → bytes ≡ text
    → All (λ byte. byte ≢ 10) bytes → AppendsBeginning old new (line_by program (subject ++ codes ": " ++ text))
    → PrintsAboutBy program subject old new
about program subject bytes text old new same one line = (text, subst (All (λ byte. byte ≢ 10)) same one, line)

pub nothing_about : (program subject : List ℕ) (known : Option (List ℕ)) → PrintsAboutBy program subject known known
nothing_about program subject known =
    ([], (λ k d few. absurd (omega (arith, few))), nothing known (line_by program (subject ++ codes ": " ++ [])))

-- what holds at `Ok` holds of a result that is one
pub on_ok : {X E : Type 0} (result : Result X E) (P : Type 0) → is_ok result ≡ true → OnOk result P → P
on_ok (Ok x) P is holds = holds
on_ok (Err e) P is holds = absurd (true≢false (sym is))
