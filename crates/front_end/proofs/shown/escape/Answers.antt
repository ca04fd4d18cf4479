-- Each turn appends the text of one byte.
use Rattle.std.proofs.Common.{List, add-one, arith, false, get_or, length, rules, take, ℕ, ◌++◌, ◌+◌, ◌<◌, ◌≡◌, ◌∷◌, []}
use Rattle.std.proofs.Math.Seq.{take-suc}
use Rattle.std.proofs.Output.{has_written_append, has_written_of_eq}
use Rattle.std.proofs.lemmas.Fmt.{hex_byte}
use Rattle.std.proofs.lemmas.List.{flat_map_more}
use Rattle.std.specs.List.{flat_map}
use Rattle.front_end.specs.ShownText.{escaped_byte}
use Rattle.front_end.proofs.shown.escape.Goals as goal

one_more : (xs : List ℕ) (i : ℕ) → i < length xs
    → flat_map escaped_byte (take i xs) ++ escaped_byte (get_or xs i 0) ≡ flat_map escaped_byte (take (i + 1) xs)
one_more xs i within =
    let more : flat_map escaped_byte (take i xs) ++ escaped_byte (get_or xs i 0)
    ≡ flat_map escaped_byte (take i xs ++ get_or xs i 0 ∷ []) =
    flat_map_more escaped_byte [] (take i xs) (get_or xs i 0) in
    rw (add-one, take-suc xs i 0 within) more

pub loop-byte-preserved : goal.loop-byte-preserved
loop-byte-preserved g c = λ plain.
    let xs = c.as_bytes-byte-items.result.now in
    let i = c.loop-byte.byte-index in
    let so_far = c.loop-byte.invariant plain in
    has_written_of_eq _ _ _ _ _ (one_more xs i (omega arith))
    (has_written_append _ _ _ _ _ _ so_far
    (rw (← hex_byte false (get_or xs i 0) (omega (arith, c.type_inv.byte-items i))) (search (rules, so_far.plain))))
