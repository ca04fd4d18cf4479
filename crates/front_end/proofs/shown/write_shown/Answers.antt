-- Each turn appends the text of one character.
use Rattle.std.proofs.Common.{List, Bool, add-one, ap, cond, get_or, length, refl, sym, take, ℕ}
use Rattle.std.proofs.Common.{◌++◌, ◌<◌, ◌≡◌, ◌∙◌, ◌∷◌, []}
use Rattle.std.proofs.Math.Seq.{take-suc, take-length}
use Rattle.std.proofs.Output.{has_written_append, has_written_of_eq}
use Rattle.std.proofs.lemmas.Iterator.{YieldsList-from_chars}
use Rattle.std.proofs.lemmas.Iterator.Consumers.{YieldsList-end, YieldsList-turn}
use Rattle.std.proofs.lemmas.List.{flat_map_more, length_push}
use Rattle.std.specs.Char.{encode_utf8}
use Rattle.std.specs.List.{flat_map}
use Rattle.std.specs.Str.{chars}
use Rattle.front_end.specs.ShownText.{escaped, shown_char}
use Rattle.front_end.proofs.shown.write_shown.Goals as goal

one_more : (cs ys : List ℕ) (c : ℕ) → (length ys < length cs) × (c ≡ get_or cs (length ys) c)
    → flat_map shown_char (take (length ys) cs) ++ shown_char c
    ≡ flat_map shown_char (take (length (ys ++ c ∷ [])) cs)
one_more cs ys c h =
    let i = length ys in
    let more : flat_map shown_char (take i cs) ++ shown_char (get_or cs i c)
    ≡ flat_map shown_char (take i cs ++ get_or cs i c ∷ []) =
    flat_map_more shown_char [] (take i cs) (get_or cs i c) in
    ap (λ (x : ℕ). flat_map shown_char (take i cs) ++ shown_char x) h.1
    ∙ (more ∙ rw (length_push ys c, add-one, take-suc cs i c h.0) refl)

pub loop-c-init : goal.loop-c-init
loop-c-init g c = λ plain. record { wrote = record { parts = []; calls = refl; whole = refl }; plain = plain }

pub loop-c-preserved-in-Continue-1 : goal.loop-c-preserved-in-Continue-1
loop-c-preserved-in-Continue-1 g c = λ plain.
    let turn = YieldsList-turn (YieldsList-from_chars c.args.text.now c.utf8.text cc) c.loop-c.yielded _
    c.loop-c.yielded_by _ _ c.in-Some.c c.in-Some.is c.next.ensures.steps in
    let so_far = c.loop-c.invariant plain in
    let same : escaped c.in-Some.c ≡ shown_char c.in-Some.c =
    sym (ap (λ (b : Bool). cond b (escaped c.in-Some.c) (encode_utf8 c.in-Some.c))
    (sym c.is_control.ensures ∙ c.if-is_control.true)) in
    has_written_of_eq _ _ _ _ _ (one_more _ c.loop-c.yielded c.in-Some.c turn)
    (has_written_append _ _ _ _ _ _ so_far
    (has_written_of_eq _ _ _ _ _ same (c.in_ok-escape.ensures so_far.plain refl)))

pub loop-c-preserved : goal.loop-c-preserved
loop-c-preserved g c = λ plain.
    let turn = YieldsList-turn (YieldsList-from_chars c.args.text.now c.utf8.text cc) c.loop-c.yielded _
    c.loop-c.yielded_by _ _ c.in-Some.c c.in-Some.is c.next.ensures.steps in
    let so_far = c.loop-c.invariant plain in
    let same : encode_utf8 c.in-Some.c ≡ shown_char c.in-Some.c =
    sym (ap (λ (b : Bool). cond b (escaped c.in-Some.c) (encode_utf8 c.in-Some.c))
    (sym c.is_control.ensures ∙ c.if-is_control.false)) in
    has_written_of_eq _ _ _ _ _ (one_more _ c.loop-c.yielded c.in-Some.c turn)
    (has_written_append _ _ _ _ _ _ so_far
    (has_written_of_eq _ _ _ _ _ same (c.in_ok-write_char.ensures.writes so_far.plain refl)))

pub returns : goal.returns
returns g c = λ plain ok.
    let all = chars c.args.text.now in
    let end = YieldsList-end (YieldsList-from_chars c.args.text.now c.utf8.text cc) c.loop-c.yielded _
    c.loop-c.yielded_by _ _ c.in-None.is c.next.ensures.steps in
    has_written_of_eq _ _ _ _ _
    (ap (flat_map shown_char) (ap (λ (n : ℕ). take n all) end.1 ∙ take-length all)) (c.loop-c.invariant plain)
