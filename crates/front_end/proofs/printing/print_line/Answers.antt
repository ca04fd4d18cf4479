-- The buffer holds the line, if a contract can name what `text` prints.
use Rattle.std.proofs.Common.{IfSome, List, None, Option, Some, ap, is_ok, refl, rules, subst, true, ℕ, ◌++◌, ◌≡◌, ◌∙◌}
use Rattle.std.proofs.lemmas.Fmt.{contents_after_writes}
use Rattle.front_end.proofs.PrintedLine.{on_ok}
use Rattle.front_end.specs.RefusalText.{line_by}
use Rattle.histogram.specs.Counting.{AppendsBeginning}
use Rattle.front_end.proofs.printing.print_line.Goals as goal

pub returns-then-is_ok : goal.returns-then-is_ok
returns-then-is_ok g c = go (g.D.Display.output c.args.text.now) refl
  where
    ok : is_ok c.writeln.result ≡ true
    ok = search (rules, c.if-is_ok.true, c.is_ok.ensures.value)

    go : (output : Option (List ℕ)) → g.D.Display.output c.args.text.now ≡ output → IfSome output (λ text.
        AppendsBeginning (g.E.Write.contents c.args.err.now) (g.E.Write.contents c.write_beginning.new.err)
        (line_by c.args.program.now text))
    go None is = tt
    go (Some text) is =
        let calls = on_ok c.writeln.result _ ok c.writeln.ensures.writes in
        let line : c.writeln.new.self.bytes ≡ line_by c.args.program.now text =
        contents_after_writes _ (λ s. s.bytes) (λ _ _ _ t. t) _ (line_by c.args.program.now text) _ (rw is at calls)
        ∙ ap (λ (l : List ℕ). l ++ line_by c.args.program.now text) c.new-line.ensures in
        subst (λ (bytes : List ℕ). AppendsBeginning (g.E.Write.contents c.args.err.now)
        (g.E.Write.contents c.write_beginning.new.err) bytes)
        (c.as_bytes.ensures.value ∙ c.as_str.ensures.value ∙ line) c.write_beginning.ensures
