-- The command is the line of the specification: each `arg` adds its rule to what the calls before it made.
use Rattle.std.proofs.Common.{ap, ap₂, codes, ◌≡◌, ◌∙◌}
use Rattle.clap.specs.Simple.{app_of, app_of_fields, new_app}
use Rattle.clap.specs.Words.{with_rule}
use Rattle.retained_line.specs.Line.{retained_line, with_version}
use Rattle.retained_line.proofs.line.command.Goals as goal

pub returns : goal.returns
unfolding retained_line
returns c =
    let begun : app_of c.about.result ≡ new_app (codes "retained") =
    ap app_of_fields c.about.ensures ∙ c.new.ensures.app in
    let start : app_of c.after_help-command.result ≡ with_version (new_app (codes "retained")) =
    ap app_of_fields c.after_help-command.ensures ∙ ap app_of_fields c.version.ensures ∙ ap with_version begun in
    c.in_ok-command-2.ensures.shape c.labels.ensures.local ∙ ap₂ with_rule
    (c.in_ok-command.ensures.shape c.dump_file.ensures.local ∙ ap₂ with_rule start c.dump_file.ensures.rule)
    c.labels.ensures.rule
