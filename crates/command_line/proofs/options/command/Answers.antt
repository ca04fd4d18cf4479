-- The command is the line of the specification: each `arg` adds its rule to what the calls before it made.
use Rattle.std.proofs.Common.{ap, ap₂, ◌≡◌, ◌∙◌, codes}
use Rattle.clap.specs.Simple.{app_of, app_of_fields, new_app}
use Rattle.clap.specs.Words.{with_rule}
use Rattle.command_line.specs.Line.{heapmark_line, with_version}
use Rattle.command_line.proofs.options.command.Goals as goal

pub returns : goal.returns
unfolding heapmark_line
returns c =
    let begun : app_of c.about.result ≡ new_app (codes "heapmark") =
    ap app_of_fields c.about.ensures ∙ c.new.ensures.app in
    let start : app_of c.after_help-command.result ≡ with_version (new_app (codes "heapmark")) =
    ap app_of_fields c.after_help-command.ensures ∙ ap app_of_fields c.version.ensures ∙ ap with_version begun in
    c.in_ok-command-6.ensures.shape c.skip.ensures.local ∙ ap₂ with_rule
    (c.in_ok-command-5.ensures.shape c.first_tag.ensures.local ∙ ap₂ with_rule
    (c.in_ok-command-4.ensures.shape c.buffers.ensures.local ∙ ap₂ with_rule
    (c.in_ok-command-3.ensures.shape c.buffer.ensures.local ∙ ap₂ with_rule
    (c.in_ok-command-2.ensures.shape c.workers.ensures.local ∙ ap₂ with_rule
    (c.in_ok-command.ensures.shape c.dump_file.ensures.local ∙ ap₂ with_rule start c.dump_file.ensures.rule)
    c.workers.ensures.rule) c.buffer.ensures.rule) c.buffers.ensures.rule) c.first_tag.ensures.rule) c.skip.ensures.rule
