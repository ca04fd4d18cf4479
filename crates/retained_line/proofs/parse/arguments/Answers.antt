-- What a parse by the command proves, applied to the line of retained.
use Rattle.std.proofs.Common.{codes, subst, sym}
use Rattle.clap.specs.Words.{App}
use Rattle.common_line.specs.Matched.{IsMatched, IsPlainLine}
use Rattle.retained_line.specs.Line.{retained_line, texts_of}
use Rattle.retained_line.proofs.RetainedLine.{has_file, has_labels, is_plain}
use Rattle.retained_line.proofs.parse.arguments.Goals as goal

pub parse-requires : goal.parse-requires
parse-requires c = subst IsPlainLine (sym c.in-Ok.ensures) is_plain

pub values-requires : goal.values-requires
values-requires c =
    let matched : IsMatched retained_line (texts_of c.args.words.now) c.in-Ok-parse.matches =
    subst (λ (a : App). IsMatched a (texts_of c.args.words.now) c.in-Ok-parse.matches) c.in-Ok.ensures
    c.in-Ok-parse.ensures.matched in
    record {
      file = matched.positional (codes "file") has_file;
      labels = matched.positional (codes "labels") has_labels;
    }
