-- What a parse by the command proves, applied to the line of heapmark.
use Rattle.std.proofs.Common.{codes, subst, sym}
use Rattle.clap.specs.Words.{App}
use Rattle.command_line.specs.Line.{heapmark_line, texts_of}
use Rattle.command_line.proofs.HeapmarkLine.{has_buffer, has_buffers, has_file, has_first_tag, has_workers, is_plain}
use Rattle.common_line.specs.Matched.{IsMatched, IsPlainLine}
use Rattle.command_line.proofs.parse.arguments.Goals as goal

pub parse-requires : goal.parse-requires
parse-requires c = subst IsPlainLine (sym c.in-Ok.ensures) is_plain

pub values-requires : goal.values-requires
values-requires c =
    let matched : IsMatched heapmark_line (texts_of c.args.words.now) c.in-Ok-parse.matches =
    subst (λ (a : App). IsMatched a (texts_of c.args.words.now) c.in-Ok-parse.matches) c.in-Ok.ensures
    c.in-Ok-parse.ensures.matched in
    record {
      file = matched.positional (codes "file") has_file;
      workers = matched.number (codes "workers") 1 64 (codes "4") has_workers;
      buffer = matched.number (codes "buffer") 2 4096 (codes "256") has_buffer;
      buffers = matched.number (codes "buffers") 4 65534 (codes "1024") has_buffers;
      first_tag = matched.number (codes "first-tag") 0 281474976710655 (codes "0") has_first_tag;
    }
