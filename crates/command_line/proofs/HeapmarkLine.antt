-- The line of heapmark is plain, and has the rules of its file and options once each.
use Rattle.std.proofs.Common.{codes, refl}
use Rattle.clap.proofs.OnLiterals.{clap_on_literals}
use Rattle.command_line.specs.Line.{file_rule, heapmark_line, number_rule}
use Rattle.common_line.specs.Matched.{HasRule, IsPlainLine}

pub is_plain : IsPlainLine heapmark_line
unfolding heapmark_line clap_on_literals
is_plain = record { defined = refl; plain = refl; free = refl; strict = refl }

pub has_file : HasRule heapmark_line file_rule
unfolding heapmark_line
has_file = record { one = refl; own = refl }

pub has_workers : HasRule heapmark_line (number_rule (codes "workers") 1 64 (codes "4"))
unfolding heapmark_line
has_workers = record { one = refl; own = refl }

pub has_buffer : HasRule heapmark_line (number_rule (codes "buffer") 2 4096 (codes "256"))
unfolding heapmark_line
has_buffer = record { one = refl; own = refl }

pub has_buffers : HasRule heapmark_line (number_rule (codes "buffers") 4 65534 (codes "1024"))
unfolding heapmark_line
has_buffers = record { one = refl; own = refl }

pub has_first_tag : HasRule heapmark_line (number_rule (codes "first-tag") 0 281474976710655 (codes "0"))
unfolding heapmark_line
has_first_tag = record { one = refl; own = refl }
