-- The line of retained is plain, and has the rule of each of its arguments once.
use Rattle.std.proofs.Common.{refl}
use Rattle.clap.proofs.OnLiterals.{clap_on_literals}
use Rattle.common_line.specs.Matched.{HasRule, IsPlainLine}
use Rattle.retained_line.specs.Line.{file_rule, labels_rule, retained_line}

pub is_plain : IsPlainLine retained_line
unfolding retained_line clap_on_literals
is_plain = record { defined = refl; plain = refl; free = refl; strict = refl }

pub has_file : HasRule retained_line file_rule
unfolding retained_line
has_file = record { one = refl; own = refl }

pub has_labels : HasRule retained_line labels_rule
unfolding retained_line
has_labels = record { one = refl; own = refl }
