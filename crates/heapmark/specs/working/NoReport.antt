-- Why the program has no report of a file.
use Rattle.std.specs.Prelude.{List, Option, option_map, ℕ, ◌*◌, ◌+◌, ◌<◌}
use Rattle.command_line.specs.declared.parsed_arguments.Arguments.{Arguments}
use Rattle.drain.specs.Options.{Choice, choice}
use Rattle.front_end.specs.RefusalCodes.{bad_options_refusal}
use Rattle.front_end.specs.RunRefusals.{out_of_memory, read_fault}
use Rattle.heapmark.specs.declared.no_report.NoReport.{NoReport}
use Rattle.heapmark.specs.declared.no_report.NoReport.TheVariants as no_report
use Rattle.front_end.specs.declared.refusal.Refusal.{Refusal}

-- the options that `a` has for the marking
abbrev pub wanted : Arguments → Choice
wanted a = choice a.workers a.buffer a.buffers a.first_tag

-- fewer buffers than two for each worker and two more
abbrev pub HasTooFewBuffers : Arguments → Type 0
HasTooFewBuffers a = a.buffers < 2 * a.workers + 2

-- the text that lists the fields that are not to be followed
abbrev pub list_of : Arguments → Option (List ℕ)
list_of a = option_map (λ text. text.now) a.skip

-- the options or the list are refused
abbrev pub bad_options : NoReport
bad_options = no_report.Refused bad_options_refusal

-- an allocation failed
abbrev pub starved : NoReport
starved = no_report.Refused out_of_memory

-- the refusal that is printed
abbrev pub refusal_of : NoReport → Refusal
refusal_of (no_report.Refused refusal) = refusal
refusal_of (no_report.Stopped refusal length) = refusal
refusal_of (no_report.NotOpened fault) = read_fault
