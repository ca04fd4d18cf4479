-- What a run says of the bytes of its reader, said of the file whose bytes these are.
use Rattle.std.proofs.Common.{IfSome, IsErrAnd, IsSomeAnd, List, None, Option, Some, ap, arith, codes, inl, inr}
use Rattle.std.proofs.Common.{option_and_then, refl, subst, sym, ℕ, ⊎_elim, ◌+◌, ◌≡◌, ◌≢◌, ◌≤◌, ◌↔◌, ◌⊎◌}
use Rattle.std.proofs.KnownBytes.{Keeps-refl}
use Rattle.command_line.specs.Line.{AreGiven, text_given}
use Rattle.command_line.specs.declared.parsed_arguments.Arguments.{Arguments}
use Rattle.heap_graph.specs.Skips.{SkipEntry}
use Rattle.heap_graph.specs.declared.skip.refusal.SkipRefusal.{SkipRefusal}
use Rattle.heap_graph.specs.declared.skip.refusal.SkipRefusal.TheVariants as skipping
use Rattle.heapmark.specs.Answer.{IsAcceptedText, IsRefusalOf, IsRunRefusal, RefusesFirstFault, WritesReport}
use Rattle.heapmark.specs.Answer.{bytes_read}
use Rattle.heapmark.specs.BadOptions.{GivesTooFewBuffers, HasBadOptions}
use Rattle.heapmark.specs.Causes.{HasCause, HasCauseFor, KnownCauses}
use Rattle.heapmark.specs.OfFile.{IsReason, PrintsReason, PrintsReasonFirst, WritesReportOfBytes, WritesReportOfFile}
use Rattle.heapmark.specs.OfFile.{HasUnreadFile, bytes_of_file}
use Rattle.front_end.specs.RefusalCodes.{bad_options_refusal, skip_refusal}
use Rattle.heapmark.specs.RefusalText.{refusal_line}
use Rattle.front_end.specs.RunRefusals.{out_of_memory, read_fault}
use Rattle.heapmark.specs.SecondLine.{PrintsHint, PrintsHintFor}
use Rattle.heapmark.specs.SkippedFields.{HasBadList, IsSkipListOf}
use Rattle.front_end.specs.declared.refusal.Refusal.{Refusal}
use Rattle.heapmark.specs.working.NoReport.{HasTooFewBuffers, list_of}
use Rattle.heapmark.proofs.Codes.{run_unplaced}
use Rattle.histogram.specs.Counting.{AppendsBeginning}

-- the bytes that the reader has yet to give are those of the file, if these are known
abbrev pub IsOfFile : Option (List ℕ) → Option (List ℕ) → Type 0
IsOfFile known left = IfSome known (λ bytes. left ≡ Some bytes)

-- a fact of what the reader gives is one of the file
of_reader : (known left : Option (List ℕ)) (P : List ℕ → Type 0) → IsOfFile known left → IfSome left P → IfSome known P
of_reader None left P same fact = tt
of_reader (Some bytes) left P same fact = subst (λ given. IfSome given P) same fact

pub written : (known left : Option (List ℕ)) (list : Option (List ℕ)) (skip : List SkipEntry)
    (old new : Option (List ℕ)) → IsOfFile known left → IsSkipListOf list skip
    → IfSome left (λ given. WritesReport (bytes_read given) skip old new)
    → IfSome known (λ bytes. WritesReportOfBytes list bytes old new)
written None left list skip old new same is_list report = tt
written (Some bytes) left list skip old new same is_list report = record {
  skip = skip;
  is_list = is_list;
  written = of_reader (Some bytes) left (λ given. WritesReport (bytes_read given) skip old new) same report;
}

under : (known : Option (List ℕ)) (P Q : List ℕ → Type 0) → ((bytes : List ℕ) → P bytes → Q bytes) → IfSome known P
    → IfSome known Q
under None P Q weaken fact = tt
under (Some bytes) P Q weaken fact = weaken bytes fact

always : (known : Option (List ℕ)) (P : List ℕ → Type 0) → ((bytes : List ℕ) → P bytes) → IfSome known P
always None P all = tt
always (Some bytes) P all = all bytes

-- the reasons that a run has, and those before it

abbrev NotAccepted : Refusal → List ℕ → Type 0
NotAccepted refusal bytes =
    (IsAcceptedText (bytes_read bytes) → ⊥)
    → IsRefusalOf (bytes_read bytes) refusal ⊎ (refusal ≡ bad_options_refusal)

abbrev NotAcceptedByRun : Refusal → List ℕ → Type 0
NotAcceptedByRun refusal bytes = (IsAcceptedText (bytes_read bytes) → ⊥) → IsRefusalOf (bytes_read bytes) refusal

pub of_run : (known left : Option (List ℕ)) (before after : ℕ) (refusal : Refusal) → IsOfFile known left
    → IsRunRefusal refusal
    → (refusal.code ≤ 14 → IfSome left (λ given. RefusesFirstFault (bytes_read given) refusal))
    → IfSome left (NotAcceptedByRun refusal)
    → (refusal.code ≡ 20) ↔ (after ≡ before + 1) → IsReason known before after refusal
of_run known left before after refusal same possible fault not_accepted write_fault = record {
  possible = inl possible;
  fault = λ code. of_reader known left (λ given. RefusesFirstFault (bytes_read given) refusal) same (fault code);
  not_accepted = under known (NotAcceptedByRun refusal) (NotAccepted refusal) (λ bytes holds none. inl (holds none))
      (of_reader known left (NotAcceptedByRun refusal) same not_accepted);
  write_fault = write_fault;
}

-- a refusal that has no place, and for which nothing was written
unread : (known : Option (List ℕ)) (failures code : ℕ) → 15 ≤ code → code ≢ 20
    → IsRunRefusal (record { code = code; offset = None }) ⊎
    (record { code = code; offset = None } ≡ bad_options_refusal)
    → ((bytes : List ℕ) → NotAccepted (record { code = code; offset = None }) bytes)
    → IsReason known failures failures (record { code = code; offset = None })
unread known failures code high other possible not_accepted = record {
  possible = possible;
  fault = λ low. absurd (omega (arith, low, high));
  not_accepted = always known (NotAccepted (record { code = code; offset = None })) not_accepted;
  write_fault = (λ is. absurd (other is), λ rose. absurd (omega (arith, rose)));
}

pub bad_options_unread : (known : Option (List ℕ)) (failures : ℕ)
    → IsReason known failures failures bad_options_refusal
bad_options_unread known failures =
    unread known failures 21 (omega arith) (λ h. omega (arith, h)) (inr refl) (λ bytes none. inr refl)

pub starved_unread : (known : Option (List ℕ)) (failures : ℕ) → IsReason known failures failures out_of_memory
starved_unread known failures =
    unread known failures 15 (omega arith) (λ h. omega (arith, h))
    (inl (run_unplaced 15 (omega arith) (omega arith) (λ h. omega (arith, h))))
    (λ bytes none. inl (inr (inl refl)))

pub not_opened_unread : (known : Option (List ℕ)) (failures : ℕ) → IsReason known failures failures read_fault
not_opened_unread known failures =
    unread known failures 19 (omega arith) (λ h. omega (arith, h))
    (inl (run_unplaced 19 (omega arith) (omega arith) (λ h. omega (arith, h))))
    (λ bytes none. inl (inr (inr refl)))

of_skip : (known : Option (List ℕ)) (failures : ℕ) (skip : SkipRefusal)
    → IsReason known failures failures (skip_refusal skip)
of_skip known failures skipping.BadOptions = bad_options_unread known failures
of_skip known failures skipping.OutOfMemory = starved_unread known failures

pub skip_unread : (known : Option (List ℕ)) (failures : ℕ) (skip : SkipRefusal) (refusal : Refusal)
    → refusal ≡ skip_refusal skip → IsReason known failures failures refusal
skip_unread known failures skip refusal same =
    subst (λ (r : Refusal). IsReason known failures failures r) (sym same) (of_skip known failures skip)

-- the file and the list are those that the words give

named : (bytes_at : List ℕ → Option (List ℕ)) (words : List (List ℕ)) (a : Arguments) → AreGiven words a
    → bytes_of_file bytes_at words ≡ bytes_at a.file.now
named bytes_at words a given = ap (option_and_then bytes_at) given.file

pub of_words : (bytes_at : List ℕ → Option (List ℕ)) (words : List (List ℕ)) (a : Arguments)
    (old new : Option (List ℕ)) → AreGiven words a
    → IfSome (bytes_at a.file.now) (λ bytes. WritesReportOfBytes (list_of a) bytes old new)
    → WritesReportOfFile bytes_at words old new
of_words bytes_at words a old new given report =
    subst (λ known. IfSome known (λ bytes. WritesReportOfBytes (text_given (codes "skip") words) bytes old new))
    (sym (named bytes_at words a given))
    (subst (λ list. IfSome (bytes_at a.file.now) (λ bytes. WritesReportOfBytes list bytes old new)) given.skip report)

-- the arguments' options are bad, so those of the words are
bad_of_words : (words : List (List ℕ)) (a : Arguments) → AreGiven words a → HasTooFewBuffers a ⊎ HasBadList (list_of a)
    → HasBadOptions words
bad_of_words words a given bad = ⊎_elim
    (λ (few : HasTooFewBuffers a). inl (record {
      workers = a.workers;
      buffers = a.buffers;
      workers_given = given.workers;
      buffers_given = given.buffers;
      too_few = few;
    }))
    (λ (none : HasBadList (list_of a)). inr (subst HasBadList given.skip none))
    bad

unread_of_words : (is_unread : List ℕ → Type 0) (words : List (List ℕ)) (a : Arguments) → AreGiven words a
    → is_unread a.file.now → HasUnreadFile is_unread words
unread_of_words is_unread words a given unread =
    subst (λ (file : Option (List ℕ)). IsSomeAnd file is_unread) (sym given.file) unread

-- the first tag of the arguments is that of the words
cause_of_words : (causes : KnownCauses) (words : List (List ℕ)) (a : Arguments) (refusal : Refusal) → AreGiven words a
    → HasCause causes a.first_tag refusal → HasCauseFor causes words refusal
cause_of_words causes words a refusal given cause = record {
  spent_tag = λ code. (a.first_tag, given.first_tag, cause.spent_tag code);
  refused_thread = cause.refused_thread;
}

starved_for : (causes : KnownCauses) (words : List (List ℕ)) → HasCauseFor causes words out_of_memory
starved_for causes words = record {
  spent_tag = λ code. absurd (omega (arith, code));
  refused_thread = λ code. absurd (omega (arith, code));
}

pub told_of_words : (bytes_at : List ℕ → Option (List ℕ)) (is_unread : List ℕ → Type 0) (causes : KnownCauses)
    (words : List (List ℕ)) (a : Arguments) (before after : ℕ) (refusal : Refusal) (old new : Option (List ℕ))
    → AreGiven words a → IsReason (bytes_at a.file.now) before after refusal
    → (refusal.code ≡ 21 → HasTooFewBuffers a ⊎ HasBadList (list_of a))
    → (refusal.code ≡ 19 → is_unread a.file.now) → HasCause causes a.first_tag refusal
    → AppendsBeginning old new (refusal_line refusal)
    → PrintsReason bytes_at is_unread causes words before after old new
told_of_words bytes_at is_unread causes words a before after refusal old new given reason bad unread cause line =
    record {
      refusal = refusal;
      reason = subst (λ known. IsReason known before after refusal) (sym (named bytes_at words a given)) reason;
      options = λ code. bad_of_words words a given (bad code);
      unread = λ code. unread_of_words is_unread words a given (unread code);
      cause = cause_of_words causes words a refusal given cause;
      line = line;
    }

-- out of memory is a reason for any file
pub told_starved : (bytes_at : List ℕ → Option (List ℕ)) (is_unread : List ℕ → Type 0) (causes : KnownCauses)
    (words : List (List ℕ)) (before after : ℕ) (old new : Option (List ℕ)) → after ≡ before
    → AppendsBeginning old new (refusal_line out_of_memory)
    → PrintsReason bytes_at is_unread causes words before after old new
told_starved bytes_at is_unread causes words before after old new same line = record {
  refusal = out_of_memory;
  reason = subst (λ failures. IsReason (bytes_of_file bytes_at words) before failures out_of_memory) (sym same)
      (starved_unread (bytes_of_file bytes_at words) before);
  options = λ code. absurd (omega (arith, code));
  unread = λ code. absurd (omega (arith, code));
  cause = starved_for causes words;
  line = line;
}

-- the refusal's line is the only one, or the first

pub only : (bytes_at : List ℕ → Option (List ℕ)) (is_unread : List ℕ → Type 0) (causes : KnownCauses)
    (words : List (List ℕ)) (before after : ℕ) (old new : Option (List ℕ))
    → PrintsReason bytes_at is_unread causes words before after old new
    → PrintsReasonFirst bytes_at is_unread causes words before after old new
only bytes_at is_unread causes words before after old new printed =
    record { between = new; first = printed; second = inl (Keeps-refl new) }

pub then_hint : (bytes_at : List ℕ → Option (List ℕ)) (is_unread : List ℕ → Type 0) (causes : KnownCauses)
    (words : List (List ℕ)) (a : Arguments) (before after : ℕ) (old between new : Option (List ℕ))
    → PrintsReason bytes_at is_unread causes words before after old between → AreGiven words a
    → PrintsHint a.file.now between new → PrintsReasonFirst bytes_at is_unread causes words before after old new
then_hint bytes_at is_unread causes words a before after old between new printed given hint = record {
  between = between;
  first = printed;
  second = inr (subst (λ (file : Option (List ℕ)). IsSomeAnd file (λ name. PrintsHint name between new))
      (sym given.file) hint);
}

-- without memory for the words, out of memory is the reason, whatever they are

pub told_unread : (known : Option (List (List ℕ))) (bytes_at : List ℕ → Option (List ℕ))
    (is_unread : List ℕ → Type 0) (causes : KnownCauses) (before after : ℕ) (old new : Option (List ℕ))
    → after ≡ before
    → AppendsBeginning old new (refusal_line out_of_memory)
    → IfSome known (λ words. PrintsReason bytes_at is_unread causes words before after old new)
told_unread None bytes_at is_unread causes before after old new same line = tt
told_unread (Some words) bytes_at is_unread causes before after old new same line =
    told_starved bytes_at is_unread causes words before after old new same line

pub told_first_unread : (known : Option (List (List ℕ))) (bytes_at : List ℕ → Option (List ℕ))
    (is_unread : List ℕ → Type 0) (causes : KnownCauses) (before after : ℕ) (old new : Option (List ℕ)) → after ≡ before
    → AppendsBeginning old new (refusal_line out_of_memory)
    → IfSome known (λ words. PrintsReasonFirst bytes_at is_unread causes words before after old new)
told_first_unread None bytes_at is_unread causes before after old new same line = tt
told_first_unread (Some words) bytes_at is_unread causes before after old new same line =
    only bytes_at is_unread causes words before after old new
    (told_starved bytes_at is_unread causes words before after old new same line)

-- a fact of the words that the program gets is one of the words that are known
pub of_known : (known : Option (List (List ℕ))) (words : List (List ℕ)) (P : List (List ℕ) → Type 0)
    → IfSome known (λ given. words ≡ given) → P words → IfSome known P
of_known None words P same holds = tt
of_known (Some given) words P same holds = subst P same holds
