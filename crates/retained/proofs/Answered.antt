-- What the program did for the words of its command line, by what is known of them.
use Rattle.std.proofs.Common.{Bool, IfSome, IsSomeAnd, List, None, Option, Some, [], ap, arith, codes, false, inl, inr}
use Rattle.std.proofs.Common.{option_and_then, refl, subst, sym, true, ℕ, ⊎_elim, ◌+◌, ◌≡◌, ◌≢◌, ◌≤◌, ◌↔◌, ◌⊎◌}
use Rattle.std.proofs.KnownBytes.{Keeps-refl}
use Rattle.std.specs.Io.KnownBytes.{Keeps}
use Rattle.histogram.specs.Counting.{failures_of, inner_of, is_flushed}
use Rattle.histogram.specs.declared.counted.Counted.{Counted}
use Rattle.retained.proofs.OfFiles.{says_silent}
use Rattle.retained.specs.OfFiles.{HasUnreadFile, IsReason, OfBoth, PrintsHint, PrintsReason, PrintsReasonFirst}
use Rattle.retained.specs.OfFiles.{PrintsRefusal, PrintsRefusalFirst, WritesPartOfSomeTable, WritesSomeTable}
use Rattle.retained.specs.OfFiles.{WritesTableOf, bytes_given, bytes_of_labels}
use Rattle.retained.specs.StatusOf.{IsStatusOf, IsStatusOfSome}
use Rattle.retained.specs.working.Answered.{IsAnswered, IsDoneFor}
use Rattle.retained_line.specs.Line.{AreGiven, IsTaken, text_given}
use Rattle.retained_line.specs.declared.parsed_arguments.Arguments.{Arguments}
use Rattle.retention.specs.Outcome.{SaysOfInputs, bytes_of_run}
use Rattle.retention.specs.declared.fault.Fault.{Fault}
use Rattle.retention.specs.declared.fault.Fault.TheVariants as faults

-- what holds of all words holds of those that are known
of_all : (known : Option (List (List ℕ))) (P : List (List ℕ) → Type 0) → ((words : List (List ℕ)) → P words)
    → IfSome known P
of_all None P all = tt
of_all (Some words) P all = all words

-- a fact of the words that the program gets is one of the words that are known
of_known : (known : Option (List (List ℕ))) (words : List (List ℕ)) (P : List (List ℕ) → Type 0)
    → IfSome known (λ given. words ≡ given) → P words → IfSome known P
of_known None words P same holds = tt
of_known (Some given) words P same holds = subst P same holds

-- the output was not touched
untouched : {W : Type 0} (status : ℕ) (bytes_of : W → Option (List ℕ)) (out : Counted W) → status ≤ 2
    → IsStatusOfSome status bytes_of out out
untouched status bytes_of out most = record {
  most = most;
  untouched = λ _. Keeps-refl (bytes_of (inner_of out));
  unwritten = λ _ _. Keeps-refl (bytes_of (inner_of out));
  part = λ _ rose. absurd (omega (arith, rose));
  failures = omega arith;
}

refused_words : {W : Type 0} (words : List (List ℕ)) (status : ℕ) (bytes_of : W → Option (List ℕ)) (out : Counted W)
    → status ≡ 1 → IsStatusOf words status bytes_of out out
refused_words words status bytes_of out one = record {
  of_some = untouched status bytes_of out (omega (arith, one));
  usage = λ two. absurd (omega (arith, one, two));
  wrong = λ _ _ zero. omega (arith, one, zero);
  written = λ zero _. absurd (omega (arith, one, zero));
  flushed = λ zero _. absurd (omega (arith, one, zero));
  no_failure = λ _ _. refl;
}

-- out of memory is a reason for any files
starved_reason : (dump labels : Option (List ℕ)) (failures : ℕ)
    → IsReason dump labels failures failures faults.OutOfMemory
starved_reason dump labels failures = record {
  says = says_silent dump labels faults.OutOfMemory (inr refl);
  says_of_some = ([], [], tt);
  write_fault = (λ same. cc, λ rose. absurd (omega (arith, rose)));
}

pub starved_words : (bytes_at : List ℕ → Option (List ℕ)) (is_unread : List ℕ → Type 0) (words : List (List ℕ))
    (before after : ℕ) (old new : Option (List ℕ)) → after ≡ before → PrintsRefusal faults.OutOfMemory old new
    → PrintsReason bytes_at is_unread words before after old new
starved_words bytes_at is_unread words before after old new same line = record {
  fault = faults.OutOfMemory;
  reason = subst (λ failures. IsReason (bytes_given bytes_at (codes "file") words)
      (bytes_given bytes_at (codes "labels") words) before failures faults.OutOfMemory) (sym same)
      (starved_reason (bytes_given bytes_at (codes "file") words) (bytes_given bytes_at (codes "labels") words) before);
  unread = λ is. cc;
  line = line;
}

-- the refusal's line is the only one
pub only : (bytes_at : List ℕ → Option (List ℕ)) (is_unread : List ℕ → Type 0) (words : List (List ℕ))
    (before after : ℕ) (old new : Option (List ℕ)) → PrintsReason bytes_at is_unread words before after old new
    → PrintsReasonFirst bytes_at is_unread words before after old new
only bytes_at is_unread words before after old new printed =
    record { between = new; first = printed; second = inl (Keeps-refl new) }

-- without memory for the words, that is the reason, whatever they are
starved_done : {W : Type 0} (bytes_at : List ℕ → Option (List ℕ)) (is_unread : List ℕ → Type 0)
    (is_terminal : Bool) (status : ℕ) (bytes_of : W → Option (List ℕ)) (out : Counted W) (had has : Option (List ℕ))
    → status ≡ 1 → PrintsRefusal faults.OutOfMemory had has → (words : List (List ℕ))
    → IsDoneFor words bytes_at is_unread is_terminal status bytes_of out out had has
starved_done bytes_at is_unread is_terminal status bytes_of out had has one line words =
    let told = starved_words bytes_at is_unread words (failures_of out) (failures_of out) had has refl line in
    record {
      status_is = refused_words words status bytes_of out one;
      of_files = λ zero _. absurd (omega (arith, one, zero));
      first = λ _. only bytes_at is_unread words (failures_of out) (failures_of out) had has told;
      alone = λ _ _. told;
      silent = λ zero. absurd (omega (arith, one, zero));
    }

pub starved : {W : Type 0} (known : Option (List (List ℕ))) (bytes_at : List ℕ → Option (List ℕ))
    (is_unread : List ℕ → Type 0) (is_terminal : Bool) (status : ℕ) (bytes_of : W → Option (List ℕ)) (out : Counted W)
    (had has : Option (List ℕ)) → status ≡ 1 → PrintsRefusal faults.OutOfMemory had has
    → IsAnswered known bytes_at is_unread is_terminal status bytes_of out out had has
starved known bytes_at is_unread is_terminal status bytes_of out had has one line = record {
  some = untouched status bytes_of out (omega (arith, one));
  of_words = of_all known (λ words. IsDoneFor words bytes_at is_unread is_terminal status bytes_of out out had has)
      (starved_done bytes_at is_unread is_terminal status bytes_of out had has one line);
  silent = λ zero. absurd (omega (arith, one, zero));
}

-- words that are not text are not known to a contract
pub not_text : {W : Type 0} (known : Option (List (List ℕ))) (bytes_at : List ℕ → Option (List ℕ))
    (is_unread : List ℕ → Type 0) (is_terminal : Bool) (status : ℕ) (bytes_of : W → Option (List ℕ)) (out : Counted W)
    (had has : Option (List ℕ)) → known ≡ None → status ≡ 2
    → IsAnswered known bytes_at is_unread is_terminal status bytes_of out out had has
not_text known bytes_at is_unread is_terminal status bytes_of out had has unknown two =
    subst (λ k. IsAnswered k bytes_at is_unread is_terminal status bytes_of out out had has) (sym unknown)
    (record {
      some = untouched status bytes_of out (omega (arith, two));
      of_words = tt;
      silent = λ zero. absurd (omega (arith, two, zero));
    })

-- the program got the words
pub answered : {W : Type 0} (known : Option (List (List ℕ))) (words given : List (List ℕ))
    (bytes_at : List ℕ → Option (List ℕ)) (is_unread : List ℕ → Type 0) (is_terminal : Bool)
    (status : ℕ) (bytes_of : W → Option (List ℕ)) (old new : Counted W) (had has : Option (List ℕ)) → words ≡ given
    → IfSome known (λ texts. given ≡ texts)
    → IsDoneFor words bytes_at is_unread is_terminal status bytes_of old new had has
    → IsAnswered known bytes_at is_unread is_terminal status bytes_of old new had has
answered known words given bytes_at is_unread is_terminal status bytes_of old new had has are same done = record {
  some = done.status_is.of_some;
  of_words = of_known known given (λ texts.
      IsDoneFor texts bytes_at is_unread is_terminal status bytes_of old new had has) same
      (subst (λ texts. IsDoneFor texts bytes_at is_unread is_terminal status bytes_of old new had has) are done);
  silent = done.silent;
}

-- what holds of the bytes of the two files holds of those that the words give
of_words : (bytes_at : List ℕ → Option (List ℕ)) (words : List (List ℕ)) (a : Arguments) → AreGiven words a
    → (P : Option (List ℕ) → Option (List ℕ) → Type 0) → P (bytes_at a.file.now) (bytes_at a.labels.now)
    → P (bytes_given bytes_at (codes "file") words) (bytes_given bytes_at (codes "labels") words)
of_words bytes_at words a given P holds =
    subst (λ dump. P dump (bytes_given bytes_at (codes "labels") words))
    (sym (ap (option_and_then bytes_at) given.file))
    (subst (P (bytes_at a.file.now)) (sym (ap (option_and_then bytes_at) given.labels)) holds)

-- the table was written
pub written : {W : Type 0} (words : List (List ℕ)) (a : Arguments) (bytes_at : List ℕ → Option (List ℕ))
    (is_unread : List ℕ → Type 0) (is_terminal : Bool) (status : ℕ) (bytes_of : W → Option (List ℕ))
    (old new : Counted W) (had : Option (List ℕ)) → status ≡ 0 → AreGiven words a → IsTaken words
    → WritesTableOf (bytes_at a.file.now) (bytes_at a.labels.now) (bytes_of (inner_of old)) (bytes_of (inner_of new))
    → WritesSomeTable (bytes_of (inner_of old)) (bytes_of (inner_of new)) → is_flushed new ≡ true
    → failures_of new ≡ failures_of old
    → IsDoneFor words bytes_at is_unread is_terminal status bytes_of old new had had
written words a bytes_at is_unread is_terminal status bytes_of old new had zero given taken table some flushed none =
    record {
      status_is = record {
        of_some = record {
          most = omega (arith, zero);
          untouched = λ two. absurd (omega (arith, zero, two));
          unwritten = λ one _. absurd (omega (arith, zero, one));
          part = λ one _. absurd (omega (arith, zero, one));
          failures = omega (arith, none);
        };
        usage = λ two. absurd (omega (arith, zero, two));
        wrong = λ not _ _. not taken;
        written = λ _ _. some;
        flushed = λ _ _. flushed;
        no_failure = λ _ _. none;
      };
      of_files = λ _ _. of_words bytes_at words a given
          (λ dump labels. WritesTableOf dump labels (bytes_of (inner_of old)) (bytes_of (inner_of new))) table;
      first = λ one. absurd (omega (arith, zero, one));
      alone = λ one _. absurd (omega (arith, zero, one));
      silent = λ _. Keeps-refl had;
    }

-- a file that could not be opened or read is one that the words name
unread_of : (is_unread : List ℕ → Type 0) (words : List (List ℕ)) (a : Arguments) → AreGiven words a
    → is_unread a.file.now ⊎ is_unread a.labels.now → HasUnreadFile is_unread words
unread_of is_unread words a given (inl file) =
    inl (subst (λ name. IsSomeAnd name is_unread) (sym given.file) file)
unread_of is_unread words a given (inr labels) =
    inr (subst (λ name. IsSomeAnd name is_unread) (sym given.labels) labels)

hint_of : (words : List (List ℕ)) (a : Arguments) (old new : Option (List ℕ)) → AreGiven words a
    → PrintsHint (Some a.file.now) (Some a.labels.now) old new
    → PrintsHint (text_given (codes "file") words) (text_given (codes "labels") words) old new
hint_of words a old new given printed =
    subst (λ file. PrintsHint file (text_given (codes "labels") words) old new) (sym given.file)
    (subst (λ labels. PrintsHint (Some a.file.now) labels old new) (sym given.labels) printed)

-- what is known of a fault for which there is no table
pub record IsFaultOf (dump labels : Option (List ℕ)) (Unread : Type 0) (before after : ℕ) (fault : Fault)
    (old new : Option (List ℕ)) : Type 0 where
  pub says : OfBoth dump labels (λ text list. SaysOfInputs (bytes_of_run text) (bytes_of_labels list) fault)
  pub says_of_some : (text : List ℕ) × (list : List ℕ) × SaysOfInputs text list fault
  pub unread : fault ≡ faults.ReadFault → Unread
  pub write_fault : (fault ≡ faults.WriteFault) ↔ (after ≡ before + 1)
  pub no_write_fault : fault ≢ faults.WriteFault → after ≡ before
  pub part : fault ≡ faults.WriteFault → WritesPartOfSomeTable old new
  pub untouched : fault ≢ faults.WriteFault → Keeps old new

-- whether the fault is a failed write
decided : (fault : Fault) → (fault ≡ faults.WriteFault) ⊎ (fault ≢ faults.WriteFault)
decided (faults.Dump code place) = inr (λ is. cc)
decided (faults.BadLabels line) = inr (λ is. cc)
decided faults.OutOfMemory = inr (λ is. cc)
decided faults.ReadFault = inr (λ is. cc)
decided faults.WriteFault = inl refl

few_failures : (before after : ℕ) (fault : Fault) → (fault ≡ faults.WriteFault → after ≡ before + 1)
    → (fault ≢ faults.WriteFault → after ≡ before) → after ≤ before + 1
few_failures before after fault rose same = ⊎_elim
    (λ (is : fault ≡ faults.WriteFault). omega (arith, rose is))
    (λ (not : fault ≢ faults.WriteFault). omega (arith, same not))
    (decided fault)

-- there is no table, and the refusal was printed
pub refused : {W : Type 0} (words : List (List ℕ)) (a : Arguments) (bytes_at : List ℕ → Option (List ℕ))
    (is_unread : List ℕ → Type 0) (is_terminal : Bool) (status : ℕ) (bytes_of : W → Option (List ℕ))
    (old new : Counted W) (had has : Option (List ℕ)) (fault : Fault) → status ≡ 1 → AreGiven words a
    → IsFaultOf (bytes_at a.file.now) (bytes_at a.labels.now) (is_unread a.file.now ⊎ is_unread a.labels.now)
    (failures_of old) (failures_of new) fault (bytes_of (inner_of old)) (bytes_of (inner_of new))
    → PrintsRefusalFirst a.file.now a.labels.now fault had has → (is_terminal ≡ false → PrintsRefusal fault had has)
    → IsDoneFor words bytes_at is_unread is_terminal status bytes_of old new had has
refused words a bytes_at is_unread is_terminal status bytes_of old new had has fault one given is first alone =
    let reason : IsReason (bytes_given bytes_at (codes "file") words) (bytes_given bytes_at (codes "labels") words)
    (failures_of old) (failures_of new) fault = record {
      says = of_words bytes_at words a given (λ dump labels.
          OfBoth dump labels (λ text list. SaysOfInputs (bytes_of_run text) (bytes_of_labels list) fault)) is.says;
      says_of_some = is.says_of_some;
      write_fault = is.write_fault;
    } in
    let told : (now : Option (List ℕ)) → PrintsRefusal fault had now
    → PrintsReason bytes_at is_unread words (failures_of old) (failures_of new) had now = λ now line. record {
      fault = fault;
      reason = reason;
      unread = λ read. unread_of is_unread words a given (is.unread read);
      line = line;
    } in
    record {
      status_is = record {
        of_some = record {
          most = omega (arith, one);
          untouched = λ two. absurd (omega (arith, one, two));
          unwritten = λ _ same. is.untouched (λ write. omega (arith, same, is.write_fault.0 write));
          part = λ _ rose. is.part (is.write_fault.1 rose);
          failures = few_failures (failures_of old) (failures_of new) fault is.write_fault.0 is.no_write_fault;
        };
        usage = λ two. absurd (omega (arith, one, two));
        wrong = λ _ _ zero. omega (arith, one, zero);
        written = λ zero _. absurd (omega (arith, one, zero));
        flushed = λ zero _. absurd (omega (arith, one, zero));
        no_failure = λ not _. absurd (not one);
      };
      of_files = λ zero _. absurd (omega (arith, one, zero));
      first = λ _. record {
        between = first.0;
        first = told first.0 first.1;
        second = hint_of words a first.0 has given first.2;
      };
      alone = λ _ no. told has (alone no);
      silent = λ zero. absurd (omega (arith, one, zero));
    }
