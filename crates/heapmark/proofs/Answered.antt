-- What the program did for the words of its command line, by what is known of them.
use Rattle.std.proofs.Common.{Bool, IfSome, List, None, Option, Some, arith, false, refl, subst, sym, ℕ, ◌≡◌, ◌≤◌}
use Rattle.std.specs.Io.KnownBytes.{Keeps}
use Rattle.command_line.specs.Line.{AsksAboutProgram, text_given}
use Rattle.heapmark.specs.Causes.{KnownCauses}
use Rattle.heapmark.specs.OfFile.{PrintsReason, PrintsReasonFirst, WritesReportOfFile}
use Rattle.heapmark.specs.RefusalText.{refusal_line}
use Rattle.front_end.specs.RunRefusals.{out_of_memory}
use Rattle.heapmark.specs.StatusOf.{IsStatusOf}
use Rattle.heapmark.specs.working.Answered.{IsAnswered}
use Rattle.heapmark.specs.working.StatusOfSome.{IsStatusOfSome}
use Rattle.heapmark.proofs.OfFile.{of_known, told_first_unread, told_unread}
use Rattle.histogram.specs.Counting.{AppendsBeginning, failures_of, inner_of}
use Rattle.histogram.specs.declared.counted.Counted.{Counted}

-- known bytes that are not touched stay
stays : (known : Option (List ℕ)) → Keeps known known
stays None = tt
stays (Some bytes) = refl

-- what holds of all words holds of those that are known
of_all : (known : Option (List (List ℕ))) (P : List (List ℕ) → Type 0) → ((words : List (List ℕ)) → P words)
    → IfSome known P
of_all None P all = tt
of_all (Some words) P all = all words

-- the program's output was not touched

refused_words : {W : Type 0} (words : List (List ℕ)) (status : ℕ) (bytes_of : W → Option (List ℕ)) (out : Counted W)
    → status ≡ 1 → IsStatusOf words status bytes_of out out
refused_words words status bytes_of out one = record {
  most = omega (arith, one);
  usage = λ two. absurd (omega (arith, one, two));
  wrong = λ _ _ zero. omega (arith, one, zero);
  untouched = λ _. stays (bytes_of (inner_of out));
  reported = λ zero _. absurd (omega (arith, one, zero));
  flushed = λ zero _. absurd (omega (arith, one, zero));
  too_few = λ _ _ _ _ _ _. (λ zero. omega (arith, one, zero), stays (bytes_of (inner_of out)));
  bad_list = λ _ _. (λ zero. omega (arith, one, zero), stays (bytes_of (inner_of out)));
  unwritten = λ _ _. stays (bytes_of (inner_of out));
  beginning = λ _ rose. absurd (omega (arith, rose));
  no_failure = λ _ _. refl;
  failures = omega arith;
}

untouched_for_some : {W : Type 0} (status : ℕ) (bytes_of : W → Option (List ℕ)) (out : Counted W) → status ≤ 2
    → IsStatusOfSome status bytes_of out out
untouched_for_some status bytes_of out most = record {
  most = most;
  untouched = λ _. stays (bytes_of (inner_of out));
  unwritten = λ _ _. stays (bytes_of (inner_of out));
  beginning = λ _ rose. absurd (omega (arith, rose));
  failures = omega arith;
}

-- without memory for the words, that is the reason, whatever they are
pub starved : {W : Type 0} (known : Option (List (List ℕ))) (bytes_at : List ℕ → Option (List ℕ))
    (is_unread : List ℕ → Type 0) (causes : KnownCauses) (is_terminal : Bool) (status : ℕ)
    (bytes_of : W → Option (List ℕ)) (out : Counted W) (had has : Option (List ℕ)) → status ≡ 1
    → AppendsBeginning had has (refusal_line out_of_memory)
    → IsAnswered known bytes_at is_unread causes is_terminal status bytes_of out out had has
starved known bytes_at is_unread causes is_terminal status bytes_of out had has one line = record {
  some = untouched_for_some status bytes_of out (omega (arith, one));
  of_words = of_all known (λ words. IsStatusOf words status bytes_of out out)
      (λ words. refused_words words status bytes_of out one);
  of_file = of_all known _ (λ words zero. absurd (omega (arith, one, zero)));
  first = λ _. told_first_unread known bytes_at is_unread causes _ _ had has refl line;
  alone = λ _ _. told_unread known bytes_at is_unread causes _ _ had has refl line;
  silent = λ zero. absurd (omega (arith, one, zero));
}

-- words that are not text are not known to a contract
pub not_text : {W : Type 0} (known : Option (List (List ℕ))) (bytes_at : List ℕ → Option (List ℕ))
    (is_unread : List ℕ → Type 0) (causes : KnownCauses) (is_terminal : Bool) (status : ℕ)
    (bytes_of : W → Option (List ℕ)) (out : Counted W) (had has : Option (List ℕ)) → known ≡ None → status ≡ 2
    → IsAnswered known bytes_at is_unread causes is_terminal status bytes_of out out had has
not_text known bytes_at is_unread causes is_terminal status bytes_of out had has unknown two =
    subst (λ k. IsAnswered k bytes_at is_unread causes is_terminal status bytes_of out out had has) (sym unknown)
    (record {
      some = untouched_for_some status bytes_of out (omega (arith, two));
      of_words = tt;
      of_file = tt;
      first = λ _. tt;
      alone = λ _ _. tt;
      silent = λ zero. absurd (omega (arith, two, zero));
    })

-- what a status says of some words
for_some : {W : Type 0} (words : List (List ℕ)) (status : ℕ) (bytes_of : W → Option (List ℕ)) (old new : Counted W)
    → IsStatusOf words status bytes_of old new → IsStatusOfSome status bytes_of old new
for_some words status bytes_of old new is = record {
  most = is.most;
  untouched = is.untouched;
  unwritten = is.unwritten;
  beginning = λ one rose. (text_given _ words, is.beginning one rose);
  failures = is.failures;
}

-- the program got the words
pub answered : {W : Type 0} (known : Option (List (List ℕ))) (words given : List (List ℕ))
    (bytes_at : List ℕ → Option (List ℕ)) (is_unread : List ℕ → Type 0) (causes : KnownCauses) (is_terminal : Bool)
    (status : ℕ) (bytes_of : W → Option (List ℕ)) (old new : Counted W) (had has : Option (List ℕ)) → words ≡ given
    → IfSome known (λ texts. given ≡ texts) → IsStatusOf words status bytes_of old new
    → (status ≡ 0 → (AsksAboutProgram words → ⊥)
    → WritesReportOfFile bytes_at words (bytes_of (inner_of old)) (bytes_of (inner_of new)))
    → (status ≡ 1
    → PrintsReasonFirst bytes_at is_unread causes words (failures_of old) (failures_of new) had has)
    → (status ≡ 1 → is_terminal ≡ false
    → PrintsReason bytes_at is_unread causes words (failures_of old) (failures_of new) had has)
    → (status ≡ 0 → Keeps had has)
    → IsAnswered known bytes_at is_unread causes is_terminal status bytes_of old new had has
answered known words given bytes_at is_unread causes is_terminal status bytes_of old new had has are same is report
    first alone silent =
    let of = λ (P : List (List ℕ) → Type 0) (holds : P words). of_known known given P same (subst P are holds) in
    record {
      some = for_some words status bytes_of old new is;
      of_words = of (λ texts. IsStatusOf texts status bytes_of old new) is;
      of_file = of (λ texts. status ≡ 0 → (AsksAboutProgram texts → ⊥)
          → WritesReportOfFile bytes_at texts (bytes_of (inner_of old)) (bytes_of (inner_of new))) report;
      first = λ one. of (λ texts.
          PrintsReasonFirst bytes_at is_unread causes texts (failures_of old) (failures_of new) had has) (first one);
      alone = λ one no. of (λ texts.
          PrintsReason bytes_at is_unread causes texts (failures_of old) (failures_of new) had has) (alone one no);
      silent = silent;
    }
