-- Refusals other than those of a spent tag and of a refused thread need no cause. These two have it by their tokens.
use Rattle.std.proofs.Common.{arith, subst, sym, ℕ, ⊎_elim, ◌≡◌, ◌≢◌, ◌≤◌, ◌⊎◌}
use Rattle.buffer_pool.specs.Calls.{first_tag_of}
use Rattle.buffer_pool.specs.declared.spent_tag.SpentTag.{SpentTag}
use Rattle.heap_graph.specs.declared.skip.refusal.SkipRefusal.{SkipRefusal}
use Rattle.heap_graph.specs.declared.skip.refusal.SkipRefusal.TheVariants as skipping
use Rattle.heapmark.specs.Answer.{IsRunRefusal}
use Rattle.heapmark.specs.Causes.{HasCause, KnownCauses}
use Rattle.front_end.specs.RefusalCodes.{bad_options_refusal, skip_refusal, write_fault, write_refusal}
use Rattle.front_end.specs.RunRefusals.{out_of_memory, read_fault}
use Rattle.heapmark.specs.RefusalCodes.{tag_spent, worker_refused}
use Rattle.front_end.specs.declared.refusal.Refusal.{Refusal}
use Rattle.histogram.specs.declared.report_writing.WriteRefusal.{WriteRefusal}
use Rattle.histogram.specs.declared.report_writing.WriteRefusal.TheVariants as writing

other : (causes : KnownCauses) (first : ℕ) (refusal : Refusal) → refusal.code ≢ 16 → refusal.code ≢ 18
    → HasCause causes first refusal
other causes first refusal no_tag no_thread = record {
  spent_tag = λ code. absurd (no_tag code);
  refused_thread = λ code. absurd (no_thread code);
}

-- a token shows that a tag was spent, by a worker of a pool with the token's first tag
pub spent_cause : (causes : KnownCauses) (first : ℕ) (token : SpentTag) → first_tag_of token ≡ first
    → causes.spent_tag (first_tag_of token) → HasCause causes first tag_spent
spent_cause causes first token same found = record {
  spent_tag = λ code. subst causes.spent_tag same found;
  refused_thread = λ code. absurd (omega (arith, code));
}

pub thread_cause : (causes : KnownCauses) (first : ℕ) → causes.refused_thread → HasCause causes first worker_refused
thread_cause causes first found = record {
  spent_tag = λ code. absurd (omega (arith, code));
  refused_thread = λ code. found;
}

pub starved_cause : (causes : KnownCauses) (first : ℕ) → HasCause causes first out_of_memory
starved_cause causes first = other causes first out_of_memory (λ h. omega (arith, h)) (λ h. omega (arith, h))

pub read_fault_cause : (causes : KnownCauses) (first : ℕ) → HasCause causes first read_fault
read_fault_cause causes first = other causes first read_fault (λ h. omega (arith, h)) (λ h. omega (arith, h))

pub bad_options_cause : (causes : KnownCauses) (first : ℕ) → HasCause causes first bad_options_refusal
bad_options_cause causes first = other causes first bad_options_refusal (λ h. omega (arith, h)) (λ h. omega (arith, h))

pub same_starved_cause : (causes : KnownCauses) (first : ℕ) (refusal : Refusal) → refusal ≡ out_of_memory
    → HasCause causes first refusal
same_starved_cause causes first refusal same = subst (HasCause causes first) (sym same) (starved_cause causes first)

-- the refusals of reading and linking
pub low_cause : (causes : KnownCauses) (first : ℕ) (refusal : Refusal) → IsRunRefusal refusal × (refusal.code ≤ 15)
    → HasCause causes first refusal
low_cause causes first refusal known =
    other causes first refusal (λ h. omega (arith, h, known.1)) (λ h. omega (arith, h, known.1))

pub reader_cause : (causes : KnownCauses) (first : ℕ) (refusal : Refusal)
    → (refusal ≡ out_of_memory) ⊎ (refusal ≡ read_fault) → HasCause causes first refusal
reader_cause causes first refusal is = ⊎_elim
    (λ (same : refusal ≡ out_of_memory). same_starved_cause causes first refusal same)
    (λ (same : refusal ≡ read_fault). subst (HasCause causes first) (sym same) (read_fault_cause causes first))
    is

each_write : (causes : KnownCauses) (first : ℕ) (refusal : WriteRefusal) → HasCause causes first (write_refusal refusal)
each_write causes first writing.WriteFault =
    other causes first write_fault (λ h. omega (arith, h)) (λ h. omega (arith, h))
each_write causes first writing.OutOfMemory = starved_cause causes first

pub writer_cause : (causes : KnownCauses) (first : ℕ) (from : WriteRefusal) (refusal : Refusal)
    → refusal ≡ write_refusal from → HasCause causes first refusal
writer_cause causes first from refusal same = subst (HasCause causes first) (sym same) (each_write causes first from)

each_skip : (causes : KnownCauses) (first : ℕ) (refusal : SkipRefusal) → HasCause causes first (skip_refusal refusal)
each_skip causes first skipping.BadOptions = bad_options_cause causes first
each_skip causes first skipping.OutOfMemory = starved_cause causes first

pub skip_cause : (causes : KnownCauses) (first : ℕ) (from : SkipRefusal) (refusal : Refusal)
    → refusal ≡ skip_refusal from → HasCause causes first refusal
skip_cause causes first from refusal same = subst (HasCause causes first) (sym same) (each_skip causes first from)
