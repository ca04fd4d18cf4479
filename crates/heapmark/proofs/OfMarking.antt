-- A marking refuses if it is out of memory, or for a reason of its own.
use Rattle.std.proofs.Common.{List, arith, inl, inr, refl, subst, sym, ℕ, ◌≡◌, ◌≤◌, ◌⊎◌}
use Rattle.drain.specs.declared.marked.RunFault.{RunFault}
use Rattle.drain.specs.declared.marked.RunFault.TheVariants.{OutOfMemory, TagSpent, WorkerRefused}
use Rattle.heapmark.proofs.Codes.{IsKnown, known_unplaced}
use Rattle.heapmark.specs.Answer.{IsAcceptedText, IsRunRefusal, RefusesFirstFault}
use Rattle.heapmark.specs.RefusalCodes.{run_refusal}
use Rattle.front_end.specs.RunRefusals.{out_of_memory}
use Rattle.heapmark.specs.working.Marking.{IsOfMarking}
use Rattle.front_end.specs.declared.refusal.Refusal.{Refusal}

abbrev pub IsToldOf : List ℕ → Refusal → Type 0
IsToldOf text refusal = RefusesFirstFault text refusal ⊎ (refusal ≡ out_of_memory)
    ⊎ (IsAcceptedText text × IsOfMarking refusal)

each_fault : (text : List ℕ) (fault : RunFault) → IsAcceptedText text → IsToldOf text (run_refusal fault)
each_fault text OutOfMemory accepted = inr (inl refl)
each_fault text (TagSpent token) accepted = inr (inr (accepted, inl refl))
each_fault text (WorkerRefused token) accepted = inr (inr (accepted, inr refl))

pub of_marking : (text : List ℕ) (refusal : Refusal) (fault : RunFault) → refusal ≡ run_refusal fault
    → IsAcceptedText text → IsToldOf text refusal
of_marking text refusal fault same accepted = subst (IsToldOf text) (sym same) (each_fault text fault accepted)

known_fault : (fault : RunFault) → IsKnown (run_refusal fault)
known_fault OutOfMemory = known_unplaced 15 (omega arith) (omega arith) (λ h. omega (arith, h))
known_fault (TagSpent token) = known_unplaced 16 (omega arith) (omega arith) (λ h. omega (arith, h))
known_fault (WorkerRefused token) = known_unplaced 18 (omega arith) (omega arith) (λ h. omega (arith, h))

-- the refusal for a fault of a marking has a code that a run may have before it writes
pub known_marking : (refusal : Refusal) (fault : RunFault) → refusal ≡ run_refusal fault
    → IsRunRefusal refusal × (refusal.code ≤ 18)
known_marking refusal fault same = subst IsKnown (sym same) (known_fault fault)
