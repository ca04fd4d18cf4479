-- The codes of first faults are 1 to 14, and those of all other refusals are higher.
use Rattle.std.proofs.Common.{IsSome, List, None, inl, inr, arith, refl, subst, sym, ℕ, ⊎_elim, ◌≡◌, ◌≢◌, ◌≤◌, ◌⊎◌}
use Rattle.heap_graph.specs.LinkFault.{HasLinkFault, code_of}
use Rattle.heap_graph.specs.declared.refusal.LinkRule.{LinkRule}
use Rattle.heap_graph.specs.declared.refusal.LinkRule.TheVariants.{DuplicateObject, InstanceSize, SuperChain, TooLarge}
use Rattle.heap_graph.specs.declared.refusal.LinkRule.TheVariants.{UnknownClass, ZeroObject}
use Rattle.hprof_grammar.specs.Fault.{FirstFault, RecordFault, SubFault}
use Rattle.hprof_grammar.specs.Fault.SubFault.{short, unknown_tag, wrong_type}
use Rattle.hprof_grammar.specs.Fault.RecordFault.{bad_length, in_heap, no_snapshot, out_of_order, truncated}
use Rattle.hprof_grammar.specs.Fault.FirstFault.{bad_header, bad_id_size, in_records, short_header, too_large}
use Rattle.hprof_grammar.specs.Record.{Record}
use Rattle.heapmark.specs.Answer.{FirstFaultOf, IsRunRefusal, RefusesFirstFault}
use Rattle.front_end.specs.RunRefusals.{out_of_memory}
use Rattle.front_end.specs.declared.refusal.Refusal.{Refusal}

abbrev pub IsFaultCode : ℕ → Type 0
IsFaultCode code = (1 ≤ code) × (code ≤ 14)

sub_code : {s : ℕ} {bytes : List ℕ} {code : ℕ} → SubFault s bytes code → IsFaultCode code
sub_code (unknown_tag tag rest none) = (omega arith, omega arith)
sub_code (short x rest formed ends) = (omega arith, omega arith)
sub_code (wrong_type x rest formed wrong) = (omega arith, omega arith)

record_code : {s : ℕ} {records : List Record} {at : ℕ} {rest : List ℕ} {code place : ℕ}
    → RecordFault s records at rest code place → IsFaultCode code
record_code (no_snapshot unordered) = (omega arith, omega arith)
record_code (truncated rest some runs) = (omega arith, omega arith)
record_code (bad_length tag time body after fits wrong) = (omega arith, omega arith)
record_code (out_of_order tag time body after fits right stops) = (omega arith, omega arith)
record_code (in_heap tag time body after subs rest code fits heap goes longest fault) = sub_code fault

form_code : {text : List ℕ} {code place : ℕ} → FirstFault text code place → IsFaultCode code
form_code (too_large long) = (omega arith, omega arith)
form_code (bad_header fits none) = (omega arith, omega arith)
form_code (short_header begins few) = (omega arith, omega arith)
form_code (bad_id_size s rest fits long small parts wrong) = (omega arith, omega arith)
form_code (in_records s time body records rest code place fits size parts longest fault) = record_code fault

rule_code : (rule : LinkRule) → IsFaultCode (code_of rule)
rule_code ZeroObject = (omega arith, omega arith)
rule_code DuplicateObject = (omega arith, omega arith)
rule_code UnknownClass = (omega arith, omega arith)
rule_code SuperChain = (omega arith, omega arith)
rule_code InstanceSize = (omega arith, omega arith)
rule_code TooLarge = (omega arith, omega arith)

link_code : {text : List ℕ} {code place : ℕ} → HasLinkFault text code place → IsFaultCode code
link_code fault = subst IsFaultCode (sym fault.code_is) (rule_code fault.rule)

fault_code : (text : List ℕ) (code place : ℕ) → FirstFaultOf text code place → IsFaultCode code
fault_code text code place fault = ⊎_elim form_code link_code fault

-- the refusals that a run may have before it writes anything
abbrev pub IsKnown : Refusal → Type 0
IsKnown refusal = IsRunRefusal refusal × (refusal.code ≤ 18)

-- a refusal that is no fault of the bytes has no place
pub run_unplaced : (code : ℕ) → 15 ≤ code → code ≤ 20 → code ≢ 17
    → IsRunRefusal (record { code = code; offset = None })
run_unplaced code least most in_use = record {
  least = omega (arith, least);
  most = most;
  in_use = in_use;
  placed = (λ h. absurd (omega (arith, h, least)), λ h. cc);
}

pub known_unplaced : (code : ℕ) → 15 ≤ code → code ≤ 18 → code ≢ 17 → IsKnown (record { code = code; offset = None })
known_unplaced code least most in_use = (run_unplaced code least (omega (arith, most)) in_use, most)

-- a first fault is such a refusal, and so is out of memory
pub known_of : (text : List ℕ) (refusal : Refusal) → RefusesFirstFault text refusal ⊎ (refusal ≡ out_of_memory)
    → IsRunRefusal refusal × (refusal.code ≤ 15)
known_of text refusal (inl tells) =
    let code = fault_code text refusal.code tells.place tells.fault in (
      record {
        least = code.0;
        most = omega (arith, code.1);
        in_use = λ h. omega (arith, code.1, h);
        placed = (λ _. subst (λ (r : Refusal). IsSome r.offset) (sym tells.is) refl, λ _. code.1);
      },
      omega (arith, code.1),
    )
known_of text refusal (inr same) =
    subst (λ r. IsRunRefusal r × (r.code ≤ 15)) (sym same)
    (run_unplaced 15 (omega arith) (omega arith) (λ h. omega (arith, h)), omega arith)
