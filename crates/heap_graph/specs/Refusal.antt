-- What a refusal says of the links, and its text.
use Rattle.std.specs.Prelude.{Err, List, Ok, Result, codes, decimal, ℕ, ◌++◌}
use Rattle.heap_graph.specs.declared.refusal.LinkFault.{LinkFault}
use Rattle.heap_graph.specs.declared.refusal.LinkRefusal.{LinkRefusal}
use Rattle.heap_graph.specs.declared.refusal.LinkRefusal.TheVariants as refusals

-- if the result is a fault `f`, then `P f`; nothing is said of `Ok`, nor of `OutOfMemory`
abbrev pub IfLinkFault : {X : Type 0} → Result X LinkRefusal → (LinkFault → Type 0) → Type 0
IfLinkFault (Ok x) P = Unit {0}
IfLinkFault (Err (refusals.Fault f)) P = P f
IfLinkFault (Err refusals.OutOfMemory) P = Unit {0}

-- the code of the fault, and its place
abbrev pub link_fault_text : LinkFault → List ℕ
link_fault_text fault = codes "fault " ++ (decimal fault.code ++ (codes " at " ++ decimal fault.offset))

abbrev pub link_refusal_text : LinkRefusal → List ℕ
link_refusal_text (refusals.Fault fault) = codes "the objects of the heap dump are not linked: "
    ++ link_fault_text fault
link_refusal_text refusals.OutOfMemory = codes "out of memory"
