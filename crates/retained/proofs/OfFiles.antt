-- What a run says of the bytes that it reads, said of the two files whose bytes these are.
use Rattle.std.proofs.Common.{IfSome, List, None, Option, Some, inl, inr, subst, sym, ℕ, ◌≡◌, ◌⊎◌, ◌∙◌}
use Rattle.retained.specs.OfFiles.{OfBoth, bytes_of_labels}
use Rattle.retention.specs.Outcome.{SaysOfInputs, bytes_of_run}
use Rattle.retention.specs.declared.fault.Fault.{Fault}
use Rattle.retention.specs.declared.fault.Fault.TheVariants as faults

-- the bytes that a reader has yet to give are those of the file, if these are known
abbrev pub IsOfFile : Option (List ℕ) → Option (List ℕ) → Type 0
IsOfFile known left = IfSome known (λ bytes. left ≡ Some bytes)

-- a fact of what the reader gives is one of the file
pub of_reader : (known left : Option (List ℕ)) (P : List ℕ → Type 0) → IsOfFile known left → IfSome left P
    → IfSome known P
of_reader None left P same fact = tt
of_reader (Some bytes) left P same fact = subst (λ given. IfSome given P) same fact

-- a fact of what the reader gives and of the text of the labels, which is `items`, is one of the two files
pub of_both : (dump left labels : Option (List ℕ)) (text items : List ℕ) (P : List ℕ → List ℕ → Type 0)
    → IsOfFile dump left → text ≡ items → IfSome labels (λ bytes. items ≡ bytes_of_labels bytes)
    → IfSome left (λ given. P given text)
    → OfBoth dump labels (λ given list. P given (bytes_of_labels list))
of_both None left labels text items P same are read fact = tt
of_both (Some bytes) left None text items P same are read fact = tt
of_both (Some bytes) left (Some list) text items P same are read fact =
    subst (P bytes) (are ∙ read) (subst (λ given. IfSome given (λ bytes. P bytes text)) same fact)

-- a fault that says nothing of the inputs
pub says_silent : (dump labels : Option (List ℕ)) (fault : Fault)
    → (fault ≡ faults.ReadFault) ⊎ (fault ≡ faults.OutOfMemory)
    → OfBoth dump labels (λ text list. SaysOfInputs (bytes_of_run text) (bytes_of_labels list) fault)
says_silent None labels fault is = tt
says_silent (Some text) None fault is = tt
says_silent (Some text) (Some list) fault (inl same) =
    subst (SaysOfInputs (bytes_of_run text) (bytes_of_labels list)) (sym same) tt
says_silent (Some text) (Some list) fault (inr same) =
    subst (SaysOfInputs (bytes_of_run text) (bytes_of_labels list)) (sym same) tt
