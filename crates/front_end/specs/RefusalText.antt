-- The text of a refusal, and the line that reports it.
use Rattle.std.specs.Prelude.{List, None, Option, Some, [], codes, decimal, if◌then◌else◌, ℕ, ◌++◌, ◌==◌, ◌∷◌}
use Rattle.front_end.specs.declared.refusal.Refusal.{Refusal}

-- the name of a code; 17 is withdrawn, and no run reports it; other numbers are codes of no refusal
abbrev pub code_name : ℕ → List ℕ
code_name code =
    if code == 1 then codes "BadHeader" else (
    if code == 2 then codes "BadIdSize" else (
    if code == 3 then codes "Truncated" else (
    if code == 4 then codes "BadLength" else (
    if code == 5 then codes "BadSubTag" else (
    if code == 6 then codes "SubTruncated" else (
    if code == 7 then codes "BadType" else (
    if code == 8 then codes "DumpOrder" else (
    if code == 9 then codes "ZeroObject" else (
    if code == 10 then codes "DuplicateObject" else (
    if code == 11 then codes "UnknownClass" else (
    if code == 12 then codes "SuperChain" else (
    if code == 13 then codes "InstanceSize" else (
    if code == 14 then codes "TooLarge" else (
    if code == 15 then codes "OutOfMemory" else (
    if code == 16 then codes "TagSpent" else (
    if code == 17 then codes "NoBuffer" else (
    if code == 18 then codes "WorkerRefused" else (
    if code == 19 then codes "ReadFault" else (
    if code == 20 then codes "WriteFault" else (
    if code == 21 then codes "BadOptions" else (
    codes "NoRefusal")))))))))))))))))))))

-- the text of a code and a place: the code, its name, and the place if there is one
abbrev pub text_of : ℕ → Option ℕ → List ℕ
text_of code None = codes "refused " ++ decimal code ++ codes " " ++ code_name code
text_of code (Some place) =
    codes "refused " ++ decimal code ++ codes " " ++ code_name code ++ codes " at " ++ decimal place

abbrev pub refusal_text : Refusal → List ℕ
refusal_text refusal = text_of refusal.code refusal.offset

-- a line on standard error of the program with the name `program`: 10 is a newline
abbrev pub line_by : List ℕ → List ℕ → List ℕ
line_by program text = program ++ (codes ": " ++ (text ++ 10 ∷ []))

-- the line that reports a refusal
abbrev pub refusal_line_by : List ℕ → Refusal → List ℕ
refusal_line_by program refusal = line_by program (refusal_text refusal)
