-- What holds of a value if there is one, or if there is none.
use Rattle.std.specs.Result.{IfErr, IfOk}
use Rattle.drain.proofs.Words.{Err, IfNone, IfSome, None, Ok, OnOk, Option, Result, Some, subst, ◌≡◌}

pub at_some : {X : Type 0} (P : X → Type 0) (r : Option X) (x : X) → IfSome r P → r ≡ Some x → P x
at_some {X} P r x held is = subst (λ (s : Option X). IfSome s P) is held

pub at_none : {X : Type 0} (P : Type 0) (r : Option X) → IfNone r P → r ≡ None → P
at_none {X} P r held is = subst (λ (s : Option X). IfNone s P) is held

pub on_ok : {X E : Type 0} {P Q : Type 0} (r : Result X E) → OnOk r P → (P → Q) → OnOk r Q
on_ok (Ok x) held on = on held
on_ok (Err e) held on = tt

pub on_if_ok : {X E : Type 0} {P Q : X → Type 0} (r : Result X E) → IfOk r P → ((x : X) → P x → Q x) → IfOk r Q
on_if_ok (Ok x) held on = on x held
on_if_ok (Err e) held on = tt

pub on_if_err : {X E : Type 0} {P Q : E → Type 0} (r : Result X E) → IfErr r P → ((e : E) → P e → Q e) → IfErr r Q
on_if_err (Ok x) held on = tt
on_if_err (Err e) held on = on e held
