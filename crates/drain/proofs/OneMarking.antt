-- Two lists of marks at the same objects are equal.
use Rattle.drain.proofs.Words.{Bool, List, MarksReachable, ext_get_or, false, get_or, refl, sym, true, ℕ, ◌↔◌, ◌∙◌, ◌≡◌}

same_bool : (a b : Bool) → (a ≡ true) ↔ (b ≡ true) → a ≡ b
same_bool true b h = sym (h.0 refl)
same_bool false true h = h.1 refl
same_bool false false h = refl

pub marks_determined : (count : ℕ) (is_root : ℕ → Type 0) (refers : ℕ → ℕ → Type 0) (marks other : List Bool)
    → MarksReachable count is_root refers marks → MarksReachable count is_root refers other → marks ≡ other
marks_determined count is_root refers marks other h k = ext_get_or false marks other (h.one_each ∙ sym k.one_each)
    (λ o below. same_bool (get_or marks o false) (get_or other o false)
    (λ m. (k.exact o).1 ((h.exact o).0 m), λ m. (h.exact o).1 ((k.exact o).0 m)))
