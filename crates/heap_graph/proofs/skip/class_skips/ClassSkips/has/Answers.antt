-- The list has the field exactly if an entry has its class's text and its name. Without entries the text does not
-- matter.
use Rattle.heap_graph.proofs.Words.{Bool, List, Member, Option, Record, SkipEntry, [], ap, arith, class_text}
use Rattle.heap_graph.proofs.Words.{is_skipped_in, list_any, list_any_none, names_field, option_copied, sym, ℕ, ⊎_elim}
use Rattle.heap_graph.proofs.Words.{◌∙◌, ◌≡◌, ◌⊎◌}
use Rattle.heap_graph.proofs.skip.class_skips.ClassSkips.has.Goals as goal

abbrev any_named : List Record → Option (List ℕ) → ℕ → List SkipEntry → Bool
any_named records text name entries = list_any (names_field records text name) entries

same_text : (records : List Record) (entries : List SkipEntry) (a b : Option (List ℕ)) (name : ℕ)
    → (entries ≡ []) ⊎ (a ≡ b) → any_named records a name entries ≡ any_named records b name entries
same_text records entries a b name =
    ⊎_elim
    (λ e. ap (λ (es : List SkipEntry). any_named records a name es) e
    ∙ sym (ap (λ (es : List SkipEntry). any_named records b name es) e))
    (λ e. ap (λ (t : Option (List ℕ)). any_named records t name entries) e)

is_test : (records : List Record) (entries : List SkipEntry) (text : Option (List ℕ)) (class name : ℕ)
    (test : Member → Bool) (m : Member) → (entries ≡ []) ⊎ (text ≡ class_text records class)
    → test ≡ is_skipped_in records entries class → m.name ≡ name → any_named records text name entries ≡ test m
is_test records entries text class name test m known is named =
    same_text records entries text (class_text records class) name known
    ∙ ap (λ (n : ℕ). any_named records (class_text records class) n entries) (sym named)
    ∙ sym (ap (λ (t : Member → Bool). t m) is)

pub returns : goal.returns
returns g c = λ test m is named.
    let k = c.args.self.now in
    sym (list_any_none (names_field is.records (option_copied k.class) c.args.name) k.entries.now
    (λ i d below. c.loop-entry.invariant is.records is.names i d (omega (arith, below, c.loop-entry-test.false))))
    ∙ is_test is.records k.entries.now (option_copied k.class) is.class c.args.name test m is.text is.test_is named
