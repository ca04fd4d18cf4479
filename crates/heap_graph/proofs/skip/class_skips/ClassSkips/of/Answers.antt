-- If no entry names the class, the list skips none of its fields, like the empty list.
use Rattle.heap_graph.proofs.Words.{Bool, List, Option, Record, SkipEntry, [], ap, class_text, eqb-true, false, get_or}
use Rattle.heap_graph.proofs.Words.{inl, inr, is_skipped_in, length, list_any, list_any_none, names_class, names_field}
use Rattle.heap_graph.proofs.Words.{option_copied, refl, string_named, subst, sym, true, ℕ, ◌&&◌, ◌∙◌, ◌≡◌, ◌⊎◌}
use Rattle.std.proofs.Common.{Bor}
use Rattle.std.proofs.lemmas.Bool.{false≢true}
use Rattle.std.proofs.lemmas.List.{nil_from_length}
use Rattle.std.proofs.lemmas.List.Folds.{list_any_at}
use Rattle.heap_graph.specs.Skips.{is_text}
use Rattle.heap_graph.proofs.skip.class_skips.ClassSkips.of.Goals.{else-any_names, else-is_empty, then-any_names}
use Rattle.heap_graph.proofs.skip.class_skips.ClassSkips.of.Goals.{then-is_empty}
use Rattle.heap_graph.proofs.skip.class_skips.ClassSkips.of.Goals as goal

not_true : (b : Bool) → (b ≡ true → ⊥) → b ≡ false
not_true true none = absurd (none refl)
not_true false none = refl

none_named : (records : List Record) (text : Option (List ℕ)) (name : ℕ) (entries : List SkipEntry)
    → list_any (names_class text) entries ≡ false → list_any (names_field records text name) entries ≡ false
none_named records text name entries none =
    list_any_none (names_field records text name) entries
    (λ i d below.
    let e = get_or entries i d in
    let other : is_text text e.class ≡ false =
    not_true (is_text text e.class)
    (λ h. false≢true (sym none ∙ list_any_at (names_class text) entries i d below h)) in
    ap (λ (b : Bool). b && is_text (string_named records name) e.field) other)

none_skipped : (records : List Record) (text : Option (List ℕ)) (class : ℕ) (entries : List SkipEntry)
    → (entries ≡ []) ⊎ (text ≡ class_text records class) → list_any (names_class text) entries ≡ false
    → is_skipped_in records entries class ≡ is_skipped_in records [] class
none_skipped records text class entries (inl empty) none =
    ap (λ (es : List SkipEntry). is_skipped_in records es class) empty
none_skipped records text class entries (inr same) none =
    λ i m.
    none_named records (class_text records class) m.name entries
    (subst (λ (t : Option (List ℕ)). list_any (names_class t) entries ≡ false) same none) i

pub returns : goal.returns
returns g c =
    λ records names.
    let class = c.args.class in
    let text = option_copied c.if-is_empty.text in
    let entries = c.args.entries.now in
    let known : (entries ≡ []) ⊎ (text ≡ class_text records class) =
    elim c.if-is_empty.branch [
      | then-is_empty w ↦
          inl (nil_from_length entries (eqb-true (length entries) 0 (sym c.is_empty.ensures ∙ w.if-is_empty.true)))
      | else-is_empty w ↦
          inr (ap (λ (t : Option (Bor (List ℕ))). option_copied t) w.text-is ∙ w.class_text-text.ensures records names)
    ] in
    elim c.if-any_names.branch [
      | then-any_names w ↦ record {
        records = records;
        class = class;
        names = names;
        text =
            subst (λ (es : Bor (List SkipEntry)). (es.now ≡ []) ⊎ (text ≡ class_text records class))
            (sym w.entries-is) known;
        test_is = ap (λ (es : Bor (List SkipEntry)). is_skipped_in records es.now class) (sym w.entries-is);
      }
      | else-any_names w ↦ record {
        records = records;
        class = class;
        names = names;
        text = inl (ap (λ (es : Bor (List SkipEntry)). es.now) w.entries-is);
        test_is =
            none_skipped records text class entries known (sym c.any_names.ensures ∙ w.if-any_names.false)
            ∙ ap (λ (es : Bor (List SkipEntry)). is_skipped_in records es.now class) (sym w.entries-is);
      }
    ]
