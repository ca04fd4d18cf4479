-- What holds of a linked heap list.
use Rattle.heap_graph.proofs.Words.{Bool, Class, Instance, IsLinked, List, None, ObjectArray, Option, Some, SubRecord}
use Rattle.heap_graph.proofs.Words.{UnknownClass, ap, as_class, class_dump, class_named, cond, eqb-true, false}
use Rattle.heap_graph.proofs.Words.{instance_dump, number_named, object_array_dump, objects, option_and_then, refl}
use Rattle.heap_graph.proofs.Words.{slice_get, subst, sym, true, ℕ, ◌==◌, ◌∙◌, ◌≡◌}
use Rattle.hprof_grammar.specs.Dump.{id_of}
use Rattle.heap_graph.proofs.Firsts.{IsHit, position_hit}

-- the class that an identifier names is an object of the heap list, and bears that identifier
pub record IsClassThere (heap : List SubRecord) (id : ℕ) (c : Class) : Type 0 where
  pub number : ℕ
  pub is : slice_get (objects heap) number ≡ Some (class_dump c)
  pub id_is : c.object ≡ id

dump_of : (o : SubRecord) (c : Class) → as_class o ≡ Some c → o ≡ class_dump c
dump_of (class_dump d) c e = let same : d ≡ c = cc in ap (λ (x : Class). class_dump x) same
dump_of o c e = absurd (let wrong : None ≡ Some c = e in cc)

there_at : (heap : List SubRecord) (id : ℕ) (c : Class) (n : ℕ) (o : Option SubRecord)
    → slice_get (objects heap) n ≡ o → IsHit (λ x. id_of x == id) (objects heap) n
    → option_and_then as_class o ≡ Some c → IsClassThere heap id c
there_at heap id c n None e hit h = absurd (let wrong : None ≡ Some c = h in cc)
there_at heap id c n (Some o) e hit h =
    let same : o ≡ class_dump c = dump_of o c h in
    let what : hit.what ≡ o = let both : Some hit.what ≡ Some o = sym hit.here ∙ e in cc in
    record {
      number = n;
      is = e ∙ ap (λ (x : SubRecord). Some x) same;
      id_is = sym (ap id_of same) ∙ sym (ap id_of what) ∙ eqb-true (id_of hit.what) id hit.passes;
    }

there_named : (heap : List SubRecord) (id : ℕ) (c : Class) (p : Option ℕ) → number_named heap id ≡ p
    → option_and_then as_class (option_and_then (λ n. slice_get (objects heap) n) p) ≡ Some c → IsClassThere heap id c
there_named heap id c None e h = absurd (let wrong : None ≡ Some c = h in cc)
there_named heap id c (Some n) e h =
    there_at heap id c n (slice_get (objects heap) n) refl (position_hit (λ x. id_of x == id) (objects heap) n e) h

there_if : (heap : List SubRecord) (id : ℕ) (c : Class) (b : Bool)
    → cond b None (option_and_then as_class (option_and_then (λ n. slice_get (objects heap) n) (number_named heap id)))
    ≡ Some c → IsClassThere heap id c
there_if heap id c true h = absurd (let wrong : None ≡ Some c = h in cc)
there_if heap id c false h = there_named heap id c (number_named heap id) refl h

pub class_there : (heap : List SubRecord) (id : ℕ) (c : Class) → class_named heap id ≡ Some c → IsClassThere heap id c
class_there heap id c h = there_if heap id c (id == 0) h

-- the class that an instance names exists
pub no_unknown : (s : ℕ) (heap : List SubRecord) (n : ℕ) (i : Instance) (class : ℕ) → IsLinked s heap
    → slice_get (objects heap) n ≡ Some (instance_dump i) → class ≡ i.class → class_named heap class ≡ None → ⊥
no_unknown s heap n i class linked is e missing =
    linked n UnknownClass (instance_dump i, is, subst (λ (id : ℕ). class_named heap id ≡ None) e missing)

-- and so does the class of an array
pub no_unknown_array : (s : ℕ) (heap : List SubRecord) (n : ℕ) (a : ObjectArray) (class : ℕ) → IsLinked s heap
    → slice_get (objects heap) n ≡ Some (object_array_dump a) → class ≡ a.class → class_named heap class ≡ None → ⊥
no_unknown_array s heap n a class linked is e missing =
    linked n UnknownClass (object_array_dump a, is, subst (λ (id : ℕ). class_named heap id ≡ None) e missing)
