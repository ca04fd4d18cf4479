-- Each identifier is the first of those that remained, with its mark.
use Rattle.std.proofs.Common.{None, Some, sym, ◌∙◌}
use Rattle.heap_graph.specs.Walks.{named_in}
use Rattle.labelled_graph.proofs.Keeping.{kept_next, limited_beyond}
use Rattle.labelled_graph.specs.working.Kept.{mark_of}
use Rattle.labelled_graph.proofs.references.LabelledReferencesReferenceSource.next_reference.Goals as goal

pub returns-in-Some-reference : goal.returns-in-Some-reference
returns-in-Some-reference g c =
    let old = c.loop-named.self-inside in
    sym c.self.view_is ∙ sym c.loop-named.invariant.left
    ∙ kept_next (mark_of old.marks) (mark_of c.next-mark.new.self) old.marks.index c.next-mark.new.self.index
    (named_in old.named) (named_in c.next.new.self) c.in-Some.named c.next-mark.result (Some c.in-Some-reference.next)
    c.in-Some.ensures.steps c.next-mark.ensures.mark c.in-Some-reference.ensures c.next-mark.ensures.index
    (λ j l. limited_beyond _ j l) c.next-mark.ensures.others

pub loop-named-preserved : goal.loop-named-preserved
loop-named-preserved g c =
    let old = c.loop-named.self-inside in
    record {
      left = sym (kept_next (mark_of old.marks) (mark_of c.next-mark.new.self) old.marks.index
          c.next-mark.new.self.index
          (named_in old.named) (named_in c.next.new.self) c.in-Some.named c.next-mark.result None
          c.in-Some.ensures.steps c.next-mark.ensures.mark c.in_default-reference.ensures c.next-mark.ensures.index
          (λ j l. limited_beyond _ j l) c.next-mark.ensures.others)
          ∙ c.loop-named.invariant.left;
      from = c.next-mark.ensures.ascends;
    }
