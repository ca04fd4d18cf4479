-- What the rule excludes.
use Rattle.std.proofs.Common.{◌≡◌, ℕ, ◌≤◌, List, length, map, slice_index, slice_set, ap, sym, subst, ◌∙◌, ⊎_elim}
use Rattle.std.proofs.Common.{arith}
use Rattle.std.proofs.lemmas.List.{get_or-set_same}
use mathlib.Core.Option.{some}
use lib.ListN.{get_elem?}
use Rattle.atomic_table.specs.Table.{stepped}
use Rattle.atomic_table.proofs.Lists.{at_map, set_here}
use Rattle.tagged_index.specs.Head.{Head, head_of, index_of}
use Rattle.mark_core.specs.declared.which.Which.{Which}
use Rattle.mark_core.specs.declared.which.Which.TheVariants.{Full, Empty}
use Rattle.mark_core.specs.Ownership.{Chain}
use Rattle.mark_core.proofs.Places.{at_below}
use Rattle.mark_core.proofs.Chains.{chain_rest, chain_links}
use Rattle.mark_core.proofs.Ownership.{stacked_below, top_stands}
use Rattle.mark_core.proofs.Firsts.{failures_follow_changes, first_tags_are_first, loaded_heads_were}
use Rattle.mark_core.proofs.Firsts.{pushes_follow_changes}
use Rattle.mark_core.proofs.Parity.{tags_keep_parity}
use Rattle.buffer_pool.specs.declared.seat_view.SeatView.{SeatView}
use Rattle.buffer_pool.specs.working.Layout.{head_word, link_word}
use Rattle.buffer_pool.specs.working.Slots.{Reading}
use Rattle.buffer_pool.specs.working.Table.{Rule, account_of, marking_of, view_counts}
use Rattle.pool_tests.specs.Forged.{NoEvenPop, NoForgedHead, NoForgedLoss, NoForgedPush, OtherFirstHeadsWereNot}
use Rattle.buffer_pool.proofs.States.{cut_below, lawful}
use Rattle.buffer_pool.proofs.TableWords.{links_beside_head}

pub other_first_heads_were_not : OtherFirstHeadsWereNot
other_first_heads_were_not e q h first other events m run had =
    other (first_tags_are_first e events m run q h had first)

-- the seat's view stands in a table after its step
viewed : (views : List SeatView) (id : ℕ) (v w : SeatView) → get_elem? views id ≡ some v
    → get_elem? (slice_set views id w) id ≡ some w
viewed views id v w is = set_here views id w (at_below views id v is)

module _ {B : Type 0} (r : Reading B) where
  pub no_forged_loss : NoForgedLoss r
  no_forged_loss e slots id word me f s at first allows =
      let a = allows s at.rule at.slot_count at.view at.fits in
      let t = stepped s word (f (slice_index s.words word)) id me.1 a.0 a.1 in
      let rule : Rule r e t = a.3 in
      let here = at_map view_counts t.views id a.0 (viewed s.views id me.0 a.0 at.view) in
      let changed = failures_follow_changes e rule.reached.events (marking_of r e t)
      (map view_counts t.views) rule.reached.led id (view_counts a.0) here a.4 in
      ⊎_elim (λ full. omega (arith, full, first Full)) (λ empty. omega (arith, empty, first Empty)) changed

  pub no_forged_head : NoForgedHead r
  no_forged_head e slots id word me f s at q h never allows =
      let a = allows s at.rule at.slot_count at.view at.fits in
      let t = stepped s word (f (slice_index s.words word)) id me.1 a.0 a.1 in
      let rule : Rule r e t = a.3 in
      let here = at_map account_of t.views id a.0 (viewed s.views id me.0 a.0 at.view) in
      never rule.reached.events (marking_of r e t) rule.reached.led.run
      (loaded_heads_were e rule.reached.events (marking_of r e t) rule.reached.led.run id (account_of a.0) q h here a.4)

  pub no_forged_push : NoForgedPush r
  no_forged_push e slots id word me f s at first allows =
      let a = allows s at.rule at.slot_count at.view at.fits in
      let t = stepped s word (f (slice_index s.words word)) id me.1 a.0 a.1 in
      let rule : Rule r e t = a.3 in
      let here = at_map account_of t.views id a.0 (viewed s.views id me.0 a.0 at.view) in
      let changed = pushes_follow_changes e rule.reached.events (marking_of r e t)
      (map view_counts t.views) rule.reached.led id (account_of a.0) here a.4 in
      omega (arith, changed, first)

  -- tag and length of the stack before the step and after it
  pub no_even_pop : NoEvenPop r
  no_even_pop e slots id q me f s at i n now next is becomes top leads tag allows =
      let a = allows s at.rule at.slot_count at.view at.fits in
      let x = f (slice_index s.words (head_word q)) in
      let t = stepped s (head_word q) x id me.1 a.0 a.1 in
      let rule : Rule r e t = a.3 in
      let m = marking_of r e s in
      let k = marking_of r e t in
      let law = lawful at.rule in
      let on_top = ap (λ (h : Head). h.index) is ∙ top in
      let below = stacked_below e.buffers m.head m.link m.accounts law.stack law.owned q i
      (top_stands e.buffers m.head m.link m.accounts law.stack law.owned q i on_top) in
      let rest = chain_rest m.link (m.head q).index (law.stack q) i (law.owned.chain q) on_top in
      let long : 32 ≤ length s.words = omega (arith, at.rule.word_count) in
      let here : k.head q ≡ next = written s.words x long q ∙ becomes in
      let link : m.link i ≡ (k.head q).index =
      cut_below e.buffers (λ j. index_of (slice_index s.words (link_word j))) i below ∙ sym leads
      ∙ sym (ap (λ (h : Head). h.index) here) in
      let left : Chain k.link (k.head q).index rest.0 =
      subst (λ y. Chain k.link y rest.0) link
      (chain_links m.link k.link (m.link i) rest.0 (λ j stacked. links_beside_head e s.words q x j) rest.2) in
      let before = tags_keep_parity e at.rule.reached.events m at.rule.some_buffer at.rule.reached.led.run q
      (law.stack q) (law.owned.chain q) in
      let after_it = tags_keep_parity e rule.reached.events k rule.some_buffer rule.reached.led.run q rest.0 left in
      omega (arith, before, after_it, ap length rest.1, ap (λ (h : Head). h.tag) here, ap (λ (h : Head). h.tag) is, tag)
    where
      written : (words : List ℕ) (x : ℕ) → 32 ≤ length words → (p : Which)
          → head_of (slice_index (slice_set words (head_word p) x) (head_word p)) ≡ head_of x
      written words x long Full = ap head_of (get_or-set_same words 0 x 0 (omega (arith, long)))
      written words x long Empty = ap head_of (get_or-set_same words 16 x 0 (omega (arith, long)))
