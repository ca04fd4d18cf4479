-- If there is room for all remaining values, there is room for those after the first of them.
use Rattle.hprof_grammar.proofs.Words.{HasValues, List, arith, drop, subst, suc, sym, value_end, zero, ℕ, ◌-◌, ◌≡◌, ◌≢◌}
use Rattle.hprof_grammar.proofs.view.values.ValuesIterator.next.Goals as goal

one_fewer : (s front left : ℕ) (bytes : List ℕ) → left ≢ 0 → HasValues s front left bytes
    → HasValues s front (left - 1) (drop (value_end s front bytes) bytes)
one_fewer s front zero bytes some h = omega (arith, some)
one_fewer s front (suc n) bytes some h = let e : suc n - 1 ≡ n = omega arith in rw e (h.1)

pub invariant_of-self : goal.invariant_of-self
invariant_of-self c =
    let v = c.self.inside in
    record {
      low = c.self.invariant.low;
      high = c.self.invariant.high;
      room = subst (HasValues v.id_size v.front (v.left - 1)) (sym c.split_value-type_code.ensures.behind)
          (one_fewer v.id_size v.front v.left v.bytes.now c.if-self-eq0.false c.self.invariant.room);
    }
