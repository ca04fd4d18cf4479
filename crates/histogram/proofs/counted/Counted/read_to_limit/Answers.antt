-- Making room and reading keep the filled bytes, and each read adds to them the bytes that the reader lost.
use Rattle.std.proofs.Common.{ap, arith, length, length-take, rules, take, ◌<◌, ◌∙◌}
use Rattle.std.proofs.KnownBytes.{Consumes-kept}
use Rattle.std.proofs.lemmas.List.{places, with_items_is}
use Rattle.histogram.proofs.ReadInPlace.{read_on}
use Rattle.histogram.proofs.counted.Counted.read_to_limit.Goals as goal

pub loop-filled-preserved : goal.loop-filled-preserved
loop-filled-preserved g c =
    let at = c.loop-filled.filled in
    let front = c.read_behind.ensures.front ∙ ap (take at) c.as_mut_slice.ensures.value ∙ c.make_room.ensures.front in
    record {
      no_fault = grind (arith, c.in-Ok-read_behind.ensures.counts, c.loop-filled.invariant.no_fault);
      filled = search (rules, places);
      within = search rules;
      read = rw (with_items_is c.make_room.new.bytes c.read_behind.new.bytes (search (rules, places)))
          (read_on _ _ _ c.loop-filled.bytes.items c.read_behind.new.bytes at c.in-Ok-read_behind.count front
          c.loop-filled.invariant.read c.in-Ok-read_behind.ensures.grown);
    }

pub returns-in-Err-clause-below : goal.returns-in-Err-clause-below
returns-in-Err-clause-below g c =
    let bytes = c.loop-filled.bytes.items in
    let filled = c.loop-filled.filled in
    let fewer : length (take filled bytes) < c.args.limit =
    omega (arith, length-take filled bytes, c.loop-filled-test.true) in
    let consumed = Consumes-kept _ _ _ _ c.loop-filled.invariant.read c.in-Err.ensures.kept in
    λ _. (take filled bytes, fewer, consumed)
