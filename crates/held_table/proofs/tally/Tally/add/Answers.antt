-- An object is counted in the line of its key, or in a new one.
use Rattle.std.proofs.Common.{refl, sym, ◌∙◌, ◌≡◌}
use Rattle.held_table.proofs.AddingLaws.{IsAdded, added_found, added_last, added_there}
use Rattle.held_table.proofs.tally.Tally.add.Goals as goal
use Rattle.held_table.proofs.tally.Tally.add.Goals.{else-is_new, then-is_new+in_ok-push}

pub returns-then-is_last-clause-counted : goal.returns-then-is_last-clause-counted
returns-then-is_last-clause-counted g c =
    let old = c.args.self.now in
    let new = c.count_at.new.self in
    let last = c.if-is_last.ensures.0 refl in
    let same : new.keys.keys ≡ old.keys.keys = rw c.count_at.ensures.keys refl in
    let it = added_there c.args.key c.args.bytes old.lines.items c.requires.counted.once old.keys.keys
    c.requires.counted.keys_are old.last new.keys.keys new.lines.items last.0 last.1 same c.count_at.ensures.lines in
    record { keys_are = it.keys_are; once = it.once }

pub returns-then-is_last-clause-lines : goal.returns-then-is_last-clause-lines
returns-then-is_last-clause-lines g c =
    let old = c.args.self.now in
    let new = c.count_at.new.self in
    let last = c.if-is_last.ensures.0 refl in
    let same : new.keys.keys ≡ old.keys.keys = rw c.count_at.ensures.keys refl in
    (added_there c.args.key c.args.bytes old.lines.items c.requires.counted.once old.keys.keys
    c.requires.counted.keys_are old.last new.keys.keys new.lines.items last.0 last.1 same
    c.count_at.ensures.lines).lines_are

pub returns-clause-counted : goal.returns-clause-counted
returns-clause-counted g c =
    let old = c.args.self.now in
    let it : IsAdded c.args.key c.args.bytes old.lines.items c.if-is_new.self.keys.keys c.if-is_new.self.lines.items =
    elim c.if-is_new.branch [
      | then-is_new+in_ok-push w ↦ rw w.self-is
          (added_last c.args.key c.args.bytes old.lines.items c.requires.counted.once old.keys.keys
          c.requires.counted.keys_are c.insert_full.new.self.keys w.push.new.self.items
          (sym c.in_ok-place.ensures.added ∙ w.if-is_new.true) c.in_ok-place.ensures.keys w.in_ok-push.ensures.items)
      | else-is_new w ↦ rw w.self-is (
          let new = w.count_at-else-is_new.new.self in
          let kept : new.keys.keys ≡ c.insert_full.new.self.keys = rw w.count_at-else-is_new.ensures.keys refl in
          let stored = c.in_ok-place.ensures.stored in
          added_found c.args.key c.args.bytes old.lines.items c.requires.counted.once old.keys.keys
          c.requires.counted.keys_are c.in_ok-place.place c.insert_full.new.self.keys new.keys.keys new.lines.items
          (sym c.in_ok-place.ensures.added ∙ w.if-is_new.false) c.in_ok-place.ensures.keys stored.0 stored.1 stored.2
          kept w.count_at-else-is_new.ensures.lines
          )
    ] in
    record { keys_are = it.keys_are; once = it.once }

pub returns-clause-lines : goal.returns-clause-lines
returns-clause-lines g c =
    let old = c.args.self.now in
    elim c.if-is_new.branch [
      | then-is_new+in_ok-push w ↦ rw w.self-is
          (added_last c.args.key c.args.bytes old.lines.items c.requires.counted.once old.keys.keys
          c.requires.counted.keys_are c.insert_full.new.self.keys w.push.new.self.items
          (sym c.in_ok-place.ensures.added ∙ w.if-is_new.true) c.in_ok-place.ensures.keys
          w.in_ok-push.ensures.items).lines_are
      | else-is_new w ↦ rw w.self-is (
          let new = w.count_at-else-is_new.new.self in
          let kept : new.keys.keys ≡ c.insert_full.new.self.keys = rw w.count_at-else-is_new.ensures.keys refl in
          let stored = c.in_ok-place.ensures.stored in
          (added_found c.args.key c.args.bytes old.lines.items c.requires.counted.once old.keys.keys
          c.requires.counted.keys_are c.in_ok-place.place c.insert_full.new.self.keys new.keys.keys new.lines.items
          (sym c.in_ok-place.ensures.added ∙ w.if-is_new.false) c.in_ok-place.ensures.keys stored.0 stored.1 stored.2
          kept w.count_at-else-is_new.ensures.lines).lines_are
          )
    ]
