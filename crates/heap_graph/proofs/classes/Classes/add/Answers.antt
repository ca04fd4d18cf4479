-- The dump at the place has the fields that are read, so the bytes of these fields are those of the class.
use Rattle.heap_graph.proofs.Words.{List, Member, ap, arith, bounds, length, refl, size_together, ◌<◌, ◌^◌, ◌∙◌}
use Rattle.heap_graph.proofs.classes.Classes.add.Goals as goal

pub bytes_of_fields-size-requires : goal.bytes_of_fields-size-requires
bytes_of_fields-size-requires g c =
    let few : length c.requires.dump.0.members < 256 ^ 2 = (bounds c.requires.dump.1.is.formed).member_count in
    omega (arith, few, ap length (c.members-members.ensures c.requires.dump.0 c.requires.dump.1))

pub returns-clause-added : goal.returns-clause-added
returns-clause-added g c = λ dump st. record {
  entry = record { place = c.args.place; size = c.bytes_of_fields-size.result };
  place_is = refl;
  size_is =
      c.bytes_of_fields-size.ensures.value ∙ ap
      (λ (ms : List Member). size_together c.args.self.now.view.id_size ms)
      (c.members-members.ensures dump st);
  few_bytes = c.bytes_of_fields-size.ensures.few;
  entries_are = c.in_ok-push.ensures;
}
