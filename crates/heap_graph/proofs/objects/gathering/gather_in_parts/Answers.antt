-- What each thread returns is the result of its part, and those of all parts are joined.
use Rattle.heap_graph.proofs.objects.gathering.gather_in_parts.Goals as goal

pub join_parts-requires : goal.join_parts-requires
join_parts-requires g c =
    let parts = c.in_ok-parts.ensures.parts in (
      c.args.view.now,
      c.args.places.now,
      parts.size,
      record {
        may = c.requires;
        some = parts.some;
        count = parts.count;
        each = λ n d below.
            let it = (parts.each n d below).1 in record {
              part = it.argument.now;
              within = it.argument_is.in_bounds;
              long = it.argument_is.len;
              gives = it.call;
            };
      },
    )

pub returns : goal.returns
returns g c =
    let parts = c.in_ok-parts.ensures.parts in
    c.join_parts.ensures c.args.view.now c.args.places.now parts.size (record {
      may = c.requires;
      some = parts.some;
      count = parts.count;
      each = λ n d below.
          let it = (parts.each n d below).1 in record {
            part = it.argument.now;
            within = it.argument_is.in_bounds;
            long = it.argument_is.len;
            gives = it.call;
          };
    })
