-- The store keeps the rule, and the buffer's slot comes out.
use Rattle.buffer_pool.proofs.Words.{Did, None, StoreLink, TableId, [], ap, arith, buffer_reading, index_of}
use Rattle.buffer_pool.proofs.Words.{index_of-low_of, logged, refl, setup_of, stands_times, subst, suc, ◌∙◌, ◌∷◌, ◌≡◌}
use Rattle.buffer_pool.proofs.Pushes.{stores, low_small}
use Rattle.buffer_pool.proofs.pool.head_exchange.store_link.Goals as goal

pub store-requires : goal.store-requires
store-requires g c =
    let z = c.args.words.now.table_id in
    let e = setup_of c.args.words.now.key in
    let me = c.args.seat.now.me in
    let slots : c.args.seat.now.table_id.slots ≡ z.slots = ap (λ (t : TableId). t.slots) c.requires.table.same in
    let same : me.0.book.setup.buffers ≡ e.buffers =
    omega (arith, slots, c.requires.table.laid.slots, c.requires.sound.0.laid.slots) in
    let below = c.requires.sound.0.within.held c.args.index c.requires.held in
    let low = low_small c.args.head.index me.0.book.setup.buffers c.requires.within in (
      c.requires.table.same,
      omega (arith, below, same, c.requires.table.laid.words),
      stores buffer_reading e z.slots c.args.seat.now.id me c.requires.sound.0 c.args.index c.link_to.result
          (stands_times me.0.book.account.held c.args.index c.requires.held)
          (omega (arith, low, same, c.link_to.ensures)),
    )

pub returns-clause-takes_out : goal.returns-clause-takes_out
returns-clause-takes_out g c =
    (c.store.ensures.2 c.args.index refl).0
    ∙ ap (λ n. (
      record (logged c.store.new.seat.me.0.log c.args.seat.now.me.0) {
        out = suc c.args.index;
        out_link = n;
      },
      (c.args.index, None) ∷ [],
    )) c.link_to.ensures

pub returns-clause-did : goal.returns-clause-did
returns-clause-did g c =
    let link : index_of c.link_to.result ≡ c.args.head.index = ap index_of c.link_to.ensures
    ∙ index_of-low_of c.args.head.index in
    subst (λ l. Did c.args.seat.now.me.0.log (StoreLink c.args.index l ∷ []) c.store.new.seat.me.0.log) link
    (c.store.ensures.2 c.args.index refl).1

pub returns-clause-story : goal.returns-clause-story
returns-clause-story g c = (c.store.ensures.2 c.args.index refl).2
