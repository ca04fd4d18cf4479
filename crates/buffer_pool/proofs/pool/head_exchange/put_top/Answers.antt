-- The slot carries the buffer into the exchange, and out of it if it failed.
use Rattle.std.proofs.Common.{◌≡◌, suc, ◌<◌, arith, sym, subst, ap, ◌∙◌, Option, Some, Contains, refl}
use Rattle.buffer_pool.proofs.Words.{Head, index_of, after, last_tag, index_of-low_of, stands_times, buffer_reading}
use Rattle.buffer_pool.proofs.Words.{IsPart, HeldBuffer, CanPut}
use Rattle.buffer_pool.proofs.Pushes.{carried_with, still_carried, told_of}
use Rattle.buffer_pool.proofs.pool.head_exchange.put_top.Goals as goal

pub exchange_for_buffer-requires-clause-put : goal.exchange_for_buffer-requires-clause-put
exchange_for_buffer-requires-clause-put g c =
    let me = c.args.seat.now.me in
    let q = c.args.which in
    let i = c.held.inside.index in
    let b = c.held.inside.buffer in
    let index : i ≡ c.args.held.index = ap (λ (h : HeldBuffer). h.index) c.held.view_is in
    let items : b.items.items ≡ c.args.held.items = ap (λ (h : HeldBuffer). h.items) c.held.view_is in
    let size : b.size ≡ c.args.held.size = ap (λ (h : HeldBuffer). h.size) c.held.view_is in
    let held : Contains me.0.book.account.held i =
    subst (Contains me.0.book.account.held) (sym index) c.requires.may.held in
    let spelled = c.word-word.ensures.spelled in
    let at = carried_with me c.exchange.new.seat.me i c.args.held.index b c.exchange.ensures.3 c.requires.stored.0 in (
      i,
      b,
      subst (λ m. CanPut buffer_reading q m c.word-word.result c.word.result i b) (sym at) (record {
        carried = refl;
        out = c.requires.stored.1 ∙ ap suc (sym index);
        share = c.requires.stored.3;
        all_said = c.requires.all_said;
        held = stands_times me.0.book.account.held i held;
        last = c.requires.loaded.0 ∙ ap {B = Option Head} Some (sym spelled);
        short = subst (λ (h : Head). h.tag < last_tag) (sym spelled) c.requires.loaded.1;
        next = c.word.ensures.spelled ∙ c.requires.next ∙ (λ k. after (sym spelled k) (Some (sym index k)));
        leads = ap index_of c.requires.stored.2 ∙ index_of-low_of c.args.head.index
            ∙ ap (λ (h : Head). h.index) (sym spelled);
        part = subst (λ xs. IsPart xs me.0.book.account.charge) (sym items) c.requires.may.charged;
        bare = λ e. items ∙ c.requires.may.bare e;
        size = size ∙ c.requires.may.size;
        fits = omega (arith, b.fits, size, c.requires.may.size, b.items.ok.0);
        busy = c.requires.may.busy;
      }),
    )

pub returns-then-exchange_for_buffer-word-clause-puts : goal.returns-then-exchange_for_buffer-word-clause-puts
returns-then-exchange_for_buffer-word-clause-puts g c =
    let me = c.args.seat.now.me in
    let i = c.held.inside.index in
    let b = c.held.inside.buffer in
    let index : i ≡ c.args.held.index = ap (λ (h : HeldBuffer). h.index) c.held.view_is in
    let items : b.items.items ≡ c.args.held.items = ap (λ (h : HeldBuffer). h.items) c.held.view_is in
    let at = carried_with me c.exchange.new.seat.me i c.args.held.index b c.exchange.ensures.3 c.requires.stored.0 in
    told_of c.exchange.new.seat.me me c.exchange_for_buffer.new.seat.me c.args.which i c.args.held.index b.items.items
    c.args.held.items (λ k. (at k).0) index items
    (c.exchange_for_buffer.ensures.exchanges.0 c.if-exchange_for_buffer-word.true i b (λ k. (at k).1))

pub exchange-requires-2 : goal.exchange-requires-2
exchange-requires-2 g c =
    let me = c.args.seat.now.me in
    let i = c.held.inside.index in
    let b = c.held.inside.buffer in
    let at = carried_with me c.exchange.new.seat.me i c.args.held.index b c.exchange.ensures.3 c.requires.stored.0 in
    let back = c.exchange_for_buffer.ensures.exchanges.1 c.if-exchange_for_buffer-word.false in
    let carried = still_carried c.exchange.new.seat.me c.exchange_for_buffer.new.seat.me i b (λ k. (back.0 k).1)
    (λ k. (at k).1) in (
      c.exchange_for_buffer.ensures.same.table ∙ c.exchange.ensures.0 ∙ c.requires.table.same,
      (Some b, carried),
    )
