-- The exchange pops or has failed, and the slot that it took has the buffer.
use Rattle.std.proofs.Common.{◌==◌, ◌∷◌, sym, subst, ap, ◌∙◌, Some, arith}
use Rattle.buffer_pool.proofs.Words.{none, either, Head, head_of, after, look_of, CanPop, Allows, step, rest}
use Rattle.buffer_pool.proofs.Words.{buffer_reading, top_taken, setup_of, Rule}
use Rattle.buffer_pool.proofs.Pops.{pops}
use Rattle.buffer_pool.proofs.TableWords.{head_below}
use Rattle.buffer_pool.proofs.pool.head_exchange.take_top.Goals as goal

pub compare_exchange-requires : goal.compare_exchange-requires
compare_exchange-requires g c =
    let z = c.args.words.now.table_id in
    let e = setup_of c.args.words.now.key in
    let me = c.args.seat.now.me in
    let q = c.args.which in
    let small = head_below q in
    let spelled = c.word-word.ensures.spelled in
    let next = c.requires.next in (
      c.requires.table.same,
      omega (arith, c.head_word.ensures, small, c.requires.table.laid.words),
      subst (λ x. Allows (Rule buffer_reading e) z.slots c.args.seat.now.id me x
          (λ n. either (n == c.word-word.result) c.word.result n)
          (top_taken buffer_reading (step z.slots x c.word-word.result c.word.result none) me))
          (sym c.head_word.ensures)
          (pops buffer_reading e z.slots c.args.seat.now.id me c.requires.sound.0 q c.word-word.result c.word.result
          c.args.index next.0
          (subst (λ h. CanPop h (look_of me.0.book.account q)) (sym spelled) c.requires.popping) c.requires.busy
          (ap (λ (h : Head). h.index) spelled ∙ c.requires.index) next.1
          (c.word.ensures.spelled ∙ next.2 ∙ ap (λ (h : Head). after h next.0) (sym spelled))),
    )

pub exchange-requires : goal.exchange-requires
exchange-requires g c =
    let told = (c.compare_exchange.ensures.2 c.args.which c.head_word.ensures).0 c.if-compare_exchange-word.false
    c.args.index (ap (λ n. (head_of n).index) c.if-compare_exchange-word.false
    ∙ ap (λ (h : Head). h.index) c.word-word.ensures.spelled ∙ c.requires.index) in (
      c.compare_exchange.ensures.0 ∙ c.requires.table.same,
      (Some told.0, told.1.slots ∙ ap (λ xs. (c.args.index, Some told.0) ∷ rest xs) (sym told.1.slots)),
    )
