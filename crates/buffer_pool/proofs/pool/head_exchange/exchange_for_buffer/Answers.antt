-- The exchange pushes or has failed.
use Rattle.buffer_pool.proofs.Words.{Empty, Full, buffer_reading, none, step, subst, sym, top_put}
use Rattle.buffer_pool.proofs.Pushes.{may_put}
use Rattle.buffer_pool.proofs.pool.head_exchange.exchange_for_buffer.Goals as goal

pub compare_exchange-requires : goal.compare_exchange-requires
compare_exchange-requires g c =
    may_put buffer_reading c.requires.table c.args.which Full c.args.old c.args.new c.head_word-word.result
    c.head_word-word.ensures c.requires.put c.in-Full.is

pub compare_exchange-requires-in-Empty : goal.compare_exchange-requires-in-Empty
compare_exchange-requires-in-Empty g c =
    may_put buffer_reading c.requires.table c.args.which Empty c.args.old c.args.new c.head_word-word.result
    c.head_word-word.ensures c.requires.put c.in-Empty.is

pub returns-in-Full-clause-exchanges : goal.returns-in-Full-clause-exchanges
returns-in-Full-clause-exchanges g c =
    subst (λ p. top_put buffer_reading p (step c.args.words.now.table_id.slots 0 c.args.old c.args.new none)
    c.args.seat.now.me c.compare_exchange.result c.compare_exchange.new.seat.me)
    (sym c.in-Full.is) c.compare_exchange.ensures.2

pub returns-in-Empty-clause-exchanges : goal.returns-in-Empty-clause-exchanges
returns-in-Empty-clause-exchanges g c =
    subst (λ p. top_put buffer_reading p (step c.args.words.now.table_id.slots 0 c.args.old c.args.new none)
    c.args.seat.now.me c.compare_exchange-in-Empty.result c.compare_exchange-in-Empty.new.seat.me)
    (sym c.in-Empty.is) c.compare_exchange-in-Empty.ensures.2
