-- A load of a link keeps the rule, and returns the link of the last head's buffer.
use Rattle.buffer_pool.proofs.Words.{Full, Empty, buffer_reading}
use Rattle.buffer_pool.proofs.Loads.{may_see_link}
use Rattle.buffer_pool.proofs.pool.head_exchange.load_link.Goals as goal

pub load-link-requires : goal.load-link-requires
load-link-requires g c =
    may_see_link buffer_reading c.requires.table c.requires.sound.0 c.args.which Full c.args.index c.requires.looked
    c.in-Full.is

pub load-link-requires-in-Empty : goal.load-link-requires-in-Empty
load-link-requires-in-Empty g c =
    may_see_link buffer_reading c.requires.table c.requires.sound.0 c.args.which Empty c.args.index c.requires.looked
    c.in-Empty.is
