-- The other seat catches up before it is joined, and the joined one after: its book is that of both, each object once.
use Rattle.buffer_pool.proofs.Words.{AreApart, Buffer, HasEachOnce, IsSound, Me, Option, SeatView, TableId, after_join}
use Rattle.buffer_pool.proofs.Words.{ap, arith, buffer_reading, setup_of, subst, sym, times, ◌∙◌}
use Rattle.buffer_pool.proofs.Loads.{catches_up}
use Rattle.buffer_pool.proofs.SplitsAndJoins.{apart_by, carries_joined, has_joined, joins}
use Rattle.buffer_pool.proofs.pool.shares.take_in.Given as given
use Rattle.buffer_pool.proofs.pool.shares.take_in.Goals as goal

abbrev Token : given.Over → Type 0
Token g = Me (Option (Buffer g.row.A.Denot)) SeatView

pub load-requires : goal.load-requires
load-requires g c =
    let sound = c.requires.sound.1 in (
      c.requires.table.1,
      omega (arith, sound.laid.words, ap (λ (t : TableId). t.words) c.requires.table.1),
      catches_up buffer_reading (setup_of c.args.words.now.key) c.args.words.now.table_id.slots c.args.other.id
          c.args.other.me 0 sound.carries sound.share,
    )

pub join_seat-requires : goal.join_seat-requires
join_seat-requires g c =
    let freed = c.load.ensures.2.same in
    let sound = c.requires.sound.0 in (
      c.requires.table.0,
      c.load.ensures.0 ∙ c.requires.table.1,
      ap (λ (n : Token g). n.1) freed,
      omega (arith, sound.laid.words, ap (λ (t : TableId). t.words) c.requires.table.0),
      joins buffer_reading (setup_of c.args.words.now.key) c.args.seat.now.id c.args.seat.now.me.0 c.load.new.seat.id
          c.load.new.seat.me.0 (ap (λ (n : Token g). n.0.out) freed) sound.share sound.all_said.named
          (omega (arith, c.requires.sound.1.share, ap (λ (n : Token g). n.0.book.account.share) freed))
          (ap (λ (n : Token g). n.0.named) freed) (ap (λ (n : Token g). n.0.unsaid) freed),
    )

pub load-requires-2 : goal.load-requires-2
load-requires-2 g c =
    let sound = c.requires.sound.0 in
    let both = c.join_seat.ensures.2 in (
      c.join_seat.ensures.0 ∙ c.requires.table.0,
      omega (arith, sound.laid.words, ap (λ (t : TableId). t.words) c.requires.table.0),
      catches_up buffer_reading (setup_of c.args.words.now.key) c.args.words.now.table_id.slots c.join_seat.new.seat.id
          c.join_seat.new.seat.me 0 (carries_joined c.args.seat.now.me c.load.new.seat.me both sound.carries)
          (omega (arith, sound.share, ap (λ (n : Token g). n.0.book.account.share) both)),
    )

pub returns : goal.returns
returns g c =
    let same = sym (c.requires.table.1 ∙ sym c.requires.table.0) in
    let stays = c.load-2.ensures.0 ∙ c.join_seat.ensures.0 in
    let all =
    has_joined stays c.requires.sound.0 (subst (λ t. IsSound t c.args.other.me) (sym same) c.requires.sound.1)
    c.load.ensures.2 c.join_seat.ensures.2 c.load-2.ensures.2 in
    let each : HasEachOnce (after_join c.args.seat.now.me.0.book.account c.load.new.seat.me.0.book.account) =
    subst (λ (n : Token g). HasEachOnce n.0.book.account) c.join_seat.ensures.2 c.load-2.ensures.2.each in
    record {
      same = stays;
      joined = all.0;
      apart = subst (λ (n : Token g). AreApart c.args.seat.now.me.0.book.account n.0.book.account) c.load.ensures.2.same
          (apart_by c.args.seat.now.me.0.book.account c.load.new.seat.me.0.book.account each);
      once = λ o.
          let finished = ap (λ (n : Token g). times o n.0.book.account.finished) c.load-2.ensures.2.same in
          omega (arith, finished, c.load-2.ensures.2.each.objects o);
      did = all.1;
      knows = all.2;
    }
