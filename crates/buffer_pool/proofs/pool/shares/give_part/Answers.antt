-- The units are noted, the seat is split, and both parts catch up: each is sound and has its part of the share.
use Rattle.std.proofs.Common.{◌∙◌, ap, refl, sym, Option, arith}
use Rattle.buffer_pool.proofs.Words.{Me, TableId, Buffer, SeatView, buffer_reading, setup_of, Log}
use Rattle.buffer_pool.proofs.Loads.{sets_aside, catches_up}
use Rattle.buffer_pool.proofs.SplitsAndJoins.{noted_units, splits, kept_may, given_may, keeps_part, has_part}
use Rattle.buffer_pool.proofs.pool.shares.give_part.Given as given
use Rattle.buffer_pool.proofs.pool.shares.give_part.Goals as goal

abbrev Token : given.Over → Type 0
Token g = Me (Option (Buffer g.row.A.Denot)) SeatView

pub compare_exchange-requires : goal.compare_exchange-requires
compare_exchange-requires g c = (
  c.requires.table,
  omega (arith, c.requires.sound.laid.words, ap (λ (t : TableId). t.words) c.requires.table),
  sets_aside buffer_reading (setup_of c.args.words.now.key) c.args.words.now.table_id.slots c.args.seat.now.id
      c.args.seat.now.me c.requires.sound 0 c.args.units,
)

pub split_seat-other-requires : goal.split_seat-other-requires
split_seat-other-requires g c =
    let told = c.compare_exchange.ensures.2 in
    let noted = noted_units c.args.seat.now.me c.compare_exchange.new.seat.me c.compare_exchange.new.seat.me.0.log
    c.args.units told.0 c.requires.units.0 c.requires.units.1 in (
      c.compare_exchange.ensures.0 ∙ c.requires.table,
      omega (arith, c.requires.sound.laid.words, ap (λ (t : TableId). t.words) c.requires.table),
      splits buffer_reading (setup_of c.args.words.now.key) c.compare_exchange.new.seat.id
          c.compare_exchange.new.seat.me.0 noted.0 noted.1 noted.2,
    )

pub load-requires : goal.load-requires
load-requires g c =
    let told = c.compare_exchange.ensures.2 in
    let may =
    kept_may c.args.units refl c.compare_exchange.new.seat.me.0.log c.requires.sound told.0 told.1
    c.split_seat-other.ensures.2 c.requires.units.1 in (
      c.split_seat-other.ensures.0 ∙ c.compare_exchange.ensures.0 ∙ c.requires.table,
      omega (arith, c.requires.sound.laid.words, ap (λ (t : TableId). t.words) c.requires.table),
      catches_up buffer_reading (setup_of c.args.words.now.key) c.args.words.now.table_id.slots
          c.split_seat-other.new.seat.id c.split_seat-other.new.seat.me 0 may.0 may.1,
    )

pub load-requires-2 : goal.load-requires-2
load-requires-2 g c =
    let told = c.compare_exchange.ensures.2 in
    let may =
    given_may c.args.units refl c.compare_exchange.new.seat.me.0.log c.requires.sound told.0 told.1
    c.split_seat-other.ensures.4 c.requires.units.0 in (
      c.split_seat-other.ensures.3 ∙ c.compare_exchange.ensures.0 ∙ c.requires.table,
      omega (arith, c.requires.sound.laid.words, ap (λ (t : TableId). t.words) c.requires.table),
      catches_up buffer_reading (setup_of c.args.words.now.key) c.args.words.now.table_id.slots
          c.split_seat-other.result.id c.split_seat-other.result.me 0 may.0 may.1,
    )

pub returns : goal.returns
returns g c =
    let told = c.compare_exchange.ensures.2 in
    let log = c.compare_exchange.new.seat.me.0.log in
    let one = c.compare_exchange.ensures.0 in
    let kept =
    keeps_part c.args.units (c.load.ensures.0 ∙ c.split_seat-other.ensures.0 ∙ one) log c.requires.sound told.0 told.1
    c.split_seat-other.ensures.2 c.load.ensures.2 c.requires.units.1 in
    let given =
    has_part c.args.units (c.load-2.ensures.0 ∙ c.split_seat-other.ensures.3 ∙ one) log c.requires.sound told.0 told.1
    c.split_seat-other.ensures.4 c.load-2.ensures.2 c.requires.units.0 in
    record {
      same = (
        c.load.ensures.0 ∙ c.split_seat-other.ensures.0 ∙ one,
        c.load-2.ensures.0 ∙ c.split_seat-other.ensures.3 ∙ one,
      );
      kept = kept.0;
      given = given.0;
      did = kept.1;
      new = given.1;
      apart = λ same. given.2 (sym (ap (λ (x : Log). x.number) kept.1.1) ∙ sym same);
    }
