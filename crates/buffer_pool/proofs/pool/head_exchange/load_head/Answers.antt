-- A load of a head keeps the rule, and returns the head.
use Rattle.buffer_pool.proofs.Words.{Allows, Head, Load, RestsWith, Rule, Some, [], arith, buffer_reading, head_seen}
use Rattle.buffer_pool.proofs.Words.{loaded, none, setup_of, step, subst, sym, ℕ, ◌<◌, ◌∷◌, ◌≡◌}
use Rattle.buffer_pool.proofs.Loads.{sees_head}
use Rattle.buffer_pool.proofs.Sound.{sound_after, sound_loaded}
use Rattle.buffer_pool.proofs.TableWords.{head_below}
use Rattle.buffer_pool.proofs.pool.head_exchange.load_head.Goals as goal

pub load-requires : goal.load-requires
load-requires g c =
    let z = c.args.words.now.table_id in
    let e = setup_of c.args.words.now.key in
    let me = c.args.seat.now.me in
    let small = head_below c.args.which in (
      c.requires.table.same,
      omega (arith, c.head_word.ensures, small, c.requires.table.laid.words),
      subst (λ x. Allows (Rule buffer_reading e) z.slots c.args.seat.now.id me x (λ n. n)
          (head_seen (step z.slots x 0 0 none) me)) (sym c.head_word.ensures)
          (sees_head buffer_reading e z.slots c.args.seat.now.id me c.requires.sound c.args.which),
    )

pub returns : goal.returns
returns g c =
    let me = c.args.seat.now.me in
    let q = c.args.which in
    let seen = c.load.ensures.2 q c.head_word.ensures in
    let rests = subst (λ (h : Head). RestsWith me (loaded q h me.0.book) (Load q ∷ []) c.load.new.seat.me)
    (sym c.from_word.ensures) seen.0 in
    record {
      same = record { table = c.load.ensures.0; number = c.load.ensures.1 };
      sound =
          sound_after (sound_loaded c.requires.sound q c.from_word.result) c.load.ensures.0 rests;
      rests = rests;
      within = subst (λ (h : Head). (i : ℕ) → h.index ≡ Some i → i < me.0.book.setup.buffers)
          (sym c.from_word.ensures) seen.1;
    }
