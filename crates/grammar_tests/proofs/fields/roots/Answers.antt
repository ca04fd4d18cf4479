-- The roots are in both dumps, in order, by computation.
use Rattle.std.proofs.Common.{refl}
use Rattle.grammar_tests.proofs.Computed.{roots_seen}
use Rattle.grammar_tests.proofs.TestDumps.{the_roots}
use Rattle.grammar_tests.proofs.fields.roots.Goals as goal

pub has_roots-requires : goal.has_roots-requires
has_roots-requires g c =
    roots_seen c.new.result c.new.ensures.bytes c.new.ensures.size (the_roots 229 234 243 256 269 278 283 292 297) (
      (refl, refl),
      (
        (refl, refl),
        (
          (refl, refl),
          (
            (refl, refl),
            (
              (refl, refl),
              (
                (refl, refl),
                (
                  (refl, refl),
                  ((refl, refl), ((refl, refl), tt)),
                ),
              ),
            ),
          ),
        ),
      ),
    )

pub has_roots-requires-2 : goal.has_roots-requires-2
has_roots-requires-2 g c =
    roots_seen c.new-2.result c.new-2.ensures.bytes c.new-2.ensures.size
    (the_roots 325 334 351 368 385 398 407 420 429) (
      (refl, refl),
      (
        (refl, refl),
        (
          (refl, refl),
          (
            (refl, refl),
            (
              (refl, refl),
              (
                (refl, refl),
                (
                  (refl, refl),
                  ((refl, refl), ((refl, refl), tt)),
                ),
              ),
            ),
          ),
        ),
      ),
    )
