-- What is read of an object while it is scanned.
use Rattle.std.specs.Prelude.{ℕ, ◌≡◌}
use Rattle.drain.specs.declared.scanned_object.ScannedObject.{ScannedObject}
use Rattle.drain.specs.working.Tallies.{Measure}

-- `s` is what is read of the object `o`.
pub record MatchesMeasure (m : Measure) (o : ℕ) (s : ScannedObject) : Type 0 where
  pub row : s.row ≡ m.row o
  pub bytes : s.bytes ≡ m.bytes o
  pub unresolved : s.unresolved ≡ m.unresolved o
