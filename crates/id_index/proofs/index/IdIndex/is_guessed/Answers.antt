-- An identifier that is found is in the list.
use Rattle.id_index.proofs.Bearers.{bears}
use Rattle.id_index.proofs.index.IdIndex.is_guessed.Goals as goal

pub returns-in-Some : goal.returns-in-Some
returns-in-Some g c = λ _. bears c.args.self.now c.args.id _ c.in-Some.ensures
