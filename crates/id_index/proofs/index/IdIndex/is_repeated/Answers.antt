-- The look-up returns the first object with the identifier. An earlier object has it exactly if the first is earlier.
use Rattle.id_index.proofs.Bearers.{earlier, nowhere}
use Rattle.id_index.proofs.index.IdIndex.is_repeated.Goals as goal

pub returns-in-Some : goal.returns-in-Some
returns-in-Some g c = earlier c.args.self.now c.args.id c.args.number c.in-Some.first c.in-Some.ensures

pub returns-in-None : goal.returns-in-None
returns-in-None g c =
    ((λ wrong. absurd (cc)), (λ has. absurd (nowhere c.args.self.now c.args.id c.args.number c.in-None.ensures has)))
