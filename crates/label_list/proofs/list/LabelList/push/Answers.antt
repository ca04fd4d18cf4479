-- The number of labels rises to the entry's, if that is larger.
use Rattle.std.proofs.Common.{[], arith, ◌++◌, ◌≡◌, ◌∷◌}
use Rattle.label_list.proofs.Counts.{count_push}
use Rattle.label_list.proofs.list.LabelList.push.Goals as goal

pub invariant_of-self-2 : goal.invariant_of-self-2
invariant_of-self-2 g c =
    let entries = c.self.inside.entries.items in
    let entry = c.args.entry in
    let pushed : c.push.new.self.items ≡ entries ++ entry ∷ [] = c.in_ok-push.ensures.items in
    let count = count_push entries entry in
    let most = c.max-self-inside.ensures in
    let rises = c.labels_to.ensures in
    let before = c.self.invariant in
    rw pushed (omega (arith, count, most, rises, before.0), omega (arith, most, rises, before.1, c.requires))
