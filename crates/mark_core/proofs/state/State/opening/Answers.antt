-- The tables are the opening's: its heads, its links, white marks, slots without items, and one account.
use Rattle.std.proofs.Common.{List, [], ◌∷◌, ◌++◌, ap, refl, length, ◌∙◌}
use lib.ListN.{length-replicate}
use Rattle.mark_core.specs.Account.{Account}
use Rattle.mark_core.specs.World.{Setup}
use Rattle.mark_core.specs.Runs.{opening}
use Rattle.mark_core.specs.StepCall.{Listing}
use Rattle.mark_core.proofs.Begins.{opens}
use Rattle.mark_core.proofs.state.State.opening.Goals as goal

pub returns-clause-marking : goal.returns-clause-marking
returns-clause-marking g c =
    let accounts = c.in_ok-push.ensures.items
    ∙ ap (λ (xs : List Account). xs ++ c.new.result ∷ []) c.new-accounts.ensures.items
    ∙ ap (λ (a : Account). a ∷ []) c.new.ensures in
    let tables : Listing =
    record {
      setup = c.args.setup;
      full = c.none.result;
      empty = c.of.result;
      links = c.in_ok-links.links.items;
      marks = c.in_ok-marks.marks.items;
      slots = c.in_ok-slots.slots.items;
      idle = 0;
      accounts = c.push.new.self.items;
    }
    in
    opens tables c.args.setup c.setup.inside.first_tag _ c.setup.view_is c.none.ensures c.of.ensures
    c.in_ok-links.ensures.links (c.in_ok-marks.ensures.items_if_clones_equal (λ y e. e)) c.in_ok-slots.ensures
    refl accounts
    ∙ ap (λ (e : Setup). opening c.args.setup e.first_tag) c.setup.view_is

pub returns-clause-setup : goal.returns-clause-setup
returns-clause-setup g c = refl

pub returns-clause-links : goal.returns-clause-links
returns-clause-links g c = c.in_ok-links.ensures.len ∙ ap (λ (e : Setup). e.buffers) c.setup.view_is

pub returns-clause-slots : goal.returns-clause-slots
returns-clause-slots g c =
    ap length c.in_ok-slots.ensures ∙ length-replicate _ _ ∙ ap (λ (e : Setup). e.buffers) c.setup.view_is

pub returns-clause-marks : goal.returns-clause-marks
returns-clause-marks g c =
    ap length (c.in_ok-marks.ensures.items_if_clones_equal (λ y e. e)) ∙ length-replicate _ _
    ∙ ap (λ (e : Setup). e.objects) c.setup.view_is
