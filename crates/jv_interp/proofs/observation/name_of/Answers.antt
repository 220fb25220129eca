use Rattle.std.proofs.Common.{◌≡◌, Some, slice_get, ap, subst, ◌∙◌, sym}
use Rattle.jv_meaning_world.specs.World.{World, Loaded}
use Rattle.jv_meaning_world.proofs.Up.{has_name}
use Rattle.jv_interp.proofs.observation.name_of.Goals as goal

pub returns : goal.returns
returns c = λ name h.
    let there = subst (λ (w : World). slice_get w c.args.number ≡ Some h.l) (sym c.table.ensures) h.at in
    c.name.ensures ∙ ap (λ (l : Loaded). l.class.name) (c.class_at.ensures h.l there) ∙ has_name c.args.classes.now.world name h.l h.named
