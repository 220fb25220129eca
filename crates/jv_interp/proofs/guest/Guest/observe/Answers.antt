use Rattle.std.proofs.Common.{refl, ◌∙◌, sym, subst}
use Rattle.jv_meaning_world.specs.World.{World}
use Rattle.jv_interp_members.specs.Methods.{AreMethods}
use Rattle.jv_interp_control.specs.ControlStands.{IsClassOf, PlaceStands, EndStands}
use Rattle.jv_interp.proofs.Shown.{shows}
use Rattle.jv_interp.proofs.guest.Guest.observe.Goals as goal

pub last_of-requires : goal.last_of-requires
last_of-requires c =
    let h = c.requires.1.stands in
    let same = h.world_is ∙ sym c.classes-classes.ensures in
    (h.state.control.last, subst (λ (w : World). IsClassOf w h.state.control.last c.args.self.now.control.last) same h.stands.control.last)

pub place_of-requires : goal.place_of-requires
place_of-requires c =
    let h = c.requires.1.stands in
    subst (λ (w : World). AreMethods w c.args.self.now.methods) (sym c.classes-classes.ensures) h.tables.methods

pub end_of-requires : goal.end_of-requires
end_of-requires c =
    let h = c.requires.1.stands in
    let same = h.world_is ∙ sym c.classes-classes.ensures in
    (h.state.control.end, subst (λ (w : World). EndStands w h.state.control.end c.args.self.now.control.end) same h.stands.control.end)

pub returns : goal.returns
returns c = λ g b feeds n addresses blocks h.
    let same = h.world_is ∙ sym c.classes-classes.ensures in
    shows g b feeds n addresses c.args.self.now blocks h _ c.verdicts.ensures refl c.deref.ensures.value refl
    (c.last_of.ensures h.state.control.last (subst (λ (w : World). IsClassOf w h.state.control.last c.args.self.now.control.last) same h.stands.control.last))
    (c.place_of.ensures ∙ subst (λ (w : World). PlaceStands w h.state.control.place c.args.self.now.control.place) same h.stands.control.place)
    (c.end_of.ensures h.state.control.end (subst (λ (w : World). EndStands w h.state.control.end c.args.self.now.control.end) same h.stands.control.end))
