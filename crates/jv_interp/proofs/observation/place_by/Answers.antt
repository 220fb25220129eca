use Rattle.std.proofs.Common.{◌≡◌, ◌<◌, ℕ, List, Option, Some, length, slice_get, sym, ap, subst, ◌∙◌, arith}
use Rattle.std.specs.Option.{option_map}
use Rattle.jv_meaning_world.specs.World.{Loaded, World}
use Rattle.jv_meaning_world.specs.Overriding.{Declared}
use Rattle.jv_lookups.specs.Places.{IsMethodPlace, method_at}
use Rattle.jv_interp_members.proofs.Sites.{at_place, is_place}
use Rattle.jv_interp.proofs.PlaceShown.{there}
use Rattle.jv_interp.proofs.observation.place_by.Goals as goal

pub method_at-method-requires : goal.method_at-method-requires
method_at-method-requires c =
    let world = c.args.classes.now.world in
    let within = c.if-kept-len.false in
    let d = there world c.args.methods.now c.requires c.args.kept.method (omega (arith, within, c.len.ensures)) in
    subst (λ (w : World). IsMethodPlace w c.method.result.place) (sym c.table-table.ensures)
    (is_place world c.method.result.place d.0 (c.method.ensures world d.0 c.requires d.1).place)

pub class_at-requires : goal.class_at-requires
class_at-requires c =
    let world = c.args.classes.now.world in
    let within = c.if-kept-len.false in
    let d = there world c.args.methods.now c.requires c.args.kept.method (omega (arith, within, c.len.ensures)) in
    subst (λ (w : World). c.method.result.place.class < length w) (sym c.table-table.ensures)
    (is_place world c.method.result.place d.0 (c.method.ensures world d.0 c.requires d.1).place).class

pub returns : goal.returns
returns c =
    let world = c.args.classes.now.world in
    let within = c.if-kept-len.false in
    let d = there world c.args.methods.now c.requires c.args.kept.method (omega (arith, within, c.len.ensures)) in
    let place = c.method.result.place in
    let row = (c.method.ensures world d.0 c.requires d.1).place in
    let in_table : slice_get c.table-table.result.now place.class ≡ Some d.0.by =
    ap (λ (w : World). slice_get w place.class) c.table-table.ensures ∙ (at_place world place d.0 row).class in
    let l = c.class_at.ensures d.0.by in_table in
    let m = c.method_at-method.ensures d.0 (ap (λ (w : World). method_at w place) c.table-table.ensures ∙ row) in
    ap (λ (n : List ℕ). Some (record {
      class = n;
      method = c.method_at-method.result.name.now;
      descriptor = c.method_at-method.result.descriptor.now;
      offset = c.args.kept.pc;
    })) (c.name.ensures ∙ ap (λ (x : Loaded). x.class.name) l)
    ∙ ap (λ (n : List ℕ). Some (record {
      class = d.0.by.class.name;
      method = n;
      descriptor = c.method_at-method.result.descriptor.now;
      offset = c.args.kept.pc;
    })) m.name
    ∙ ap (λ (n : List ℕ). Some (record {
      class = d.0.by.class.name;
      method = d.0.method.name;
      descriptor = n;
      offset = c.args.kept.pc;
    })) m.descriptor
    ∙ sym
    (ap (λ (o : Option Declared). option_map (λ (x : Declared). record {
      class = x.by.class.name;
      method = x.method.name;
      descriptor = x.method.descriptor;
      offset = c.args.kept.pc;
    }) o) d.1)
