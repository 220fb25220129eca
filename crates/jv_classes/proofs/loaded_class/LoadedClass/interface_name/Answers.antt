use Rattle.std.proofs.Common.{◌∙◌, ◌<◌, ap, sym, subst, length}
use Rattle.std.specs.Prelude.{slice_get}
use Rattle.std.specs.Arc.{arc_value}
use Rattle.jv_meaning_world.specs.World.{Loaded}
use Rattle.jv_classes.specs.Inside.Kept.{class_of_file}
use Rattle.jv_classes.proofs.OfFile.{many_interfaces}
use Rattle.jv_classes.proofs.loaded_class.LoadedClass.interface_name.Goals as goal

pub interface_in-requires : goal.interface_in-requires
interface_in-requires c =
    let file = c.in-Some.file in
    let known = c.self.invariant.known file (ap (λ read. read.file) (sym c.deref.ensures) ∙ c.in-Some.is) in
    let many = ap (λ (l : Loaded). length l.class.interfaces) (sym c.self.view_is) ∙ many_interfaces file (class_of_file (arc_value c.self.inside.read).file) known in
    subst (λ n. c.args.place < n) many c.requires

pub returns-in-Some : goal.returns-in-Some
returns-in-Some c =
    let file = c.in-Some.file in
    ap (λ (l : Loaded). slice_get l.class.interfaces c.args.place) (sym c.self.view_is)
    ∙ c.interface_in.ensures (class_of_file (arc_value c.self.inside.read).file) (c.self.invariant.known file (ap (λ read. read.file) (sym c.deref.ensures) ∙ c.in-Some.is))
