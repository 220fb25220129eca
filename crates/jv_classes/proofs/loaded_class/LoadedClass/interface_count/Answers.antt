use Rattle.std.proofs.Common.{◌∙◌, ap, sym, length, refl}
use Rattle.std.specs.Arc.{arc_value}
use Rattle.jv_meaning_world.specs.World.{Loaded}
use Rattle.jv_classes.specs.Inside.Kept.{class_of_file}
use Rattle.jv_classes.proofs.OfFile.{count_of}
use Rattle.jv_classes.proofs.loaded_class.LoadedClass.interface_count.Goals as goal

pub returns-in-Some : goal.returns-in-Some
returns-in-Some c =
    let file = c.in-Some.file in
    let known = c.self.invariant.known file (ap (λ read. read.file) (sym c.deref.ensures) ∙ c.in-Some.is) in
    count_of file file.constant_pool c.interfaces.result.now refl c.interfaces.ensures.same (class_of_file (arc_value c.self.inside.read).file) known
    ∙ ap (λ (l : Loaded). length l.class.interfaces) c.self.view_is
