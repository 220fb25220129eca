use Rattle.std.proofs.Common.{◌∙◌, sym, ap, subst}
use Rattle.jv_class.specs.Class.{Method}
use Rattle.jv_meaning_world.specs.World.{World}
use Rattle.jv_classes.specs.Marks.{MarksMethod, is_marked}
use Rattle.jv_classes.proofs.Marking.{none_named}
use Rattle.jv_classes.proofs.class_table.ClassTable.marks_of_method.Goals as goal

pub returns : goal.returns
returns c =
    let inside = c.self.inside in
    let told = c.self.invariant.members.methods_told in
    subst (λ (w : World). MarksMethod w c.args.name.now c.args.descriptor.now c.row.result) c.self.view_is (record {
      size = c.row.ensures.width ∙ told.width;
      none = λ number l at unmarked.
          none_named (λ (m : Method). m.name) (λ m. m.descriptor) inside.seed inside.methods number l.class.methods c.args.name.now c.args.descriptor.now (told.marked number l at)
          (ap (λ k. is_marked inside.methods k number) (sym c.member_key.ensures) ∙ (sym (c.row.ensures.marks number) ∙ unmarked));
    })
