use Rattle.std.proofs.Common.{sym, subst}
use Rattle.jv_class_structure.specs.Parts.{methods_of}
use Rattle.jv_meaning_world.specs.World.{Loaded}
use Rattle.jv_classes.proofs.Followed.{some_class}
use Rattle.jv_verify.specs.Inside.Shown.{AreMethodsOf}
use Rattle.jv_verify.proofs.Shown.{of_file, few}
use Rattle.jv_verify.proofs.methods.check_file.Goals as goal

pub first_fault-requires-clause-methods : goal.first_fault-requires-clause-methods
first_fault-requires-clause-methods c =
    let there = some_class c.args.classes.now.world c.args.class c.requires.class in
    let l : Loaded = there.0 in
    subst (λ (m : Loaded). AreMethodsOf m (methods_of c.args.file.now)) (sym (c.in_ok-current.ensures.class l there.1)) (of_file c.args.file.now l (c.requires.file l there.1))

pub first_fault-requires-clause-count : goal.first_fault-requires-clause-count
first_fault-requires-clause-count c = few c.args.file.now c.is_well_formed.ensures.fits
