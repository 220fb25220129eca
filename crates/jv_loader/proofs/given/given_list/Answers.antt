use Rattle.std.proofs.Common.{[], subst}
use Rattle.jv_classes.specs.Inside.KeptNames.{texts_of}
use Rattle.jv_loader.specs.Inside.Given.{AreGiven}
use Rattle.jv_loader.proofs.Comparing.{given_next, none_given, take_whole}
use Rattle.jv_loader.proofs.Hosting.{map-take, text_at}
use Rattle.jv_loader.proofs.Refusing.{fault_of_file}
use Rattle.jv_classes.specs.Inside.KeptNames.{text_of}
use Rattle.jv_loader.proofs.given.given_list.Goals as goal

pub loop-place-init : goal.loop-place-init
loop-place-init c = none_given c.new-list.result c.new-list.ensures

pub loop-place-preserved : goal.loop-place-preserved
loop-place-preserved c =
    given_next c.args.files.now c.loop-place.place (record { ref_ptr = (0, 0); now = [] }) c.loop-place.list c.give_file.new.list c.loop-place-test.true c.loop-place.invariant
    c.in_default.ensures.ok

pub returns-in-Err-clause-fault : goal.returns-in-Err-clause-fault
returns-in-Err-clause-fault c =
    let files = c.args.files.now in
    fault_of_file (texts_of files) c.loop-place.list c.loop-place.place _
    (subst (λ fs. AreGiven fs c.loop-place.list) (map-take text_of c.loop-place.place files) c.loop-place.invariant)
    (text_at files c.loop-place.place (record { ref_ptr = (0, 0); now = [] }) c.loop-place-test.true) c.in-Err.fault c.in-Err.ensures.fault

pub returns-clause-ok : goal.returns-clause-ok
returns-clause-ok c =
    subst (λ fs. AreGiven (texts_of fs) c.loop-place.list) (take_whole c.args.files.now c.loop-place.place c.loop-place-test.false) c.loop-place.invariant
