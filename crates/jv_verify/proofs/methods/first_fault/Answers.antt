use Rattle.std.proofs.Common.{rules, ◌≡◌, ◌<◌, ◌≤◌, length, None, subst}
use Rattle.jv_class_structure.specs.Parts.{methods_of}
use Rattle.jv_verify.proofs.Shown.{IsPlaceJudged, is_method, more_typed, first_broken, all_typed, none_left}
use Rattle.jv_verify.proofs.methods.first_fault.Goals as goal

pub check_code_at-requires : goal.check_code_at-requires
check_code_at-requires c =
    let less : c.loop-place.place < length (methods_of c.args.file.now) = search rules in
    is_method c.args.class.now.types.world c.args.class.now.by (methods_of c.args.file.now) c.requires.methods c.loop-place.place less

pub returns-in-Some : goal.returns-in-Some
returns-in-Some c =
    let less : c.loop-place.place < length (methods_of c.args.file.now) = search rules in
    let place : c.fault_at.result.method ≡ c.loop-place.place = search rules in
    first_broken c.args.class.now.types.world c.args.class.now.by (methods_of c.args.file.now) c.requires.methods c.loop-place.place less
    c.loop-place.invariant c.in-Some.fault c.fault_at.result place c.fault_at.ensures.offset c.fault_at.ensures.rule
    (subst (IsPlaceJudged c.args.class.now.types.world c.args.class.now.by (methods_of c.args.file.now) c.loop-place.place) c.in-Some.is c.in_ok-fault.ensures)

pub loop-place-preserved : goal.loop-place-preserved
loop-place-preserved c =
    let less : c.loop-place.place < length (methods_of c.args.file.now) = search rules in
    let none : c.in_ok-fault.field-0 ≡ None = none_left c.in_ok-fault.field-0 c.in_default.not-Some in
    more_typed c.args.class.now.types.world c.args.class.now.by (methods_of c.args.file.now) c.requires.methods c.loop-place.place less c.loop-place.invariant
    (subst (IsPlaceJudged c.args.class.now.types.world c.args.class.now.by (methods_of c.args.file.now) c.loop-place.place) none c.in_ok-fault.ensures)

pub returns : goal.returns
returns c =
    let past : length (methods_of c.args.file.now) ≤ c.loop-place.place = search rules in
    all_typed c.args.class.now.types.world c.args.class.now.by (methods_of c.args.file.now) c.requires.methods c.loop-place.place past c.loop-place.invariant
