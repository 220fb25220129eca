use Rattle.std.proofs.Common.{rules, ◌≡◌, Some, sym, subst}
use Rattle.std.specs.Prelude.{string_bytes}
use Rattle.std.proofs.lemmas.Result.{IfOk-weaker}
use Rattle.jv_class.specs.Class.{class_of}
use Rattle.jv_lines.specs.Lines.{line_at}
use Rattle.jv_meaning_world.specs.World.{Loaded, World}
use Rattle.jv_verify.specs.Frames.{IsTypedBelowIn}
use Rattle.jv_program_explain.proofs.BelowFaults.{ListsBelow, class_there, fault_listed}
use Rattle.jv_program_explain.proofs.Faults.{typed_in}
use Rattle.jv_program_explain.proofs.Typed.{typed_below}
use Rattle.jv_program_explain.proofs.below.below_in.Goals as goal

pub list_to-requires-clause-file : goal.list_to-requires-clause-file
list_to-requires-clause-file c =
    let (l, at) = class_there c.args.classes.now.world c.args.class c.requires.class in
    subst (λ (x : Loaded). class_of c.args.file.now ≡ Some x.class) (sym (c.in_ok-current.ensures.class l at)) (c.requires.file l at)

pub list_to-requires-clause-typed : goal.list_to-requires-clause-typed
list_to-requires-clause-typed c =
    let fault = c.args.fault in
    let (l, at) = class_there c.args.classes.now.world c.args.class c.requires.class in
    let world : c.in_ok-current.current.types.world ≡ c.args.classes.now.world = search rules in
    subst (λ (w : World). IsTypedBelowIn w c.in_ok-current.current.by fault.method fault.offset) (sym world)
    (subst (λ (x : Loaded). IsTypedBelowIn c.args.classes.now.world x fault.method fault.offset) (sym (c.in_ok-current.ensures.class l at))
    (typed_below c.stands_in_list.ensures c.args.classes.now.world l fault.method fault.offset (typed_in c.args.classes.now.world l fault c.requires.instruction (c.requires.judged l at))))

pub returns : goal.returns
returns c =
    let fault = c.args.fault in
    let line = line_at c.read-lines.result fault.method in
    let world : c.in_ok-current.current.types.world ≡ c.args.classes.now.world = search rules in
    IfOk-weaker c.list_to.result _ _
    (λ text h l at.
    fault_listed c.args.classes.now.world l fault (c.requires.judged l at) line (string_bytes text)
    (subst (λ (w : World). ListsBelow w l fault line (string_bytes text)) world
    (subst (λ (x : Loaded). ListsBelow c.in_ok-current.current.types.world x fault line (string_bytes text)) (c.in_ok-current.ensures.class l at) h)))
    c.list_to.ensures
