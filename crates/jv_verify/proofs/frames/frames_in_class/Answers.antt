use Rattle.std.proofs.Common.{sym, ap, ◌∙◌}
use Rattle.std.specs.Prelude.{slice_get}
use Rattle.std.specs.Option.{option_map}
use Rattle.jv_class_structure.specs.Parts.{methods_of}
use Rattle.jv_class_structure.specs.Seen.{seen_code, seen_method}
use Rattle.jv_verify_pass.specs.Before.{AreBefore}
use Rattle.jv_verify.proofs.StandingBefore.{has_code, if_ok_in_method, none_missing, some_keeps}
use Rattle.jv_verify.proofs.frames.frames_in_class.Goals as goal

pub unreachable-requires : goal.unreachable-requires
unreachable-requires c =
    none_missing c.args.class.now (methods_of c.args.file.now) c.requires.methods c.args.method _ c.requires.typed
    (ap (slice_get (methods_of c.args.file.now)) (sym c.from.ensures) ∙ (sym c.method.ensures.shown ∙ ap (option_map seen_method) c.in_default.is))

pub unreachable-requires-in_default-code : goal.unreachable-requires-in_default-code
unreachable-requires-in_default-code c =
    has_code c.args.class.now (methods_of c.args.file.now) c.requires.methods c.args.method _ c.requires.typed (seen_method c.in-Some.method)
    (sym (ap (option_map seen_method) c.in-Some.is) ∙ (c.method.ensures.shown ∙ ap (slice_get (methods_of c.args.file.now)) c.from.ensures))
    (sym c.code.ensures ∙ ap (option_map seen_code) c.in_default-code.is)

pub frames_in_method-requires : goal.frames_in_method-requires
frames_in_method-requires c =
    some_keeps c.args.class.now (methods_of c.args.file.now) c.requires.methods c.args.method _ c.requires.typed (seen_method c.in-Some.method)
    (sym (ap (option_map seen_method) c.in-Some.is) ∙ (c.method.ensures.shown ∙ ap (slice_get (methods_of c.args.file.now)) c.from.ensures))
    (seen_code c.in-Some-code.body) (sym c.code.ensures ∙ ap (option_map seen_code) c.in-Some-code.is)

pub returns : goal.returns
returns c =
    if_ok_in_method c.args.class.now (methods_of c.args.file.now) c.requires.methods c.args.method _ c.requires.typed (seen_method c.in-Some.method)
    (sym (ap (option_map seen_method) c.in-Some.is) ∙ (c.method.ensures.shown ∙ ap (slice_get (methods_of c.args.file.now)) c.from.ensures))
    (seen_code c.in-Some-code.body) (sym c.code.ensures ∙ ap (option_map seen_code) c.in-Some-code.is) c.frames_in_method.result
    (λ found env maps. AreBefore env maps c.args.offset found) c.frames_in_method.ensures
