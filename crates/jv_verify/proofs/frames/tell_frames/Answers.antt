use Rattle.std.proofs.Common.{refl, sym, ap, ◌∙◌}
use Rattle.std.specs.Prelude.{slice_get}
use Rattle.std.specs.Option.{option_map}
use Rattle.std.proofs.lemmas.Result.{IfOk-weaker}
use Rattle.jv_class_structure.specs.Parts.{methods_of}
use Rattle.jv_class_structure.specs.Seen.{seen_code, seen_method}
use Rattle.jv_verify_pass.specs.Before.{AreFramed}
use Rattle.jv_verify.proofs.Shown.{of_file}
use Rattle.jv_verify.proofs.StandingBefore.{has_code, in_method, none_missing, some_keeps, took_so}
use Rattle.jv_verify.proofs.frames.tell_frames.Goals as goal

pub unreachable-requires : goal.unreachable-requires
unreachable-requires g c =
    none_missing c.args.class.now (methods_of c.args.file.now) (of_file c.args.file.now c.args.class.now.by c.requires.file) c.args.number _ c.requires.typed
    (ap (slice_get (methods_of c.args.file.now)) (sym c.from.ensures) ∙ (sym c.method.ensures.shown ∙ ap (option_map seen_method) c.in_default.is))

pub unreachable-requires-in_default-code : goal.unreachable-requires-in_default-code
unreachable-requires-in_default-code g c =
    has_code c.args.class.now (methods_of c.args.file.now) (of_file c.args.file.now c.args.class.now.by c.requires.file) c.args.number _ c.requires.typed (seen_method c.in-Some.method)
    (sym (ap (option_map seen_method) c.in-Some.is) ∙ (c.method.ensures.shown ∙ ap (slice_get (methods_of c.args.file.now)) c.from.ensures))
    (sym c.code.ensures ∙ ap (option_map seen_code) c.in_default-code.is)

pub tell_in_method-requires : goal.tell_in_method-requires
tell_in_method-requires g c κs =
    let keeps =
    some_keeps c.args.class.now (methods_of c.args.file.now) (of_file c.args.file.now c.args.class.now.by c.requires.file) c.args.number _ c.requires.typed (seen_method c.in-Some.method)
    (sym (ap (option_map seen_method) c.in-Some.is) ∙ (c.method.ensures.shown ∙ ap (slice_get (methods_of c.args.file.now)) c.from.ensures))
    (seen_code c.in-Some-code.body) (sym c.code.ensures ∙ ap (option_map seen_code) c.in-Some-code.is) in
    ((refl, tt), keeps)

pub returns-clause-took : goal.returns-clause-took
returns-clause-took g c =
    IfOk-weaker c.tell_in_method.result _ _
    (λ stop took.
    took_so g.S.FrameSink.takes c.args.sink.now c.tell_in_method.new.sink _ _
    (λ all are.
    in_method c.args.class.now (methods_of c.args.file.now) (of_file c.args.file.now c.args.class.now.by c.requires.file) c.args.number _ c.requires.typed (seen_method c.in-Some.method)
    (sym (ap (option_map seen_method) c.in-Some.is) ∙ (c.method.ensures.shown ∙ ap (slice_get (methods_of c.args.file.now)) c.from.ensures))
    (seen_code c.in-Some-code.body) (sym c.code.ensures ∙ ap (option_map seen_code) c.in-Some-code.is) (λ env maps. AreFramed env maps 0 stop all) are)
    took)
    c.tell_in_method.ensures.took
