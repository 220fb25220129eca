use Rattle.std.proofs.Common.{◌≡◌, Option, Some, sym, ap, subst, ◌∙◌}
use Rattle.std.specs.Prelude.{IfSome, length}
use Rattle.std.specs.Option.{option_map}
use Rattle.jv_stackmap.specs.Frames.{Frame}
use Rattle.jv_verify_types.specs.Numbered.{NumberFrame, frame_of}
use Rattle.jv_verify_types.specs.Typed.{TypeWorld}
use Rattle.jv_verify_pass.specs.Pass.{Pass, names_in}
use Rattle.jv_verify_pass.proofs.before.map_named.Goals as goal

pub returns-in_default : goal.returns-in_default
returns-in_default c = λ env is. ap (option_map (frame_of (names_in c.args.pass.now))) (sym c.in_default.is) ∙ c.in_ok-frame.ensures.frame env is

pub named_frame-requires : goal.named_frame-requires
named_frame-requires c =
    let pass = c.args.pass.now in
    let there = subst (λ (o : Option NumberFrame). IfSome o (λ f. length f.locals ≡ pass.max_locals)) c.in-Some.is c.in_ok-frame.ensures.locals in
    there ∙ sym (ap (λ (p : Pass). p.max_locals) c.pass.view_is)

pub returns : goal.returns
returns c = λ env is.
    let pass = c.args.pass.now in
    let same : c.names.result.now ≡ pass.types.constants.types = c.names.ensures ∙ ap (λ (p : Pass). p.types.constants.types) c.pass.view_is in
    ap (λ (f : Frame). Some f) (c.in_ok-named.ensures ∙ ap (λ (t : TypeWorld). frame_of t.names c.in-Some.frame) same)
    ∙ (ap (option_map (frame_of (names_in pass))) (sym c.in-Some.is) ∙ c.in_ok-frame.ensures.frame env is)
