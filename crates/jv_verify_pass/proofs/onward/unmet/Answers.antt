use Rattle.std.proofs.Common.{◌≡◌, Option, Some, None, refl, sym, ap, subst, ◌∙◌}
use Rattle.std.specs.Prelude.{IfSome, length}
use Rattle.std.specs.Option.{option_map}
use Rattle.jv_stackmap.specs.Frames.{Frame}
use Rattle.jv_meaning_world.specs.World.{World}
use Rattle.jv_verify_types.specs.Numbered.{NumberFrame, frame_of}
use Rattle.jv_verify_types.specs.Typed.{TypeWorld}
use Rattle.jv_verify_pass.specs.Before.{seen_frame}
use Rattle.jv_verify_pass.specs.Onward.{first_difference}
use Rattle.jv_verify_pass.specs.Pass.{Pass, maps_of, names_in}
use Rattle.jv_verify_pass.specs.Inside.Kept.{IsPass}
use Rattle.jv_verify_pass.proofs.FlowsInto.{world_is}
use Rattle.jv_verify_pass.proofs.GoingOn.{unmet_is}
use Rattle.jv_verify_pass.proofs.onward.unmet.Goals as goal

pub named_frame-requires : goal.named_frame-requires
named_frame-requires c = c.requires ∙ sym (ap (λ (p : Pass). p.max_locals) c.pass.view_is)

pub returns-in_default : goal.returns-in_default
returns-in_default c = λ env is.
    let pass = c.args.pass.now in
    let f = frame_of (names_in pass) c.args.frame.now in
    let same : c.names-names.result.now ≡ pass.types.constants.types = c.names-names.ensures ∙ ap (λ (p : Pass). p.types.constants.types) c.pass.view_is in
    unmet_is env (maps_of pass) f (seen_frame c.in_ok-named.named) c.args.to None None
    (c.in_ok-named.ensures ∙ ap (λ (t : TypeWorld). frame_of t.names c.args.frame.now) same)
    (ap (option_map (frame_of (names_in pass))) (sym c.in_default.is) ∙ c.in_ok-there.ensures.frame env is) refl

pub first_difference-differ-requires-clause-frame : goal.first_difference-differ-requires-clause-frame
first_difference-differ-requires-clause-frame c = c.requires ∙ sym (ap (λ (p : Pass). p.max_locals) c.pass.view_is)

pub first_difference-differ-requires-clause-map : goal.first_difference-differ-requires-clause-map
first_difference-differ-requires-clause-map c =
    let pass = c.args.pass.now in
    let there = subst (λ (o : Option NumberFrame). IfSome o (λ f. length f.locals ≡ pass.max_locals)) c.in-Some.is c.in_ok-there.ensures.locals in
    there ∙ sym (ap (λ (p : Pass). p.max_locals) c.pass.view_is)

pub named_frame-requires-2 : goal.named_frame-requires-2
named_frame-requires-2 c =
    let pass = c.args.pass.now in
    let there = subst (λ (o : Option NumberFrame). IfSome o (λ f. length f.locals ≡ pass.max_locals)) c.in-Some.is c.in_ok-there.ensures.locals in
    there ∙ sym (ap (λ (p : Pass). p.max_locals) c.pass.view_is)

pub returns : goal.returns
returns c = λ env is.
    let pass = c.args.pass.now in
    let entries = c.pass.inside.initial.now in
    let count = c.pass.inside.words in
    let kept : IsPass pass entries count = subst (λ (p : Pass). IsPass p entries count) c.pass.view_is c.pass.invariant in
    let f = frame_of (names_in pass) c.args.frame.now in
    let m = frame_of (names_in pass) c.in-Some.there in
    let same : c.names-names.result.now ≡ pass.types.constants.types = c.names-names.ensures ∙ ap (λ (p : Pass). p.types.constants.types) c.pass.view_is in
    let one : seen_frame c.in_ok-named.named ≡ f = c.in_ok-named.ensures ∙ ap (λ (t : TypeWorld). frame_of t.names c.args.frame.now) same in
    let other : seen_frame c.in_ok-map.map ≡ m = c.in_ok-map.ensures ∙ ap (λ (t : TypeWorld). frame_of t.names c.in-Some.there) same in
    let at = ap (option_map (frame_of (names_in pass))) (sym c.in-Some.is) ∙ c.in_ok-there.ensures.frame env is in
    let differs : c.first_difference-differ.result ≡ first_difference env.world f (seen_frame c.in_ok-map.map) =
    c.first_difference-differ.ensures
    ∙ (ap (λ (t : TypeWorld). first_difference t.world (frame_of t.names c.args.frame.now) (frame_of t.names c.in-Some.there)) same
    ∙ (ap (λ (w : World). first_difference w f m) (sym (world_is pass entries count kept env is)) ∙ ap (first_difference env.world f) (sym other))) in
    unmet_is env (maps_of pass) f (seen_frame c.in_ok-named.named) c.args.to (Some (seen_frame c.in_ok-map.map)) c.first_difference-differ.result one
    (ap (λ (x : Frame). Some x) other ∙ at) differs
