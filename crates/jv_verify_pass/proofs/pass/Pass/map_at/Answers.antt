use Rattle.std.proofs.Common.{◌≡◌, ℕ, Option, Some, sym, ap, subst, ◌∙◌}
use Rattle.std.specs.Prelude.{slice_get}
use Rattle.std.specs.Option.{option_map}
use Rattle.jv_stackmap.specs.Entries.{ReadFrame}
use Rattle.jv_verify_types.specs.Mapped.{frame_by_types}
use Rattle.jv_verify_pass.specs.Pass.{Pass, HasRoom}
use Rattle.jv_verify_pass.proofs.MapFrames.{all_at, found_at, none_at, within}
use Rattle.jv_verify_pass.proofs.pass.Pass.map_at.Goals as goal

pub returns-in_err-place-clause-frame : goal.returns-in_err-place-clause-frame
returns-in_err-place-clause-frame c = λ env is.
    let pass = c.args.self.now in
    ap (λ (o : Option (ℕ × ReadFrame)). option_map (frame_by_types pass.types pass.max_locals) (option_map (λ x. x.1) o)) c.from_residual.ensures
    ∙ sym (none_at pass c.self.inside.frames.now c.args.offset (ap (λ (p : Pass). p.frames) (sym c.self.view_is)) c.in_err-place.ensures.none)

pub frame_at-requires : goal.frame_at-requires
frame_at-requires c = within c.self.inside.frames.now c.in_ok-place.place c.args.offset c.in_ok-place.ensures.found

pub returns-clause-frame : goal.returns-clause-frame
returns-clause-frame c = λ env is.
    let pass = c.args.self.now in
    sym (found_at c.offsets_rise.ensures pass env c.self.inside.frames.now c.in_ok-place.place c.args.offset c.frame_at.result is (ap (λ (p : Pass). p.frames) (sym c.self.view_is))
    c.frame_at.ensures c.in_ok-place.ensures.found)

pub returns-clause-room : goal.returns-clause-room
returns-clause-room c =
    subst (λ (p : Pass). HasRoom p.types p.max_locals c.frame_at.result) c.self.view_is
    (all_at (HasRoom c.self.inside.types.now c.self.inside.max_locals) c.self.inside.frames.now c.in_ok-place.place c.frame_at.result c.frame_at.ensures c.self.invariant.frames)

pub returns-clause-place : goal.returns-clause-place
returns-clause-place c =
    subst (λ (p : Pass). slice_get p.frames c.in_ok-place.place ≡ Some c.frame_at.result) c.self.view_is c.frame_at.ensures
