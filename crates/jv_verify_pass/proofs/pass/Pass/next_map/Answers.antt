use Rattle.std.proofs.Common.{◌+◌, ap, sym, arith, ◌∙◌}
use Rattle.std.specs.Prelude.{slice_get}
use Rattle.std.specs.Option.{option_map}
use Rattle.jv_stackmap.specs.Entries.{offset_of}
use Rattle.jv_verify_pass.specs.Pass.{Pass}
use Rattle.jv_verify_pass.proofs.MapFrames.{bare_behind, offset_is, offset_past, within}
use Rattle.jv_verify_pass.proofs.pass.Pass.next_map.Goals as goal

pub overflow_add-next : goal.overflow_add-next
overflow_add-next c =
    let inside = within c.self.inside.frames.now c.in-Some.place c.args.offset c.in-Some.ensures.found in
    omega (arith, inside, c.count-count.ensures, c.count-count.type_inv)

pub returns-then-next-count : goal.returns-then-next-count
returns-then-next-count c =
    let pass = c.args.self.now in
    let frames = ap (λ (p : Pass). p.frames) (sym c.self.view_is) in
    bare_behind c.offsets_rise.ensures pass c.in-Some.place c.args.offset 4294967295
    (ap (λ fs. option_map offset_of (slice_get fs c.in-Some.place)) frames ∙ c.in-Some.ensures.found)
    (offset_past pass c.self.inside.frames.now (c.in-Some.place + 1) 4294967295 frames (omega (arith, c.count-count.ensures, c.if-next-count.true)))

pub frame_at-requires : goal.frame_at-requires
frame_at-requires c =
    let inside = within c.self.inside.frames.now c.in-Some.place c.args.offset c.in-Some.ensures.found in
    omega (arith, inside, c.count-count.ensures, c.if-next-count.false)

pub returns : goal.returns
returns c =
    let pass = c.args.self.now in
    let frames = ap (λ (p : Pass). p.frames) (sym c.self.view_is) in
    bare_behind c.offsets_rise.ensures pass c.in-Some.place c.args.offset c.offset.result
    (ap (λ fs. option_map offset_of (slice_get fs c.in-Some.place)) frames ∙ c.in-Some.ensures.found)
    (offset_is pass c.self.inside.frames.now (c.in-Some.place + 1) c.frame_at.result c.offset.result frames c.frame_at.ensures c.offset.ensures)
