use Rattle.std.proofs.Common.{List, ◌∷◌, [], map, ap, sym, ◌∙◌}
use Rattle.std.proofs.lemmas.List.{map-append}
use Rattle.jv_asm_builder.specs.Assembly.{Step, Assembly, with_step, code_size, steps_end}
use Rattle.jv_asm_builder.specs.Inside.Kept.{step_kept, frame_kept}
use Rattle.jv_asm_builder.proofs.Steps.{no_room, joined, end_next}
use Rattle.jv_asm_builder.proofs.code_builder.CodeBuilder.step.Goals as goal

pub returns-then-size-gt65535 : goal.returns-then-size-gt65535
returns-then-size-gt65535 c =
    no_room c.args.self.now (step_kept c.args.step) c.from-size.result c.size_at.result (c.from-size.ensures ∙ c.self.invariant ∙ ap code_size c.self.view_is)
    c.size_at.ensures.size c.if-size-gt65535.true

pub invariant_of-self-2 : goal.invariant_of-self-2
invariant_of-self-2 c =
    let items = c.self.inside.steps.items in
    let pushed = ap (map step_kept) (c.in_ok-push.ensures {u = tt}).items ∙ map-append step_kept items (c.args.step ∷ []) in
    end_next (map step_kept items) (step_kept c.args.step) c.from-size.result c.size_at.result (c.from-size.ensures ∙ c.self.invariant) c.size_at.ensures.size c.if-size-gt65535.false
    ∙ ap (steps_end 0) (sym pushed)

pub returns : goal.returns
returns c =
    let items = c.self.inside.steps.items in
    let pushed = ap (map step_kept) (c.in_ok-push.ensures {u = tt}).items ∙ map-append step_kept items (c.args.step ∷ []) in
    let with_steps : List Step → Assembly = λ steps. record {
      steps = steps;
      places = c.self.inside.places.items;
      handlers = c.self.inside.handlers.items;
      frames = map frame_kept c.self.inside.frames.items;
    } in
    joined c.args.self.now _ (step_kept c.args.step) c.from-size.result c.size_at.result (ap with_steps pushed ∙ ap (λ a. with_step a (step_kept c.args.step)) c.self.view_is)
    (c.from-size.ensures ∙ c.self.invariant ∙ ap code_size c.self.view_is) c.size_at.ensures.size c.if-size-gt65535.false
