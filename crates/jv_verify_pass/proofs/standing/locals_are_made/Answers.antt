use Rattle.std.proofs.Common.{ap, ◌∙◌, take}
use Rattle.std.specs.List.{list_all}
use Rattle.jv_stackmap.specs.Entries.{ReadFrame}
use Rattle.jv_verify_pass.specs.Inside.Parts.{is_made_by_new}
use Rattle.jv_verify_pass.proofs.Shared.{made_below, one_there}
use Rattle.jv_verify_pass.proofs.standing.locals_are_made.Goals as goal

pub returns-in-Some : goal.returns-in-Some
returns-in-Some c = λ env has before f at.
    c.last_are_made.ensures env has
    ∙ (ap (λ es. list_all (is_made_by_new env) (take c.in-Some.count es)) c.locals.ensures
    ∙ (ap (λ (g : ReadFrame). list_all (is_made_by_new env) (take c.in-Some.count g.locals)) (one_there c.args.frames.now c.args.place c.frame_at-map.result f c.frame_at-map.ensures at)
    ∙ made_below env c.args.frames.now c.args.place c.in-Some.count f before (c.in-Some.ensures {u = tt}) at))

pub returns-in-None : goal.returns-in-None
returns-in-None c = λ env has before f at.
    c.are_made_by_new.ensures env has
    ∙ (ap (list_all (is_made_by_new env)) c.locals-in-None.ensures
    ∙ ap (λ (g : ReadFrame). list_all (is_made_by_new env) g.locals) (one_there c.args.frames.now c.args.place c.frame_at-map.result f c.frame_at-map.ensures at))
