use Rattle.std.proofs.Common.{◌≡◌, [], Some, length, sym, ap, subst, ◌∙◌}
use Rattle.std.proofs.lemmas.List.{length-replicate}
use Rattle.jv_stackmap.specs.Frames.{Frame, by_words}
use Rattle.jv_verify_types.specs.Typed.{typed_all}
use Rattle.jv_stackmap.specs.declared.verification.VerificationTypeOf.TheVariants as variants
use Rattle.jv_verify_types.specs.Numbered.{Item, NumberFrame}
use Rattle.jv_verify_pass.specs.Pass.{Pass, maps_of, names_in}
use Rattle.jv_verify_pass.specs.Inside.Kept.{IsPass}
use Rattle.jv_verify_pass.specs.Inside.Walk.{Reaches}
use Rattle.jv_verify_pass.proofs.Walking.{begins}
use Rattle.jv_verify_pass.proofs.FlowsInto.{first_is}
use Rattle.jv_verify_pass.proofs.walk.begin.Goals as goal

pub returns-clause-begun : goal.returns-clause-begun
returns-clause-begun c = λ env is.
    let pass = c.args.pass.now in
    let entries = c.pass.inside.initial.now in
    let count = c.pass.inside.words in
    let kept : IsPass pass entries count = subst (λ (p : Pass). IsPass p entries count) c.pass.view_is c.pass.invariant in
    let many : length c.renew.new.self.locals ≡ pass.max_locals =
    ap (λ (f : NumberFrame). length f.locals) c.in_ok-renew.ensures
    ∙ (length-replicate {A = Item} c.pass.inside.max_locals variants.Top ∙ ap (λ (p : Pass). p.max_locals) c.pass.view_is) in
    subst (λ (f : Frame). Reaches env (maps_of pass) 0 (Some f)) (first_is pass entries count kept env is c.set_to_initial.new.frame
    (length c.renew.new.self.locals) many c.set_to_initial.ensures.frame)
    (begins c.stands_in_list.ensures c.starts_apart.ensures env is.is (maps_of pass))

pub returns-clause-seen : goal.returns-clause-seen
returns-clause-seen c =
    let pass = c.args.pass.now in
    let entries = c.pass.inside.initial.now in
    let count = c.pass.inside.words in
    let kept : IsPass pass entries count = subst (λ (p : Pass). IsPass p entries count) c.pass.view_is c.pass.invariant in
    let many : length c.renew.new.self.locals ≡ pass.max_locals =
    ap (λ (f : NumberFrame). length f.locals) c.in_ok-renew.ensures
    ∙ (length-replicate {A = Item} c.pass.inside.max_locals variants.Top ∙ ap (λ (p : Pass). p.max_locals) c.pass.view_is) in
    c.in_ok-seen.ensures c.set_to_initial.new.frame (
      c.set_to_initial.ensures.same ∙ many,
      c.set_to_initial.ensures.frame (names_in pass)
          ∙ (ap (λ n. by_words n (typed_all (names_in pass) entries) []) many
          ∙ ap (λ is. by_words pass.max_locals (typed_all (names_in pass) is) []) (sym kept.initial)),
    )
