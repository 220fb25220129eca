use Rattle.std.proofs.Common.{◌∙◌, refl, sym}
use Rattle.jv_verify_wants.proofs.Allowed.{allow_all, whole}
use Rattle.jv_verify_wants.proofs.Among.{flows_to_all, allows_all}
use Rattle.jv_verify_wants.proofs.variable.Variable.allow.Goals as goal

pub returns-then-not-flows_to_all-clause-ok : goal.returns-then-not-flows_to_all-clause-ok
returns-then-not-flows_to_all-clause-ok c =
    let all = whole c.args.names.now c.args.offset c.args.item c.args.self.now.wants.items c.deref.result.now _ _ c.deref.ensures.value c.flows_to_all.ensures
    (c.allowed_by-known.ensures c.args.names.now c.args.offset c.requires) in (
      λ t. absurd cc,
      λ flows.
          let e = sym c.if-not-flows_to_all.true ∙ all ∙ allows_all c.args.names.now c.args.offset c.args.item c.args.self.now.wants.items flows in absurd cc,
    )

pub returns-in_err-remember-clause-allowed : goal.returns-in_err-remember-clause-allowed
returns-in_err-remember-clause-allowed c =
    let all = whole c.args.names.now c.args.offset c.args.item c.args.self.now.wants.items c.deref.result.now _ _ c.deref.ensures.value c.flows_to_all.ensures
    (c.allowed_by-known.ensures c.args.names.now c.args.offset c.requires) in
    c.remember.ensures.allowed c.args.names.now c.args.offset c.requires
    (allow_all c.args.names.now c.args.offset c.args.item c.args.self.now.wants.items (sym all ∙ c.if-not-flows_to_all.false))

pub returns-clause-ok : goal.returns-clause-ok
returns-clause-ok c =
    let all = whole c.args.names.now c.args.offset c.args.item c.args.self.now.wants.items c.deref.result.now _ _ c.deref.ensures.value c.flows_to_all.ensures
    (c.allowed_by-known.ensures c.args.names.now c.args.offset c.requires) in (
      λ t. flows_to_all c.args.names.now c.args.offset c.args.item c.args.self.now.wants.items (sym all ∙ c.if-not-flows_to_all.false),
      λ flows. refl,
    )

pub returns-clause-allowed : goal.returns-clause-allowed
returns-clause-allowed c =
    let all = whole c.args.names.now c.args.offset c.args.item c.args.self.now.wants.items c.deref.result.now _ _ c.deref.ensures.value c.flows_to_all.ensures
    (c.allowed_by-known.ensures c.args.names.now c.args.offset c.requires) in
    c.remember.ensures.allowed c.args.names.now c.args.offset c.requires
    (allow_all c.args.names.now c.args.offset c.args.item c.args.self.now.wants.items (sym all ∙ c.if-not-flows_to_all.false))
