use Rattle.std.proofs.Common.{◌≡◌, ◌∙◌, ap, length, sym, subst}
use Rattle.jv_verify_wants.specs.Inside.Allowed.{Allow}
use Rattle.jv_verify_wants.proofs.variable.Variable.remember.Goals as goal

pub returns-clause-allowed : goal.returns-clause-allowed
returns-clause-allowed c types offset is all =
    let same = c.in_ok-keep_last.ensures.wants in
    let was = c.in_ok-keep_last.ensures.allowed types offset is in
    let count : c.len-self.result ≡ length c.args.self.now.wants.items =
    c.len-self.ensures ∙ c.keep_last.new.self.wants.ok.0 ∙ ap (λ v. length v.items) same in
    record {
      last =
          subst (λ n. Allow types offset c.args.item c.keep_last.new.self.wants.items n) (sym count)
          (subst (λ v. Allow types offset c.args.item v.items (length c.args.self.now.wants.items)) (sym same) all);
      others = was.others;
    }
