use Rattle.std.proofs.Common.{◌≡◌, [], IsTrue, Ok, ap, refl, subst, sym, ◌∙◌}
use Rattle.std.specs.Prelude.{is_none, ◌↔◌}
use Rattle.jv_meaning_machine.specs.Alone.{Stands}
use Rattle.jv_meaning_world.specs.Library.{with_library}
use Rattle.jv_verify.proofs.Hosts.{alone, answers, no_answer_but, none_told}
use Rattle.jv_verify.proofs.verified.Verified.host_stands.Goals as goal

pub returns-clause-stands : goal.returns-clause-stands
returns-clause-stands c = λ library files are.
    let told : c.is_none.result ≡ is_none c.in_ok-broken.broken = none_told c.in_ok-broken.broken c.is_none.result c.is_none.ensures in
    subst (λ b. IsTrue b ↔ Stands c.args.self.now.world (with_library are.given)) (sym told)
    (answers are.given are.contents c.args.self.now are.found c.one_judgement.ensures c.in_ok-broken.broken c.in_ok-broken.ensures.broken)

pub returns-clause-alone : goal.returns-clause-alone
returns-clause-alone c = λ files are.
    let told : c.is_none.result ≡ is_none c.in_ok-broken.broken = none_told c.in_ok-broken.broken c.is_none.result c.is_none.ensures in
    ap (λ b. Ok b) (told ∙ no_answer_but c.first_broken.result c.in_ok-broken.broken c.in_ok-broken.was (c.first_broken.ensures.alone are.contents (alone [] files c.args.self.now refl are)))
