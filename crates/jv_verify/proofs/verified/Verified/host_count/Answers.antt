use Rattle.std.proofs.Common.{rules, ◌≡◌, ◌≤◌, length, sym, subst}
use Rattle.jv_verify.specs.Files.{Verified, IsOfFiles}
use Rattle.jv_verify.proofs.Hosts.{host_within}
use Rattle.jv_verify.proofs.verified.Verified.host_count.Goals as goal

pub returns-clause-within : goal.returns-clause-within
returns-clause-within c =
    let held : IsOfFiles c.args.self.now = subst (λ (v : Verified). IsOfFiles v) c.self.view_is c.self.invariant in
    let same : c.host_count.result ≡ c.args.self.now.host = search rules in
    subst (λ n. n ≤ length c.args.self.now.world) (sym same) (host_within held.0 held.1 c.args.self.now held.2)
