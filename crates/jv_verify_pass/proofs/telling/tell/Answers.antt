use Rattle.std.proofs.Common.{refl}
use Rattle.jv_verify_pass.proofs.GoingOn.{on_ok_so}
use Rattle.jv_verify_pass.proofs.telling.tell.Goals as goal

pub returns : goal.returns
returns g c =
    on_ok_so c.take.result _ _
    (λ took. record {
      framed = record { offset = c.args.offset; insn = c.args.insn; falling = c.in_ok-falling.falling; map = c.in_ok-map.map };
      offset = refl;
      insn_is = refl;
      falls = c.in_ok-falling.ensures;
      map = c.in_ok-map.ensures;
      takes = took;
    })
    c.take.ensures
