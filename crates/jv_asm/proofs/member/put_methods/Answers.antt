use Rattle.std.proofs.lemmas.Grind.{common_steps}
use Rattle.std.proofs.Common.{length, subst, sym, arith}
use Rattle.std.specs.Prelude.{IsTrue, map, nat_lt}
use Rattle.std.specs.List.{list_all}
use Rattle.std.proofs.lemmas.Bool.{and_parts}
use Rattle.jv_class_structure.specs.Structure.{method_fits}
use Rattle.jv_asm.proofs.Mapped.{each_fits}
use Rattle.jv_asm.proofs.member.put_methods.Goals as goal

pub put-requires : goal.put-requires
put-requires g c =
    subst (λ x. IsTrue (method_fits (g.M.Method.method x))) (sym c.method-item.is)
    (each_fits method_fits g.M.Method.method c.args.methods.now c.loop-method.method-index c.method-item.result c.loop-method-test.true
    (and_parts (nat_lt (length (map g.M.Method.method c.args.methods.now)) 65536) (list_all method_fits (map g.M.Method.method c.args.methods.now)) c.requires).1)

pub loop-method-preserved : goal.loop-method-preserved
loop-method-preserved g c = grind (arith, common_steps)

pub returns : goal.returns
returns g c = grind (arith, common_steps)

pub overflow_cast-methods : goal.overflow_cast-methods
overflow_cast-methods g c = grind (arith, common_steps)
