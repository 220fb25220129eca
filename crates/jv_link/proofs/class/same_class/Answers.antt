use Rattle.std.proofs.Common.{◌∙◌}
use Rattle.std.specs.Cmp.Lexicographic.{nat_list_eq_equiv}
use Rattle.jv_lookups.proofs.Among.{same_test}
use Rattle.jv_link.proofs.class.same_class.Goals as goal

pub returns : goal.returns
returns c = λ l at m at_m. same_test c.args.table.now c.is_numbered.ensures c.args.one c.args.other l m at at_m ∙ nat_list_eq_equiv.symm m.class.name l.class.name
