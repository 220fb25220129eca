use Rattle.std.proofs.Common.{inl, arith}
use Rattle.std.proofs.lemmas.List.{drop_all}
use Rattle.jv_verify_maps.proofs.making.above_before.Goals as goal

pub returns-then-place-eq0 : goal.returns-then-place-eq0
returns-then-place-eq0 c = λ f at few. inl (drop_all 18446744073709551615 f.locals (omega (arith, few)))

pub returns-in-None : goal.returns-in-None
returns-in-None c = λ f at few. inl (drop_all 18446744073709551615 f.locals (omega (arith, few)))
