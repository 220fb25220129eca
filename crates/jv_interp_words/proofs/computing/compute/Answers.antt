use Rattle.std.proofs.Common.{subst, sym, ◌∙◌, FitsSigned, rules}
use Rattle.std.proofs.lemmas.Int.{to_z-of_z}
use Rattle.std.specs.Int.{w16}
use Rattle.jv_code.specs.declared.kinds.Computation.{Computation}
use Rattle.jv_code.specs.declared.kinds.NumberKind.TheVariants as numbers
use Rattle.jv_meaning_machine.specs.Arithmetic.{long_constant_value}
use Rattle.jv_interp_words.specs.FramesInWords.{in_use}
use Rattle.jv_interp_words.specs.Inside.Computing.{Gives}
use Rattle.jv_interp_words.proofs.Computed.{constant_computed}
use Rattle.jv_interp_words.proofs.computing.compute.Goals as goal

pub returns-in-IntConstant-clause-done : goal.returns-in-IntConstant-clause-done
returns-in-IntConstant-clause-done c =
    let fits : FitsSigned w16 c.in-IntConstant.value = search rules in
    subst (λ (what : Computation). Gives what (in_use c.args.words.now c.args.top) (in_use c.push_int.new.words c.push_int.result)) (sym c.in-IntConstant.is)
    (constant_computed numbers.Int c.in-IntConstant.value c.from.result _ _
    (c.from.ensures ∙ to_z-of_z w16 c.in-IntConstant.value fits) (record { sfits = c.from.type_inv }) c.push_int.ensures.int)

pub returns-in-LongConstant-clause-done : goal.returns-in-LongConstant-clause-done
returns-in-LongConstant-clause-done c =
    subst (λ (what : Computation). Gives what (in_use c.args.words.now c.args.top) (in_use c.push_long.new.words c.push_long.result)) (sym c.in-LongConstant.is)
    (constant_computed numbers.Long (long_constant_value c.in-LongConstant.value) c.long_constant.result _ _ c.long_constant.ensures
    (record { sfits = c.long_constant.type_inv }) c.push_long.ensures.long)
