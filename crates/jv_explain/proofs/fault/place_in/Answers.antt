use Rattle.std.proofs.Common.{ap, sym, ◌∙◌}
use Rattle.std.specs.Option.{option_map}
use Rattle.std.specs.Prelude.{string_bytes}
use Rattle.std.proofs.lemmas.Result.{IfOk-weaker}
use Rattle.jv_class_structure.specs.Seen.{seen_code, seen_method}
use Rattle.jv_explain.proofs.Standing.{instruction_shown}
use Rattle.jv_explain.proofs.fault.place_in.Goals as goal

pub returns-in-Some : goal.returns-in-Some
returns-in-Some c =
    IfOk-weaker c.place_of.result _ _
    (λ text h. instruction_shown c.args.pool.now (seen_method c.args.method.now) (seen_code c.in-Some.body) c.args.fault c.args.line (string_bytes text)
    (sym c.is_at_instruction.ensures ∙ c.if-not-is_at_instruction.false) (sym c.code.ensures ∙ ap (option_map seen_code) c.in-Some.is) h)
    c.place_of.ensures
