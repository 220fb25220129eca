use Rattle.std.proofs.Common.{ap, sym, ◌∙◌}
use Rattle.std.specs.Option.{option_map}
use Rattle.std.specs.Prelude.{string_bytes}
use Rattle.std.proofs.lemmas.Result.{IfOk-weaker}
use Rattle.jv_class_structure.specs.Seen.{seen_code, seen_method}
use Rattle.jv_beyond.proofs.Used.{told_use}
use Rattle.jv_beyond.proofs.telling.tell_use.Goals as goal

pub returns : goal.returns
returns c =
    IfOk-weaker c.tell_use_in.result _ _
    (λ text h.
    told_use c.args.parts.now c.args.place (seen_method c.in-Some.method) (sym c.method.ensures ∙ ap (option_map seen_method) c.in-Some.is)
    (seen_code c.in-Some-code.body) (sym c.code.ensures ∙ ap (option_map seen_code) c.in-Some-code.is)
    c.pool-pool.result.now c.pool-pool.ensures c.args.offset c.line_at-line.result _ c.shown_method-shown.ensures (string_bytes text) h)
    c.tell_use_in.ensures
