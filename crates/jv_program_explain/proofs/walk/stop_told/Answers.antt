use Rattle.std.proofs.Common.{◌≡◌, inl, inr, arith}
use Rattle.std.proofs.lemmas.Result.{IfOk-weaker}
use Rattle.jv_program_explain.proofs.walk.stop_told.Goals as goal

pub returns-then-offset-end : goal.returns-then-offset-end
returns-then-offset-end c =
    let less = c.if-offset-end.true in
    IfOk-weaker c.to_string.result _ _ (λ text h. inr (c.requires.long less, less, h)) c.to_string.ensures.ok

pub returns-else-offset-end : goal.returns-else-offset-end
returns-else-offset-end c =
    let within = c.requires.within in
    let more = c.if-offset-end.false in
    let same : c.args.offset ≡ c.args.end = omega (arith, within, more) in
    inl (same, c.new.ensures.bytes)
