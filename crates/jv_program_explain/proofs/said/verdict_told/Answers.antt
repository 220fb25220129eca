use Rattle.std.proofs.Common.{List, ℕ, subst}
use Rattle.std.specs.Prelude.{string_bytes}
use Rattle.std.proofs.lemmas.Result.{IfOk-weaker}
use Rattle.jv_explain.specs.Explained.{IsExplanation}
use Rattle.jv_program_explain.proofs.said.verdict_told.Goals as goal

pub returns : goal.returns
returns c =
    let world = c.args.classes.now.world in
    IfOk-weaker c.explain_file.result _ _
    (λ text told why content is v stands.
    record {
      above = string_bytes c.in_ok-above.above;
      listed = c.in_ok-above.ensures why content v stands;
      frames = string_bytes c.in_ok-frames.frames;
      shown = c.in_ok-frames.ensures why content v stands;
      told =
          subst (λ (f : List ℕ). IsExplanation content c.args.verdict (string_bytes c.in_ok-above.above) f (string_bytes text)) c.deref-2.ensures
          (subst (λ (a : List ℕ). IsExplanation content c.args.verdict a c.deref-2.result.now (string_bytes text)) c.deref.ensures (told world why content is v));
    })
    c.explain_file.ensures
