use Rattle.std.specs.Prelude.{string_bytes}
use Rattle.std.proofs.lemmas.Result.{IfOk-weaker}
use Rattle.jv_lines.specs.Lines.{line_at}
use Rattle.jv_links.proofs.Typings.{told}
use Rattle.jv_links.proofs.class.explain_links.Goals as goal

pub returns-in-Some : goal.returns-in-Some
returns-in-Some c =
    IfOk-weaker c.blocks_of.result _ _ (λ text h. λ l at. told c.args.classes.now.world l (line_at c.read-lines.result) (string_bytes text) (c.requires.typed l at) (h l at)) c.blocks_of.ensures
