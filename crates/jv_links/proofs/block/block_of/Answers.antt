use Rattle.std.proofs.Common.{◌∙◌, ap, sym, subst, List}
use Rattle.std.specs.Option.{option_map}
use Rattle.std.specs.Prelude.{string_bytes}
use Rattle.std.proofs.lemmas.Result.{IfOk-weaker}
use Rattle.jv_class_structure.specs.Seen.{seen_method}
use Rattle.jv_link.proofs.Placed.{method_placed}
use Rattle.jv_link.specs.Seen.{place_of}
use Rattle.jv_lines.specs.Lines.{line_at}
use Rattle.jv_pool.specs.Constants.{Entry, utf8_at}
use Rattle.jv_links.proofs.Answered.{method_there}
use Rattle.jv_links.proofs.Blocked.{block_is, not_lacking}
use Rattle.jv_links.specs.Inside.Walked.{AreToldIn}
use Rattle.jv_links.proofs.block.block_of.Goals as goal

pub returns-in_default : goal.returns-in_default
returns-in_default c = λ s at those exactly.
    let world = c.args.classes.now.world in
    let site = c.args.site in
    absurd (not_lacking c.args.file.now s site.method (c.requires.file s.by (method_placed world (place_of site) s at)) (method_there world site s at)
    (sym (ap (option_map seen_method) c.in_default.is) ∙ c.method.ensures.shown))

pub returns : goal.returns
returns c =
    let world = c.args.classes.now.world in
    let site = c.args.site in
    let file = c.args.file.now in
    let method = c.in-Some.method in
    IfOk-weaker c.headed.result _ _
    (λ text h. λ s at. block_is world site s (line_at c.args.lines.now site.method) file (seen_method method) c.utf8-2.result.now c.utf8-2-2.result.now
    (string_bytes c.in_ok-references.references) (string_bytes text) at
    (c.requires.file s.by (method_placed world (place_of site) s at)) (method_there world site s at) (sym (ap (option_map seen_method) c.in-Some.is) ∙ c.method.ensures.shown)
    (ap (λ (p : List Entry). utf8_at p method.name.0) (sym c.pool-pool.ensures) ∙ c.utf8-2.ensures)
    (ap (λ (p : List Entry). utf8_at p method.descriptor.0) (sym c.pool-pool.ensures) ∙ c.utf8-2-2.ensures)
    (subst (λ (p : List Entry). AreToldIn world site p (line_at c.args.lines.now site.method) (seen_method method).code (string_bytes c.in_ok-references.references)) c.pool-pool.ensures
    c.in_ok-references.ensures) h)
    c.headed.ensures
