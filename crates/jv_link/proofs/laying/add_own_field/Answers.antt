use Rattle.jv_link.proofs.Fields.{laid_more}
use Rattle.std.proofs.Common.{◌∙◌, ap, codes, sym}
use Rattle.std.specs.Str.{bytes_eq}
use Rattle.jv_link.proofs.laying.add_own_field.Goals as goal

pub returns-clause-laid : goal.returns-clause-laid
returns-clause-laid c = λ d ds at laid.
    let field = c.field_at-field.ensures d at in
    laid_more c.args.table.now c.args.layout.now c.add_field.new.layout c.args.place d ds c.is_long.result c.field_at-field.result.access_flags at
    c.in_ok-add_field.ensures.fields c.in_ok-add_field.ensures.words
    (c.is_long.ensures ∙ ap (λ t. bytes_eq t (codes "J")) field.descriptor) field.access_flags (sym (c.intersects.ensures tt) ∙ c.if-intersects.false) laid
