use Rattle.std.proofs.Common.{◌∙◌, sym}
use Rattle.jv_pool.proofs.Listing.{constant_found, finds_constant}
use Rattle.jv_pool.proofs.reading.constant_at.Goals as goal

pub returns : goal.returns
returns c =
    finds_constant c.args.bytes.now c.contents_at.result
    (c.contents_at.ensures ∙ sym (constant_found c.args.bytes.now c.in-Some.rest.now c.in-Some.tag c.shape_of.result c.in-Some.ensures (sym c.shape_of.ensures)))
