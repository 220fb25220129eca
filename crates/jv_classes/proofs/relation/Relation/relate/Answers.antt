use Rattle.std.proofs.Common.{◌∙◌, sym, ap, subst, refl, arith}
use Rattle.std.proofs.Common.{true, length, ◌<◌}
use Rattle.jv_classes.specs.Ways.{IsSquare, with_pair}
use Rattle.jv_classes.specs.Inside.Steps.{rows_of}
use Rattle.std.specs.Vec.{with_item}
use Rattle.jv_classes.proofs.RelationRows.{row_length, rows_length, row_written, square_with_pair}
use Rattle.jv_classes.proofs.relation.Relation.relate.Goals as goal

pub index_mut-requires-2 : goal.index_mut-requires-2
index_mut-requires-2 c =
    let rows = c.self.inside.rows.items in
    let many = rows_length c.args.self.now rows c.self.view_is in
    let long = row_length rows c.args.from c.index_mut.result.now c.self.invariant (omega (arith, many, c.requires.from)) c.index_mut.ensures.value in
    omega (arith, many, long, c.requires.to, c.index_mut.result.now.ok.0)

pub invariant_of-self : goal.invariant_of-self
invariant_of-self c =
    let rows = c.self.inside.rows.items in
    let many = rows_length c.args.self.now rows c.self.view_is in
    let within : c.args.from < length rows = omega (arith, many, c.requires.from) in
    let wrote = row_written rows c.args.from c.index_mut.result.now (with_item c.index_mut.result.now c.args.to true) c.args.to within c.index_mut.ensures.value refl in
    subst IsSquare (sym wrote) (square_with_pair (rows_of rows) c.args.from c.args.to c.self.invariant (subst (λ r. c.args.from < length r) (sym c.self.view_is) c.requires.from))

pub returns : goal.returns
returns c =
    let rows = c.self.inside.rows.items in
    let many = rows_length c.args.self.now rows c.self.view_is in
    let within : c.args.from < length rows = omega (arith, many, c.requires.from) in
    let wrote = row_written rows c.args.from c.index_mut.result.now (with_item c.index_mut.result.now c.args.to true) c.args.to within c.index_mut.ensures.value refl in
    wrote ∙ ap (λ r. with_pair r c.args.from c.args.to) c.self.view_is
