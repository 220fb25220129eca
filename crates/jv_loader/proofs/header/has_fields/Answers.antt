use Rattle.std.proofs.Common.{◌∙◌, Some, ap, sym, map, arith}
use Rattle.std.proofs.lemmas.Bool.{false≢true}
use Rattle.std.proofs.lemmas.List.{length-map}
use Rattle.jv_loader.specs.Inside.Headers.{field_in, field_of, member_of}
use Rattle.jv_loader.proofs.Comparing.{always, never, row_at, same_all, same_next, seen_at, unlike_at}
use Rattle.jv_loader.proofs.header.has_fields.Goals as goal

pub loop-place-preserved : goal.loop-place-preserved
loop-place-preserved c =
    let own = c.args.class.now.class.fields in
    let same = c.is_field.ensures.0 c.if-not-is_field.false in
    same_next (map field_of own) (map field_in c.args.fields.now) c.loop-place.place (member_of c.field.result) c.loop-place.invariant
    (seen_at own c.loop-place.place c.field.result c.field.ensures) (row_at field_in c.args.fields.now c.loop-place.place _ c.loop-place-test.true ∙ ap (λ f. Some f) (sym same))

pub returns-then-not-is_field : goal.returns-then-not-is_field
returns-then-not-is_field c =
    let own = c.args.class.now.class.fields in
    never (unlike_at (map field_of own) (map field_in c.args.fields.now) c.loop-place.place (member_of c.field.result) _
    (seen_at own c.loop-place.place c.field.result c.field.ensures) (row_at field_in c.args.fields.now c.loop-place.place _ c.loop-place-test.true)
    (λ same. false≢true (sym c.if-not-is_field.true ∙ c.is_field.ensures.1 same)))

pub returns : goal.returns
returns c =
    let own = c.args.class.now.class.fields in
    let here = length-map own field_of in
    let there = length-map c.args.fields.now field_in in
    always (same_all (map field_of own) (map field_in c.args.fields.now) c.loop-place.place
    (omega (arith, here, c.field_count.ensures, c.if-field_count-fields.false, c.loop-place-test.false)) (omega (arith, there, c.loop-place-test.false))
    c.loop-place.invariant)
