use Rattle.std.proofs.Common.{◌∙◌, ap, refl, sym}
use Rattle.std.specs.Prelude.{slice_get}
use Rattle.std.specs.List.{position}
use Rattle.std.proofs.lemmas.Option.{slice_get_read}
use Rattle.jv_verify_wants.specs.Inside.Allowed.{is_open_of}
use Rattle.jv_verify_wants.proofs.Among.{first_found, found_at}
use Rattle.jv_verify_wants.proofs.variable.Variable.place_of.Goals as goal

pub returns-then-len-le-FEW : goal.returns-then-len-le-FEW
returns-then-len-le-FEW c =
    first_found c.args.self.now.wants.items c.args.item c.args.offset c.place_among.result
    (c.place_among.ensures ∙ ap (position (is_open_of c.args.item c.args.offset)) c.deref.ensures.value)

pub returns-then-is_open_of : goal.returns-then-is_open_of
returns-then-is_open_of c =
    let place = c.in_ok-place.field-0.now in
    let read = c.in_ok-want.ensures.lookup in
    found_at c.args.self.now.wants.items place c.args.item c.args.offset c.in_ok-want.field-0.now
    (ap (λ ws. slice_get ws place) (sym c.deref-2.ensures.value) ∙ slice_get_read c.deref-2.result.now _ place _ refl read.3.0 read.1)
    (sym c.is_open_of.ensures ∙ c.if-is_open_of.true)
