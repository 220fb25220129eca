use Rattle.std.proofs.Common.{◌∙◌, [], Some, ap, sym, arith}
use Rattle.std.specs.Str.{bytes_eq}
use Rattle.std.proofs.lemmas.List.{length-map}
use Rattle.jv_classes.specs.Inside.KeptNames.{text_of, texts_of}
use Rattle.jv_meaning_world.proofs.Up.{same_name}
use Rattle.jv_loader.proofs.Comparing.{always, never, same_all, same_next, texts_differ, unlike_at, unturned}
use Rattle.jv_loader.proofs.Hosting.{text_at}
use Rattle.jv_loader.proofs.header.has_interfaces.Goals as goal

pub loop-place-preserved : goal.loop-place-preserved
loop-place-preserved c =
    let own = c.interface_name.result.now in
    let there = text_at c.args.interfaces.now c.loop-place.place (record { ref_ptr = (0, 0); now = [] }) c.loop-place-test.true in
    let same = same_name own _ (unturned (bytes_eq own _) (sym c.ne.ensures ∙ c.if-ne.false)) in
    same_next c.args.class.now.class.interfaces (texts_of c.args.interfaces.now) c.loop-place.place own c.loop-place.invariant c.interface_name.ensures
    (there ∙ ap (λ n. Some n) (sym same))

pub returns-then-ne : goal.returns-then-ne
returns-then-ne c =
    let there = text_at c.args.interfaces.now c.loop-place.place (record { ref_ptr = (0, 0); now = [] }) c.loop-place-test.true in
    never (unlike_at c.args.class.now.class.interfaces (texts_of c.args.interfaces.now) c.loop-place.place c.interface_name.result.now _ c.interface_name.ensures
    there (texts_differ c.interface_name.result.now _ (sym c.ne.ensures ∙ c.if-ne.true)))

pub returns : goal.returns
returns c =
    let many = length-map c.args.interfaces.now text_of in
    always (same_all c.args.class.now.class.interfaces (texts_of c.args.interfaces.now) c.loop-place.place
    (omega (arith, c.interface_count.ensures, c.if-interface_count-interfaces.false, c.loop-place-test.false)) (omega (arith, many, c.loop-place-test.false))
    c.loop-place.invariant)
