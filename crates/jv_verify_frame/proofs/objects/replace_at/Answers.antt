use Rattle.std.proofs.Common.{◌≡◌, ◌≤◌, ◌==◌, ◌∙◌, None, length, ap, sym, arith}
use Rattle.std.specs.Prelude.{slice_get}
use Rattle.std.specs.Option.{option_map}
use Rattle.std.proofs.lemmas.Bool.{eqb-false}
use Rattle.std.proofs.lemmas.Option.{slice_get_past}
use Rattle.jv_verify_frame.specs.Inside.Swapped.{swapped}
use Rattle.jv_verify_frame.proofs.Noting.{set_other}
use Rattle.jv_verify_frame.proofs.objects.replace_at.Goals as goal

pub returns-then-place-items-clause-others : goal.returns-then-place-items-clause-others
returns-then-place-items-clause-others c = λ k e.
    set_other c.args.items.now c.from-place.result c.swapped.result k (eqb-false c.from-place.result k (ap (λ p. p == k) c.from-place.ensures ∙ e))

pub returns-else-place-items-clause-at : goal.returns-else-place-items-clause-at
returns-else-place-items-clause-at c =
    let past : length c.args.items.now ≤ c.args.place = omega (arith, c.if-place-items.false, c.from-place.ensures) in
    let none : slice_get c.args.items.now c.args.place ≡ None = slice_get_past c.args.items.now c.args.place past in
    none ∙ ap (option_map (swapped c.args.object c.args.by)) (sym none)
