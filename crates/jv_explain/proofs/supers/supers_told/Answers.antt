use Rattle.std.proofs.Common.{◌≡◌, ◌++◌, None, sym, ap, ◌∙◌}
use Rattle.std.specs.Prelude.{string_bytes}
use Rattle.jv_meaning_world.specs.Numbers.{number_named}
use Rattle.jv_meaning_world.specs.World.{class_named}
use Rattle.jv_classes.proofs.Told.{stands_at}
use Rattle.jv_explain.specs.Finals.{finals_text}
use Rattle.jv_explain.specs.Supers.{supers_text}
use Rattle.jv_explain.proofs.Blaming.{no_class}
use Rattle.jv_explain.proofs.supers.supers_told.Goals as goal

pub returns-in_default : goal.returns-in_default
returns-in_default c =
    let world = c.args.classes.now.world in
    let name = c.args.name.now in
    let none : number_named world name ≡ None = ap (λ w. number_named w name) (sym c.table-table.ensures) ∙ (sym c.find.ensures ∙ c.in_default.is) in
    c.new.ensures.bytes ∙ sym (ap (supers_text world c.args.why) (no_class world name none))

pub returns : goal.returns
returns c =
    let table = c.table-table.result.now in
    let name = c.args.name.now in
    let why = c.args.why in
    let (to, there, named) = stands_at table name c.in-Some.class (sym c.find.ensures ∙ c.in-Some.is) in
    c.in_ok-push_str.ensures.bytes
    ∙ (ap (λ t. string_bytes c.in_ok-text.text ++ t) (c.deref.ensures ∙ c.in_ok-finals.ensures to there)
    ∙ (ap (λ t. t ++ finals_text table why to) (c.in_ok-text.ensures to there)
    ∙ (sym (ap (supers_text table why) named) ∙ ap (λ w. supers_text w why (class_named w name)) c.table-table.ensures)))
