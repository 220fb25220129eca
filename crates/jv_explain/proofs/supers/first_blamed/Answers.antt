use Rattle.std.proofs.Common.{arith, ◌≡◌, ◌+◌, ◌≤◌, [], Some, List, ℕ, map, drop, length, get_or, refl, sym, ap, subst, ◌∙◌}
use Rattle.std.proofs.lemmas.Option.{slice_get_read}
use Rattle.std.proofs.Math.ListN.{drop_of_length-le}
use Rattle.jv_meaning_world.specs.World.{Loaded}
use Rattle.jv_meaning_world.proofs.Lists.{drop_one_more}
use Rattle.jv_explain.specs.Inside.Blamed.{blamed_among, blamed_in}
use Rattle.jv_explain.specs.Supers.{line_text, superinterface}
use Rattle.jv_explain.proofs.Blaming.{found_first, passed_over, same_there}
use Rattle.jv_explain.proofs.supers.first_blamed.Goals as goal

pub returns-in-Some-super_fault-2 : goal.returns-in-Some-super_fault-2
returns-in-Some-super_fault-2 c = λ l here.
    let world = c.args.table.now in
    let own = c.index-classes-class.result in
    let read = subst (λ (w : List Loaded). own ≡ get_or w c.args.class own) c.classes.ensures c.index-classes-class.is in
    let at = slice_get_read world (length world) c.args.class own refl c.requires read in
    let name = c.interface_name-name.result.now in
    let among = λ (xs : List (List ℕ)). blamed_among world own c.args.why (map superinterface xs) in
    subst (λ (x : Loaded). line_text (superinterface name) (Some c.in-Some-super_fault-2.fault) ≡ blamed_in world x c.args.why) (same_there world c.args.class own l at here)
    (sym (c.loop-place.invariant own at ∙ ap among (drop_one_more own.class.interfaces c.loop-place.place name c.interface_name-name.ensures)
    ∙ found_first world own c.args.why (superinterface name) _ c.in-Some-super_fault-2.fault
    (sym (c.super_fault-in-loop-place.ensures own at) ∙ c.in-Some-super_fault-2.is)))

pub loop-place-preserved : goal.loop-place-preserved
loop-place-preserved c = λ l here.
    let world = c.args.table.now in
    let own = c.index-classes-class.result in
    let read = subst (λ (w : List Loaded). own ≡ get_or w c.args.class own) c.classes.ensures c.index-classes-class.is in
    let at = slice_get_read world (length world) c.args.class own refl c.requires read in
    let name = c.interface_name-name.result.now in
    let among = λ (xs : List (List ℕ)). blamed_among world own c.args.why (map superinterface xs) in
    subst (λ (x : Loaded). blamed_in world x c.args.why ≡ blamed_among world x c.args.why (map superinterface (drop (c.loop-place.place + 1) x.class.interfaces)))
    (same_there world c.args.class own l at here)
    (c.loop-place.invariant own at ∙ ap among (drop_one_more own.class.interfaces c.loop-place.place name c.interface_name-name.ensures)
    ∙ passed_over world own c.args.why (superinterface name) _ (sym (c.super_fault-in-loop-place.ensures own at) ∙ c.in_default-super_fault-2.is))

pub returns : goal.returns
returns c = λ l here.
    let world = c.args.table.now in
    let own = c.index-classes-class.result in
    let read = subst (λ (w : List Loaded). own ≡ get_or w c.args.class own) c.classes.ensures c.index-classes-class.is in
    let at = slice_get_read world (length world) c.args.class own refl c.requires read in
    let end : length own.class.interfaces ≤ c.loop-place.place = omega (arith, c.loop-place-test.false, c.interface_count-place-end.ensures) in
    subst (λ (x : Loaded). [] ≡ blamed_in world x c.args.why) (same_there world c.args.class own l at here)
    (sym (c.loop-place.invariant own at ∙ ap (λ (xs : List (List ℕ)). blamed_among world own c.args.why (map superinterface xs))
    (drop_of_length-le own.class.interfaces end)))
