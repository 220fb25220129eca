use Rattle.std.proofs.Common.{rules, ◌≡◌, ◌+◌, ◌<◌, ◌≤◌, Some, None, List, ℕ, drop, length, get_or, refl, sym, ap, subst, ◌∙◌}
use Rattle.std.specs.Prelude.{slice_get}
use Rattle.std.proofs.lemmas.Option.{slice_get-get_or, slice_get_read}
use Rattle.std.proofs.Math.ListN.{drop_of_length-le}
use Rattle.jv_classes.specs.Members.{IsMethod}
use Rattle.jv_meaning_world.specs.Above.{superclasses}
use Rattle.jv_meaning_world.specs.Numbers.{classes_at}
use Rattle.jv_meaning_world.specs.World.{Loaded}
use Rattle.jv_meaning_world.proofs.Lists.{drop_one_more}
use Rattle.jv_explain.specs.Finals.{broken_among, broken_in, broken_text, final_line}
use Rattle.jv_explain.proofs.Blaming.{same_there}
use Rattle.jv_explain.proofs.BrokenFinals.{broken_here, broken_later, line_same, of_some}
use Rattle.jv_explain.proofs.finals.first_broken.Goals as goal

pub loop-k-init : goal.loop-k-init
loop-k-init c = λ l at. sym (ap (broken_among l) (c.superclasses-above.ensures.found l at))

pub returns-in-Some : goal.returns-in-Some
returns-in-Some c = λ l at.
    let world = c.args.table.now in
    let above = c.superclasses-above.result.now in
    let k = c.loop-k.k in
    let number = c.from-number.result in
    let own = c.index-all-class.result in
    let of = c.index-all-number.result in
    let member = c.method.result in
    let own_read = subst (λ (w : List Loaded). own ≡ get_or w c.args.class own) c.classes-all.ensures c.index-all-class.is in
    let own_at = slice_get_read world (length world) c.args.class own refl c.requires own_read in
    let less : k < length above = search rules in
    let there : slice_get above k ≡ Some number = slice_get-get_or above k 0 less ∙ ap (λ (n : ℕ). Some n) (sym c.from-number.ensures) in
    let within : number < length world = subst (λ (n : ℕ). n < length world) (sym c.from-number.ensures) (c.superclasses-above.ensures.numbers k 0 less) in
    let of_read = subst (λ (w : List Loaded). of ≡ get_or w number of) c.classes-all.ensures c.index-all-number.is in
    let of_at = slice_get_read world (length world) number of refl within of_read in
    let (m, has, is) = of_some (slice_get of.class.methods c.in-Some.place) (IsMethod member) c.method.ensures in
    let broken : broken_in own of ≡ Some m = sym (c.in-Some.ensures {u = tt}).found ∙ has in
    subst (λ (x : Loaded). final_line member.name.now member.descriptor.now c.name.result.now ≡ broken_text (broken_among x (superclasses world x.class)))
    (same_there world c.args.class own l own_at at)
    (line_same of member m c.name.result.now is c.name.ensures
    ∙ sym (ap broken_text (c.loop-k.invariant own own_at
    ∙ (ap (λ (ns : List ℕ). broken_among own (classes_at world ns)) (drop_one_more above k number there)
    ∙ broken_here world own of number (drop (k + 1) above) of_at m broken))))

pub loop-k-preserved : goal.loop-k-preserved
loop-k-preserved c = λ l at.
    let world = c.args.table.now in
    let above = c.superclasses-above.result.now in
    let k = c.loop-k.k in
    let number = c.from-number.result in
    let own = c.index-all-class.result in
    let of = c.index-all-number.result in
    let own_read = subst (λ (w : List Loaded). own ≡ get_or w c.args.class own) c.classes-all.ensures c.index-all-class.is in
    let own_at = slice_get_read world (length world) c.args.class own refl c.requires own_read in
    let less : k < length above = search rules in
    let there : slice_get above k ≡ Some number = slice_get-get_or above k 0 less ∙ ap (λ (n : ℕ). Some n) (sym c.from-number.ensures) in
    let within : number < length world = subst (λ (n : ℕ). n < length world) (sym c.from-number.ensures) (c.superclasses-above.ensures.numbers k 0 less) in
    let of_read = subst (λ (w : List Loaded). of ≡ get_or w number of) c.classes-all.ensures c.index-all-number.is in
    let of_at = slice_get_read world (length world) number of refl within of_read in
    let none : broken_in own of ≡ None = sym (c.in_default.ensures {u = tt}).found in
    subst (λ (x : Loaded). broken_among x (superclasses world x.class) ≡ broken_among x (classes_at world (drop (k + 1) above)))
    (same_there world c.args.class own l own_at at)
    (c.loop-k.invariant own own_at
    ∙ (ap (λ (ns : List ℕ). broken_among own (classes_at world ns)) (drop_one_more above k number there)
    ∙ broken_later world own of number (drop (k + 1) above) of_at none))

pub returns : goal.returns
returns c = λ l at.
    let world = c.args.table.now in
    let above = c.superclasses-above.result.now in
    let end : length above ≤ c.loop-k.k = search rules in
    sym (ap broken_text (c.loop-k.invariant l at ∙ ap (λ (ns : List ℕ). broken_among l (classes_at world ns)) (drop_of_length-le above end)))
