use Rattle.std.proofs.Common.{◌≡◌, ◌∙◌, ◌<◌, Some, length, ap, sym, subst, take, rules}
use Rattle.std.specs.Prelude.{slice_get}
use Rattle.std.proofs.lemmas.Option.{slice_get-get_or}
use Rattle.jv_meaning_world.specs.World.{Loaded}
use Rattle.jv_meaning_world.specs.Numbers.{number_named, IsNumbered}
use Rattle.jv_classes.proofs.Listing.{free_in_front}
use Rattle.jv_classes.proofs.list.ClassList.shared.Goals as goal

pub add-requires : goal.add-requires
add-requires c =
    let classes = c.deref-class-items.result.now in
    let numbers : IsNumbered classes = subst IsNumbered (sym c.deref-class-items.ensures.value) c.self.invariant.1 in
    let place = c.loop-class.class-index in
    let within : place < length classes = search rules in
    let at : slice_get classes place ≡ Some c.class-item.result =
    slice_get-get_or classes place c.class-item.result within ∙ ap (λ l. Some l) (sym c.class-item.is) in
    ap (λ world. number_named world c.in_ok-clone.field-0.class.name) c.loop-class.invariant
    ∙ (ap (λ (l : Loaded). number_named (take place classes) l.class.name) c.in_ok-clone.ensures.cases
    ∙ free_in_front classes numbers place c.class-item.result at)
