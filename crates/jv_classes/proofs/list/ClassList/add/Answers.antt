use Rattle.std.proofs.Common.{◌≡◌, ◌∙◌, ap, sym, subst, ◌++◌, ◌∷◌, [], None}
use Rattle.jv_meaning_world.specs.Numbers.{number_named, IsNumbered, AreNoArrays}
use Rattle.jv_classes.specs.Inside.KeptNames.{texts_of}
use Rattle.jv_classes.specs.Inside.Listed.{names_of}
use Rattle.jv_classes.proofs.Listing.{key_more, numbered_more, no_arrays_more}
use Rattle.jv_classes.proofs.list.ClassList.add.Goals as goal

pub invariant_of-self-2 : goal.invariant_of-self-2
invariant_of-self-2 c =
    let ls = c.self.inside.classes.items in
    let free : number_named ls c.args.class.class.name ≡ None = subst (λ w. number_named w c.args.class.class.name ≡ None) (sym c.self.view_is) c.requires in
    let items = c.push_reserved.ensures.items ∙ ap (λ xs. xs ++ c.args.class ∷ []) c.reserve.ensures.items in (
      ap texts_of c.in_ok-insert.ensures.keys
          ∙ (key_more c.self.inside.names.keys ls c.self.invariant.0 c.name.result c.args.class c.name.ensures free ∙ ap names_of (sym items)),
      subst IsNumbered (sym items) (numbered_more ls c.args.class free c.self.invariant.1),
      subst AreNoArrays (sym items) (no_arrays_more ls c.args.class c.is_no_array.ensures c.self.invariant.2),
    )
