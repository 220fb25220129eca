use Rattle.std.specs.Prelude.{IsTrue, nat_eq, ◌↔◌, map}
use Rattle.std.proofs.Common.{ℕ, List, sym, subst}
use Rattle.std.specs.List.{AllZip, IsDistinct}
use Rattle.jv_class_structure.specs.Parts.{methods_of}
use Rattle.jv_class.specs.Inside.Reading.{IsMethodKey}
use Rattle.jv_class.specs.Rules.{NoTwoAlike}
use Rattle.jv_class.specs.Inside.Shown.{shown_method_texts}
use Rattle.jv_class.proofs.Kept.{if_ok_same}
use Rattle.jv_class.proofs.Keys.{unlike_methods}
use Rattle.jv_class.proofs.alike.methods_are_unlike.Goals as goal

pub returns-clause-ok : goal.returns-clause-ok
returns-clause-ok c =
    let class = c.args.parts.now in
    if_ok_same c.all_differ.result (λ differ. IsTrue differ ↔ IsDistinct nat_eq c.deref.result.now)
    (λ unlike. IsTrue unlike ↔ NoTwoAlike (map (shown_method_texts class.constant_pool) (methods_of class)))
    (unlike_methods class c.deref.result.now (subst (λ (ks : List ℕ). AllZip (IsMethodKey class.constant_pool) (methods_of class) ks) (sym c.deref.ensures.value) c.in_ok-keys.ensures.ok) c.requires)
    c.all_differ.ensures.ok
