-- The class of an object, by the first word of its block.
use Rattle.std.proofs.Common.{◌≡◌, ℕ, ◌<◌, ◌≤◌, List, ◌∷◌, Option, Some, None, Ok, length, refl, sym, ap, subst, ◌∙◌, get_or, arith, slice_get}
use Rattle.std.specs.Prelude.{IsTrue}
use Rattle.std.proofs.lemmas.Grind.{common_steps}
use Rattle.jv_meaning_world.specs.World.{Loaded, World, class_named}
use Rattle.jv_meaning_world.specs.Verdicts.{is_loadable}
use Rattle.jv_meaning_machine.specs.Faults.{OrFault, found}
use Rattle.jv_meaning_machine.specs.Faults.Fault.{ReferenceFault}
use Rattle.jv_meaning_machine.specs.Objects.{Object, Instance}
use Rattle.jv_meaning_machine.specs.Objects.Object.{InstanceOf, ArrayWith}
use Rattle.jv_meaning_machine.specs.Calls.{class_of_object}
use Rattle.jv_link.specs.Objects.{object_class_at, IsObject}
use Rattle.jv_link_cache.proofs.Eachwise.{within_list}
use Rattle.jv_interp_words.proofs.Gave.{bound_gave, found_gave}
use Rattle.jv_interp_heap.specs.ObjectsInBlocks.{ObjectStands}
use Rattle.jv_interp_members.specs.Resolved.{class_number}
use Rattle.jv_interp_members.proofs.Sites.{some_same}

pub number_below : (word : ℕ) → word < 2147483648 → class_number word ≡ Some word
number_below word h = grind (arith, common_steps)

pub number_above : (word : ℕ) → 2147483648 ≤ word → class_number word ≡ None
number_above word h = grind (arith, common_steps)

ok_same : (a b : Option Loaded) → ◌≡◌ {A = OrFault (Option Loaded)} (Ok a) (Ok b) → a ≡ b
ok_same a b e = cc

-- the block has a first word, by which the class is known
pub record HasClass (world : World) (object : Object) (class : Option Loaded) (block : List ℕ) : Type 0 where
  pub some : 0 < length block
  pub class_is : object_class_at world (class_number (get_or block 0 0)) ≡ class
  pub loadable :
      ((instance : Instance) (l : Loaded) → object ≡ InstanceOf instance → class_named world instance.class ≡ Some l → IsTrue (is_loadable world l))
      → IsObject world (class_number (get_or block 0 0))

of_class :
    (world : World) (instance : Instance) (l : Loaded) (number : ℕ) (block fields : List ℕ) → class_named world instance.class ≡ Some l
    → slice_get world number ≡ Some l → number < 2147483648 → block ≡ number ∷ fields → HasClass world (InstanceOf instance) (Some l) block
of_class world instance l number block fields named at few is =
    subst (λ (b : List ℕ). HasClass world (InstanceOf instance) (Some l) b) (sym is)
    (record {
      some = omega arith;
      class_is = ap (object_class_at world) (number_below number few) ∙ at;
      loadable =
          λ can.
          subst (λ (o : Option ℕ). IsObject world o) (sym (number_below number few))
          (record {
            class = within_list world number l at;
            loadable = λ m there. can instance m refl (named ∙ sym at ∙ there);
          });
    })

pub has_class :
    (world : World) (addresses : List ℕ) (object : Object) (class : Option Loaded) (block : List ℕ) → ObjectStands world addresses object block
    → class_of_object world object ≡ Ok class → HasClass world object class block
has_class world addresses (InstanceOf instance) class block stands e =
    let l = bound_gave (found ReferenceFault (class_named world instance.class)) (λ (l : Loaded). Ok (Some l)) class e in
    let named = found_gave ReferenceFault (class_named world instance.class) l.0 l.1 in
    let same : l.0 ≡ stands.class.l = some_same l.0 stands.class.l (sym named ∙ stands.class.named) in
    let is : class ≡ Some stands.class.l = sym (ok_same (Some l.0) class l.2) ∙ ap Some same in
    subst (λ (o : Option Loaded). HasClass world (InstanceOf instance) o block) (sym is)
    (of_class world instance stands.class.l stands.number block stands.fields stands.class.named stands.class.at stands.few stands.words_are)
has_class world addresses (ArrayWith components values) class block stands e =
    let is : None ≡ class = ok_same None class e in
    let large : 2147483648 ≤ stands.word = let w = stands.type.is in omega (arith, w) in
    subst (λ (o : Option Loaded). HasClass world (ArrayWith components values) o block) is
    (subst (λ (b : List ℕ). HasClass world (ArrayWith components values) None b) (sym stands.words_are)
    (record {
      some = omega arith;
      class_is = ap (object_class_at world) (number_above stands.word large);
      loadable = λ can. subst (λ (o : Option ℕ). IsObject world o) (sym (number_above stands.word large)) tt;
    }))
