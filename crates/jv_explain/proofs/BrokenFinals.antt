-- The first final method of a superclass that a class overrides itself.
use Rattle.std.proofs.Common.{◌≡◌, ℕ, ◌+◌, Bool, true, false, cond, List, ◌∷◌, Option, Some, None, refl, sym, ap, ◌∙◌}
use Rattle.std.specs.Prelude.{◌&&◌, ◌||◌, not, slice_get, if◌then◌else◌}
use Rattle.std.specs.List.{cons_option, find}
use Rattle.std.specs.Option.{IsSomeAnd, option_map, option_or}
use Rattle.jv_text.specs.Name.{is_init}
use Rattle.jv_class_structure.specs.Flags.{has, acc_final, acc_private, acc_protected, acc_public, acc_static}
use Rattle.jv_class.specs.Class.{Method, method_named}
use Rattle.jv_classes.specs.Members.{IsMethod}
use Rattle.jv_classes.specs.declared.member.Member.{Member}
use Rattle.jv_meaning_world.specs.Numbers.{classes_at}
use Rattle.jv_meaning_world.specs.Overriding.{alike_in, declared_if, is_instance, overrides_itself}
use Rattle.jv_meaning_world.specs.Verdicts.{declared_by, is_final_instance}
use Rattle.jv_meaning_world.specs.World.{Loaded, World, same_package}
use Rattle.jv_explain.specs.Finals.{breaks_itself, broken_among, broken_in, broken_text, final_line, overridden_by}
use Rattle.jv_lookups.specs.Inside.Steps.{as_method}

pub some_and : {X : Type 0} (o : Option X) (P Q : X → Type 0) → IsSomeAnd o P → ((x : X) → o ≡ Some x → P x → Q x) → IsSomeAnd o Q
some_and None P Q h f = absurd h
some_and (Some x) P Q h f = f x refl h

pub of_some : {X : Type 0} (o : Option X) (P : X → Type 0) → IsSomeAnd o P → (x : X) × (o ≡ Some x) × P x
of_some None P h = absurd h
of_some (Some x) P h = (x, refl, h)

-- ---- of a method its flags and its texts matter

module _ (member : Member) (m : Method) (is : IsMethod member m) where
  instance_same : is_instance (as_method member) ≡ is_instance m
  instance_same =
      ap (λ (f : ℕ). not (has f acc_static) && not (is_init member.name.now)) is.access_flags
      ∙ ap (λ (n : List ℕ). not (has m.access_flags acc_static) && not (is_init n)) is.name

  final_same : is_final_instance (as_method member) ≡ is_final_instance m
  final_same =
      ap (λ (f : ℕ). has f acc_final && is_instance (as_method member)) is.access_flags
      ∙ ap (λ (b : Bool). has m.access_flags acc_final && b) instance_same

itself_same : (l s : Loaded) (member other : Member) (d m : Method) → IsMethod member d → IsMethod other m
    → overrides_itself (declared_by l (as_method member)) (declared_by s (as_method other)) ≡ overrides_itself (declared_by l d) (declared_by s m)
itself_same l s member other d m is also =
    ap (λ (f : ℕ). not (has f acc_private)
    && (has other.access_flags (acc_public + acc_protected) || (not (has other.access_flags (acc_public + acc_protected + acc_private)) && same_package l s))) is.access_flags
    ∙ ap (λ (f : ℕ). not (has d.access_flags acc_private)
    && (has f (acc_public + acc_protected) || (not (has f (acc_public + acc_protected + acc_private)) && same_package l s))) also.access_flags

-- ---- whether a method is broken

module _ (l s : Loaded) (member : Member) (m : Method) (is : IsMethod member m) where
  pub not_final : false ≡ is_final_instance (as_method member) → false ≡ breaks_itself l s m
  not_final e = ap (λ (b : Bool). b && overridden_by (declared_by s m) (alike_in l m)) (e ∙ final_same member m is)

  named : method_named l.class member.name.now member.descriptor.now ≡ method_named l.class m.name m.descriptor
  named =
      ap (λ (n : List ℕ). method_named l.class n member.descriptor.now) is.name ∙ ap (λ (t : List ℕ). method_named l.class m.name t) is.descriptor

  by_own : (o : Option Method) → method_named l.class member.name.now member.descriptor.now ≡ o → true ≡ is_final_instance (as_method member)
      → overridden_by (declared_by s m) (declared_if l o) ≡ breaks_itself l s m
  by_own o e final =
      ap (λ (x : Option Method). overridden_by (declared_by s m) (declared_if l x)) (sym e ∙ named)
      ∙ ap (λ (b : Bool). b && overridden_by (declared_by s m) (alike_in l m)) (final ∙ final_same member m is)

  pub none_named : method_named l.class member.name.now member.descriptor.now ≡ None → true ≡ is_final_instance (as_method member) → false ≡ breaks_itself l s m
  none_named e final = by_own None e final

  module _ (found : Member) (d : Method) (also : IsMethod found d) (e : method_named l.class member.name.now member.descriptor.now ≡ Some d)
      (final : true ≡ is_final_instance (as_method member)) where
    pub no_instance : false ≡ is_instance (as_method found) → false ≡ breaks_itself l s m
    no_instance off =
        ap (λ (b : Bool). overridden_by (declared_by s m) (if b then Some (declared_by l d) else None)) (off ∙ instance_same found d also) ∙ by_own (Some d) e final

    pub itself : true ≡ is_instance (as_method found)
        → overrides_itself (declared_by l (as_method found)) (declared_by s (as_method member)) ≡ breaks_itself l s m
    itself on =
        itself_same l s found member d m also is
        ∙ (ap (λ (b : Bool). overridden_by (declared_by s m) (if b then Some (declared_by l d) else None)) (on ∙ instance_same found d also) ∙ by_own (Some d) e final)

-- ---- the first

pub found_here : {X : Type 0} (test : X → Bool) (x : X) (rest : List X) → test x ≡ true → find test (x ∷ rest) ≡ Some x
found_here test x rest e = ap (λ (b : Bool). cond b (Some x) (find test rest)) e

pub passed_here : {X : Type 0} (test : X → Bool) (x : X) (rest : List X) → test x ≡ false → find test (x ∷ rest) ≡ find test rest
passed_here test x rest e = ap (λ (b : Bool). cond b (Some x) (find test rest)) e

module _ (world : World) (l s : Loaded) (number : ℕ) (more : List ℕ) (at : slice_get world number ≡ Some s) where
  one_more : classes_at world (number ∷ more) ≡ s ∷ classes_at world more
  one_more = ap (λ (o : Option Loaded). cons_option o (classes_at world more)) at

  pub broken_here : (m : Method) → broken_in l s ≡ Some m → broken_among l (classes_at world (number ∷ more)) ≡ Some (declared_by s m)
  broken_here m e =
      ap (broken_among l) one_more ∙ ap (λ (o : Option Method). option_or (option_map (declared_by s) o) (broken_among l (classes_at world more))) e

  pub broken_later : broken_in l s ≡ None → broken_among l (classes_at world (number ∷ more)) ≡ broken_among l (classes_at world more)
  broken_later e =
      ap (broken_among l) one_more ∙ ap (λ (o : Option Method). option_or (option_map (declared_by s) o) (broken_among l (classes_at world more))) e

-- a line with what a member shows is that of its method
pub line_same : (s : Loaded) (member : Member) (m : Method) (class : List ℕ) → IsMethod member m → class ≡ s.class.name
    → final_line member.name.now member.descriptor.now class ≡ broken_text (Some (declared_by s m))
line_same s member m class is named =
    ap (λ (n : List ℕ). final_line n member.descriptor.now class) is.name
    ∙ (ap (λ (t : List ℕ). final_line m.name t class) is.descriptor ∙ ap (λ (c : List ℕ). final_line m.name m.descriptor c) named)
