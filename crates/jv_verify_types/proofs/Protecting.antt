-- No method that is public or of an interface is protected, unless it is static (JVMS 4.6): so what is found in superinterfaces is not.
use Rattle.std.proofs.Common.{◌≡◌, ℕ, ◌+◌, ◌<◌, ◌≤◌, Bool, true, false, not, ◌&&◌, ◌||◌, ◌==◌, cond, List, [], ◌∷◌, length, get_or, Option, Some, None, unwrap_or, refl, sym, ap, subst, ◌∙◌, inl, inr, arith}
use Rattle.std.specs.Prelude.{◌⊎◌, IsTrue, bit_and, filter, codes, slice_get, if◌then◌else◌}
use Rattle.std.specs.List.{All, Contains, filter_map, find, list_any}
use Rattle.std.specs.Option.{option_map, IsSomeAnd}
use Rattle.std.specs.Str.{bytes_eq}
use Rattle.std.proofs.lemmas.Bool.{and_parts, cases_lt}
use Rattle.std.proofs.lemmas.Bool.Decides.{Decides-eqb}
use Rattle.std.proofs.lemmas.List.Elements.{All-head, All-tail}
use Rattle.std.proofs.lemmas.Option.{get_or_from_slice_get, slice_get_within}
use Rattle.jv_format.specs.Format.{◌>>=◌}
use Rattle.jv_pool.specs.Constants.{Entry, MemberReference, NameAndDescriptor, named_at}
use Rattle.jv_class_structure.specs.Flags.{has, acc_public, acc_protected, acc_static, acc_interface, acc_final, acc_synchronized, acc_native, visibility, visibility_keeps_rules, abstract_keeps_rules, interface_method_keeps_rules, older_interface_method_keeps_rules}
use Rattle.jv_class_structure.specs.Parts.{method_shown}
use Rattle.jv_class_structure.specs.Structure.{MethodInfo, ClassStructure}
use Rattle.jv_class.specs.ClassFile.{IsWellFormed}
use Rattle.jv_class.specs.Rules.{is_clinit, is_no_arguments_void, interface_flags_keep_rules, named_flags_keep_rules, method_flags_keep_rules, clinit_keeps_rules, has_code, KeepsRulesAsMethod, KeepsMethodRules}
use Rattle.jv_class.specs.Class.{Class, Method, all_found, method_of, class_of}
use Rattle.jv_classes.proofs.AllFound.{parts_found}
use Rattle.jv_classes.proofs.Numbers.{numbered}
use Rattle.jv_meaning_world.specs.World.{Loaded, World, class_named, same_package}
use Rattle.jv_meaning_world.specs.Above.{super_names, supers_in, superclasses}
use Rattle.jv_meaning_world.specs.Overriding.{Declared}
use Rattle.jv_meaning_world.specs.Verdicts.{is_interface, declared_by}
use Rattle.jv_meaning_world.specs.Numbers.{HoldsAtNumber}
use Rattle.jv_meaning_world.specs.LookUps.{searched_from, first_found, itself, only, else_option, method_if, method_in, method_if_loaded, without_itself, superinterfaces, is_inheritable, is_concrete, is_public_instance, candidates, maximally_specific, is_below, superinterface_method, lookup_class_method, lookup_interface_method}
use Rattle.jv_lookups.specs.declared.place.Place.{Place}
use Rattle.jv_lookups.specs.Places.{method_of as method_of_member, method_at, IsMethodPlace}
use Rattle.jv_lookups.proofs.Standing.{method_stands}
use Rattle.jv_meaning_typing.proofs.Found.{in_filter, in_only, in_else, in_first, in_found, passed}
use Rattle.jv_meaning_typing.proofs.Resolved.{method_in_is}
use Rattle.jv_meaning_typing.proofs.Searched.{AllOf, of_searched}
use Rattle.jv_meaning_typing.proofs.Unchanged.{narrowed}
use Rattle.jv_verify_types.specs.Inside.Guarded.{is_far, method_is_far, is_protected_instance, is_wrongly_protected, has_wrongly_protected, AreRightlyProtected}
use Rattle.jv_verify_types.proofs.OfClass.{parts}

clash : true ≡ false → ⊥
clash e = cc

and_false : (b : Bool) → (b && false) ≡ false
and_false true = refl
and_false false = refl

or_true : (b t : Bool) → ((b || true) && t) ≡ t
or_true true t = refl
or_true false t = refl

-- ---- by flags

module _ (flags : ℕ) where
  abbrev v : ℕ
  v = visibility flags

  none_protected : (n : ℕ) → (v == n) ≡ true → bit_and n 4 ≡ 0 → (t : Bool) → (t && is_protected_instance flags) ≡ false
  none_protected n e z t =
      let no_flag : has flags acc_protected ≡ false = ap (λ k. not (k == 0)) (narrowed flags n 4 ((Decides-eqb v n).0 e) ∙ z) in
      ap (λ b. t && (b && not (has flags acc_static))) no_flag ∙ and_false t

  protected_alone : (interface : Bool) → v ≡ 4 → IsTrue (if interface then v == 1 || v == 2 else true) → ((interface || has flags acc_public) && is_protected_instance flags) ≡ false
  protected_alone true e h = absurd (clash (sym h ∙ ap (λ n. n == 1 || n == 2) e))
  protected_alone false e h =
      let not_public : has flags acc_public ≡ false = ap (λ k. not (k == 0)) (narrowed flags 4 1 e) in
      ap (λ b. (false || b) && is_protected_instance flags) not_public

  by_visibility : (interface : Bool) → IsTrue (visibility_keeps_rules flags) → IsTrue (if interface then v == 1 || v == 2 else true) →
      ((interface || has flags acc_public) && is_protected_instance flags) ≡ false
  by_visibility interface right h = by_first (v == 0) refl right
    where
      by_third : (b : Bool) → (v == 2) ≡ b → IsTrue (b || v == 4) → ((interface || has flags acc_public) && is_protected_instance flags) ≡ false
      by_third true e k = none_protected 2 e refl (interface || has flags acc_public)
      by_third false e k = protected_alone interface ((Decides-eqb v 4).0 k) h

      by_second : (b : Bool) → (v == 1) ≡ b → IsTrue (b || v == 2 || v == 4) → ((interface || has flags acc_public) && is_protected_instance flags) ≡ false
      by_second true e k = none_protected 1 e refl (interface || has flags acc_public)
      by_second false e k = by_third (v == 2) refl k

      by_first : (b : Bool) → (v == 0) ≡ b → IsTrue (b || v == 1 || v == 2 || v == 4) → ((interface || has flags acc_public) && is_protected_instance flags) ≡ false
      by_first true e k = none_protected 0 e refl (interface || has flags acc_public)
      by_first false e k = by_second (v == 1) refl k

  of_interface : (major : ℕ) (interface : Bool) → IsTrue (interface_flags_keep_rules major interface flags) → IsTrue (if interface then v == 1 || v == 2 else true)
  of_interface major true h =
      let own = (and_parts (interface_method_keeps_rules flags) (older_interface_method_keeps_rules major flags) h).0 in
      (and_parts (v == 1 || v == 2) (not (has flags (acc_final + acc_synchronized + acc_native))) own).0
  of_interface major false h = refl

  static_is_not : (t : Bool) → has flags acc_static ≡ true → (t && is_protected_instance flags) ≡ false
  static_is_not t e = ap (λ b. t && (has flags acc_protected && not b)) e ∙ (ap (λ b. t && b) (and_false (has flags acc_protected)) ∙ and_false t)

  flags_are_right : (major : ℕ) (interface : Bool) (name descriptor : List ℕ) → IsTrue (method_flags_keep_rules major interface name flags) → IsTrue (clinit_keeps_rules name descriptor flags)
      → ((interface || has flags acc_public) && is_protected_instance flags) ≡ false
  flags_are_right major interface name descriptor right static = by_name (is_clinit name) right static
    where
      by_name : (b : Bool) → IsTrue (if b then true else visibility_keeps_rules flags && abstract_keeps_rules flags && interface_flags_keep_rules
          major interface flags && named_flags_keep_rules name flags)
          → IsTrue (if b then has flags acc_static && is_no_arguments_void descriptor else true) → ((interface || has flags acc_public) && is_protected_instance flags) ≡ false
      by_name true h k = static_is_not (interface || has flags acc_public) (and_parts (has flags acc_static) (is_no_arguments_void descriptor) k).0
      by_name false h k =
          let three = (and_parts (visibility_keeps_rules flags && abstract_keeps_rules flags && interface_flags_keep_rules major interface flags) (named_flags_keep_rules name flags) h).0 in
          let two = and_parts (visibility_keeps_rules flags && abstract_keeps_rules flags) (interface_flags_keep_rules major interface flags) three in
          by_visibility interface (and_parts (visibility_keeps_rules flags) (abstract_keeps_rules flags) two.0).0 (of_interface major interface two.1)

-- ---- of a class file

method_is_right : (pool : List Entry) (major flags : ℕ) (info : MethodInfo) (m : Method) → KeepsMethodRules pool major flags info → method_of pool info ≡ Some m
    → ((has flags acc_interface || has m.access_flags acc_public) && is_protected_instance m.access_flags) ≡ false
method_is_right pool major flags info m rules e = by_texts (named_at pool info.name_index info.descriptor_index) rules e
  where
    by_texts : (o : Option NameAndDescriptor) → IsSomeAnd o (KeepsRulesAsMethod major flags info.access_flags (has_code info))
        → option_map (λ texts. record { access_flags = info.access_flags; name = texts.name; descriptor = texts.descriptor; code = (method_shown pool info).code }) o ≡ Some m
        → ((has flags acc_interface || has m.access_flags acc_public) && is_protected_instance m.access_flags) ≡ false
    by_texts None h f = absurd h
    by_texts (Some texts) h f =
        let same : info.access_flags ≡ m.access_flags = cc in
        subst (λ n. ((has flags acc_interface || has n acc_public) && is_protected_instance n) ≡ false) same
        (flags_are_right info.access_flags major (has flags acc_interface) texts.name texts.descriptor h.flags_keep_rules h.clinit)

methods_are_right : (pool : List Entry) (major flags : ℕ) (infos : List MethodInfo) (ms : List Method) → All (KeepsMethodRules pool major flags) infos → all_found (method_of pool) infos ≡ Some ms
    → list_any (λ m. (has flags acc_interface || has m.access_flags acc_public) && is_protected_instance m.access_flags) ms ≡ false
methods_are_right pool major flags [] ms rules e =
    let none : ms ≡ [] = cc in
    ap (list_any (λ m. (has flags acc_interface || has m.access_flags acc_public) && is_protected_instance m.access_flags)) none
methods_are_right pool major flags (info ∷ infos) ms rules e =
    let found = parts_found (method_of pool) info infos ms e in
    ap (list_any wrong) found.4
    ∙ (ap (λ b. b || list_any wrong found.1) (method_is_right pool major flags info found.0 (All-head (KeepsMethodRules pool major flags) info infos rules) found.2)
    ∙ methods_are_right pool major flags infos found.1 (All-tail (KeepsMethodRules pool major flags) info infos rules) found.3)
  where
    wrong : Method → Bool
    wrong m = (has flags acc_interface || has m.access_flags acc_public) && is_protected_instance m.access_flags

pub file_is_right : (c : ClassStructure) (class : Class) → IsWellFormed c → class_of c ≡ Some class → has_wrongly_protected class ≡ false
file_is_right c class well e =
    let is = parts c class e in
    subst (λ flags. list_any (λ (m : Method). (has flags acc_interface || has m.access_flags acc_public) && is_protected_instance m.access_flags) class.methods ≡ false) is.flags
    (methods_are_right c.constant_pool c.major_version c.access_flags c.methods class.methods well.rules.members.methods is.methods)

-- ---- of a class

none_of : {X : Type 0} (wrong test : X → Bool) (xs : List X) (x : X) → list_any wrong xs ≡ false → find test xs ≡ Some x → wrong x ≡ false
none_of wrong test [] x none e = absurd cc
none_of {X} wrong test (y ∷ xs) x none e = by_wrong (wrong y) refl none (test y) e (λ n f. none_of wrong test xs x n f)
  where
    same : Some y ≡ Some x → y ≡ x
    same f = cc

    by_wrong : (w : Bool) → wrong y ≡ w → (w || list_any wrong xs) ≡ false → (t : Bool) → cond t (Some y) (find test xs) ≡ Some x
        → (list_any wrong xs ≡ false → find test xs ≡ Some x → wrong x ≡ false) → wrong x ≡ false
    by_wrong true is n t f again = absurd (clash n)
    by_wrong false is n true f again = ap wrong (sym (same f)) ∙ is
    by_wrong false is n false f again = again n f

declared_is_right : (name descriptor : List ℕ) (l : Loaded) (d : Declared) → has_wrongly_protected l.class ≡ false → method_in name descriptor l ≡
    Some d → is_wrongly_protected l.class d.method ≡ false
declared_is_right name descriptor l d right e =
    none_of (is_wrongly_protected l.class) (λ m. bytes_eq m.name name && bytes_eq m.descriptor descriptor) l.class.methods d.method right (method_in_is name descriptor l d e).1

-- neither what an interface declares is protected, nor what is public
of_an_interface : (name descriptor : List ℕ) (l : Loaded) (d : Declared) → has_wrongly_protected l.class ≡ false → is_interface l ≡ true → method_in name descriptor l ≡ Some d
    → is_protected_instance d.method.access_flags ≡ false
of_an_interface name descriptor l d right interface e =
    sym (ap (λ b. (b || has d.method.access_flags acc_public) && is_protected_instance d.method.access_flags) interface) ∙ declared_is_right name descriptor l d right e

of_a_public : (name descriptor : List ℕ) (l : Loaded) (d : Declared) → has_wrongly_protected l.class ≡ false → has d.method.access_flags acc_public ≡ true → method_in name descriptor l ≡ Some d
    → is_protected_instance d.method.access_flags ≡ false
of_a_public name descriptor l d right public_one e =
    sym (ap (λ b. (is_interface l || b) && is_protected_instance d.method.access_flags) public_one ∙ or_true (is_interface l) (is_protected_instance d.method.access_flags))
    ∙ declared_is_right name descriptor l d right e

-- ---- of a world

module _ (world : World) (right : AreRightlyProtected world) where
  named_is_right : (name : List ℕ) (l : Loaded) → class_named world name ≡ Some l → has_wrongly_protected l.class ≡ false
  named_is_right name l e = let number = numbered world name l e in right number.0 l number.2

  super_is_right : (class : Class) (s : Loaded) → Contains (supers_in world class) s → has_wrongly_protected s.class ≡ false
  super_is_right class s h = let found = in_found (class_named world) (super_names class) s h in named_is_right found.0 s found.2

  searched_is_right : (l : Loaded) → has_wrongly_protected l.class ≡ false → AllOf (λ c. has_wrongly_protected c.class ≡ false) (searched_from world l)
  searched_is_right = of_searched world (λ c. has_wrongly_protected c.class ≡ false) (λ by s h i. super_is_right by.class s i)

  module _ (l : Loaded) (here : has_wrongly_protected l.class ≡ false) (name descriptor : List ℕ) where
    candidate_is_right : (d : Declared) → Contains (candidates world l name descriptor) d → is_protected_instance d.method.access_flags ≡ false
    candidate_is_right d h =
        let found = in_found (method_in name descriptor) (superinterfaces world l) d (in_filter is_inheritable (filter_map (method_in name descriptor) (superinterfaces world l)) d h).0 in
        let met = in_filter (without_itself l) (searched_from world l) found.0 found.1 in
        of_an_interface name descriptor found.0 d (searched_is_right l here found.0 met.0)
        (and_parts (is_interface found.0) (not (bytes_eq found.0.class.name l.class.name)) met.1).0 found.2

    superinterface_is_right : (d : Declared) → superinterface_method world l name descriptor ≡ Some d → is_protected_instance d.method.access_flags ≡ false
    superinterface_is_right d e = candidate_is_right d (by_part (in_else (only (filter is_concrete (maximally_specific world all))) (first_found itself all) d e))
      where
        all : List Declared
        all = candidates world l name descriptor

        same : (x : Declared) → Some x ≡ Some d → x ≡ d
        same x f = cc

        by_part : (only (filter is_concrete (maximally_specific world all)) ≡ Some d) ⊎ (first_found itself all ≡ Some d) → Contains all d
        by_part (inl f) =
            let concrete = in_filter is_concrete (maximally_specific world all) d (in_only (filter is_concrete (maximally_specific world all)) d f) in
            (in_filter (λ x. not (list_any (is_below world x) all)) all d concrete.0).0
        by_part (inr f) = let found = in_first itself all d f in subst (Contains all) (same found.0 found.2) found.1

    object_is_right : (d : Declared) → method_if is_public_instance (method_if_loaded name descriptor (class_named world (codes "java/lang/Object")))
        ≡ Some d → is_protected_instance d.method.access_flags ≡ false
    object_is_right d e =
        let parts = passed is_public_instance (method_if_loaded name descriptor (class_named world (codes "java/lang/Object"))) d e in
        by_class (class_named world (codes "java/lang/Object")) refl parts.0 (and_parts (has d.method.access_flags acc_public) (not (has d.method.access_flags acc_static)) parts.1).0
      where
        by_class : (o : Option Loaded) → class_named world (codes "java/lang/Object") ≡ o → method_if_loaded name descriptor o ≡ Some d → IsTrue (has d.method.access_flags acc_public)
            → is_protected_instance d.method.access_flags ≡ false
        by_class None is f k = absurd cc
        by_class (Some root) is f k = of_a_public name descriptor root d (named_is_right (codes "java/lang/Object") root is) k f

    interface_is_right : is_interface l ≡ true → (d : Declared) → lookup_interface_method world l name descriptor ≡ Some d → is_protected_instance d.method.access_flags ≡ false
    interface_is_right interface d e = by_own (in_else (method_in name descriptor l) (else_option of_object (superinterface_method world l name descriptor)) d e)
      where
        of_object : Option Declared
        of_object = method_if is_public_instance (method_if_loaded name descriptor (class_named world (codes "java/lang/Object")))

        by_others : (of_object ≡ Some d) ⊎ (superinterface_method world l name descriptor ≡ Some d) → is_protected_instance d.method.access_flags ≡ false
        by_others (inl f) = object_is_right d f
        by_others (inr f) = superinterface_is_right d f

        by_own : (method_in name descriptor l ≡ Some d) ⊎ (else_option of_object (superinterface_method world l name descriptor) ≡ Some d) → is_protected_instance d.method.access_flags ≡ false
        by_own (inl f) = of_an_interface name descriptor l d here interface f
        by_own (inr f) = by_others (in_else of_object (superinterface_method world l name descriptor) d f)

-- ---- what is far

placed : (world : World) (place : Place) (d : Declared) → method_at world place ≡ Some d → slice_get world place.class ≡ Some d.by
placed world place d e = by_class (slice_get world place.class) refl e
  where
    by_method : (l : Loaded) (o : Option Method) → option_map (declared_by l) o ≡ Some d → l ≡ d.by
    by_method l None f = absurd cc
    by_method l (Some m) f = let same : declared_by l m ≡ d = one (declared_by l m) f in ap (λ (x : Declared). x.by) same
      where
        one : (x : Declared) → Some x ≡ Some d → x ≡ d
        one x g = cc

    by_class : (o : Option Loaded) → slice_get world place.class ≡ o → (o >>= method_of_member place.member) ≡ Some d → slice_get world place.class ≡ Some d.by
    by_class None at f = absurd cc
    by_class (Some l) at f = at ∙ ap (λ x. Some x) (by_method l (slice_get l.class.methods place.member) f)

none_far : (current : Loaded) (o : Option Declared) → ((d : Declared) → o ≡ Some d → is_protected_instance d.method.access_flags ≡ false)
    → false ≡ unwrap_or (o >>= λ d. Some (is_far current d.by d.method.access_flags)) false
none_far current None h = refl
none_far current (Some d) h = sym (ap (λ b. b && not (same_package current d.by)) (h d refl))

module _ (world : World) (current : Loaded) (reference : MemberReference) (number : ℕ) (named : Loaded) (at : slice_get world number ≡ Some named) where
  abbrev of_class : Option Declared
  of_class = lookup_class_method world named reference.name reference.descriptor

  abbrev of_classes : Option Declared
  of_classes = first_found (method_in reference.name reference.descriptor) (named ∷ superclasses world named.class)

  abbrev far_of : Option Declared → Bool
  far_of o = unwrap_or (o >>= λ d. Some (is_far current d.by d.method.access_flags)) false

  pub interface_is_near : AreRightlyProtected world → is_interface named ≡ true → false ≡ method_is_far world current named reference
  interface_is_near right interface =
      none_far current (lookup_interface_method world named reference.name reference.descriptor)
      (interface_is_right world right named (right number named at) reference.name reference.descriptor interface)
      ∙ sym (ap (λ b. far_of (if b then lookup_interface_method world named reference.name reference.descriptor else of_class)) interface)

  by_classes : is_interface named ≡ false → (o : Option Declared) → of_classes ≡ o → method_is_far world current named reference ≡
      far_of (else_option o (superinterface_method world named reference.name reference.descriptor))
  by_classes other o e =
      ap (λ b. far_of (if b then lookup_interface_method world named reference.name reference.descriptor else of_class)) other
      ∙ ap (λ p. far_of (else_option p (superinterface_method world named reference.name reference.descriptor))) e

  pub none_is_near : AreRightlyProtected world → is_interface named ≡ false → None ≡ of_classes → false ≡ method_is_far world current named reference
  none_is_near right other none =
      none_far current (superinterface_method world named reference.name reference.descriptor)
      (superinterface_is_right world right named (right number named at) reference.name reference.descriptor)
      ∙ sym (by_classes other None (sym none))

  pub found_is_far : is_interface named ≡ false → (d : Declared) → Some d ≡ of_classes → is_far current d.by d.method.access_flags ≡ method_is_far world current named reference
  found_is_far other d found = sym (by_classes other (Some d) (sym found))

  named_so : (name descriptor : List ℕ) (o : Option Declared) → name ≡ reference.name → descriptor ≡ reference.descriptor → o ≡
      first_found (method_in name descriptor) (named ∷ superclasses world named.class) → o ≡ of_classes
  named_so name descriptor o e f h =
      h ∙ (ap (λ n. first_found (method_in n descriptor) (named ∷ superclasses world named.class)) e
      ∙ ap (λ t. first_found (method_in reference.name t) (named ∷ superclasses world named.class)) f)

  pub none_of_classes : AreRightlyProtected world → is_interface named ≡ false → (name descriptor : List ℕ) → name ≡ reference.name → descriptor ≡ reference.descriptor
      → None ≡ first_found (method_in name descriptor) (named ∷ superclasses world named.class) → false ≡ method_is_far world current named reference
  none_of_classes right other name descriptor e f none = none_is_near right other (named_so name descriptor None e f none)

  pub place_is_far : (place : Place) (flags : ℕ) (answer : Bool) → is_interface named ≡ false → (name descriptor : List ℕ) → name ≡ reference.name →
      descriptor ≡ reference.descriptor → IsMethodPlace world place
      → method_at world place ≡ first_found (method_in name descriptor) (named ∷ superclasses world named.class) → ((d : Declared) → method_at world place ≡ Some d → flags ≡ d.method.access_flags)
      → HoldsAtNumber world place.class (λ l. answer ≡ is_far current l flags) → answer ≡ method_is_far world current named reference
  place_is_far place flags answer other name descriptor e f stands found told far =
      let there = method_stands world place stands in
      far there.0.by (placed world place there.0 there.1)
      ∙ (ap (is_far current there.0.by) (told there.0 there.1)
      ∙ found_is_far other there.0 (named_so name descriptor (Some there.0) e f (sym there.1 ∙ found)))

-- ---- the classes by number

pub class_there : (world classes : List Loaded) (k : ℕ) (x l : Loaded) → classes ≡ world → x ≡ get_or classes k x → slice_get world k ≡ Some l → x ≡ l
class_there world classes k x l same is at = is ∙ (ap (λ ls. get_or ls k x) same ∙ get_or_from_slice_get world k l x at)

pub one_more_right : (world : World) (count : ℕ) (x : Loaded) → ((k : ℕ) → k < count → HoldsAtNumber world k (λ l. has_wrongly_protected l.class ≡ false))
    → x ≡ get_or world count x → has_wrongly_protected x.class ≡ false → (k : ℕ) → k < count + 1 → HoldsAtNumber world k (λ l. has_wrongly_protected l.class ≡ false)
one_more_right world count x before is right k less l at = by_place (cases_lt k count)
  where
    by_place : (k < count) ⊎ (count ≤ k) → has_wrongly_protected l.class ≡ false
    by_place (inl earlier) = before k earlier l at
    by_place (inr behind) =
        let here : k ≡ count = omega arith in
        subst (λ c. has_wrongly_protected c.class ≡ false) (class_there world world count x l refl is (ap (slice_get world) (sym here) ∙ at)) right

pub all_are_right : (world : World) (count : ℕ) → length world ≡ count → ((k : ℕ) → k < count → HoldsAtNumber world k (λ l. has_wrongly_protected l.class ≡ false)) → AreRightlyProtected world
all_are_right world count all each k l at = each k (subst (λ n. k < n) all (slice_get_within world k l at)) l at
