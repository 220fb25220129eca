-- A method that no other overrides is the one that runs.
use Rattle.std.proofs.Common.{◌≡◌, ℕ, ◌+◌, Bool, true, false, not, ◌&&◌, ◌||◌, List, [], ◌∷◌, ◌++◌, Option, Some, None, refl, sym, ap, ◌∙◌, subst, inl, inr}
use Rattle.std.specs.Prelude.{◌⊎◌, ◌==◌, IsTrue, Ok, bit_and, codes, if◌then◌else◌}
use Rattle.std.specs.List.{Contains, list_any}
use Rattle.std.specs.Option.{option_or, unwrap_or}
use Rattle.std.specs.Str.{bytes_eq}
use Rattle.std.specs.Cmp.Lexicographic.{nat_list_eq_equiv}
use Rattle.std.proofs.lemmas.Bool.{and_parts}
use Rattle.std.proofs.lemmas.Bool.Decides.{Decides-eqb}
use Rattle.std.proofs.lemmas.Nat.{and_assoc}
use Rattle.jv_text.specs.Name.{is_init}
use Rattle.jv_class_structure.specs.Flags.{has, acc_public, acc_private, acc_protected, visibility, visibility_keeps_rules}
use Rattle.jv_class.specs.Class.{Method, method_named}
use Rattle.jv_meaning_world.specs.World.{Loaded, World, class_named, same_package}
use Rattle.jv_meaning_world.specs.Above.{superclass_in, superclasses}
use Rattle.jv_meaning_world.specs.Overriding.{Declared, declared_if, alike_in, is_instance, is_package_private, overrides_itself, with_declared, overriding}
use Rattle.jv_meaning_world.specs.Verdicts.{is_interface}
use Rattle.jv_meaning_world.specs.LookUps.{first_found, else_option, method_if, is_public_instance, method_if_loaded}
use Rattle.jv_meaning_typing.specs.Uses.{Site}
use Rattle.jv_meaning_typing.specs.Uses.Use.{Invokevirtual}
use Rattle.jv_meaning_typing.specs.LinkErrors.{◌>>=◌, provided}
use Rattle.jv_meaning_typing.specs.LinkErrors.LinkError.{AbstractMethodError}
use Rattle.jv_meaning_typing.specs.Access.{same_class}
use Rattle.jv_meaning_typing.specs.MethodResolution.{MethodTarget, target}
use Rattle.jv_meaning_typing.specs.Selection.{upward, classes_below, are_alike, has_overriding, overrides, overriding_in, first_overriding, first_alike, found_or_default, interface_first, special_first, special_start, select_from, select}
use Rattle.jv_meaning_typing.specs.LinkingLaws.{IsAboveObject, PrivateIsRun, NamedIsRun}
use Rattle.jv_meaning_world.proofs.Up.{none, first, later}
use Rattle.jv_meaning_typing.proofs.Found.{split, passed, same_text}
use Rattle.jv_meaning_typing.proofs.Chain.{IsNamedIn, superclasses_are_named}
use Rattle.jv_meaning_typing.proofs.Run.{alike}

-- ---- the first that is found

module _ {A B : Type 0} (look : A → Option B) where
  pub first_is : (xs : List A) (x : A) (y : B) → Contains xs x → look x ≡ Some y → ((a : A) (b : B) → Contains xs a → look a ≡ Some b → b ≡ y) → first_found look xs ≡ Some y
  first_is [] x y h e each = absurd (none x h)
  first_is (z ∷ xs) x y h e each = by_look (look z) refl (split z xs x h) (λ k. first_is xs x y k e (λ a b j f. each a b (later z xs a j) f))
    where
      by_look : (o : Option B) → look z ≡ o → (z ≡ x) ⊎ Contains xs x → (Contains xs x → first_found look xs ≡ Some y) → else_option o (first_found look xs) ≡ Some y
      by_look (Some b) f part again = ap (λ v. Some v) (each z b (first z xs) f)
      by_look None f (inl s) again = absurd (unlike (sym f ∙ ap look s ∙ e))
        where
          unlike : None ≡ Some y → ⊥
          unlike g = cc
      by_look None f (inr k) again = again k

-- ---- methods that override

pub any_of_joined : (test : Declared → Bool) (ds es : List Declared) → IsTrue (list_any test ds) → IsTrue (list_any test (ds ++ es))
any_of_joined test [] es h = absurd cc
any_of_joined test (d ∷ ds) es h = by_test (test d) h (λ k. any_of_joined test ds es k)
  where
    by_test : (b : Bool) → IsTrue (b || list_any test ds) → (IsTrue (list_any test ds) → IsTrue (list_any test (ds ++ es))) → IsTrue (b || list_any test (ds ++ es))
    by_test true h again = refl
    by_test false h again = again h

-- what overrides is there all along
pub stays : (test : Declared → Bool) (found : List Declared) (m : Method) (ls : List Loaded) → IsTrue (list_any test found) → IsTrue (list_any test (overriding found m ls))
stays test found m [] h = h
stays test found m (l ∷ ls) h = stays test (with_declared found (alike_in l m)) m ls (by_declared (alike_in l m))
  where
    by_test : (d : Declared) (b : Bool) → IsTrue (list_any test (if b then found ++ d ∷ [] else found))
    by_test d true = any_of_joined test found (d ∷ []) h
    by_test d false = h

    by_declared : (o : Option Declared) → IsTrue (list_any test (with_declared found o))
    by_declared None = h
    by_declared (Some d) = by_test d (list_any (overrides_itself d) found)

-- a method that none overrides itself stays alone
alone : (e : Declared) → ((d : Declared) → overrides_itself d e ≡ false) → (m : Method) (ls : List Loaded) → overriding (e ∷ []) m ls ≡ e ∷ []
alone e never m [] = refl
alone e never m (l ∷ ls) = ap (λ found. overriding found m ls) (by_declared (alike_in l m)) ∙ alone e never m ls
  where
    by_declared : (o : Option Declared) → with_declared (e ∷ []) o ≡ e ∷ []
    by_declared None = refl
    by_declared (Some d) = ap (λ b. if b || false then e ∷ d ∷ [] else e ∷ []) (never d)

-- ---- a method that is overridden by itself alone

pub alike_itself : (d : Declared) → method_named d.by.class d.method.name d.method.descriptor ≡ Some d.method → IsTrue (is_instance d.method) → alike_in d.by d.method ≡ Some d
alike_itself d e i = ap (declared_if d.by) e ∙ ap (λ b. if b then Some d else None) i

has_itself : (world : World) (d : Declared) → IsTrue (has_overriding world d.by d)
has_itself world d = stays (λ o. same_class o.by d.by) (d ∷ []) d.method (classes_below world d.by d.by) (ap (λ b. b || false) (nat_list_eq_equiv.refl d.by.class.name))

both : (a b : Bool) → IsTrue a → IsTrue b → IsTrue (a && b)
both true b h k = k
both false b h k = absurd cc

alike_same : (m : Method) → IsTrue (is_instance m) → IsTrue (are_alike m m)
alike_same m i =
    both (is_instance m && is_instance m && bytes_eq m.name m.name) (bytes_eq m.descriptor m.descriptor)
    (both (is_instance m && is_instance m) (bytes_eq m.name m.name) (both (is_instance m) (is_instance m) i i) (nat_list_eq_equiv.refl m.name))
    (nat_list_eq_equiv.refl m.descriptor)

overrides_same : (world : World) (d : Declared) → IsTrue (is_instance d.method) → IsTrue (overrides world d d)
overrides_same world d i = both (are_alike d.method d.method) (has_overriding world d.by d) (alike_same d.method i) (has_itself world d)

pub class_has : (world : World) (d e : Declared) → IsTrue (overrides world d e) → IsTrue (has_overriding world d.by e)
class_has world d e o = (and_parts (are_alike d.method e.method) (has_overriding world d.by e) o).1

abbrev pub OnlyItself : World → Loaded → Declared → Type 0
OnlyItself world l e = (d : Declared) → Contains (upward world l) d.by → IsTrue (overrides world d e) → d.by.class.name ≡ e.by.class.name

module _ (world : World) (l : Loaded) (e : Declared) (is : IsAboveObject world l e) where
  named_up : (c : Loaded) → Contains (upward world l) c → IsNamedIn world c
  named_up c h = by_part (split l (superclasses world l.class) c h)
    where
      by_part : (l ≡ c) ⊎ Contains (superclasses world l.class) c → IsNamedIn world c
      by_part (inl s) = subst (IsNamedIn world) s is.object
      by_part (inr k) = superclasses_are_named world l.class c k

  the_same : OnlyItself world l e → (c : Loaded) (d : Declared) → Contains (upward world l) c → overriding_in world e c ≡ Some d → d ≡ e
  the_same single c d h f =
      let parts = passed (λ x. overrides world x e) (alike_in c e.method) d f in
      let by = (alike c e.method d parts.0).0 in
      let name : c.class.name ≡ e.by.class.name = ap (λ (x : Loaded). x.class.name) (sym by) ∙ single d (subst (Contains (upward world l)) (sym by) h) parts.1 in
      let same : c ≡ e.by = some_class (sym (named_up c h) ∙ ap (class_named world) name ∙ named_up e.by is.place) in
      some_same (sym parts.0 ∙ ap (λ x. alike_in x e.method) same ∙ alike_itself e is.declared is.instance)
    where
      some_class : Some c ≡ Some e.by → c ≡ e.by
      some_class g = cc

      some_same : Some d ≡ Some e → d ≡ e
      some_same g = cc

  overriding_itself : overriding_in world e e.by ≡ Some e
  overriding_itself =
      ap (method_if (λ d. overrides world d e)) (alike_itself e is.declared is.instance) ∙ ap (λ b. if b then Some e else None) (overrides_same world e is.instance)

  pub itself_first : OnlyItself world l e → first_overriding world e l ≡ Some e
  itself_first single = first_is (overriding_in world e) (upward world l) e.by e is.place overriding_itself (λ c d h f. the_same single c d h f)

pub only_is_run : (world : World) (site : Site) (t : MethodTarget) (l : Loaded) → IsAboveObject world l t.declared → OnlyItself world l t.declared → select world site Invokevirtual t (Some l) ≡ Ok t
only_is_run world site t l is single =
    ap (λ o. found_or_default world l t.declared.method o >>= (λ d. Ok (target t.named d))) (itself_first world l t.declared is single)
    ∙ ap (λ b. provided b AbstractMethodError t.declared >>= (λ d. Ok (target t.named d))) is.concrete

-- ---- private methods

pub narrowed : (flags v mask : ℕ) → bit_and flags 7 ≡ v → bit_and flags (bit_and 7 mask) ≡ bit_and v mask
narrowed flags v mask e = sym (and_assoc mask flags 7) ∙ ap (λ n. bit_and n mask) e

private_alone : (flags : ℕ) → IsTrue (visibility_keeps_rules flags) → IsTrue (has flags acc_private) → visibility flags ≡ 2
private_alone flags right private = by_first (v == 0) refl right
  where
    v : ℕ
    v = visibility flags

    not_it : (n : ℕ) → (v == n) ≡ true → bit_and n 2 ≡ 0 → ⊥
    not_it n e z = clash (sym private ∙ ap (λ k. not (k == 0)) (narrowed flags n 2 ((Decides-eqb v n).0 e) ∙ z))
      where
        clash : true ≡ false → ⊥
        clash f = cc

    by_third : (b : Bool) → (v == 2) ≡ b → IsTrue (b || v == 4) → v ≡ 2
    by_third true e h = (Decides-eqb v 2).0 e
    by_third false e h = absurd (not_it 4 h refl)

    by_second : (b : Bool) → (v == 1) ≡ b → IsTrue (b || v == 2 || v == 4) → v ≡ 2
    by_second true e h = absurd (not_it 1 e refl)
    by_second false e h = by_third (v == 2) refl h

    by_first : (b : Bool) → (v == 0) ≡ b → IsTrue (b || v == 1 || v == 2 || v == 4) → v ≡ 2
    by_first true e h = absurd (not_it 0 e refl)
    by_first false e h = by_second (v == 1) refl h

private_stays : (e : Declared) → IsTrue (visibility_keeps_rules e.method.access_flags) → IsTrue (has e.method.access_flags acc_private) → (d : Declared) → overrides_itself d e ≡ false
private_stays e right private d = ap (λ b. not (has d.method.access_flags acc_private) && b) (by_flags ∙ refl) ∙ and_false (not (has d.method.access_flags acc_private))
  where
    alone_is : bit_and e.method.access_flags 7 ≡ 2
    alone_is = private_alone e.method.access_flags right private

    open_is : has e.method.access_flags (acc_public + acc_protected) ≡ false
    open_is = ap (λ n. not (n == 0)) (narrowed e.method.access_flags 2 5 alone_is)

    package_is : is_package_private e.method ≡ false
    package_is = ap (λ n. not (not (n == 0))) alone_is

    by_flags : (has e.method.access_flags (acc_public + acc_protected) || (is_package_private e.method && same_package d.by e.by)) ≡ false
    by_flags = ap (λ b. b || (is_package_private e.method && same_package d.by e.by)) open_is ∙ ap (λ b. b && same_package d.by e.by) package_is

    and_false : (b : Bool) → (b && false) ≡ false
    and_false true = refl
    and_false false = refl

pub private_is_run : PrivateIsRun
private_is_run world site t l is right private = only_is_run world site t l is single
  where
    e : Declared
    e = t.declared

    or_false : (b : Bool) → IsTrue (b || false) → IsTrue b
    or_false true h = refl
    or_false false h = h

    single : OnlyItself world l e
    single d h o =
        sym (same_text e.by.class.name d.by.class.name (or_false (same_class e.by d.by)
        (subst (λ found. IsTrue (list_any (λ o. same_class o.by d.by) found)) (alone e (private_stays e right private) e.method (classes_below world d.by e.by)) (class_has world d e o))))

-- ---- invokespecial of a method of the named class

pub named_is_run : NamedIsRun
named_is_run world site t object by declared instance concrete straight =
    ap (λ r. r >>= (λ d. Ok (target t.named d))) (ap (λ b. if b then Ok t.declared else select_from world t.declared.method (special_start world site.by t.named)) no_init ∙ from_named)
  where
    no_init : is_init t.declared.method.name ≡ false
    no_init = by_init (is_init t.declared.method.name) instance
      where
        by_init : (b : Bool) → IsTrue (not (has t.declared.method.access_flags 8) && not b) → b ≡ false
        by_init false h = refl
        by_init true h = by_other (not (has t.declared.method.access_flags 8)) h
          where
            by_other : (a : Bool) → IsTrue (a && false) → true ≡ false
            by_other true h = absurd cc
            by_other false h = absurd cc

    own : alike_in t.named t.declared.method ≡ Some t.declared
    own = subst (λ c. alike_in c t.declared.method ≡ Some t.declared) by
        (alike_itself t.declared
        (subst (λ (c : Loaded). method_named c.class t.declared.method.name t.declared.method.descriptor ≡ Some t.declared.method) (sym by) declared)
        instance)

    start : special_start world site.by t.named ≡ t.named
    start = ap (λ b. if b then unwrap_or (superclass_in world site.by.class) t.named else t.named) straight

    found : special_first world t.declared.method t.named ≡ Some t.declared
    found = by_kind (is_interface t.named)
      where
        by_kind : (b : Bool) → (if b then interface_first world t.declared.method t.named else first_alike world t.declared.method t.named) ≡ Some t.declared
        by_kind true = ap (λ o. option_or o (method_if is_public_instance (method_if_loaded t.declared.method.name t.declared.method.descriptor (class_named world (codes "java/lang/Object"))))) own
        by_kind false = ap (λ o. else_option o (first_found (λ c. alike_in c t.declared.method) (superclasses world t.named.class))) own

    from_named : select_from world t.declared.method (special_start world site.by t.named) ≡ Ok t.declared
    from_named = ap (select_from world t.declared.method) start ∙ ap (found_or_default world t.named t.declared.method) found ∙ ap (λ b. provided b AbstractMethodError t.declared) concrete
