-- What selection answers is an instance method of the target's name and type, where selection looked for it.
use Rattle.std.proofs.Common.{◌≡◌, ℕ, ◌+◌, Bool, true, false, not, Option, Some, None, refl, sym, ap, ◌∙◌, subst, inl, inr}
use Rattle.std.specs.Prelude.{◌⊎◌, ◌==◌, IsTrue, Ok, filter, codes, bit_and, if◌then◌else◌}
use Rattle.std.specs.List.{Contains, list_any}
use Rattle.std.specs.Result.{result_unwrap_or}
use Rattle.std.proofs.lemmas.Bool.{and_parts}
use Rattle.std.proofs.lemmas.Bool.Decides.{Decides-eqb}
use Rattle.std.proofs.lemmas.Nat.{and_assoc}
use Rattle.jv_text.specs.Name.{is_init}
use Rattle.jv_class_structure.specs.Flags.{has, acc_public, acc_private, acc_static}
use Rattle.jv_class.specs.Class.{Method, method_named}
use Rattle.jv_meaning_world.specs.World.{Loaded, World, class_named}
use Rattle.jv_meaning_world.specs.Above.{superclasses}
use Rattle.jv_meaning_world.specs.Overriding.{Declared, declared_if, alike_in, is_instance}
use Rattle.jv_meaning_world.specs.Verdicts.{is_interface}
use Rattle.jv_meaning_world.specs.LookUps.{method_if, method_if_loaded, is_inheritable, is_concrete, is_public_instance, candidates, maximally_specific, is_below}
use Rattle.jv_meaning_world.specs.Laws.Above.{AboveByWays, AboveIsTransitive}
use Rattle.jv_meaning_typing.specs.Uses.{Use, Site}
use Rattle.jv_meaning_typing.specs.Uses.Use.{Invokevirtual, Invokespecial, Invokeinterface}
use Rattle.jv_meaning_typing.specs.LinkErrors.{OrError, ◌>>=◌, provided}
use Rattle.jv_meaning_typing.specs.LinkErrors.LinkError.{IncompatibleClassChangeError, IllegalAccessError, AbstractMethodError}
use Rattle.jv_meaning_typing.specs.Kind.{is_static_method}
use Rattle.jv_meaning_typing.specs.MethodResolution.{MethodTarget, target}
use Rattle.jv_meaning_typing.specs.Selection.{upward, overrides, overriding_in, first_overriding, first_alike, superinterface_default, not_abstract, found_or_default, select_virtual, implements, public_or_default, select_interface, interface_first, special_start, select_from, object_class, selected}
use Rattle.jv_meaning_typing.specs.LinkingLaws.{IsRootClass, IsRun, SelectedIsRun, SpecialIsRun}
use Rattle.jv_meaning_world.proofs.Up.{first}
use Rattle.jv_meaning_typing.proofs.Found.{in_filter, in_or, in_first, in_one, passed, went_on, held, method_is_named}
use Rattle.jv_meaning_typing.proofs.Resolved.{method_in_is, candidate, in_object}

-- ---- flags

zero_test : (n : ℕ) → IsTrue (not (not (n == 0))) → n ≡ 0
zero_test n h = by_test (n == 0) refl h
  where
    by_test : (b : Bool) → (n == 0) ≡ b → IsTrue (not (not b)) → n ≡ 0
    by_test true e h = (Decides-eqb n 0).0 e
    by_test false e h = absurd cc

no_flag : (flags : ℕ) → bit_and flags (acc_private + acc_static) ≡ 0 → bit_and flags acc_static ≡ 0
no_flag flags e = sym (and_assoc acc_static flags (acc_private + acc_static)) ∙ ap (λ n. bit_and n acc_static) e

not_static : (d : Declared) → IsTrue (is_inheritable d) → IsTrue (not (is_static_method d.method))
not_static d h = ap (λ n. not (not (n == 0))) (no_flag d.method.access_flags (zero_test (bit_and d.method.access_flags (acc_private + acc_static)) h))

-- ---- an instance method of the name and type of a method, declared by a class

pub record IsAlike (m : Method) (d : Declared) : Type 0 where
  pub declared : method_named d.by.class m.name m.descriptor ≡ Some d.method
  pub instance : IsTrue (not (is_static_method d.method))

pub alike : (l : Loaded) (m : Method) (d : Declared) → alike_in l m ≡ Some d → (d.by ≡ l) × IsAlike m d
alike l m d e = by_method (method_named l.class m.name m.descriptor) refl e
  where
    some_same : (x : Declared) → Some x ≡ Some d → x ≡ d
    some_same x e = cc

    by_test : (n : Method) → method_named l.class m.name m.descriptor ≡ Some n → (b : Bool) → is_instance n ≡ b →
        (if b then Some (record { by = l; method = n }) else None) ≡ Some d → (d.by ≡ l) × IsAlike m d
    by_test n f false t e = absurd cc
    by_test n f true t e =
        let same = some_same (record { by = l; method = n }) e in
        (sym (ap (λ (x : Declared). x.by) same), subst (IsAlike m) same (record { declared = f; instance = (and_parts (not (is_static_method n)) (not (is_init n.name)) t).0 }))

    by_method : (o : Option Method) → method_named l.class m.name m.descriptor ≡ o → declared_if l o ≡ Some d → (d.by ≡ l) × IsAlike m d
    by_method None f e = absurd cc
    by_method (Some n) f e = by_test n f (is_instance n) refl e

-- such a method upward from a class
record IsUpward (world : World) (l : Loaded) (m : Method) (d : Declared) : Type 0 where
  place : Contains (upward world l) d.by
  alike : IsAlike m d

upward_from : (world : World) (l : Loaded) (m : Method) (c : Loaded) (d : Declared) → Contains (upward world l) c → alike_in c m ≡ Some d → IsUpward world l m d
upward_from world l m c d h e = let is = alike c m d e in record { place = subst (Contains (upward world l)) (sym is.0) h; alike = is.1 }

overriding_upward : (world : World) (e : Declared) (l : Loaded) (d : Declared) → first_overriding world e l ≡ Some d → IsUpward world l e.method d
overriding_upward world e l d f =
    let found = in_first (overriding_in world e) (upward world l) d f in
    upward_from world l e.method found.0 d found.1 (passed (λ x. overrides world x e) (alike_in found.0 e.method) d found.2).0

alike_upward : (world : World) (m : Method) (l : Loaded) (d : Declared) → first_alike world m l ≡ Some d → IsUpward world l m d
alike_upward world m l d f =
    let found = in_first (λ c. alike_in c m) (upward world l) d f in
    upward_from world l m found.0 d found.1 found.2

-- ---- what runs

run_by : (world : World) (l : Loaded) (called d : Declared) → IsUpward world l called.method d → IsTrue (is_concrete d) → IsRun world l called d
run_by world l called d found concrete =
    let named = method_is_named d.by.class called.method.name called.method.descriptor d.method found.alike.declared in
    record { place = inl found.place; declared = found.alike.declared; name = named.0; descriptor = named.1; instance = found.alike.instance; concrete = concrete }

module _ (ways : AboveByWays) (above_above : AboveIsTransitive) (world : World) where
  default_run : (l : Loaded) (called d : Declared) → superinterface_default world l called.method ≡ Ok d → IsRun world l called d
  default_run l called d e =
      let all = candidates world l called.method.name called.method.descriptor in
      let concrete = in_filter is_concrete (maximally_specific world all) d (in_one (filter is_concrete (maximally_specific world all)) d e) in
      let specific = in_filter (λ x. not (list_any (is_below world x) all)) all d concrete.0 in
      let found = candidate ways above_above world l called.method.name called.method.descriptor d specific.0 in
      let named = method_is_named d.by.class called.method.name called.method.descriptor d.method found.0.declared in
      record { place = inr found.0.place; declared = found.0.declared; name = named.0; descriptor = named.1; instance = not_static d found.1; concrete = concrete.1 }

  concrete_run : (l : Loaded) (called x d : Declared) → IsUpward world l called.method x → not_abstract x ≡ Ok d → IsRun world l called d
  concrete_run l called x d found e =
      let parts = held (is_concrete x) AbstractMethodError x d e in
      subst (IsRun world l called) parts.1 (run_by world l called x found parts.0)

  found_run : (l : Loaded) (called d : Declared) (o : Option Declared) → ((x : Declared) → o ≡ Some x → IsUpward world l called.method x) →
      found_or_default world l called.method o ≡ Ok d → IsRun world l called d
  found_run l called d None found e = default_run l called d e
  found_run l called d (Some x) found e = concrete_run l called x d (found x refl) e

  virtual_run : (called : Declared) (l : Loaded) (d : Declared) → select_virtual world called l ≡ Ok d → IsRun world l called d
  virtual_run called l d e = found_run l called d (first_overriding world called l) (λ x f. overriding_upward world called l x f) e

  public_run : (l : Loaded) (called d : Declared) (o : Option Declared) → ((x : Declared) → o ≡ Some x → IsUpward world l called.method x) →
      public_or_default world l called.method o ≡ Ok d → IsRun world l called d
  public_run l called d None found e = default_run l called d e
  public_run l called d (Some x) found e =
      let step = went_on (provided (has x.method.access_flags acc_public) IllegalAccessError x) not_abstract d e in
      let same = (held (has x.method.access_flags acc_public) IllegalAccessError x step.0 step.1).1 in
      concrete_run l called x d (found x refl) (subst (λ y. not_abstract y ≡ Ok d) (sym same) step.2)

  interface_run : (called : Declared) (l : Loaded) (d : Declared) → select_interface world called.method l ≡ Ok d → IsRun world l called d
  interface_run called l d e = public_run l called d (first_alike world called.method l) (λ x f. alike_upward world called.method l x f) e

  abbrev SpecialRun : Loaded → Declared → Declared → Type 0
  SpecialRun start called d = IsRun world start called d ⊎ ((root : Loaded) × IsTrue (is_interface start) × IsRootClass world root × IsRun world root called d)

  -- a public instance method of java/lang/Object
  root_run : (called x d : Declared) → method_if is_public_instance
      (method_if_loaded called.method.name called.method.descriptor (class_named world (codes "java/lang/Object"))) ≡ Some x → not_abstract x ≡ Ok d →
      (root : Loaded) × IsRootClass world root × IsRun world root called d
  root_run called x d e f =
      let test = passed is_public_instance (method_if_loaded called.method.name called.method.descriptor (class_named world (codes "java/lang/Object"))) x e in
      let root = in_object ways above_above world called.method.name called.method.descriptor x test.0 in
      let is = method_in_is called.method.name called.method.descriptor root.0 x root.2 in (
        root.0,
        root.1,
        concrete_run root.0 called x d (record {
          place = subst (Contains (upward world root.0)) (sym is.0) (first root.0 (superclasses world root.0.class));
          alike = record {
            declared = subst (λ (c : Loaded). method_named c.class called.method.name called.method.descriptor ≡ Some x.method) (sym is.0) is.1;
            instance = (and_parts (has x.method.access_flags acc_public) (not (is_static_method x.method)) test.1).1;
          };
        }) f,
      )

  from_interface : (start : Loaded) (called d : Declared) → IsTrue (is_interface start) → (o : Option Declared) → interface_first world called.method
      start ≡ o → found_or_default world start called.method o ≡ Ok d → SpecialRun start called d
  from_interface start called d i None e f = inl (default_run start called d f)
  from_interface start called d i (Some x) e f = by_part (in_or (alike_in start called.method) _ x e)
    where
      by_part : (alike_in start called.method ≡ Some x) ⊎
          (method_if is_public_instance (method_if_loaded called.method.name called.method.descriptor (class_named world (codes "java/lang/Object")))
          ≡ Some x) → SpecialRun start called d
      by_part (inl own) = inl (concrete_run start called x d (upward_from world start called.method start x (first start (superclasses world start.class)) own) f)
      by_part (inr root) = let run = root_run called x d root f in inr (run.0, i, run.1, run.2)

  from_start : (start : Loaded) (called d : Declared) → select_from world called.method start ≡ Ok d → SpecialRun start called d
  from_start start called d e = by_kind (is_interface start) refl e
    where
      by_kind : (b : Bool) → is_interface start ≡ b → found_or_default world start called.method
          (if b then interface_first world called.method start else first_alike world called.method start) ≡ Ok d → SpecialRun start called d
      by_kind true i e = from_interface start called d i (interface_first world called.method start) refl e
      by_kind false i e = inl (found_run start called d (first_alike world called.method start) (λ x f. alike_upward world called.method start x f) e)

  -- ---- the call as a whole

  of_target : (t s : MethodTarget) (d : Declared) (P : Declared → Type 0) → (let r : OrError MethodTarget = Ok (target t.named d) in r) ≡ Ok s → P d → (s.named ≡ t.named) × P s.declared
  of_target t s d P e h =
      let same : target t.named d ≡ s = ap (λ (r : OrError MethodTarget). result_unwrap_or r s) e in
      (sym (ap (λ (x : MethodTarget). x.named) same), subst (λ (x : MethodTarget). P x.declared) same h)

  object_run : (site : Site) (t : MethodTarget) (object : Option Loaded) (l : Loaded) (d : Declared) → object_class world object ≡ Ok l →
      (how : Use) → (how ≡ Invokevirtual) ⊎ (how ≡ Invokeinterface) → selected world site how t object ≡ Ok d → IsRun world l t.declared d
  object_run site t object l d is how (inl v) e =
      virtual_run t.declared l d (subst (λ r. (r >>= select_virtual world t.declared) ≡ Ok d) is (subst (λ h. selected world site h t object ≡ Ok d) v e))
  object_run site t object l d is how (inr v) e =
      let all = subst (λ h. selected world site h t object ≡ Ok d) v e in
      let step = went_on (provided (implements world object t.named) IncompatibleClassChangeError object >>= object_class world) (select_interface world t.declared.method) d all in
      let class = went_on (provided (implements world object t.named) IncompatibleClassChangeError object) (object_class world) step.0 step.1 in
      let same = (held (implements world object t.named) IncompatibleClassChangeError object class.0 class.1).1 in
      let found : object_class world object ≡ Ok step.0 = subst (λ o. object_class world o ≡ Ok step.0) (sym same) class.2 in
      let is_l : l ≡ step.0 = ap (λ (r : OrError Loaded). result_unwrap_or r l) (sym is ∙ found) in
      interface_run t.declared l d (subst (λ c. select_interface world t.declared.method c ≡ Ok d) (sym is_l) step.2)

pub selected_is_run : AboveByWays → AboveIsTransitive → SelectedIsRun
selected_is_run ways above_above world site how t s object l use_is is e =
    let step = went_on (selected world site how t object) (λ d. Ok (target t.named d)) s e in
    of_target ways above_above world t s step.0 (IsRun world l t.declared) step.2 (object_run ways above_above world site t object l step.0 is how use_is step.1)

pub special_is_run : AboveByWays → AboveIsTransitive → SpecialIsRun
special_is_run ways above_above world site t s object plain e =
    let step = went_on (selected world site Invokespecial t object) (λ d. Ok (target t.named d)) s e in
    of_target ways above_above world t s step.0 (SpecialRun ways above_above world start t.declared) step.2
    (from_start ways above_above world start t.declared step.0 (by_name (is_init t.declared.method.name) refl plain step.0 step.1))
  where
    start : Loaded
    start = special_start world site.by t.named

    by_name : (b : Bool) → is_init t.declared.method.name ≡ b → IsTrue (not b) → (d : Declared) →
        (if b then Ok t.declared else select_from world t.declared.method start) ≡ Ok d → select_from world t.declared.method start ≡ Ok d
    by_name true f h d e = absurd cc
    by_name false f h d e = e
