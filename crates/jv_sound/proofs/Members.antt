-- Fields that are found at run time are fields of the object, and hold what the descriptor says.
use Rattle.std.proofs.Common.{◌≡◌, ◌⊎◌, inl, inr, ℕ, Bool, true, false, not, ◌&&◌, ◌||◌, List, [], ◌∷◌, ◌++◌, map, filter, reverse, Option, Some, None, refl, sym, ap, subst, ◌∙◌}
use Rattle.std.specs.Prelude.{IsTrue, is_some, if◌then◌else◌}
use Rattle.std.specs.List.{AllByRecursion, Contains, flat_map, list_any}
use Rattle.std.specs.Str.{bytes_eq}
use Rattle.std.specs.Cmp.Lexicographic.{nat_list_eq_equiv}
use Rattle.std.proofs.lemmas.Bool.{and_from}
use Rattle.std.proofs.lemmas.List.Elements.{Contains-append_left, Contains-append_right, Contains-append_cases}
use mathlib.Core.List.{reverse_aux}
use Rattle.jv_text.specs.Types.{field_type_of}
use Rattle.jv_stackmap.specs.declared.verification.VerificationTypeOf.TheVariants as types
use Rattle.jv_class.specs.Class.{Field, field_named}
use Rattle.jv_meaning_world.specs.World.{Loaded, World, class_named}
use Rattle.jv_meaning_world.specs.Above.{superclasses}
use Rattle.jv_meaning_world.specs.Verdicts.{is_interface, is_loadable}
use Rattle.jv_meaning_world.specs.LookUps.{DeclaredField, field_by}
use Rattle.jv_meaning_world.proofs.Up.{first, later, none, single, same_name}
use Rattle.jv_meaning_typing.specs.Kind.{is_static_field}
use Rattle.jv_meaning_typing.specs.Layout.{own_fields, instance_fields}
use Rattle.jv_meaning_typing.specs.Selection.{upward}
use Rattle.jv_meaning_world.specs.Flow.{class_flows, is_above_arrays}
use Rattle.jv_meaning_world.specs.Laws.Order.{IsBelow, IsRooted, object_name, names_interface, erased_name}
use Rattle.jv_meaning_world.proofs.OrderChains.{any_made, superclasses_are_named}
use Rattle.jv_meaning_world.proofs.OrderNames.{IsSuperclassOf, flow_cases, same_some}
use Rattle.jv_meaning_machine.specs.Values.{Value}
use Rattle.jv_meaning_machine.specs.Objects.{FieldKey, Content, Instance, Object, same_key, key_of, value_at, is_below, is_instance_of}
use Rattle.jv_meaning_machine.specs.Objects.Object.{InstanceOf, ArrayWith}
use Rattle.jv_meaning_machine.specs.Laws.Shapes.{keys_in}
use Rattle.jv_meaning_machine.specs.State.{Program}
use Rattle.jv_meaning_world.proofs.OrderAbove.{below_is_above, array_below_class}
use Rattle.jv_meaning_typing.specs.Named.{class_components}
use Rattle.jv_sound.specs.Values.{FitsDescribed, FitsEntry, object_type}
use Rattle.jv_sound.specs.Memory.{IsTypedInstance, IsTypedObject}
use Rattle.jv_sound.proofs.Logic.{clash}
use Rattle.jv_sound.proofs.Taking.{and_parts}

-- ---- lists

pub in_map : {A B : Type 0} (f : A → B) (xs : List A) (x : A) → Contains xs x → Contains (map f xs) (f x)
in_map f [] x h = absurd (none x h)
in_map f (y ∷ xs) x h = by_part (λ k. in_map f xs x k) (Contains-append_cases (y ∷ []) xs x h)
  where
    by_part : (Contains xs x → Contains (map f xs) (f x)) → Contains (y ∷ []) x ⊎ Contains xs x → Contains (f y ∷ map f xs) (f x)
    by_part again (inl k) = subst (λ z. Contains (f y ∷ map f xs) (f z)) (single y x k) (first (f y) (map f xs))
    by_part again (inr k) = later (f y) (map f xs) (f x) (again k)

pub kept : {A : Type 0} (test : A → Bool) (xs : List A) (x : A) → Contains xs x → test x ≡ true → Contains (filter test xs) x
kept test [] x h t = absurd (none x h)
kept test (y ∷ xs) x h t = by_part (test y) refl (λ k. kept test xs x k t) (Contains-append_cases (y ∷ []) xs x h)
  where
    by_part : (b : Bool) → test y ≡ b → (Contains xs x → Contains (filter test xs) x) → Contains (y ∷ []) x ⊎ Contains xs x
        → Contains (if b then y ∷ filter test xs else filter test xs) x
    by_part true e again (inl k) = subst (λ z. Contains (y ∷ filter test xs) z) (single y x k) (first y (filter test xs))
    by_part true e again (inr k) = later y (filter test xs) x (again k)
    by_part false e again (inl k) = absurd (clash (sym e ∙ ap test (single y x k) ∙ t))
    by_part false e again (inr k) = again k

pub in_flat : {A B : Type 0} (f : A → List B) (xs : List A) (x : A) (b : B) → Contains xs x → Contains (f x) b → Contains (flat_map f xs) b
in_flat f [] x b h k = absurd (none x h)
in_flat f (y ∷ xs) x b h k = by_part (λ j. in_flat f xs x b j k) (Contains-append_cases (y ∷ []) xs x h)
  where
    by_part : (Contains xs x → Contains (flat_map f xs) b) → Contains (y ∷ []) x ⊎ Contains xs x → Contains (f y ++ flat_map f xs) b
    by_part again (inl j) = Contains-append_left (f y) (flat_map f xs) b (subst (λ z. Contains (f z) b) (sym (single y x j)) k)
    by_part again (inr j) = Contains-append_right (f y) (flat_map f xs) b (again j)

in_reversed : {A : Type 0} (xs ys : List A) (x : A) → Contains xs x ⊎ Contains ys x → Contains (reverse_aux xs ys) x
in_reversed [] ys x (inl h) = absurd (none x h)
in_reversed [] ys x (inr h) = h
in_reversed (y ∷ xs) ys x (inr h) = in_reversed xs (y ∷ ys) x (inr (later y ys x h))
in_reversed (y ∷ xs) ys x (inl h) = by_part (λ k. in_reversed xs (y ∷ ys) x k) (Contains-append_cases (y ∷ []) xs x h)
  where
    by_part : (Contains xs x ⊎ Contains (y ∷ ys) x → Contains (reverse_aux xs (y ∷ ys)) x) → Contains (y ∷ []) x ⊎ Contains xs x
        → Contains (reverse_aux xs (y ∷ ys)) x
    by_part again (inl j) = again (inr (subst (λ z. Contains (y ∷ ys) z) (single y x j) (first y ys)))
    by_part again (inr j) = again (inl j)

pub field_in : (test : Field → Bool) (fs : List Field) (f : Field) → Rattle.std.specs.List.find test fs ≡ Some f → Contains fs f
field_in test [] f e = absurd cc
field_in test (x ∷ fs) f e = by_test (test x) e (λ k. field_in test fs f k)
  where
    by_test : (b : Bool) → (if b then Some x else Rattle.std.specs.List.find test fs) ≡ Some f
        → (Rattle.std.specs.List.find test fs ≡ Some f → Contains fs f) → Contains (x ∷ fs) f
    by_test true e next = let s : x ≡ f = cc in subst (λ (y : Field). Contains (x ∷ fs) y) s (first x fs)
    by_test false e next = later x fs f (next e)

-- ---- contents

pub held_by_keys : (key : FieldKey) (content : Content) → is_some (value_at key content) ≡ list_any (same_key key) (keys_in content)
held_by_keys key [] = refl
held_by_keys key (entry ∷ more) = by_test (same_key key entry.0) (held_by_keys key more)
  where
    by_test : (test : Bool) → is_some (value_at key more) ≡ list_any (same_key key) (keys_in more)
        → is_some (if test then Some entry.1 else value_at key more) ≡ (test || list_any (same_key key) (keys_in more))
    by_test true e = refl
    by_test false e = e

pub same_key_itself : (key : FieldKey) → same_key key key ≡ true
same_key_itself key =
    and_from (bytes_eq key.name key.name && bytes_eq key.class key.class) (bytes_eq key.descriptor key.descriptor)
    (and_from (bytes_eq key.name key.name) (bytes_eq key.class key.class) (nat_list_eq_equiv.refl key.name)
    (nat_list_eq_equiv.refl key.class))
    (nat_list_eq_equiv.refl key.descriptor)

-- what is found under a key is of the key's descriptor
pub held_fits : (world : World) (objects : List Object) (key : FieldKey) (content : Content) (v : Value)
    → AllByRecursion (FitsEntry world objects) content → value_at key content ≡ Some v
    → FitsDescribed world objects (field_type_of key.descriptor) v
held_fits world objects key [] v f e = absurd cc
held_fits world objects key (entry ∷ more) v f e = by_test (same_key key entry.0) refl e (λ k. held_fits world objects key more v f.1 k)
  where
    by_test : (b : Bool) → same_key key entry.0 ≡ b → (if b then Some entry.1 else value_at key more) ≡ Some v
        → (value_at key more ≡ Some v → FitsDescribed world objects (field_type_of key.descriptor) v)
        → FitsDescribed world objects (field_type_of key.descriptor) v
    by_test true k e next =
        let same_value : entry.1 ≡ v = cc in
        let same_text : key.descriptor ≡ entry.0.descriptor = same_name key.descriptor entry.0.descriptor
        (and_parts (bytes_eq key.name entry.0.name && bytes_eq key.class entry.0.class)
        (bytes_eq key.descriptor entry.0.descriptor) k).1 in
        subst (λ (x : Value). FitsDescribed world objects (field_type_of key.descriptor) x) same_value
        (subst (λ (d : List ℕ). FitsDescribed world objects (field_type_of d) entry.1) (sym same_text) f.0)
    by_test false k e next = next e

-- ---- the class that declares the field is one of the object's superclasses

module _ (world : World) (rooted : IsRooted world) where
  plain_erased : (x : List ℕ) → (IsTrue (names_interface world x) → ⊥) → erased_name world x ≡ x
  plain_erased x plain = by_test (names_interface world x) plain
    where
      by_test : (b : Bool) → (b ≡ true → ⊥) → (if b then object_name else x) ≡ x
      by_test true n = absurd (n refl)
      by_test false n = refl

  pub not_interface : (x : List ℕ) (l : Loaded) → class_named world x ≡ Some l → is_interface l ≡ false → IsTrue (names_interface world x)
      → ⊥
  not_interface x l e n h = clash (sym n ∙ (and_parts (is_loadable world l) (is_interface l)
      (subst (λ (o : Option Loaded). IsTrue (Rattle.jv_meaning_world.specs.Flow.is_loadable_interface world o)) e
      h)).1)

  below_plain : (x y : List ℕ) → (IsTrue (names_interface world x) → ⊥) → (IsTrue (names_interface world y) → ⊥)
      → IsBelow world (types.Class x) (types.Class y) → IsTrue (class_flows world x y)
  below_plain x y nx ny h =
      subst (λ (n : List ℕ). IsTrue (class_flows world n y)) (plain_erased x nx)
      (subst (λ (n : List ℕ). IsTrue (class_flows world (erased_name world x) n)) (plain_erased y ny) h)

  -- a class below another, neither an interface, has it upward
  pub is_upward :
      (l by : Loaded) → class_named world l.class.name ≡ Some l → class_named world by.class.name ≡ Some by → is_interface l ≡ false
      → is_interface by ≡ false
      → IsBelow world (types.Class l.class.name) (types.Class by.class.name) → Contains (upward world l) by
  is_upward l by el eb nl nb h =
      by_flow (flow_cases world l.class.name by.class.name (below_plain l.class.name by.class.name (not_interface l.class.name l el nl)
      (not_interface by.class.name by eb nb) h))
    where
      by_flow : (l.class.name ≡ by.class.name) ⊎ (IsTrue (names_interface world by.class.name) ⊎ IsSuperclassOf world l.class.name
          by.class.name) → Contains (upward world l) by
      by_flow (inl e) =
          let same : l ≡ by = same_some l by (sym el ∙ ap (class_named world) e ∙ eb) in
          subst (λ (x : Loaded). Contains (upward world l) x) same (first l (superclasses world l.class))
      by_flow (inr (inl i)) = absurd (not_interface by.class.name by eb nb i)
      by_flow (inr (inr s)) =
          let same_from : s.from ≡ l = same_some s.from l (sym s.found ∙ el) in
          let chain : Contains (superclasses world l.class) s.to = subst
          (λ (x : Loaded). Contains (superclasses world x.class) s.to) same_from s.on_chain in
          let same_to : s.to ≡ by = same_some s.to by (sym (superclasses_are_named world l.class s.to chain) ∙ ap
          (class_named world) s.named ∙ eb) in
          subst (λ (x : Loaded). Contains (upward world l) x) same_to (later l (superclasses world l.class) s.to chain)

  own_field : (by : Loaded) (f : Field) (name descriptor : List ℕ) → field_named by.class name descriptor ≡ Some f
      → is_static_field f ≡ false → Contains (own_fields by) (field_by by f)
  own_field by f name descriptor e n =
      in_map (field_by by) (filter (λ (f : Field). not (is_static_field f)) by.class.fields) f
      (kept (λ (f : Field). not (is_static_field f)) by.class.fields f
      (field_in (λ (g : Field). bytes_eq g.name name && bytes_eq g.descriptor descriptor) by.class.fields f e) (ap not n))

  pub field_there : (l : Loaded) (d : DeclaredField) (name descriptor : List ℕ) → Contains (upward world l) d.by
      → field_named d.by.class name descriptor ≡ Some d.field → is_static_field d.field ≡ false
      → Contains (instance_fields world l) d
  field_there l d name descriptor h e n =
      in_flat own_fields (reverse (upward world l)) d.by d (in_reversed (upward world l) [] d.by (inl h))
      (own_field d.by d.field name descriptor e n)

-- what an object holds in a field that is found for it
pub record HoldsField (program : Program) (objects : List Object) (d : DeclaredField) (instance : Instance) : Type 0 where
  pub value : Value
  pub held : value_at (key_of d) instance.fields ≡ Some value
  pub fits : FitsDescribed program.world objects (field_type_of d.field.descriptor) value

pub some_value : (o : Option Value) → is_some o ≡ true → (v : Value) × (o ≡ Some v)
some_value None e = absurd (clash e)
some_value (Some v) e = (v, refl)

pub holds_field :
    (program : Program) (objects : List Object) (instance : Instance) (d : DeclaredField) (h : IsTypedInstance program objects instance)
    → Contains (instance_fields program.world h.l) d → HoldsField program objects d instance
holds_field program objects instance d h there =
    let known : list_any (same_key (key_of d)) (map key_of (instance_fields program.world h.l)) ≡ true =
    any_made (same_key (key_of d)) (map key_of (instance_fields program.world h.l)) (key_of d)
    (in_map key_of (instance_fields program.world h.l) d there) (same_key_itself (key_of d)) in
    let v = some_value (value_at (key_of d) instance.fields) (held_by_keys (key_of d) instance.fields ∙ ap
    (list_any (same_key (key_of d))) h.keys ∙ known) in
    record { value = v.0; held = v.1; fits = held_fits program.world objects (key_of d) instance.fields v.0 h.values v.1 }

-- an object below a class that is no interface is one of it (the verifier's order and instanceof agree there)
pub below_is_one :
    (program : Program) (rooted : IsRooted program.world) (objects : List Object) (o : Object) (by : Loaded)
    → IsTypedObject program objects o → class_named program.world by.class.name ≡ Some by → is_interface by ≡ false
    → IsBelow program.world (object_type o) (types.Class by.class.name)
    → is_instance_of program.world o (class_components by.class.name) ≡ true
below_is_one program rooted objects (InstanceOf i) by h named plain b =
    subst (λ (o : Option Loaded). (bytes_eq i.class by.class.name || is_below program.world o by.class.name) ≡ true) (sym h.named)
    (below_is_above program.world rooted i.class by.class.name h.l h.named
    (not_interface program.world rooted by.class.name by named plain) b)
below_is_one program rooted objects (ArrayWith components values) by h named plain b =
    subst (λ (n : List ℕ). is_above_arrays n ≡ true) (sym (array_below_class program.world rooted components by.class.name
    (not_interface program.world rooted by.class.name by named plain) b)) refl
