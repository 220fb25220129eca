-- What a verdict on a known class asks of its world (JVMS 4.10.1.2, 4.10.1.8) has one answer in two worlds that agree.
use Rattle.std.proofs.Common.{◌≡◌, ℕ, zero, suc, Bool, true, false, ◌&&◌, ◌||◌, not, List, ◌∷◌, Option, Some, None, refl, sym, ap, ◌∙◌, subst, inl, inr}
use Rattle.std.specs.Prelude.{◌⊎◌, ⊤, IsTrue, unwrap_or}
use Rattle.std.specs.List.{Contains, list_any}
use Rattle.std.specs.Str.{bytes_eq}
use Rattle.jv_format.specs.Format.{◌>>=◌}
use Rattle.jv_text.specs.declared.descriptor.Element.{Element}
use Rattle.jv_text.specs.declared.descriptor.Element.TheVariants as elements
use Rattle.jv_pool.specs.Constants.{MemberReference}
use Rattle.jv_class_structure.specs.Flags.{has, acc_protected, acc_static}
use Rattle.jv_stackmap.specs.declared.verification.VerificationTypeOf.TheVariants as types
use Rattle.jv_stackmap.specs.Types.{FrameType}
use Rattle.jv_meaning_world.specs.World.{Loaded, World, class_named, same_package}
use Rattle.jv_meaning_world.specs.Above.{supers_in, superclass_in, superclasses}
use Rattle.jv_meaning_world.specs.Verdicts.{is_interface, is_loadable}
use Rattle.jv_meaning_world.specs.Flow.{is_loadable_interface, is_loadable_below, class_flows, extended, flows}
use Rattle.jv_meaning_world.specs.LookUps.{is_among, lookup_field, lookup_method, is_subclass}
use Rattle.jv_meaning_world.proofs.Up.{same_name, named_stands}
use Rattle.jv_meaning_world.proofs.OrderChains.{any_found}
use Rattle.jv_meaning_typing.specs.Access.{same_class}
use Rattle.jv_meaning_typing.specs.Named.{is_guarded, is_guarded_field, is_guarded_method}
use Rattle.jv_meaning_typing.proofs.Found.{split}
use Rattle.jv_meaning_typing.proofs.Searched.{AllOf, superclass_is_super, of_superclasses}
use Rattle.jv_meaning_library.proofs.Worlds.{and_same, or_same, Agree, IsKnown, known_by, super_known}
use Rattle.jv_meaning_library.proofs.Loading.{super_loadable, loadable_same, chain_same, loadable_chain_same}
use Rattle.jv_meaning_library.proofs.Searching.{field_same, method_same}

-- ---- types of known classes

abbrev pub KnownElement : (List ℕ → Bool) → Element (List ℕ) → Type 0
KnownElement known (elements.Base base) = ⊤
KnownElement known (elements.Class name) = IsTrue (known name)

abbrev pub KnownType : (List ℕ → Bool) → FrameType → Type 0
KnownType known (types.Class name) = IsTrue (known name)
KnownType known (types.Array components) = KnownElement known components.element
KnownType known _ = ⊤

-- ---- a class whose methods are looked at: its direct supers are loadable

pub record IsReady (known : List ℕ → Bool) (v : World) (l : Loaded) : Type 0 where
  pub known_is : IsKnown known v l
  pub supers : (s : Loaded) → Contains (supers_in v l.class) s → IsTrue (is_loadable v s)

-- ---- the answers

pub record Answers (known : List ℕ → Bool) (v w : World) (l : Loaded) : Type 0 where
  pub named : (name : List ℕ) → IsTrue (known name) → class_named v name ≡ class_named w name
  pub flow : (t u : FrameType) → KnownType known t → KnownType known u → flows v t u ≡ flows w t u
  pub guarded_field : (reference : MemberReference) → IsTrue (known reference.class) → is_guarded_field v l reference ≡ is_guarded_field w l reference
  pub guarded_method : (reference : MemberReference) → IsTrue (known reference.class) → is_guarded_method v l reference ≡ is_guarded_method w l reference

pub turned_answers : (known : List ℕ → Bool) (v w : World) (l : Loaded) → Answers known v w l → Answers known w v l
turned_answers known v w l a = record {
  named = λ name k. sym (a.named name k);
  flow = λ t u k j. sym (a.flow t u k j);
  guarded_field = λ reference k. sym (a.guarded_field reference k);
  guarded_method = λ reference k. sym (a.guarded_method reference k);
}

-- ---- a test behind a look-up

never : {B : Type 0} (o : Option B) (test : B → Bool) → ((b : B) → test b ≡ false) → unwrap_or (o >>= λ b. Some (test b)) false ≡ false
never None test fails = refl
never (Some b) test fails = fails b

tested_same : {B : Type 0} (o : Option B) (one other : B → Bool) → ((b : B) → one b ≡ other b)
    → (o >>= λ b. Some (one b)) ≡ (o >>= λ b. Some (other b))
tested_same None one other same = refl
tested_same (Some b) one other same = ap (λ t. Some t) (same b)

bound_same : {A B : Type 0} (o : Option A) (f g : A → Option B) → ((a : A) → o ≡ Some a → f a ≡ g a) → (o >>= f) ≡ (o >>= g)
bound_same None f g same = refl
bound_same (Some a) f g same = same a refl

-- ---- in two worlds

module _ (known : List ℕ → Bool) (v w : World) (agree : Agree known v w) where
  -- ---- flow

  interface_same : (y : List ℕ) → IsTrue (known y) → is_loadable_interface v (class_named v y) ≡ is_loadable_interface w (class_named w y)
  interface_same y k = by_class (class_named v y) refl ∙ ap (is_loadable_interface w) (agree.named y k)
    where
      by_class : (o : Option Loaded) → class_named v y ≡ o → is_loadable_interface v o ≡ is_loadable_interface w o
      by_class None e = refl
      by_class (Some l) e = ap (λ b. b && is_interface l) (loadable_same known v w agree l (known_by known v w agree y l k e))

  below_same : (x y : List ℕ) → IsTrue (known x) → is_loadable_below v y (class_named v x) ≡ is_loadable_below w y (class_named w x)
  below_same x y k = by_class (class_named v x) refl ∙ ap (is_loadable_below w y) (agree.named x k)
    where
      by_class : (o : Option Loaded) → class_named v x ≡ o → is_loadable_below v y o ≡ is_loadable_below w y o
      by_class None e = refl
      by_class (Some l) e =
          let i = known_by known v w agree x l k e in
          and_same (is_loadable v l) (is_loadable w l) (list_any (λ s. bytes_eq s.class.name y) (superclasses v l.class))
          (list_any (λ s. bytes_eq s.class.name y) (superclasses w l.class)) (loadable_same known v w agree l i)
          (λ t. ap (list_any (λ s. bytes_eq s.class.name y)) (loadable_chain_same known v w agree l i t))

  class_same : (x y : List ℕ) → IsTrue (known x) → IsTrue (known y) → class_flows v x y ≡ class_flows w x y
  class_same x y k j =
      ap (λ b. bytes_eq x y || b)
      (or_same (is_loadable_interface v (class_named v y)) (is_loadable_interface w (class_named w y)) (is_loadable_below v y (class_named v x))
      (is_loadable_below w y (class_named w x)) (interface_same y j) (below_same x y k))

  component_same : (m : ℕ) (e : Element (List ℕ)) (n : ℕ) (f : Element (List ℕ)) → KnownElement known e → KnownElement known f
      → extended (class_flows v) m e n f ≡ extended (class_flows w) m e n f
  component_same zero (elements.Base a) zero (elements.Base b) k j = refl
  component_same zero (elements.Class x) zero (elements.Class y) k j = class_same x y k j
  component_same zero (elements.Base a) zero (elements.Class y) k j = refl
  component_same zero (elements.Class x) zero (elements.Base b) k j = refl
  component_same zero (elements.Base a) (suc n) f k j = refl
  component_same zero (elements.Class x) (suc n) f k j = refl
  component_same (suc m) e zero (elements.Class y) k j = refl
  component_same (suc m) e zero (elements.Base b) k j = refl
  component_same (suc m) e (suc n) f k j = component_same m e n f k j

  flow_same : (t u : FrameType) → KnownType known t → KnownType known u → flows v t u ≡ flows w t u
  flow_same (types.Class x) (types.Class y) k j = class_same x y k j
  flow_same (types.Array a) (types.Array b) k j = component_same a.dimensions a.element b.dimensions b.element k j
  flow_same t u k j = refl

  -- ---- the current class

  module _ (l : Loaded) (ready : IsReady known v l) where
    own_chain : superclasses v l.class ≡ superclasses w l.class
    own_chain = chain_same known v w agree l ready.known_is (λ s e. ready.supers s (superclass_is_super v l.class s e))

    subclass_same : (of : Loaded) → is_subclass v l of ≡ is_subclass w l of
    subclass_same of = ap (λ ls. is_among (l ∷ ls) of) own_chain

    guarded_same : (named by : Loaded) (flags : ℕ) → is_guarded v l named by flags ≡ is_guarded w l named by flags
    guarded_same named by flags =
        ap (λ b. b && not (same_class l named) && has flags acc_protected && not (has flags acc_static) && not (same_package l by)) (subclass_same named)

    -- the superclass of a class that the current one is below is loadable
    direct_up : (s : Loaded) → Contains (supers_in v l.class) s → IsKnown known v s × IsTrue (is_loadable v s)
    direct_up s h = (super_known known v w agree l s ready.known_is h, ready.supers s h)

    further_up : (m s : Loaded) → IsKnown known v m × IsTrue (is_loadable v m) → Contains (supers_in v m.class) s → IsKnown known v s × IsTrue (is_loadable v s)
    further_up m s up h =
        let next = super_known known v w agree m s up.0 h in
        (next, super_loadable v agree.first_rooted m s (named_stands v m.class.name m up.0.found) (named_stands v s.class.name s next.found) up.1 h)

    all_up : AllOf (λ s. IsKnown known v s × IsTrue (is_loadable v s)) (superclasses v l.class)
    all_up = of_superclasses v (λ s. IsKnown known v s × IsTrue (is_loadable v s)) further_up l.class direct_up

    named_up : (named : Loaded) → IsKnown known v named → IsTrue (is_subclass v l named) → (s : Loaded) → superclass_in v named.class ≡ Some s → IsTrue (is_loadable v s)
    named_up named k h s e =
        let one = any_found (λ (b : Loaded). bytes_eq b.class.name named.class.name) (l ∷ superclasses v l.class) h in
        by_part one.0 (same_name one.0.class.name named.class.name one.2) (split l (superclasses v l.class) one.0 one.1)
      where
        same : (b : Loaded) → IsKnown known v b → b.class.name ≡ named.class.name → b ≡ named
        same b i f = unsome (sym i.found ∙ ap (class_named v) f ∙ k.found)
          where
            unsome : Some b ≡ Some named → b ≡ named
            unsome g = cc

        up : (m : Loaded) → m ≡ named → ((s : Loaded) → Contains (supers_in v m.class) s → IsTrue (is_loadable v s)) → IsTrue (is_loadable v s)
        up m f supers = supers s (subst (λ (x : Loaded). Contains (supers_in v x.class) s) (sym f) (superclass_is_super v named.class s e))

        by_part : (b : Loaded) → b.class.name ≡ named.class.name → (l ≡ b) ⊎ Contains (superclasses v l.class) b → IsTrue (is_loadable v s)
        by_part b f (inl g) = up l (same l ready.known_is (ap (λ (x : Loaded). x.class.name) g ∙ f)) ready.supers
        by_part b f (inr h) =
            let there = all_up b h in
            up b (same b there.0 f) (λ m j. (further_up b m there j).1)

    guarded_field_same : (reference : MemberReference) → IsTrue (known reference.class) → is_guarded_field v l reference ≡ is_guarded_field w l reference
    guarded_field_same reference k =
        ap (λ o. unwrap_or o false)
        (bound_same (class_named v reference.class) (looked v) (looked w) (λ named e. by_class named (known_by known v w agree reference.class named k e))
        ∙ ap (λ o. o >>= looked w) (agree.named reference.class k))
      where
        looked : World → Loaded → Option Bool
        looked world named = lookup_field world named reference.name reference.descriptor >>= λ d. Some (is_guarded world l named d.by d.field.access_flags)

        by_class : (named : Loaded) → IsKnown known v named → looked v named ≡ looked w named
        by_class named i =
            tested_same (lookup_field v named reference.name reference.descriptor) (λ d. is_guarded v l named d.by d.field.access_flags)
            (λ d. is_guarded w l named d.by d.field.access_flags) (λ d. guarded_same named d.by d.field.access_flags)
            ∙ ap (λ o. o >>= λ d. Some (is_guarded w l named d.by d.field.access_flags)) (field_same known v w agree named i reference.name reference.descriptor)

    guarded_method_same : (reference : MemberReference) → IsTrue (known reference.class) → is_guarded_method v l reference ≡ is_guarded_method w l reference
    guarded_method_same reference k = by_option (class_named v reference.class) refl ∙ ap (λ o. unwrap_or (o >>= looked w) false) (agree.named reference.class k)
      where
        looked : World → Loaded → Option Bool
        looked world named = lookup_method world named reference.name reference.descriptor >>= λ d. Some (is_guarded world l named d.by d.method.access_flags)

        unguarded : (world : World) (named : Loaded) → is_subclass world l named ≡ false → unwrap_or (looked world named) false ≡ false
        unguarded world named e =
            never (lookup_method world named reference.name reference.descriptor) (λ d. is_guarded world l named d.by d.method.access_flags)
            (λ d. ap (λ b. b && not (same_class l named) && has d.method.access_flags acc_protected && not (has d.method.access_flags acc_static) && not (same_package l d.by)) e)

        by_test : (named : Loaded) → IsKnown known v named → (b : Bool) → is_subclass v l named ≡ b
            → unwrap_or (looked v named) false ≡ unwrap_or (looked w named) false
        by_test named i false e = unguarded v named e ∙ sym (unguarded w named (sym (subclass_same named) ∙ e))
        by_test named i true e =
            ap (λ o. unwrap_or o false)
            (tested_same (lookup_method v named reference.name reference.descriptor) (λ d. is_guarded v l named d.by d.method.access_flags)
            (λ d. is_guarded w l named d.by d.method.access_flags) (λ d. guarded_same named d.by d.method.access_flags)
            ∙ ap (λ o. o >>= λ d. Some (is_guarded w l named d.by d.method.access_flags))
            (method_same known v w agree named i (named_up named i e) reference.name reference.descriptor))

        by_option : (o : Option Loaded) → class_named v reference.class ≡ o → unwrap_or (o >>= looked v) false ≡ unwrap_or (o >>= looked w) false
        by_option None e = refl
        by_option (Some named) e = by_test named (known_by known v w agree reference.class named k e) (is_subclass v l named) refl

pub answers : (known : List ℕ → Bool) (v w : World) → Agree known v w → (l : Loaded) → IsReady known v l → Answers known v w l
answers known v w agree l ready = record {
  named = agree.named;
  flow = flow_same known v w agree;
  guarded_field = guarded_field_same known v w agree l ready;
  guarded_method = guarded_method_same known v w agree l ready;
}
