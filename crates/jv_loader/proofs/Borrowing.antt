-- Classes of a library: what they lend to the system's, and which stand in front.
use Rattle.std.proofs.Common.{◌≡◌, ℕ, Bool, true, false, cond, ◌&&◌, List, [], ◌∷◌, map, Option, None, Some, refl, sym, ap, ◌∙◌, subst, eq-eqb}
use Rattle.std.specs.Prelude.{◌==◌, IsTrue, is_none, not, slice_get}
use Rattle.std.specs.List.{All, AllByRecursion, Contains, find, list_all}
use Rattle.std.specs.Option.{option_map, unwrap_or}
use Rattle.std.specs.Str.{bytes_eq}
use Rattle.std.proofs.lemmas.Bool.{and_parts}
use Rattle.std.proofs.lemmas.List.Sums.{AllPass-from_list_all}
use Rattle.std.proofs.lemmas.Option.{get_or_from_slice_get, slice_get-get_or, slice_get-map, slice_get_within}
use Rattle.jv_format.specs.Format.{◌>>=◌}
use Rattle.jv_pool.specs.Constants.{Entry, NameAndDescriptor, class_name_at, named_at}
use Rattle.jv_class_structure.specs.Flags.{has, acc_static}
use Rattle.jv_class_structure.specs.Structure.{ClassStructure, FieldInfo}
use Rattle.jv_class.specs.Class.{Class, Field, InitialValue, all_found, class_of, field_of as field_found, initial_value, super_of}
use Rattle.jv_class.specs.ClassFile.{class_name}
use Rattle.jv_meaning_world.specs.FileContent.{IsContent}
use Rattle.jv_meaning_world.specs.Library.{Lends, can_lend, lent, with_methods_of}
use Rattle.jv_meaning_world.specs.World.{Loaded, class_named, loaded}
use Rattle.jv_meaning_world.specs.declared.content.Content.TheVariants.{Holds}
use Rattle.jv_loader.specs.Inside.Given.{all_borrowers}
use Rattle.jv_loader.specs.Inside.Headers.{FieldSeen, HeaderSeen, field_of, header_of}

-- ---- places and elements

module _ {X : Type 0} where
  pub place_of : (xs : List X) (x : X) → Contains xs x → (k : ℕ) × (slice_get xs k ≡ Some x)
  place_of xs x h = (h.0, slice_get-get_or xs h.0 x h.1 ∙ ap (λ y. Some y) h.2)

  pub stands_at : (xs : List X) (k : ℕ) (x : X) → slice_get xs k ≡ Some x → Contains xs x
  stands_at xs k x e = (k, slice_get_within xs k x e, get_or_from_slice_get xs k x x e)

  pub all_at : (P : X → Type 0) (xs : List X) (k : ℕ) (x : X) → All P xs → slice_get xs k ≡ Some x → P x
  all_at P xs k x all e = subst P (get_or_from_slice_get xs k x x e) (all k x (slice_get_within xs k x e))

  pub all_pass_at : (test : X → Bool) (xs : List X) (k : ℕ) (x : X) → IsTrue (list_all test xs) → slice_get xs k ≡ Some x → IsTrue (test x)
  all_pass_at test xs k x all e =
      subst (λ y. IsTrue (test y)) (get_or_from_slice_get xs k x x e) (AllPass-from_list_all test xs all k x (slice_get_within xs k x e))

pub mapped_at : {X Y : Type 0} → (f : X → Y) (xs : List X) (k : ℕ) (y : Y) → slice_get (map f xs) k ≡ Some y → (x : X) × (slice_get xs k ≡ Some x) × (f x ≡ y)
mapped_at {X = X} {Y = Y} f xs k y e = by_found (slice_get xs k) refl (sym (slice_get-map f xs k) ∙ e)
  where
    by_found : (o : Option X) → slice_get xs k ≡ o → option_map f o ≡ Some y → (x : X) × (slice_get xs k ≡ Some x) × (f x ≡ y)
    by_found None here e = absurd cc
    by_found (Some x) here e = (x, here, cc)

-- ---- a field that is not static has no initial value

abbrev pub AreUnset : List Field → Type 0
AreUnset fields = AllByRecursion (λ f. has f.access_flags acc_static ≡ false → f.initial ≡ None) fields

chained : {A B : Type 0} (o : Option A) (f : A → Option B) (y : B) → (o >>= f) ≡ Some y → (a : A) × (o ≡ Some a) × (f a ≡ Some y)
chained None f y e = absurd cc
chained (Some a) f y e = (a, refl, e)

module _ (pool : List Entry) where
  shown : FieldInfo → NameAndDescriptor → Field
  shown f texts = record { access_flags = f.access_flags; name = texts.name; descriptor = texts.descriptor; initial = initial_value pool f }

  unset : (f : FieldInfo) (field : Field) → field_found pool f ≡ Some field → has field.access_flags acc_static ≡ false → field.initial ≡ None
  unfolding shown
  unset f field e not_static = by_names (named_at pool f.name_index f.descriptor_index) e
    where
      nothing : has f.access_flags acc_static ≡ false → initial_value pool f ≡ None
      nothing h = rw h refl

      by_names : (o : Option NameAndDescriptor) → option_map (shown f) o ≡ Some field → field.initial ≡ None
      by_names None e = absurd cc
      by_names (Some texts) e =
          let same : shown f texts ≡ field = cc in
          sym (ap (λ (x : Field). x.initial) same) ∙ nothing (ap (λ (x : Field). has x.access_flags acc_static) same ∙ not_static)

  all_unset : (fs : List FieldInfo) (fields : List Field) → all_found (field_found pool) fs ≡ Some fields → AreUnset fields
  all_unset [] fields e = let same : [] ≡ fields = cc in subst AreUnset same tt
  all_unset (f ∷ fs) fields e =
      let one = chained (field_found pool f) _ fields e in
      let more = chained (all_found (field_found pool) fs) _ fields one.2 in
      let same : one.0 ∷ more.0 ≡ fields = cc in
      subst AreUnset same (unset f one.0 one.1, all_unset fs more.0 more.1)

fields_unset : (c : ClassStructure) (class : Class) → class_of c ≡ Some class → AreUnset class.fields
fields_unset c class e =
    let name = chained (class_name c) _ class e in
    let above = chained (super_of c) _ class name.2 in
    let interfaces = chained (all_found (class_name_at c.constant_pool) c.interfaces) _ class above.2 in
    let fields = chained (all_found (field_found c.constant_pool) c.fields) _ class interfaces.2 in
    let methods = chained (all_found _ c.methods) _ class fields.2 in
    let same : fields.0 ≡ class.fields = cc in
    subst AreUnset same (all_unset c.constant_pool c.fields fields.0 fields.1)

pub held_unset : (bytes : List ℕ) (by : Class) → IsContent bytes (Holds by) → AreUnset by.fields
held_unset bytes by h = fields_unset h.0 by h.2.named

-- ---- a class with the header of one of the system's is that with methods of its own

unfoldable pub is_plain : Field → Bool
is_plain f = not (has f.access_flags acc_static) && is_none f.initial

turned : (b : Bool) → IsTrue (not b) → b ≡ false
turned true h = absurd cc
turned false h = refl

nothing_there : {A : Type 0} (o : Option A) → IsTrue (is_none o) → o ≡ None
nothing_there None h = refl
nothing_there (Some a) h = absurd cc

same_field : (f g : Field) → f.access_flags ≡ g.access_flags → f.name ≡ g.name → f.descriptor ≡ g.descriptor → f.initial ≡ g.initial → f ≡ g
same_field f g flags name descriptor initial =
    let made : ℕ → List ℕ → List ℕ → Option InitialValue → Field = λ a n d i. record { access_flags = a; name = n; descriptor = d; initial = i } in
    ap (λ a. made a f.name f.descriptor f.initial) flags ∙ (ap (λ n. made g.access_flags n f.descriptor f.initial) name
    ∙ (ap (λ d. made g.access_flags g.name d f.initial) descriptor ∙ ap (λ i. made g.access_flags g.name g.descriptor i) initial))

same_fields : (fs gs : List Field) → AreUnset fs → IsTrue (list_all is_plain gs) → map field_of fs ≡ map field_of gs → fs ≡ gs
unfolding is_plain
same_fields [] [] unset plain e = refl
same_fields [] (g ∷ gs) unset plain e = absurd cc
same_fields (f ∷ fs) [] unset plain e = absurd cc
same_fields (f ∷ fs) (g ∷ gs) unset plain e =
    let head : field_of f ≡ field_of g = cc in
    let tail : map field_of fs ≡ map field_of gs = cc in
    let parts = and_parts (is_plain g) (list_all is_plain gs) plain in
    let here = and_parts (not (has g.access_flags acc_static)) (is_none g.initial) parts.0 in
    let flags = ap (λ (x : FieldSeen). x.access_flags) head in
    let none = unset.0 (ap (λ n. has n acc_static) flags ∙ turned (has g.access_flags acc_static) here.0) in
    let one = same_field f g flags (ap (λ (x : FieldSeen). x.name) head) (ap (λ (x : FieldSeen). x.descriptor) head) (none ∙ sym (nothing_there g.initial here.1)) in
    ap (λ x. x ∷ fs) one ∙ ap (λ xs. g ∷ xs) (same_fields fs gs unset.1 parts.1 tail)

pub same_header : (by class : Class) → header_of by ≡ header_of class → AreUnset by.fields → IsTrue (list_all is_plain class.fields) → by ≡ with_methods_of by class
same_header by class e unset plain =
    let made : ℕ → List ℕ → Option (List ℕ) → List (List ℕ) → List Field → Class = λ a n s i f. record {
      major_version = by.major_version;
      access_flags = a;
      name = n;
      super_class = s;
      interfaces = i;
      fields = f;
      methods = by.methods;
      constant_pool = by.constant_pool;
    } in
    ap (λ a. made a by.name by.super_class by.interfaces by.fields) (ap (λ (h : HeaderSeen). h.access_flags) e)
    ∙ (ap (λ n. made class.access_flags n by.super_class by.interfaces by.fields) (ap (λ (h : HeaderSeen). h.name) e)
    ∙ (ap (λ s. made class.access_flags class.name s by.interfaces by.fields) (ap (λ (h : HeaderSeen). h.super_class) e)
    ∙ (ap (λ i. made class.access_flags class.name class.super_class i by.fields) (ap (λ (h : HeaderSeen). h.interfaces) e)
    ∙ ap (λ f. made class.access_flags class.name class.super_class class.interfaces f)
    (same_fields by.fields class.fields unset plain (ap (λ (h : HeaderSeen). h.fields) e)))))

pub all_plain : IsTrue (list_all (λ (c : Class). list_all is_plain c.fields) all_borrowers)
unfolding is_plain
all_plain = refl

-- ---- what is lent

found_lender : (class by : Class) → by.access_flags ≡ class.access_flags → (given : List Class) → class_named (map (loaded false) given) class.name ≡ Some (loaded false by)
    → find (can_lend class) given ≡ Some by
found_lender class by flags [] e = absurd cc
found_lender class by flags (x ∷ given) e = by_test (bytes_eq x.name class.name) refl (λ k. found_lender class by flags given k) e
  where
    same_flags : x ≡ by → (x.access_flags == class.access_flags) ≡ true
    same_flags k = eq-eqb x.access_flags class.access_flags (ap (λ (y : Class). y.access_flags) k ∙ flags)

    by_test : (b : Bool) → bytes_eq x.name class.name ≡ b
        → (class_named (map (loaded false) given) class.name ≡ Some (loaded false by) → find (can_lend class) given ≡ Some by)
        → cond b (Some (loaded false x)) (class_named (map (loaded false) given) class.name) ≡ Some (loaded false by)
        → cond (b && x.access_flags == class.access_flags) (Some x) (find (can_lend class) given) ≡ Some by
    by_test true t again e =
        let here : loaded false x ≡ loaded false by = cc in
        let same = ap (λ (l : Loaded). l.class) here in
        rw (same_flags same) (ap (λ y. Some y) same)
    by_test false t again e = again e

no_lender : (class : Class) (given : List Class) → class_named (map (loaded false) given) class.name ≡ None → find (can_lend class) given ≡ None
no_lender class [] e = refl
no_lender class (x ∷ given) e = by_test (bytes_eq x.name class.name) (λ k. no_lender class given k) e
  where
    by_test : (b : Bool) → (class_named (map (loaded false) given) class.name ≡ None → find (can_lend class) given ≡ None)
        → cond b (Some (loaded false x)) (class_named (map (loaded false) given) class.name) ≡ None
        → cond (b && x.access_flags == class.access_flags) (Some x) (find (can_lend class) given) ≡ None
    by_test true again e = absurd cc
    by_test false again e = again e

pub lent_by : (given : List Class) (class by : Class) → Lends class by → class_named (map (loaded false) given) class.name ≡ Some (loaded false by) → lent given class ≡ by
lent_by given class by lends e =
    ap (λ o. with_methods_of (unwrap_or o class) class) (found_lender class by (ap (λ (c : Class). c.access_flags) lends.same) given e) ∙ sym lends.same

pub not_lent : (given : List Class) (class : Class) → class_named (map (loaded false) given) class.name ≡ None → lent given class ≡ class
not_lent given class e = ap (λ o. with_methods_of (unwrap_or o class) class) (no_lender class given e)
