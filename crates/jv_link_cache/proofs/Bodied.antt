-- The code of a class's methods, as its file shows it.
use Rattle.std.proofs.Common.{◌≡◌, ℕ, zero, suc, List, [], ◌∷◌, map, Option, Some, None, refl, sym, ap, ◌∙◌, subst}
use Rattle.std.specs.Prelude.{slice_get}
use Rattle.std.specs.Option.{option_map}
use Rattle.jv_format.specs.Format.{◌>>=◌}
use Rattle.jv_pool.specs.Constants.{Entry, class_name_at, named_at, NameAndDescriptor}
use Rattle.jv_class_structure.specs.declared.member.Method.{Method as ShownMethod}
use Rattle.jv_class_structure.specs.Parts.{MethodSeen, method_shown, methods_of}
use Rattle.jv_class_structure.specs.Seen.{seen_method}
use Rattle.jv_class_structure.specs.Structure.{MethodInfo, ClassStructure}
use Rattle.jv_class.specs.Class.{Method, Class, all_found, field_of, method_of, super_of, class_of}
use Rattle.jv_class.specs.ClassFile.{class_name}
use Rattle.jv_meaning_world.specs.World.{Loaded, World}
use Rattle.jv_meaning_world.specs.Overriding.{Declared}
use Rattle.jv_meaning_world.specs.Verdicts.{declared_by}
use Rattle.jv_lookups.specs.declared.place.Place.{Place}
use Rattle.jv_lookups.specs.Places.{method_of as method_in, method_at}

same_some : {A : Type 0} → {x y : A} → Some x ≡ Some y → x ≡ y
same_some e = cc

-- ---- in a file

pub chained : {A B : Type 0} (o : Option A) (f : A → Option B) (y : B) → (o >>= f) ≡ Some y → (a : A) × (o ≡ Some a) × (f a ≡ Some y)
chained None f y e = absurd cc
chained (Some a) f y e = (a, refl, e)

methods_found : (c : ClassStructure) (class : Class) → class_of c ≡ Some class → all_found (method_of c.constant_pool) c.methods ≡ Some class.methods
methods_found c class e =
    let name = chained (class_name c) _ class e in
    let above = chained (super_of c) _ class name.2 in
    let interfaces = chained (all_found (class_name_at c.constant_pool) c.interfaces) _ class above.2 in
    let fields = chained (all_found (field_of c.constant_pool) c.fields) _ class interfaces.2 in
    let methods = chained (all_found (method_of c.constant_pool) c.methods) _ class fields.2 in
    methods.1 ∙ ap (λ l. Some l) cc

module _ {A B : Type 0} (look : A → Option B) where
  at_first : (x : A) (xs : List A) (b y : B) (bs : List B) → look x ≡ Some b → ((j : ℕ) → slice_get bs j ≡ Some y → (a : A) × (slice_get xs j ≡ Some a) × (look a ≡ Some y))
      → (k : ℕ) → slice_get (b ∷ bs) k ≡ Some y → (a : A) × (slice_get (x ∷ xs) k ≡ Some a) × (look a ≡ Some y)
  at_first x xs b y bs first more zero at = (x, refl, first ∙ at)
  at_first x xs b y bs first more (suc k) at = more k at

  pub all_found_at : (xs : List A) (ys : List B) (y : B) → all_found look xs ≡ Some ys → (k : ℕ) → slice_get ys k ≡ Some y → (a : A) × (slice_get xs k ≡ Some a) × (look a ≡ Some y)
  all_found_at [] ys y e k at = absurd (none k (subst (λ zs. slice_get zs k ≡ Some y) (same_some (sym e)) at))
    where
      none : (j : ℕ) → slice_get [] j ≡ Some y → ⊥
      none zero h = absurd cc
      none (suc j) h = absurd cc
  all_found_at (x ∷ xs) ys y e k at =
      let first = chained (look x) _ ys e in
      let rest = chained (all_found look xs) _ ys first.2 in
      at_first x xs first.0 y rest.0 first.1 (λ j h. all_found_at xs rest.0 y rest.1 j h) k (subst (λ zs. slice_get zs k ≡ Some y) (sym (same_some rest.2)) at)

-- the code that a class's method has is the one that its file shows
code_of_method : (pool : List Entry) (info : MethodInfo) (m : Method) → method_of pool info ≡ Some m → (method_shown pool info).code ≡ m.code
code_of_method pool info m e = by_texts (named_at pool info.name_index info.descriptor_index) e
  where
    by_texts : (o : Option NameAndDescriptor)
        → option_map (λ (texts : NameAndDescriptor). record { access_flags = info.access_flags; name = texts.name; descriptor = texts.descriptor; code = (method_shown pool info).code }) o ≡ Some m
        → (method_shown pool info).code ≡ m.code
    by_texts None e = absurd cc
    by_texts (Some texts) e = ap (λ (x : Method). x.code) (same_some e)

pub map_at : {X Y : Type 0} → (f : X → Y) (xs : List X) (k : ℕ) (x : X) → slice_get xs k ≡ Some x → slice_get (map f xs) k ≡ Some (f x)
map_at f [] zero x e = absurd cc
map_at f [] (suc k) x e = absurd cc
map_at f (y ∷ xs) zero x e = ap (λ z. Some (f z)) (same_some e)
map_at f (y ∷ xs) (suc k) x e = map_at f xs k x e

-- what a file shows of a method
pub shown : (c : ClassStructure) (class : Class) → class_of c ≡ Some class → (k : ℕ) (m : Method) → slice_get class.methods k ≡ Some m →
    (seen : MethodSeen) × (slice_get (methods_of c) k ≡ Some seen) × (seen.code ≡ m.code)
shown c class e k m at =
    let info = all_found_at (method_of c.constant_pool) c.methods class.methods m (methods_found c class e) k at in
    (method_shown c.constant_pool info.0, map_at (method_shown c.constant_pool) c.methods k info.0 info.1, code_of_method c.constant_pool info.0 m info.2)

pub code_shown : (c : ClassStructure) (class : Class) (method : ShownMethod) → class_of c ≡ Some class → (k : ℕ) (m : Method) → slice_get class.methods k ≡ Some m
    → Some (seen_method method) ≡ slice_get (methods_of c) k → (seen_method method).code ≡ m.code
code_shown c class method e k m at is =
    let found = shown c class e k m at in
    ap (λ (s : MethodSeen). s.code) (same_some (is ∙ found.1)) ∙ found.2

pub some_shown : (c : ClassStructure) (class : Class) → class_of c ≡ Some class → (k : ℕ) (m : Method) → slice_get class.methods k ≡ Some m → None ≡ slice_get (methods_of c) k → ⊥
some_shown c class e k m at is =
    let found = shown c class e k m at in
    let clash : None ≡ Some found.0 = is ∙ found.1 in
    absurd (differ clash)
  where
    differ : {x : MethodSeen} → None ≡ Some x → ⊥
    differ h = cc

-- ---- at a place

module _ (world : World) where
  record MethodParts (place : Place) (d : Declared) : Type 0 where
    pub l : Loaded
    pub m : Method
    pub class : slice_get world place.class ≡ Some l
    pub method : slice_get l.class.methods place.member ≡ Some m
    pub is : d ≡ declared_by l m

  parts : (place : Place) (d : Declared) → method_at world place ≡ Some d → MethodParts place d
  parts place d e = by_class (slice_get world place.class) refl e
    where
      by_method : (l : Loaded) → slice_get world place.class ≡ Some l → (o : Option Method) → slice_get l.class.methods place.member ≡ o → option_map (declared_by l) o ≡ Some d → MethodParts place d
      by_method l class None at e = absurd cc
      by_method l class (Some m) at e = record { l = l; m = m; class = class; method = at; is = sym (same_some e) }

      by_class : (o : Option Loaded) → slice_get world place.class ≡ o → (o >>= method_in place.member) ≡ Some d → MethodParts place d
      by_class None class e = absurd cc
      by_class (Some l) class e = by_method l class (slice_get l.class.methods place.member) refl e

  -- what holds of the method that stands at a place holds of the one that is declared there
  pub at_method : (P : Method → Type 0) (place : Place) (d : Declared) → method_at world place ≡ Some d
      → ((l : Loaded) (m : Method) → slice_get world place.class ≡ Some l → slice_get l.class.methods place.member ≡ Some m → P m) → P d.method
  at_method P place d at each = let p = parts place d at in subst (λ (e : Declared). P e.method) (sym p.is) (each p.l p.m p.class p.method)
