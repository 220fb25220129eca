-- A file holds one thing, and what was read is what it holds.
use Rattle.std.proofs.Common.{◌≡◌, ℕ, List, [], ◌∷◌, Option, Some, None, refl, sym, ap, subst, ◌∙◌}
use Rattle.std.specs.Prelude.{◌↔◌, Bool, false, IsTrue, IsSome, IsSomeAnd, map}
use Rattle.std.specs.List.{All}
use Rattle.std.specs.Option.{option_map}
use Rattle.std.proofs.lemmas.List.Elements.{All-map, All-head, All-tail, All-nil, All-cons}
use Rattle.jv_format.specs.Format.{◌>>=◌}
use Rattle.jv_pool.specs.Constants.{Entry, named_at, class_name_at}
use Rattle.jv_class_structure.specs.Parts.{CodeSeen, MethodSeen, method_shown}
use Rattle.jv_class_structure.specs.Structure.{MethodInfo, ClassStructure}
use Rattle.jv_class.specs.Class.{Class, Method, all_found, field_of, method_of, super_of, class_of}
use Rattle.jv_class.specs.ClassFile.{OneStructure, IsClassFile, class_name}
use Rattle.jv_class_structure.specs.Parts.{methods_of}
use Rattle.jv_class.specs.Supported.{IsSupported}
use Rattle.jv_meaning_world.specs.FileContent.{HasNoUnsupportedCode, IsProfileClass, IsContent, OneContent}
use Rattle.jv_meaning_world.specs.declared.content.Content.TheVariants.{OtherVersion, NoClassFile, MoreThanProfile, Holds}

some_same : (a b : Class) → Some a ≡ Some b → a ≡ b
some_same a b e = cc

pub one_content : OneStructure → OneContent
one_content law bytes OtherVersion OtherVersion h k = refl
one_content law bytes OtherVersion NoClassFile h k = absurd (k.0 h)
one_content law bytes OtherVersion MoreThanProfile h k = absurd (law.other bytes k.0 k.1 h)
one_content law bytes OtherVersion (Holds class) h k = absurd (law.other bytes k.0 k.1 h)
one_content law bytes NoClassFile OtherVersion h k = absurd (h.0 k)
one_content law bytes NoClassFile NoClassFile h k = refl
one_content law bytes NoClassFile MoreThanProfile h k = absurd (h.1 k.0 k.1)
one_content law bytes NoClassFile (Holds class) h k = absurd (h.1 k.0 k.1)
one_content law bytes MoreThanProfile OtherVersion h k = absurd (law.other bytes h.0 h.1 k)
one_content law bytes MoreThanProfile NoClassFile h k = absurd (k.1 h.0 h.1)
one_content law bytes MoreThanProfile MoreThanProfile h k = refl
one_content law bytes MoreThanProfile (Holds class) h k = absurd (h.2 class (subst (λ c. IsProfileClass c class) (law.same bytes k.0 h.0 k.1 h.1) k.2))
one_content law bytes (Holds class) OtherVersion h k = absurd (law.other bytes h.0 h.1 k)
one_content law bytes (Holds class) NoClassFile h k = absurd (k.1 h.0 h.1)
one_content law bytes (Holds class) MoreThanProfile h k = absurd (k.2 class (subst (λ c. IsProfileClass c class) (law.same bytes h.0 k.0 h.1 k.1) h.2))
one_content law bytes (Holds class) (Holds other) h k =
    let same = law.same bytes h.0 k.0 h.1 k.1 in
    ap (λ c. Holds c) (some_same class other (sym h.2.named ∙ ap class_of same ∙ k.2.named))

-- ---- what was read

all_unseen : {X Y : Type 0} (P : Y → Type 0) (view : X → Y) (xs : List X) → All P (map view xs) → All (λ x. P (view x)) xs
all_unseen P view [] all = All-nil (λ x. P (view x))
all_unseen P view (x ∷ xs) all =
    All-cons (λ x. P (view x)) x xs (All-head P (view x) (map view xs) all) (all_unseen P view xs (All-tail P (view x) (map view xs) all))

pub all_mapped : {X Y : Type 0} (P : Y → Type 0) (f : X → Y) (xs : List X) → All (λ x. P (f x)) xs ↔ All P (map f xs)
all_mapped P f xs = (All-map P f xs, all_unseen P f xs)

-- what was found, and what was found with it
then_parts : {A B : Type 0} (o : Option A) (f : A → Option B) (b : B) → (o >>= f) ≡ Some b → (a : A) × (o ≡ Some a) × (f a ≡ Some b)
then_parts None f b e = absurd cc
then_parts (Some a) f b e = (a, refl, e)

some_parts : {A : Type 0} (a b : A) → Some a ≡ Some b → a ≡ b
some_parts a b e = cc

mapped_parts : {A B : Type 0} (f : A → B) (o : Option A) (b : B) → option_map f o ≡ Some b → (a : A) × (o ≡ Some a) × (f a ≡ b)
mapped_parts f None b e = absurd cc
mapped_parts f (Some a) b e = (a, refl, some_parts _ _ e)

abbrev method_code : Method → Option CodeSeen
method_code m = m.code

abbrev shown_code : MethodSeen → Option CodeSeen
shown_code m = m.code

code_found : (pool : List Entry) (m : MethodInfo) (y : Method) → method_of pool m ≡ Some y → y.code ≡ (method_shown pool m).code
code_found pool m y e = sym (ap method_code (mapped_parts _ (named_at pool m.name_index m.descriptor_index) y e).2)

codes_found : (pool : List Entry) (ms : List MethodInfo) (ys : List Method) → all_found (method_of pool) ms ≡ Some ys → map method_code ys ≡ map shown_code (map (method_shown pool) ms)
codes_found pool [] ys e = ap (map method_code) (sym (some_parts _ _ e))
codes_found pool (m ∷ ms) ys e =
    let first = then_parts (method_of pool m) _ ys e in
    let others = then_parts (all_found (method_of pool) ms) _ ys first.2 in
    ap (map method_code) (sym (some_parts _ _ others.2))
    ∙ (ap (λ code. code ∷ map method_code others.0) (code_found pool m first.0 first.1)
    ∙ ap (λ codes. (method_shown pool m).code ∷ codes) (codes_found pool ms others.0 others.1))

-- the methods of a structure's class
methods_found : (c : ClassStructure) (class : Class) → class_of c ≡ Some class → all_found (method_of c.constant_pool) c.methods ≡ Some class.methods
methods_found c class e =
    let name = then_parts (class_name c) _ class e in
    let super_class = then_parts (super_of c) _ class name.2 in
    let interfaces = then_parts (all_found (class_name_at c.constant_pool) c.interfaces) _ class super_class.2 in
    let fields = then_parts (all_found (field_of c.constant_pool) c.fields) _ class interfaces.2 in
    let methods = then_parts (all_found (method_of c.constant_pool) c.methods) _ class fields.2 in
    methods.1 ∙ ap (λ found. Some found.methods) (some_parts _ _ methods.2)

profile_code : (c : ClassStructure) (class : Class) → class_of c ≡ Some class → All (λ m. HasNoUnsupportedCode m.code) (methods_of c) ↔ All (λ m. HasNoUnsupportedCode m.code) class.methods
profile_code c class e =
    let same = codes_found c.constant_pool c.methods class.methods (methods_found c class e) in
    let shown = all_mapped HasNoUnsupportedCode shown_code (methods_of c) in
    let found = all_mapped HasNoUnsupportedCode method_code class.methods in (
      λ all. found.1 (subst (All HasNoUnsupportedCode) (sym same) (shown.0 all)),
      λ all. shown.1 (subst (All HasNoUnsupportedCode) same (found.0 all)),
    )

-- a class within the profile
pub holds : (bytes : List ℕ) (c : ClassStructure) → IsClassFile bytes c → IsSupported c → IsSome (class_of c) → All (λ m. HasNoUnsupportedCode m.code)
    (methods_of c) → IsSomeAnd (option_map Holds (class_of c)) (IsContent bytes)
holds bytes c file supported some all = by_class (class_of c) refl some
  where
    by_class : (o : Option Class) → class_of c ≡ o → IsSome o → IsSomeAnd (option_map Holds o) (IsContent bytes)
    by_class None e s = absurd cc
    by_class (Some class) e s = (c, file, record { named = e; supported = supported; code = (profile_code c class e).0 all })

-- one with other code
pub beyond : (bytes : List ℕ) (c : ClassStructure) → IsClassFile bytes c → (All (λ m. HasNoUnsupportedCode m.code) (methods_of c) → ⊥) → IsContent bytes MoreThanProfile
beyond bytes c file other = (c, file, λ class is. other ((profile_code c class is.named).1 is.code))

-- one with other constants or members
pub unsupported : (bytes : List ℕ) (c : ClassStructure) → IsClassFile bytes c → (IsSupported c → ⊥) → IsContent bytes MoreThanProfile
unsupported bytes c file other = (c, file, λ class is. other is.supported)

pub clash : (b : Bool) → IsTrue b → b ≡ false → ⊥
clash b t e = cc
