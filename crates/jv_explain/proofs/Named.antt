-- The method that a file shows at a place is that of its class.
use Rattle.std.proofs.Common.{◌≡◌, ℕ, zero, suc, List, [], ◌∷◌, Option, Some, None, refl, sym, ap, ◌∙◌}
use Rattle.std.specs.Prelude.{slice_get}
use Rattle.std.specs.Option.{option_map}
use Rattle.std.proofs.lemmas.Option.{slice_get-map}
use Rattle.jv_format.specs.Format.{◌>>=◌}
use Rattle.jv_pool.specs.Constants.{Entry, class_name_at, utf8_at, name_and_descriptor}
use Rattle.jv_class_structure.specs.Parts.{MethodSeen, method_shown, methods_of}
use Rattle.jv_class_structure.specs.Structure.{ClassStructure, MethodInfo}
use Rattle.jv_class.specs.Class.{Class, Method, all_found, class_of, field_of, method_of, super_of}
use Rattle.jv_class.specs.ClassFile.{class_name}

module _ {S Y : Type 0} (look : S → Option Y) where
  parts_found : (x : S) (xs : List S) (ys : List Y) → all_found look (x ∷ xs) ≡ Some ys → (y : Y) × (more : List Y) × (look x ≡ Some y) × (all_found look xs ≡ Some more) × (ys ≡ y ∷ more)
  parts_found x xs ys e = by_cases (look x) refl (all_found look xs) refl e
    where
      by_cases : (o : Option Y) → look x ≡ o → (m : Option (List Y)) → all_found look xs ≡ m → (o >>= λ y. m >>= λ more. Some (y ∷ more)) ≡ Some ys
          → (y : Y) × (more : List Y) × (look x ≡ Some y) × (all_found look xs ≡ Some more) × (ys ≡ y ∷ more)
      by_cases None first m others e = absurd cc
      by_cases (Some y) first None others e = absurd cc
      by_cases (Some y) first (Some more) others e = (y, more, first, others, cc)

  none_there : (ys : List Y) → ys ≡ [] → (k : ℕ) (y : Y) → slice_get ys k ≡ Some y → ⊥
  none_there [] e zero y at = absurd cc
  none_there [] e (suc k) y at = absurd cc
  none_there (z ∷ ys) e k y at = absurd cc

  found_there : (xs : List S) (ys : List Y) → all_found look xs ≡ Some ys → (k : ℕ) (y : Y) → slice_get ys k ≡ Some y → (x : S) × (slice_get xs k ≡ Some x) × (look x ≡ Some y)
  found_there [] ys e k y at =
      let none : ys ≡ [] = cc in
      absurd (none_there ys none k y at)
  found_there (x ∷ xs) ys e zero y at =
      let parts = parts_found x xs ys e in
      let same : Some parts.0 ≡ Some y = ap (λ l. slice_get l zero) (sym parts.4) ∙ at in
      (x, refl, parts.2 ∙ same)
  found_there (x ∷ xs) ys e (suc k) y at =
      let parts = parts_found x xs ys e in
      found_there xs parts.1 parts.3 k y (ap (λ l. slice_get l (suc k)) (sym parts.4) ∙ at)

chained : {A B : Type 0} (o : Option A) (f : A → Option B) (y : B) → (o >>= f) ≡ Some y → (a : A) × (o ≡ Some a) × (f a ≡ Some y)
chained None f y e = absurd cc
chained (Some a) f y e = (a, refl, e)

-- the constants and the methods of the class of a structure
of_structure : (c : ClassStructure) (class : Class) → class_of c ≡ Some class → (c.constant_pool ≡ class.constant_pool) × (all_found (method_of c.constant_pool) c.methods ≡ Some class.methods)
of_structure c class e =
    let name = chained (class_name c) _ class e in
    let above = chained (super_of c) _ class name.2 in
    let interfaces = chained (all_found (class_name_at c.constant_pool) c.interfaces) _ class above.2 in
    let fields = chained (all_found (field_of c.constant_pool) c.fields) _ class interfaces.2 in
    let methods = chained (all_found (method_of c.constant_pool) c.methods) _ class fields.2 in
    (cc, methods.1 ∙ ap (λ l. Some l) cc)

abbrev named : MethodSeen → List ℕ → List ℕ → Method
named shown n d = record { access_flags = shown.access_flags; name = n; descriptor = d; code = shown.code }

-- what a method is shown as
pub record IsShownAs (pool : List Entry) (shown : MethodSeen) (m : Method) : Type 0 where
  pub name : utf8_at pool shown.name_index ≡ Some m.name
  pub descriptor : utf8_at pool shown.descriptor_index ≡ Some m.descriptor
  pub code : m.code ≡ shown.code

shown_as : (pool : List Entry) (info : MethodInfo) (m : Method) → method_of pool info ≡ Some m → IsShownAs pool (method_shown pool info) m
shown_as pool info m e = by_texts (utf8_at pool info.name_index) refl (utf8_at pool info.descriptor_index) refl e
  where
    by_texts : (n : Option (List ℕ)) → utf8_at pool info.name_index ≡ n → (d : Option (List ℕ)) → utf8_at pool info.descriptor_index ≡ d
        → option_map (λ texts. named (method_shown pool info) texts.name texts.descriptor) (n >>= λ n. d >>= λ d. Some (name_and_descriptor n d)) ≡ Some m
        → IsShownAs pool (method_shown pool info) m
    by_texts None at_name d at_descriptor e = absurd cc
    by_texts (Some n) at_name None at_descriptor e = absurd cc
    by_texts (Some n) at_name (Some d) at_descriptor e =
        let same : named (method_shown pool info) n d ≡ m = cc in
        record {
          name = at_name ∙ ap (λ x. Some x.name) same;
          descriptor = at_descriptor ∙ ap (λ x. Some x.descriptor) same;
          code = ap (λ x. x.code) (sym same);
        }

-- the method of the class of a file at a place is the one that is shown there
pub shown_at : (file : ClassStructure) (class : Class) → class_of file ≡ Some class → (k : ℕ) (m : Method) → slice_get class.methods k ≡ Some m
    → (x : MethodSeen) × (slice_get (methods_of file) k ≡ Some x) × IsShownAs file.constant_pool x m
shown_at file class of k m at =
    let parts = of_structure file class of in
    let found = found_there (method_of file.constant_pool) file.methods class.methods parts.1 k m at in (
      method_shown file.constant_pool found.0,
      slice_get-map (method_shown file.constant_pool) file.methods k ∙ ap (option_map (method_shown file.constant_pool)) found.1,
      shown_as file.constant_pool found.0 m found.2,
    )

pub same_pool : (file : ClassStructure) (class : Class) → class_of file ≡ Some class → class.constant_pool ≡ file.constant_pool
same_pool file class of = sym (of_structure file class of).0
