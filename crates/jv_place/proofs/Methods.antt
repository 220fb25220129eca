-- The methods of a class are those that its file shows (JVMS 4.6).
use Rattle.std.proofs.Common.{◌≡◌, ℕ, zero, suc, List, [], ◌∷◌, Option, Some, None, refl, sym, ap, subst, ◌∙◌}
use Rattle.std.specs.Prelude.{slice_get}
use Rattle.std.specs.Option.{option_map}
use Rattle.std.proofs.lemmas.Option.{slice_get-map}
use Rattle.jv_format.specs.Format.{◌>>=◌}
use Rattle.jv_pool.specs.Constants.{Entry, class_name_at, utf8_at, name_and_descriptor}
use Rattle.jv_class_structure.specs.Parts.{MethodSeen, method_shown, methods_of}
use Rattle.jv_class_structure.specs.Structure.{ClassStructure, MethodInfo}
use Rattle.jv_class.specs.Class.{Class, Method, all_found, class_of, field_of, method_of, super_of}
use Rattle.jv_class.specs.ClassFile.{class_name}
use Rattle.jv_classes.proofs.AllFound.{parts_found}

-- ---- what is found of each item of a list

none_there : {X : Type 0} (xs : List X) → xs ≡ [] → (k : ℕ) (x : X) → slice_get xs k ≡ Some x → ⊥
none_there [] e zero x at = absurd cc
none_there [] e (suc k) x at = absurd cc
none_there (z ∷ xs) e k x at = absurd cc

module _ {S Y : Type 0} (look : S → Option Y) where
  pub item_of_found : (xs : List S) (ys : List Y) → all_found look xs ≡ Some ys → (k : ℕ) (y : Y) → slice_get ys k ≡ Some y → (x : S) × (slice_get xs k ≡ Some x) × (look x ≡ Some y)
  item_of_found [] ys e k y at =
      let none : ys ≡ [] = cc in
      absurd (none_there ys none k y at)
  item_of_found (x ∷ xs) ys e zero y at =
      let parts = parts_found look x xs ys e in
      let same : Some parts.0 ≡ Some y = ap (λ l. slice_get l zero) (sym parts.4) ∙ at in
      (x, refl, parts.2 ∙ same)
  item_of_found (x ∷ xs) ys e (suc k) y at =
      let parts = parts_found look x xs ys e in
      item_of_found xs parts.1 parts.3 k y (ap (λ l. slice_get l (suc k)) (sym parts.4) ∙ at)

  pub found_of_item : (xs : List S) (ys : List Y) → all_found look xs ≡ Some ys → (k : ℕ) (x : S) → slice_get xs k ≡ Some x → (y : Y) × (slice_get ys k ≡ Some y) × (look x ≡ Some y)
  found_of_item [] ys e k x at = absurd (none_there [] refl k x at)
  found_of_item (z ∷ xs) ys e zero x at =
      let parts = parts_found look z xs ys e in
      let same : z ≡ x = cc in
      (parts.0, ap (λ l. slice_get l zero) parts.4, ap look (sym same) ∙ parts.2)
  found_of_item (z ∷ xs) ys e (suc k) x at =
      let parts = parts_found look z xs ys e in
      let rest = found_of_item xs parts.1 parts.3 k x at in
      (rest.0, ap (λ l. slice_get l (suc k)) parts.4 ∙ rest.1, rest.2)

-- ---- the parts of a class

chained : {A B : Type 0} (o : Option A) (f : A → Option B) (y : B) → (o >>= f) ≡ Some y → (a : A) × (o ≡ Some a) × (f a ≡ Some y)
chained None f y e = absurd cc
chained (Some a) f y e = (a, refl, e)

pub record AreParts (c : ClassStructure) (class : Class) : Type 0 where
  pub name : class_name c ≡ Some class.name
  pub pool : class.constant_pool ≡ c.constant_pool
  pub methods : all_found (method_of c.constant_pool) c.methods ≡ Some class.methods

pub parts : (c : ClassStructure) (class : Class) → class_of c ≡ Some class → AreParts c class
parts c class e =
    let name = chained (class_name c) _ class e in
    let above = chained (super_of c) _ class name.2 in
    let interfaces = chained (all_found (class_name_at c.constant_pool) c.interfaces) _ class above.2 in
    let fields = chained (all_found (field_of c.constant_pool) c.fields) _ class interfaces.2 in
    let methods = chained (all_found (method_of c.constant_pool) c.methods) _ class fields.2 in
    record { name = name.1 ∙ ap (λ l. Some l) cc; pool = cc; methods = methods.1 ∙ ap (λ l. Some l) cc }

-- ---- a method, as it is shown

abbrev named : MethodSeen → List ℕ → List ℕ → Method
named shown n d = record { access_flags = shown.access_flags; name = n; descriptor = d; code = shown.code }

pub record IsShownAs (pool : List Entry) (shown : MethodSeen) (m : Method) : Type 0 where
  pub name : utf8_at pool shown.name_index ≡ Some m.name
  pub descriptor : utf8_at pool shown.descriptor_index ≡ Some m.descriptor
  pub code : m.code ≡ shown.code

shown_as : (pool : List Entry) (info : MethodInfo) (m : Method) → method_of pool info ≡ Some m → IsShownAs pool (method_shown pool info) m
shown_as pool info m e = by_texts (utf8_at pool info.name_index) refl (utf8_at pool info.descriptor_index) refl e
  where
    by_texts : (n : Option (List ℕ)) → utf8_at pool info.name_index ≡ n → (d : Option (List ℕ)) → utf8_at pool info.descriptor_index ≡ d
        → option_map (λ texts. named (method_shown pool info) texts.name texts.descriptor) (n >>= λ n. d >>= λ d. Some (name_and_descriptor n d)) ≡ Some m
        → IsShownAs pool (method_shown pool info) m
    by_texts None at_name d at_descriptor e = absurd cc
    by_texts (Some n) at_name None at_descriptor e = absurd cc
    by_texts (Some n) at_name (Some d) at_descriptor e =
        let same : named (method_shown pool info) n d ≡ m = cc in
        record {
          name = at_name ∙ ap (λ x. Some x.name) same;
          descriptor = at_descriptor ∙ ap (λ x. Some x.descriptor) same;
          code = ap (λ x. x.code) (sym same);
        }

-- the method of the class at a place, and what its file shows there
module _ (file : ClassStructure) (class : Class) (of : class_of file ≡ Some class) (k : ℕ) where
  pub shown_of_method : (m : Method) → slice_get class.methods k ≡ Some m
      → (shown : MethodSeen) × (slice_get (methods_of file) k ≡ Some shown) × IsShownAs file.constant_pool shown m
  shown_of_method m at =
      let found = item_of_found (method_of file.constant_pool) file.methods class.methods (parts file class of).methods k m at in (
        method_shown file.constant_pool found.0,
        slice_get-map (method_shown file.constant_pool) file.methods k ∙ ap (option_map (method_shown file.constant_pool)) found.1,
        shown_as file.constant_pool found.0 m found.2,
      )

  pub method_of_shown : (shown : MethodSeen) → slice_get (methods_of file) k ≡ Some shown
      → (m : Method) × (slice_get class.methods k ≡ Some m) × IsShownAs file.constant_pool shown m
  method_of_shown shown at = by_info (slice_get file.methods k) refl
    where
      by_info : (o : Option MethodInfo) → slice_get file.methods k ≡ o
          → (m : Method) × (slice_get class.methods k ≡ Some m) × IsShownAs file.constant_pool shown m
      by_info None there =
          let none : slice_get (methods_of file) k ≡ None =
          slice_get-map (method_shown file.constant_pool) file.methods k ∙ ap (option_map (method_shown file.constant_pool)) there in
          absurd (nothing shown (sym at ∙ none))
        where
          nothing : (x : MethodSeen) → Some x ≡ None → ⊥
          nothing x e = cc
      by_info (Some info) there =
          let here : slice_get (methods_of file) k ≡ Some (method_shown file.constant_pool info) =
          slice_get-map (method_shown file.constant_pool) file.methods k ∙ ap (option_map (method_shown file.constant_pool)) there in
          let both : Some shown ≡ Some (method_shown file.constant_pool info) = sym at ∙ here in
          let same : method_shown file.constant_pool info ≡ shown = cc in
          let found = found_of_item (method_of file.constant_pool) file.methods class.methods (parts file class of).methods k info there in (
            found.0,
            found.1,
            subst (λ (x : MethodSeen). IsShownAs file.constant_pool x found.0) same (shown_as file.constant_pool info found.0 found.2),
          )
