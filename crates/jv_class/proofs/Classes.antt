-- A well-formed structure is a class, and its members have one name each.
use Rattle.std.proofs.Common.{◌≡◌, ◌≢◌, ℕ, zero, suc, Bool, true, false, cond, eqb, ◌&&◌, List, [], ◌∷◌, Option, Some, None, refl, sym, ap, subst, ◌∙◌}
use Rattle.std.specs.Prelude.{IsSome, IsTrue, map, slice_get}
use Rattle.std.specs.List.{All, AllByRecursion, find}
use Rattle.std.specs.Option.{option_map}
use Rattle.std.specs.Str.{bytes_eq}
use Rattle.std.proofs.lemmas.Bool.{and_parts, and_from}
use Rattle.std.proofs.lemmas.List.Elements.{All-head, All-tail}
use Rattle.std.proofs.lemmas.Slice.Eq.{bytes_eq-Decides}
use Rattle.jv_format.specs.Format.{◌>>=◌}
use Rattle.jv_pool.specs.Constants.{Entry, NameAndDescriptor, name_and_descriptor, named_at, class_name_at}
use Rattle.jv_class_structure.specs.Structure.{FieldInfo, MethodInfo, ClassStructure}
use Rattle.jv_class_structure.specs.Attributes.{some_and}
use Rattle.jv_class_structure.specs.Parts.{method_shown}
use Rattle.jv_class.specs.Rules.{NoTwoAlike, IsClassAt, KeepsFieldRules, KeepsMethodRules}
use Rattle.jv_class.proofs.ShownOf.{all_also}
use Rattle.jv_class.specs.ClassFile.{class_name}
use Rattle.jv_class.specs.Class.{Field, Method, Class, all_found, initial_value, field_of, method_of, super_of, class_of, IsSomeClass, OneOfEachName}
use Rattle.jv_class.proofs.Kept.{some_there}
use Rattle.jv_class.proofs.Keys.{super_there}

-- ---- something is found

then_some : {A B : Type 0} (o : Option A) (f : A → Option B) → IsSome o → ((a : A) → IsSome (f a)) → IsSome (o >>= f)
then_some None f h g = absurd cc
then_some (Some a) f h g = g a

mapped_some : {A B : Type 0} (f : A → B) (o : Option A) → IsSome o → IsSome (option_map f o)
mapped_some f None h = absurd cc
mapped_some f (Some a) h = refl

found_all : {A B : Type 0} (look : A → Option B) (xs : List A) → All (λ x. IsSome (look x)) xs → IsSome (all_found look xs)
found_all look [] h = refl
found_all look (x ∷ xs) h =
    then_some (look x) _ (All-head (λ y. IsSome (look y)) x xs h)
    (λ b. then_some (all_found look xs) _ (found_all look xs (All-tail (λ y. IsSome (look y)) x xs h)) (λ others. refl))

interface_there : (pool : List Entry) (o : Option (List ℕ)) (test : List ℕ → Bool) → IsTrue (some_and test o) → IsSome o
interface_there pool None test h = absurd cc
interface_there pool (Some name) test h = refl

super_some : (pool : List Entry) (index : ℕ) (b : Bool) → eqb index 0 ≡ b → ((index ≡ 0 → ⊥) → IsSome (class_name_at pool index)) →
    IsSome (cond b (Some None) (option_map Some (class_name_at pool index)))
super_some pool index true e there = refl
super_some pool index false e there = mapped_some Some (class_name_at pool index) (there (λ zero_is. absurd (clash (sym e ∙ ap (λ n. eqb n 0) zero_is))))
  where
    clash : false ≡ true → ⊥
    clash e = cc

pub some_class : IsSomeClass
some_class c w =
    let pool : List Entry = c.constant_pool in
    let rules = w.rules in
    then_some (class_name c) _ (some_there (class_name c) _ rules.itself.named) (λ name.
    then_some (super_of c) _ (super_some pool c.super_class (eqb c.super_class 0) refl (super_there pool c.super_class (class_name c) rules.itself.named)) (λ super_class.
    then_some (all_found (class_name_at pool) c.interfaces) _
    (found_all (class_name_at pool) c.interfaces
    (all_also (IsClassAt pool) (λ i. IsSome (class_name_at pool i)) (λ i h. interface_there pool (class_name_at pool i) _ h) c.interfaces
    rules.itself.supers.interfaces)) (λ interfaces.
    then_some (all_found (field_of pool) c.fields) _
    (found_all (field_of pool) c.fields (all_also (KeepsFieldRules pool c.access_flags) (λ f. IsSome (field_of pool f))
    (λ f h. mapped_some _ (named_at pool f.name_index f.descriptor_index) (some_there (named_at pool f.name_index f.descriptor_index) _ h)) c.fields
    rules.members.fields)) (λ fields.
    then_some (all_found (method_of pool) c.methods) _
    (found_all (method_of pool) c.methods (all_also (KeepsMethodRules pool c.major_version c.access_flags) (λ m. IsSome (method_of pool m))
    (λ m h. mapped_some _ (named_at pool m.name_index m.descriptor_index) (some_there (named_at pool m.name_index m.descriptor_index) _ h)) c.methods
    rules.members.methods)) (λ methods. refl)))))

-- ---- one of each name

-- members of any kind: how they are made of their texts, and the texts that they show
module _ {A B : Type 0} (texts : A → Option NameAndDescriptor) (make : A → NameAndDescriptor → B) (name descriptor : B → List ℕ)
    (shows : (a : A) (t : NameAndDescriptor) → name_and_descriptor (name (make a t)) (descriptor (make a t)) ≡ t) where
  abbrev look : A → Option B
  look a = option_map (make a) (texts a)

  abbrev is_named_as : B → B → Bool
  is_named_as y z = bytes_eq (name z) (name y) && bytes_eq (descriptor z) (descriptor y)

  same_bytes : (xs : List ℕ) → bytes_eq xs xs ≡ true
  same_bytes xs = (bytes_eq-Decides xs xs).1 refl

  own_name : (y : B) → is_named_as y y ≡ true
  own_name y = and_from _ _ (same_bytes (name y)) (same_bytes (descriptor y))

  -- the member at a place has the texts of some item, and these are among those of all
  texts_of : (P : Option NameAndDescriptor → Type 0) (xs : List A) (ys : List B) → all_found look xs ≡ Some ys → AllByRecursion P (map texts xs) → (place : ℕ) (y : B) → slice_get ys place ≡ Some y
      → P (Some (name_and_descriptor (name y) (descriptor y)))
  texts_of P [] ys e all place y at = absurd (none_there ys e place at)
    where
      none_there : (ys : List B) → all_found look [] ≡ Some ys → (place : ℕ) → slice_get ys place ≡ Some y → ⊥
      none_there [] e place at = cc
      none_there (z ∷ zs) e place at = cc
  texts_of P (x ∷ xs) ys e all place y at =
      by_texts (λ zs tail n found. texts_of P xs zs tail all.1 n y found) (texts x) refl (all_found look xs) refl ys e place at
    where
      by_texts : ((zs : List B) → all_found look xs ≡ Some zs → (n : ℕ) → slice_get zs n ≡ Some y → P (Some (name_and_descriptor (name y) (descriptor y))))
          → (t : Option NameAndDescriptor) → texts x ≡ t → (more : Option (List B)) → all_found look xs ≡ more → (ys : List B)
          → (option_map (make x) t >>= λ b. more >>= λ others. Some (b ∷ others)) ≡ Some ys → (place : ℕ) → slice_get ys place ≡ Some y → P (Some (name_and_descriptor (name y) (descriptor y)))
      by_texts again None is more are ys e place at = absurd cc
      by_texts again (Some t) is None are ys e place at = absurd cc
      by_texts again (Some t) is (Some zs) are [] e place at = absurd cc
      by_texts again (Some t) is (Some zs) are (z ∷ ys) e zero at =
          let here : make x t ≡ y = cc in
          let one : P (Some t) = subst P is all.0 in
          subst (λ z. P (Some (name_and_descriptor (name z) (descriptor z)))) here (subst (λ u. P (Some u)) (sym (shows x t)) one)
      by_texts again (Some t) is (Some zs) are (z ∷ ys) e (suc place) at =
          let rest : zs ≡ ys = cc in
          again ys (are ∙ ap (λ l. Some l) rest) place at

  -- another member's name is another
  other_name : (y z : B) → (Some (name_and_descriptor (name z) (descriptor z)) ≢ Some (name_and_descriptor (name y) (descriptor y))) → is_named_as y z ≡ false
  other_name y z differ = by_test (is_named_as y z) refl
    where
      by_test : (b : Bool) → is_named_as y z ≡ b → is_named_as y z ≡ false
      by_test false e = e
      by_test true e =
          let parts = and_parts (bytes_eq (name z) (name y)) (bytes_eq (descriptor z) (descriptor y)) e in
          let n = (bytes_eq-Decides (name z) (name y)).0 parts.0 in
          let d = (bytes_eq-Decides (descriptor z) (descriptor y)).0 parts.1 in
          absurd (differ (ap (λ a. Some (name_and_descriptor a (descriptor z))) n ∙ ap (λ b. Some (name_and_descriptor (name y) b)) d))

  found_itself : (xs : List A) (ys : List B) → all_found look xs ≡ Some ys → NoTwoAlike (map texts xs) → (place : ℕ) (y : B) → slice_get ys place ≡ Some y → find (is_named_as y) ys ≡ Some y
  found_itself [] [] e unlike place y at = absurd cc
  found_itself [] (z ∷ zs) e unlike place y at = absurd cc
  found_itself (x ∷ xs) ys e unlike place y at =
      by_texts (λ zs tail n found. found_itself xs zs tail unlike.1 n y found) (texts x) refl (all_found look xs) refl ys e place at
    where
      here : (b : Bool) (z : B) (zs : List B) → is_named_as y z ≡ b → b ≡ true → z ≡ y → cond b (Some z) (find (is_named_as y) zs) ≡ Some y
      here true z zs e on same = ap (λ w. Some w) same
      here false z zs e on same = absurd cc

      later : (b : Bool) (z : B) (zs : List B) → b ≡ false → find (is_named_as y) zs ≡ Some y → cond b (Some z) (find (is_named_as y) zs) ≡ Some y
      later true z zs off found = absurd cc
      later false z zs off found = found

      by_texts : ((zs : List B) → all_found look xs ≡ Some zs → (n : ℕ) → slice_get zs n ≡ Some y → find (is_named_as y) zs ≡ Some y)
          → (t : Option NameAndDescriptor) → texts x ≡ t → (more : Option (List B)) → all_found look xs ≡ more → (ys : List B)
          → (option_map (make x) t >>= λ b. more >>= λ others. Some (b ∷ others)) ≡ Some ys → (place : ℕ) → slice_get ys place ≡ Some y → find (is_named_as y) ys ≡ Some y
      by_texts again None is more are ys e place at = absurd cc
      by_texts again (Some t) is None are ys e place at = absurd cc
      by_texts again (Some t) is (Some zs) are [] e place at = absurd cc
      by_texts again (Some t) is (Some zs) are (z ∷ ys) e zero at =
          let same : z ≡ y = cc in
          here (is_named_as y z) z ys refl (subst (λ w. is_named_as w z ≡ true) same (own_name z)) same
      by_texts again (Some t) is (Some zs) are (z ∷ ys) e (suc place) at =
          let first : make x t ≡ z = cc in
          let rest : zs ≡ ys = cc in
          let tail : all_found look xs ≡ Some ys = are ∙ ap (λ l. Some l) rest in
          let differ = texts_of (λ other. texts x ≢ other) xs ys tail unlike.0 place y at in
          let mine : texts x ≡ Some (name_and_descriptor (name z) (descriptor z)) = is ∙ ap (λ u. Some u) (sym (shows x t)) ∙ ap (λ w. Some (name_and_descriptor (name w) (descriptor w))) first in
          later (is_named_as y z) z ys (other_name y z (λ e. differ (mine ∙ e))) (again ys tail place at)

abbrev field_made : List Entry → FieldInfo → NameAndDescriptor → Field
field_made pool f texts = record { access_flags = f.access_flags; name = texts.name; descriptor = texts.descriptor; initial = initial_value pool f }

abbrev method_made : List Entry → MethodInfo → NameAndDescriptor → Method
method_made pool m texts = record { access_flags = m.access_flags; name = texts.name; descriptor = texts.descriptor; code = (method_shown pool m).code }

-- the parts of a class that was found
bind : {A B : Type 0} (o : Option A) (f : A → Option B) (y : B) → (o >>= f) ≡ Some y → (a : A) × (o ≡ Some a) × (f a ≡ Some y)
bind None f y e = absurd cc
bind (Some a) f y e = (a, refl, e)

parts : (c : ClassStructure) (class : Class) → class_of c ≡ Some class → (all_found (field_of c.constant_pool) c.fields ≡ Some class.fields) ×
    (all_found (method_of c.constant_pool) c.methods ≡ Some class.methods)
parts c class e =
    let name = bind (class_name c) _ class e in
    let above = bind (super_of c) _ class name.2 in
    let interfaces = bind (all_found (class_name_at c.constant_pool) c.interfaces) _ class above.2 in
    let fields = bind (all_found (field_of c.constant_pool) c.fields) _ class interfaces.2 in
    let methods = bind (all_found (method_of c.constant_pool) c.methods) _ class fields.2 in
    (fields.1 ∙ ap (λ l. Some l) cc, methods.1 ∙ ap (λ l. Some l) cc)

pub one_of_each : OneOfEachName
one_of_each c class w e =
    let found = parts c class e in
    let pool : List Entry = c.constant_pool in
    record {
      field = found_itself (λ (f : FieldInfo). named_at pool f.name_index f.descriptor_index) (field_made pool) (λ f. f.name) (λ f. f.descriptor) (λ a t. refl) c.fields class.fields found.0
          w.rules.unlike.fields;
      method = found_itself (λ (m : MethodInfo). named_at pool m.name_index m.descriptor_index) (method_made pool) (λ m. m.name) (λ m. m.descriptor) (λ a t. refl) c.methods class.methods found.1
          w.rules.unlike.methods;
    }
