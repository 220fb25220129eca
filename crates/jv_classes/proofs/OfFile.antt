-- What is kept of the class of a file is what the class says.
use Rattle.std.proofs.Common.{◌≡◌, ℕ, zero, suc, ◌<◌, List, [], ◌∷◌, map, length, get_or, Option, Some, None, refl, sym, ap, subst, ◌∙◌, arith}
use Rattle.std.specs.Prelude.{Result, Ok, Err, IfOk, slice_get}
use Rattle.std.specs.Option.{option_map, option_copied}
use Rattle.jv_format.specs.Format.{◌>>=◌}
use Rattle.jv_pool.specs.declared.index.ClassIndex.{ClassIndex}
use Rattle.jv_pool.specs.Constants.{Entry, NameAndDescriptor, named_at, class_name_at}
use Rattle.jv_class_structure.specs.declared.member.Field.{Field}
use Rattle.jv_class_structure.specs.Seen.{seen_index, seen_field}
use Rattle.jv_class_structure.specs.Parts.{FieldSeen, field_shown, method_shown, fields_of, methods_of}
use Rattle.jv_class_structure.specs.Structure.{ClassStructure}
use Rattle.jv_class.specs.ClassFile.{class_name}
use Rattle.jv_class.specs.Rules.{NoTwoAlike, field_texts as field_info_texts, method_texts as method_info_texts}
use Rattle.jv_class.specs.Class.{Class, all_found, field_of, method_of, super_of, class_of}
use Rattle.jv_meaning_world.specs.World.{World, package_of}
use Rattle.jv_meaning_world.specs.Numbers.{number_named}
use Rattle.std.proofs.lemmas.List.{length-map}
use Rattle.jv_classes.specs.Inside.Known.{class_number}
use Rattle.jv_classes.specs.declared.kept.Kept.{Kept}
use Rattle.jv_classes.specs.Inside.Seen.{MemberSeen, field_seen, method_seen}
use Rattle.jv_classes.specs.Inside.Found.{member_with, field_texts, field_at, method_at, interface_at}
use Rattle.jv_classes.specs.Inside.Kept.{Keeps}
use Rattle.jv_classes.proofs.AllFound.{parts_found, found_of_seen, seen_of_found}

pub if_ok_so : {A F : Type 0} (r : Result A F) (P Q : A → Type 0) → ((x : A) → P x → Q x) → IfOk r P → IfOk r Q
if_ok_so (Ok x) P Q so h = so x h
if_ok_so (Err e) P Q so h = tt

map_twice : {X Y Z : Type 0} (f : Y → Z) (g : X → Y) (xs : List X) → map (λ x. f (g x)) xs ≡ map f (map g xs)
map_twice f g [] = refl
map_twice f g (x ∷ xs) = ap (λ l. f (g x) ∷ l) (map_twice f g xs)

mapped_twice : {X Y Z : Type 0} (f : Y → Z) (g : X → Y) (o : Option X) → option_map (λ x. f (g x)) o ≡ option_map f (option_map g o)
mapped_twice f g None = refl
mapped_twice f g (Some x) = refl

-- ---- the parts of a class

chained : {A B : Type 0} (o : Option A) (f : A → Option B) (y : B) → (o >>= f) ≡ Some y → (a : A) × (o ≡ Some a) × (f a ≡ Some y)
chained None f y e = absurd cc
chained (Some a) f y e = (a, refl, e)

record AreParts (c : ClassStructure) (class : Class) : Type 0 where
  pub major : c.major_version ≡ class.major_version
  pub access_flags : c.access_flags ≡ class.access_flags
  pub name : class_name c ≡ Some class.name
  pub super_class : super_of c ≡ Some class.super_class
  pub interfaces : all_found (class_name_at c.constant_pool) c.interfaces ≡ Some class.interfaces
  pub fields : all_found (field_of c.constant_pool) c.fields ≡ Some class.fields
  pub methods : all_found (method_of c.constant_pool) c.methods ≡ Some class.methods

parts : (c : ClassStructure) (class : Class) → class_of c ≡ Some class → AreParts c class
parts c class e =
    let name = chained (class_name c) _ class e in
    let above = chained (super_of c) _ class name.2 in
    let interfaces = chained (all_found (class_name_at c.constant_pool) c.interfaces) _ class above.2 in
    let fields = chained (all_found (field_of c.constant_pool) c.fields) _ class interfaces.2 in
    let methods = chained (all_found (method_of c.constant_pool) c.methods) _ class fields.2 in
    record {
      major = cc;
      access_flags = cc;
      name = name.1 ∙ ap (λ l. Some l) cc;
      super_class = above.1 ∙ ap (λ l. Some l) cc;
      interfaces = interfaces.1 ∙ ap (λ l. Some l) cc;
      fields = fields.1 ∙ ap (λ l. Some l) cc;
      methods = methods.1 ∙ ap (λ l. Some l) cc;
    }

-- ---- members of either kind: as the code has them, as they are shown, and as the structure has them

module _ {X S I : Type 0} (seen : X → S) (shown : I → S) (xs : List X) (infos : List I) (same : map seen xs ≡ map shown infos) where
  unlike_also : (texts : S → Option NameAndDescriptor) → NoTwoAlike (map (λ i. texts (shown i)) infos) → NoTwoAlike (map (λ x. texts (seen x)) xs)
  unlike_also texts = subst NoTwoAlike (map_twice texts shown infos ∙ ap (map texts) (sym same) ∙ sym (map_twice texts seen xs))

  found_also : {M : Type 0} (look : S → Option MemberSeen) (of : I → Option M) (member : M → MemberSeen) → ((i : I) → look (shown i) ≡ option_map member (of i))
      → (members : List MemberSeen) → all_found (λ x. look (seen x)) xs ≡ Some members → (ms : List M) → all_found of infos ≡ Some ms → members ≡ map member ms
  found_also look of member made members found ms e =
      let as_shown = found_of_seen look seen xs ∙ ap (all_found look) same ∙ sym (found_of_seen look shown infos) in
      let both : Some members ≡ Some (map member ms) = sym found ∙ as_shown ∙ seen_of_found of (λ i. look (shown i)) member made infos ms e in
      cc

abbrev shown_field_texts : List Entry → FieldSeen → Option NameAndDescriptor
shown_field_texts pool f = named_at pool f.name_index f.descriptor_index

module _ (c : ClassStructure) (pool : List Entry) (same : pool ≡ c.constant_pool) where
  abbrev own : List Entry
  own = c.constant_pool

  pub fields_unlike : (fields : List Field) → map seen_field fields ≡ fields_of c → NoTwoAlike (map (field_info_texts own) c.fields) → NoTwoAlike (map (field_texts pool) fields)
  fields_unlike fields shown unlike =
      subst (λ (p : List Entry). NoTwoAlike (map (field_texts p) fields)) (sym same) (unlike_also seen_field (field_shown own) fields c.fields shown (shown_field_texts own) unlike)

  pub fields_kept : (fields : List Field) → map seen_field fields ≡ fields_of c → (members : List MemberSeen) → all_found (field_at pool) fields ≡
      Some members → (class : Class) → class_of c ≡ Some class → members ≡ map field_seen class.fields
  fields_kept fields shown members found class e =
      found_also seen_field (field_shown own) fields c.fields shown (λ f. option_map (member_with f.access_flags) (shown_field_texts own f)) (field_of own) field_seen
      (λ f. mapped_twice field_seen _ (field_info_texts own f)) members (subst (λ (p : List Entry). all_found (field_at p) fields ≡ Some members) same found) class.fields (parts c class e).fields

pub methods_kept : (c : ClassStructure) (members : List MemberSeen) → all_found (method_at c.constant_pool) (methods_of c) ≡ Some members →
    (class : Class) → class_of c ≡ Some class → members ≡ map method_seen class.methods
methods_kept c members found class e =
    let own : List Entry = c.constant_pool in
    let as_shown = found_of_seen (method_at own) (method_shown own) c.methods in
    let as_declared = seen_of_found (method_of own) (λ m. method_at own (method_shown own m)) method_seen
    (λ m. mapped_twice method_seen _ (method_info_texts own m)) c.methods class.methods (parts c class e).methods in
    let both : Some members ≡ Some (map method_seen class.methods) = sym found ∙ (sym as_shown ∙ as_declared) in
    cc

-- ---- superinterfaces

module _ {X Y : Type 0} (look : X → Option Y) where
  pub many_found : (xs : List X) (ys : List Y) → all_found look xs ≡ Some ys → length ys ≡ length xs
  many_found [] ys e =
      let none : ys ≡ [] = cc in
      ap length none
  many_found (x ∷ xs) ys e =
      let parts = parts_found look x xs ys e in
      ap length parts.4 ∙ ap (λ n. suc n) (many_found xs parts.1 parts.3)

  pub found_at : (xs : List X) (ys : List Y) (i : ℕ) (d : X) → all_found look xs ≡ Some ys → i < length xs → slice_get ys i ≡ look (get_or xs i d)
  found_at [] ys i d e h = absurd (omega (arith, h))
  found_at (x ∷ xs) ys zero d e h =
      let parts = parts_found look x xs ys e in
      ap (λ l. slice_get l 0) parts.4 ∙ sym parts.2
  found_at (x ∷ xs) ys (suc i) d e h =
      let parts = parts_found look x xs ys e in
      let less : i < length xs = omega (arith, h) in
      ap (λ l. slice_get l (suc i)) parts.4 ∙ found_at xs parts.1 i d parts.3 less

  pub each_found : {Z : Type 0} (f : Y → Option Z) (xs : List X) (ys : List Y) → all_found look xs ≡ Some ys → map (λ x. look x >>= f) xs ≡ map f ys
  each_found f [] ys e =
      let none : ys ≡ [] = cc in
      sym (ap (map f) none)
  each_found f (x ∷ xs) ys e =
      let parts = parts_found look x xs ys e in
      ap (λ o. (o >>= f) ∷ map (λ z. look z >>= f) xs) parts.2 ∙ (ap (λ l. f parts.0 ∷ l) (each_found f xs parts.1 parts.3) ∙ sym (ap (map f) parts.4))

module _ (c : ClassStructure) (pool : List Entry) (indices : List ClassIndex) (same : pool ≡ c.constant_pool) (shown : map seen_index indices ≡ c.interfaces) where
  -- the names of the direct superinterfaces are those that the file's indices name
  pub interfaces_found : (class : Class) → class_of c ≡ Some class → all_found (interface_at pool) indices ≡ Some class.interfaces
  interfaces_found class e =
      subst (λ (p : List Entry). all_found (interface_at p) indices ≡ Some class.interfaces) (sym same)
      (found_of_seen (class_name_at c.constant_pool) seen_index indices ∙ (ap (all_found (class_name_at c.constant_pool)) shown ∙ (parts c class e).interfaces))

  pub place_within : (place : ℕ) → place < length c.interfaces → place < length indices
  place_within place h = subst (λ n. place < n) (ap length (sym shown) ∙ length-map indices seen_index) h

  pub count_of : (class : Class) → class_of c ≡ Some class → length indices ≡ length class.interfaces
  count_of class e = sym (many_found (interface_at pool) indices class.interfaces (interfaces_found class e))

  pub name_of : (class : Class) (place : ℕ) (d : ClassIndex) (name : List ℕ) → class_of c ≡ Some class → place < length indices → class_name_at pool
      (get_or indices place d).0 ≡ Some name → slice_get class.interfaces place ≡ Some name
  name_of class place d name e h is = found_at (interface_at pool) indices class.interfaces place d (interfaces_found class e) h ∙ is

  pub numbers_of_file : (world : World) (class : Class) → class_of c ≡ Some class → map (class_number world pool) indices ≡ map (number_named world) class.interfaces
  numbers_of_file world class e = each_found (interface_at pool) (number_named world) indices class.interfaces (interfaces_found class e)

pub many_interfaces : (c : ClassStructure) (class : Class) → class_of c ≡ Some class → length class.interfaces ≡ length c.interfaces
many_interfaces c class e = many_found (class_name_at c.constant_pool) c.interfaces class.interfaces (parts c class e).interfaces

-- ---- the whole

module _ (c : ClassStructure) (kept : Kept) where
  pub keeps : kept.major ≡ c.major_version → kept.access_flags ≡ c.access_flags → class_name c ≡ Some kept.name.now → kept.package_name.now ≡
      package_of kept.name.now → super_of c ≡ Some (option_copied kept.super_name)
      → ((class : Class) → class_of c ≡ Some class → kept.fields ≡ map field_seen class.fields) → ((class : Class) → class_of c ≡ Some class → kept.methods ≡ map method_seen class.methods)
      → (class : Class) → class_of c ≡ Some class → Keeps class kept
  keeps major flags name home super_class fields methods class e =
      let of_class = parts c class e in
      let one_name : Some kept.name.now ≡ Some class.name = sym name ∙ of_class.name in
      let same_name : kept.name.now ≡ class.name = cc in
      let one_super : Some (option_copied kept.super_name) ≡ Some class.super_class = sym super_class ∙ of_class.super_class in
      record {
        major = major ∙ of_class.major;
        access_flags = flags ∙ of_class.access_flags;
        name = cc;
        package_name = home ∙ ap package_of same_name;
        super_class = cc;
        fields = fields class e;
        methods = methods class e;
      }
