-- What a class keeps of its file's rules on fields (JVMS 4.1, 4.3.2, 4.5).
use Rattle.std.proofs.Common.{◌≡◌, ◌⊎◌, inl, inr, ℕ, suc, ◌<◌, Bool, true, false, not, ◌&&◌, List, [], ◌∷◌, ◌++◌, length, map, Option, Some, None, refl, sym, ap, subst, ◌∙◌, arith}
use Rattle.std.specs.Prelude.{⊤, IsSome, is_some, nat_lt}
use Rattle.std.specs.List.{Contains, AllByRecursion, list_all}
use Rattle.std.specs.Option.{IsSomeAnd, option_map}
use Rattle.std.specs.Str.{bytes_eq}
use Rattle.std.proofs.lemmas.Bool.{ltb-true}
use Rattle.std.proofs.lemmas.List.Elements.{Contains-append_cases, All-contains}
use Rattle.std.proofs.lemmas.Slice.Eq.{bytes_eq-Decides}
use Rattle.jv_format.specs.Format.{◌>>=◌}
use Rattle.jv_text.specs.Types.{field_type_of}
use Rattle.jv_text.proofs.TypesOf.{agree}
use Rattle.jv_pool.specs.Constants.{Entry, NameAndDescriptor, named_at, class_name_at}
use Rattle.jv_class_structure.specs.Attributes.{static_value}
use Rattle.jv_class_structure.specs.Structure.{FieldInfo, ClassStructure, body_fits, table_fits, field_fits, method_fits, attribute_fits}
use Rattle.jv_class.specs.Class.{Class, Field, field_of, method_of, initial_value, all_found, super_of, class_of}
use Rattle.jv_class.specs.ClassFile.{IsWellFormed, class_name}
use Rattle.jv_class.specs.Rules.{KeepsRulesAsField, KeepsFieldRules, field_texts, NoTwoAlike}
use Rattle.jv_meaning_world.specs.FileContent.{FileContent, IsProfileClass, IsContent, AreContents}
use Rattle.jv_meaning_world.specs.declared.content.Content.TheVariants.{OtherVersion, NoClassFile, MoreThanProfile, Holds}
use Rattle.jv_meaning_world.specs.Library.{system_with, with_library}
use Rattle.jv_meaning_world.proofs.OrderWorlds.{in_library, to_held}
use Rattle.jv_meaning_world.specs.World.{HostClasses, Loaded, World, loaded, is_reserved, has_class, with_class_of, joined_all, classes_in}
use Rattle.jv_meaning_world.proofs.Up.{none, single, first, later}
use Rattle.jv_meaning_typing.proofs.Found.{split}
use Rattle.jv_interp_heap.specs.SystemNumbers.{IsGuestsWorld}
use Rattle.jv_interp_members.proofs.Given.{own_classes, own_or_given}
use Rattle.jv_interp_members.proofs.WorldNames.{in_loaded}

-- no two of these have the same name and descriptor
abbrev pub AreUnlike : List Field → Type 0
AreUnlike [] = ⊤
AreUnlike (f ∷ fields) = ((other : Field) → Contains fields other → other.name ≡ f.name → other.descriptor ≡ f.descriptor → ⊥) × AreUnlike fields

-- each has a type, no two are alike, and their number has two bytes
pub record FieldsKeepRules (class : Class) : Type 0 where
  pub described : (f : Field) → Contains class.fields f → IsSome (field_type_of f.descriptor)
  pub unlike : AreUnlike class.fields
  pub few : length class.fields < 65536

-- ---- by tests, which the system's classes pass

pub both : (a b : Bool) → (a && b) ≡ true → (a ≡ true) × (b ≡ true)
both true b e = (refl, e)
both false b e = absurd cc

is_false : (b : Bool) → not b ≡ true → b ≡ false
is_false true e = absurd cc
is_false false e = refl

pub clash : {A : Type 0} → true ≡ false → A
clash e = absurd cc

pub each_passes : {A : Type 0} (test : A → Bool) (xs : List A) → list_all test xs ≡ true → (x : A) → Contains xs x → test x ≡ true
each_passes test [] e x h = absurd (none x h)
each_passes {A = A} test (y ∷ xs) e x h =
    let parts = both (test y) (list_all test xs) e in
    elim (split y xs x h) [
      | inl is ↦ subst (λ (z : A). test z ≡ true) is parts.0
      | inr k ↦ each_passes test xs parts.1 x k
    ]

is_alike : Field → Field → Bool
is_alike f other = bytes_eq other.name f.name && bytes_eq other.descriptor f.descriptor

all_unlike : List Field → Bool
all_unlike [] = true
all_unlike (f ∷ fields) = list_all (λ other. not (is_alike f other)) fields && all_unlike fields

tested_unlike : (fields : List Field) → all_unlike fields ≡ true → AreUnlike fields
unfolding all_unlike is_alike
tested_unlike [] e = tt
tested_unlike (f ∷ fields) e =
    let parts = both (list_all (λ other. not (is_alike f other)) fields) (all_unlike fields) e in (
      (λ other h name descriptor.
          let apart = is_false (is_alike f other) (each_passes (λ other. not (is_alike f other)) fields parts.0 other h) in
          let same : is_alike f other ≡ true =
          ap (λ (b : Bool). b && bytes_eq other.descriptor f.descriptor) ((bytes_eq-Decides other.name f.name).1 name)
          ∙ (bytes_eq-Decides other.descriptor f.descriptor).1 descriptor in
          clash (sym same ∙ apart)),
      tested_unlike fields parts.1,
    )

class_passes : Class → Bool
class_passes class =
    list_all (λ (f : Field). is_some (field_type_of f.descriptor)) class.fields && (all_unlike class.fields && nat_lt (length class.fields) 65536)

passed_keep : (class : Class) → class_passes class ≡ true → FieldsKeepRules class
unfolding class_passes
passed_keep class e =
    let parts = both (list_all (λ (f : Field). is_some (field_type_of f.descriptor)) class.fields) _ e in
    let rest = both (all_unlike class.fields) (nat_lt (length class.fields) 65536) parts.1 in
    record {
      described = λ f h. each_passes (λ (f : Field). is_some (field_type_of f.descriptor)) class.fields parts.0 f h;
      unlike = tested_unlike class.fields rest.0;
      few = ltb-true (length class.fields) 65536 rest.1;
    }

own_pass : (library : List Class) → list_all class_passes (own_classes library) ≡ true
unfolding class_passes all_unlike is_alike
own_pass [] = refl
own_pass (c ∷ library) = refl

-- ---- by the rules of a file

pub chained : {A B : Type 0} (o : Option A) (f : A → Option B) (y : B) → (o >>= f) ≡ Some y → (a : A) × (o ≡ Some a) × (f a ≡ Some y)
chained None f y e = absurd cc
chained (Some a) f y e = (a, refl, e)

pub some_same : {A : Type 0} (x y : A) → Some x ≡ Some y → x ≡ y
some_same x y e = cc

-- what is found of each of a list
pub found_each : {A B : Type 0} (find : A → Option B) (infos : List A) (bs : List B) → all_found find infos ≡ Some bs
    → (b : B) → Contains bs b → (a : A) × Contains infos a × (find a ≡ Some b)
found_each {B = B} find [] bs e b h = absurd (none b (subst (λ (xs : List B). Contains xs b) (sym (some_same [] bs e)) h))
found_each {B = B} find (a ∷ infos) bs e b h =
    let x = chained (find a) (λ b. all_found find infos >>= λ others. Some (b ∷ others)) bs e in
    let y = chained (all_found find infos) (λ others. Some (x.0 ∷ others)) bs x.2 in
    let same : x.0 ∷ y.0 ≡ bs = some_same (x.0 ∷ y.0) bs y.2 in
    elim (split x.0 y.0 b (subst (λ (xs : List B). Contains xs b) (sym same) h)) [
      | inl is ↦ (a, first a infos, x.1 ∙ ap Some is)
      | inr k ↦ let found = found_each find infos y.0 y.1 b k in (found.0, later a infos found.0 found.1, found.2)
    ]

as_many : {A B : Type 0} (find : A → Option B) (infos : List A) (bs : List B) → all_found find infos ≡ Some bs → length bs ≡ length infos
as_many {B = B} find [] bs e = ap (λ (xs : List B). length xs) (sym (some_same [] bs e))
as_many {B = B} find (a ∷ infos) bs e =
    let x = chained (find a) (λ b. all_found find infos >>= λ others. Some (b ∷ others)) bs e in
    let y = chained (all_found find infos) (λ others. Some (x.0 ∷ others)) bs x.2 in
    let same : length bs ≡ suc (length y.0) = ap (λ (xs : List B). length xs) (sym (some_same (x.0 ∷ y.0) bs y.2)) in
    let rest = as_many find infos y.0 y.1 in
    omega (arith, same, rest)

-- a field has the texts that its structure's indices name, its flags, and the constant that it names
pub record Named (pool : List Entry) (info : FieldInfo) (f : Field) : Type 0 where
  pub texts : NameAndDescriptor
  pub are : field_texts pool info ≡ Some texts
  pub name : f.name ≡ texts.name
  pub descriptor : f.descriptor ≡ texts.descriptor
  pub flags : f.access_flags ≡ info.access_flags
  pub initial : f.initial ≡ initial_value pool info

abbrev made : List Entry → FieldInfo → NameAndDescriptor → Field
made pool info texts =
    record { access_flags = info.access_flags; name = texts.name; descriptor = texts.descriptor; initial = initial_value pool info }

pub field_named : (pool : List Entry) (info : FieldInfo) (f : Field) → field_of pool info ≡ Some f → Named pool info f
field_named pool info f e = by_texts (named_at pool info.name_index info.descriptor_index) refl e
  where
    by_texts : (o : Option NameAndDescriptor) → named_at pool info.name_index info.descriptor_index ≡ o → option_map (made pool info) o ≡ Some f → Named pool info f
    by_texts None at e = absurd cc
    by_texts (Some texts) at e =
        let same : made pool info texts ≡ f = some_same (made pool info texts) f e in
        record {
          texts = texts;
          are = at;
          name = ap (λ (x : Field). x.name) (sym same);
          descriptor = ap (λ (x : Field). x.descriptor) (sym same);
          flags = ap (λ (x : Field). x.access_flags) (sym same);
          initial = ap (λ (x : Field). x.initial) (sym same);
        }

is_described : (pool : List Entry) (flags : ℕ) (info : FieldInfo) (f : Field) → KeepsFieldRules pool flags info → field_of pool info ≡ Some f
    → IsSome (field_type_of f.descriptor)
is_described pool flags info f rules e =
    let n = field_named pool info f e in
    let kept : KeepsRulesAsField pool flags info.access_flags (static_value pool info) n.texts =
    subst (λ (o : Option NameAndDescriptor). IsSomeAnd o (KeepsRulesAsField pool flags info.access_flags (static_value pool info))) n.are rules in
    let typed = (agree.field n.texts.descriptor kept.type).0 kept.described in
    ap is_some (ap field_type_of n.descriptor ∙ typed)

abbrev texts_of : List Entry → FieldInfo → Option NameAndDescriptor
texts_of pool info = field_texts pool info

unlike_later : (pool : List Entry) (texts : Option NameAndDescriptor) (infos : List FieldInfo)
    → AllByRecursion (λ other. texts ≡ other → ⊥) (map (texts_of pool) infos) → (info : FieldInfo) → Contains infos info → texts ≡ texts_of pool info → ⊥
unlike_later pool texts [] all info h same = none info h
unlike_later pool texts (x ∷ infos) all info h same =
    elim (split x infos info h) [
      | inl is ↦ all.0 (same ∙ ap (texts_of pool) (sym is))
      | inr k ↦ unlike_later pool texts infos all.1 info k same
    ]

fields_unlike : (pool : List Entry) (infos : List FieldInfo) (fields : List Field) → NoTwoAlike (map (texts_of pool) infos)
    → all_found (field_of pool) infos ≡ Some fields → AreUnlike fields
fields_unlike pool [] fields unlike e = subst AreUnlike (some_same [] fields e) tt
fields_unlike pool (info ∷ infos) fields unlike e =
    let x = chained (field_of pool info) (λ b. all_found (field_of pool) infos >>= λ others. Some (b ∷ others)) fields e in
    let y = chained (all_found (field_of pool) infos) (λ others. Some (x.0 ∷ others)) fields x.2 in
    let here = field_named pool info x.0 x.1 in
    subst AreUnlike (some_same (x.0 ∷ y.0) fields y.2) (
      (λ other h name descriptor.
          let found = found_each (field_of pool) infos y.0 y.1 other h in
          let there = field_named pool found.0 other found.2 in
          unlike_later pool (texts_of pool info) infos unlike.0 found.0 found.1
          (here.are ∙ ap Some (same_texts here.texts there.texts (sym here.name ∙ sym name ∙ there.name) (sym here.descriptor ∙ sym descriptor ∙ there.descriptor)) ∙ sym there.are)),
      fields_unlike pool infos y.0 unlike.1 y.1,
    )
  where
    same_texts : (a b : NameAndDescriptor) → a.name ≡ b.name → a.descriptor ≡ b.descriptor → a ≡ b
    same_texts a b name descriptor =
        ap (λ (n : List ℕ). record { name = n; descriptor = a.descriptor }) name ∙ ap (λ (d : List ℕ). record { name = b.name; descriptor = d }) descriptor

fields_fit : (c : ClassStructure) → body_fits c ≡ true → length c.fields < 65536
fields_fit c e =
    let a = both _ (table_fits attribute_fits c.attributes) e in
    let m = both _ (table_fits method_fits c.methods) a.0 in
    let f = both _ (table_fits field_fits c.fields) m.0 in
    ltb-true (length c.fields) 65536 (both (nat_lt (length c.fields) 65536) _ f.1).0

-- the fields that a class's structure names are its own
pub fields_found : (c : ClassStructure) (class : Class) → class_of c ≡ Some class → all_found (field_of c.constant_pool) c.fields ≡ Some class.fields
fields_found c class e =
    let name = chained (class_name c) _ class e in
    let above = chained (super_of c) _ class name.2 in
    let interfaces = chained (all_found (class_name_at c.constant_pool) c.interfaces) _ class above.2 in
    let fields = chained (all_found (field_of c.constant_pool) c.fields) _ class interfaces.2 in
    let methods = chained (all_found (method_of c.constant_pool) c.methods) _ class fields.2 in
    let same : fields.0 ≡ class.fields = ap (λ (x : Class). x.fields) (some_same _ class methods.2) in
    fields.1 ∙ ap Some same

structure_keeps : (c : ClassStructure) (class : Class) → IsWellFormed c → class_of c ≡ Some class → FieldsKeepRules class
structure_keeps c class formed e =
    let found = fields_found c class e in
    record {
      described =
          λ f h.
          let it = found_each (field_of c.constant_pool) c.fields class.fields found f h in
          is_described c.constant_pool c.access_flags it.0 f
          (All-contains (KeepsFieldRules c.constant_pool c.access_flags) c.fields it.0 formed.rules.members.fields it.1) it.2;
      unlike = fields_unlike c.constant_pool c.fields class.fields formed.rules.unlike.fields found;
      few =
          let size = as_many (field_of c.constant_pool) c.fields class.fields found in
          let fits = fields_fit c formed.fits in
          omega (arith, size, fits);
    }

-- ---- the classes of a guest are held by its files

one_from :
    (classes : List Class) (file : FileContent) (files : List FileContent) (class : Class) → Contains (with_class_of classes file) class
    → Contains classes class ⊎ Contains (file ∷ files) (Holds class)
one_from classes OtherVersion files class h = inl h
one_from classes NoClassFile files class h = inl h
one_from classes MoreThanProfile files class h = inl h
one_from classes (Holds c) files class h = by_test (is_reserved c.name) (has_class classes c.name) h
  where
    joined : Contains (classes ++ c ∷ []) class → Contains classes class ⊎ Contains (Holds c ∷ files) (Holds class)
    joined k =
        elim (Contains-append_cases classes (c ∷ []) class k) [
          | inl j ↦ inl j
          | inr j ↦ inr (subst (λ (x : Class). Contains (Holds c ∷ files) (Holds x)) (single c class j) (first (Holds c) files))
        ]

    by_test :
        (a b : Bool) → Contains (Rattle.std.specs.Prelude.if◌then◌else◌ (Rattle.std.specs.Prelude.◌||◌ a b) classes (classes ++ c ∷ [])) class
        → Contains classes class ⊎ Contains (Holds c ∷ files) (Holds class)
    by_test true b k = inl k
    by_test false true k = inl k
    by_test false false k = joined k

joined_from :
    (classes : List Class) (files : List FileContent) (class : Class) → Contains (joined_all classes files) class
    → Contains classes class ⊎ Contains files (Holds class)
joined_from classes [] class h = inl h
joined_from classes (file ∷ files) class h =
    elim (joined_from (with_class_of classes file) files class h) [
      | inl k ↦ one_from classes file files class k
      | inr k ↦ inr (later file files (Holds class) k)
    ]

-- ---- what holds of the system's classes, and of each that a file may hold, holds in the world of a guest

module _ (P : Class → Type 0) (of_structure : (c : ClassStructure) (class : Class) → IsWellFormed c → IsProfileClass c class → P class) where
  held_keeps : (files : List (List ℕ)) (contents : List FileContent) → AreContents files contents → (class : Class) → Contains contents (Holds class) → P class
  held_keeps [] [] are class h = absurd (none (Holds class) h)
  held_keeps [] (file ∷ contents) are class h = absurd are
  held_keeps (bytes ∷ files) [] are class h = absurd are
  held_keeps (bytes ∷ files) (file ∷ contents) are class h =
      elim (split file contents (Holds class) h) [
        | inl is ↦ by_content (subst (λ (x : FileContent). IsContent bytes x) is are.0)
        | inr k ↦ held_keeps files contents are.1 class k
      ]
    where
      by_content : IsContent bytes (Holds class) → P class
      by_content k = of_structure k.0 class k.1.well_formed k.2

  pub each_keeps :
      ((library : List Class) (c : Class) → Contains (own_classes library) c → P c) → (world : World) → IsGuestsWorld world → (l : Loaded)
      → Contains world l → P l.class
  each_keeps of_own world guests l h =
      elim (Contains-append_cases (map (loaded true) (system_with guests.given)) (map (loaded false) (classes_in host guests.contents)) l
      (subst (λ (w : World). Contains w l) guests.world_is h)) [
        | inl k ↦
            let c = in_loaded true (system_with guests.given) l k in
            subst (λ (x : Loaded). P x.class) c.2
            (elim (own_or_given guests.library guests.given guests.gives c.0 c.1) [
              | inl j ↦ of_own guests.given c.0 j
              | inr j ↦ of_library c.0 j
            ])
        | inr k ↦
            let c = in_loaded false (classes_in host guests.contents) l k in
            subst (λ (x : Loaded). P x.class) c.2
            (elim (joined_from host.front guests.contents c.0 c.1) [
              | inl j ↦ of_library c.0 (in_library guests.given c.0 j)
              | inr j ↦ held_keeps guests.files guests.contents guests.held c.0 j
            ])
      ]
    where
      host : HostClasses
      host = with_library guests.given

      of_library : (c : Class) → Contains guests.given c → P c
      of_library c j = held_keeps guests.library (map Holds guests.given) guests.gives.held c (to_held guests.given c j)

pub fields_keep_rules : (world : World) → IsGuestsWorld world → (l : Loaded) → Contains world l → FieldsKeepRules l.class
fields_keep_rules =
    each_keeps FieldsKeepRules (λ c class formed is. structure_keeps c class formed is.named)
    (λ library c h. passed_keep c (each_passes class_passes (own_classes library) (own_pass library) c h))
