-- No class of a guest names an array of floating point numbers (own): its file is supported.
use Rattle.std.proofs.Common.{◌≡◌, inl, inr, ℕ, Bool, true, false, not, ◌&&◌, List, [], ◌∷◌, Option, Some, None, refl, ap, subst, slice_get}
use Rattle.std.specs.Prelude.{IsTrue}
use Rattle.std.specs.List.{All, Contains, list_all}
use Rattle.std.specs.Option.{IsSomeAnd}
use Rattle.std.proofs.lemmas.List.Sums.{AllPass-from_list_all}
use Rattle.std.proofs.lemmas.Option.{same_Some}
use Rattle.jv_format.specs.Format.{◌>>=◌}
use Rattle.jv_text.specs.Name.{is_array_name}
use Rattle.jv_pool.specs.declared.constant.Constant.TheVariants.{Class as ClassConstant}
use Rattle.jv_pool.specs.Constants.{Entry, at_index, utf8_at, class_name_in, class_name_at}
use Rattle.jv_class_structure.specs.Structure.{ClassStructure}
use Rattle.jv_class.specs.Class.{Class, field_of, method_of, all_found, super_of, class_of}
use Rattle.jv_class.specs.ClassFile.{class_name}
use Rattle.jv_class.specs.Supported.{HasNoFloating, IsNoFloatingArray, IsSupportedConstant}
use Rattle.jv_class.proofs.Kept.{at_indices}
use Rattle.jv_classes.proofs.Ways.{at_place}
use Rattle.jv_meaning_world.specs.FileContent.{IsProfileClass}
use Rattle.jv_meaning_world.specs.World.{Loaded, World}
use Rattle.jv_meaning_world.proofs.Up.{none}
use Rattle.jv_meaning_typing.specs.Operands.{class_operand}
use Rattle.jv_meaning_typing.proofs.Found.{split}
use Rattle.jv_interp_heap.specs.SystemNumbers.{IsGuestsWorld}
use Rattle.jv_interp_members.proofs.FieldsOfFiles.{each_keeps}
use Rattle.jv_interp_members.proofs.Given.{own_classes}

-- what a constant of a class names is none
abbrev pub NamesNone : Class → Type 0
NamesNone class = (index : ℕ) (text : List ℕ) → class_operand class index ≡ Some text → IsNoFloatingArray text

-- ---- by a pool each of whose constants names none

abbrev PlainNames : List Entry → Entry → Type 0
PlainNames pool entry = (text : List ℕ) → class_name_in pool (Some entry) ≡ Some text → IsNoFloatingArray text

pool_names_none : (pool : List Entry) → All (PlainNames pool) pool → (index : ℕ) (text : List ℕ) → class_name_at pool index ≡ Some text → IsNoFloatingArray text
pool_names_none pool all index text e = by_entry (at_index pool index) refl e
  where
    by_entry : (o : Option Entry) → at_index pool index ≡ o → class_name_in pool o ≡ Some text → IsNoFloatingArray text
    by_entry None at e = absurd cc
    by_entry (Some entry) at e = at_indices (PlainNames pool) pool all index entry at text e

-- ---- of a supported file

supported_name : (o : Option (List ℕ)) (text : List ℕ) → IsSomeAnd o IsNoFloatingArray → o ≡ Some text → IsNoFloatingArray text
supported_name None text h e = absurd h
supported_name (Some known) text h e = subst IsNoFloatingArray (same_Some known text e) h

supported_plain : (pool : List Entry) (entry : Entry) → IsSupportedConstant pool entry → PlainNames pool entry
supported_plain pool (ClassConstant name) h text e = supported_name (utf8_at pool name) text h e
supported_plain pool _ h text e = absurd cc

chained : {A B : Type 0} (o : Option A) (f : A → Option B) (y : B) → (o >>= f) ≡ Some y → (a : A) × (o ≡ Some a) × (f a ≡ Some y)
chained None f y e = absurd cc
chained (Some a) f y e = (a, refl, e)

-- a class has the constants of its structure
same_pool : (c : ClassStructure) (class : Class) → class_of c ≡ Some class → c.constant_pool ≡ class.constant_pool
same_pool c class e =
    let name = chained (class_name c) _ class e in
    let above = chained (super_of c) _ class name.2 in
    let interfaces = chained (all_found (class_name_at c.constant_pool) c.interfaces) _ class above.2 in
    let fields = chained (all_found (field_of c.constant_pool) c.fields) _ class interfaces.2 in
    let methods = chained (all_found (method_of c.constant_pool) c.methods) _ class fields.2 in
    ap (λ (x : Class). x.constant_pool) (same_Some _ class methods.2)

structure_names_none : (c : ClassStructure) (class : Class) → IsProfileClass c class → NamesNone class
structure_names_none c class is =
    subst (λ (pool : List Entry). (index : ℕ) (text : List ℕ) → class_name_at pool index ≡ Some text → IsNoFloatingArray text)
    (same_pool c class is.named)
    (pool_names_none c.constant_pool (λ n d less. supported_plain c.constant_pool _ (is.supported.constants n d less)))

-- ---- of the system: no constant names an array

plain_name : Option (List ℕ) → Bool
plain_name None = true
plain_name (Some text) = not (is_array_name text)

class_passes : Class → Bool
class_passes class = list_all (λ (entry : Entry). plain_name (class_name_in class.constant_pool (Some entry))) class.constant_pool

own_pass : (library : List Class) → list_all class_passes (own_classes library) ≡ true
unfolding class_passes plain_name
own_pass [] = refl
own_pass (c ∷ library) = refl

no_array : (o : Option (List ℕ)) (text : List ℕ) → IsTrue (plain_name o) → o ≡ Some text → IsNoFloatingArray text
unfolding plain_name
no_array None text h e = absurd cc
no_array (Some known) text h e = subst IsNoFloatingArray (same_Some known text e) (record { array = λ is. by_test (is_array_name known) h is })
  where
    by_test : (b : Bool) → IsTrue (not b) → IsTrue b → HasNoFloating known
    by_test true h is = absurd cc
    by_test false h is = absurd cc

passed_names_none : (class : Class) → class_passes class ≡ true → NamesNone class
unfolding class_passes
passed_names_none class e =
    pool_names_none class.constant_pool
    (λ n d less text is.
    no_array _ text
    (AllPass-from_list_all (λ (entry : Entry). plain_name (class_name_in class.constant_pool (Some entry))) class.constant_pool e n d less) is)

both : (a b : Bool) → (a && b) ≡ true → (a ≡ true) × (b ≡ true)
both true b e = (refl, e)
both false b e = absurd cc

each_passes : (classes : List Class) → list_all class_passes classes ≡ true → (class : Class) → Contains classes class → class_passes class ≡ true
each_passes [] e class h = absurd (none class h)
each_passes (c ∷ classes) e class h =
    let parts = both (class_passes c) (list_all class_passes classes) e in
    elim (split c classes class h) [
      | inl is ↦ subst (λ (x : Class). class_passes x ≡ true) is parts.0
      | inr k ↦ each_passes classes parts.1 class k
    ]

-- ---- all of them

pub names_no_floating_array :
    (world : World) → IsGuestsWorld world → (class index : ℕ) (l : Loaded) (text : List ℕ) → slice_get world class ≡ Some l
    → class_operand l.class index ≡ Some text → IsNoFloatingArray text
names_no_floating_array world guests class index l text at operand =
    each_keeps NamesNone (λ c class formed is. structure_names_none c class is)
    (λ library c h. passed_names_none c (each_passes (own_classes library) (own_pass library) c h)) world guests l (at_place world class l at) index text operand
