-- The values with which fields begin, as their file shows them.
use Rattle.std.proofs.Common.{◌≡◌, ℕ, ◌+◌, Bool, true, false, List, [], ◌∷◌, ◌++◌, drop, Option, Some, None, sym, ap, ◌∙◌, append_assoc}
use Rattle.std.specs.Prelude.{ℤ, is_some, slice_get, if◌then◌else◌}
use Rattle.std.specs.Int.{cast_signed, w32, w64}
use Rattle.std.specs.Option.{option_map}
use Rattle.jv_format.specs.Format.{◌>>=◌}
use Rattle.jv_pool.specs.Constants.{Entry, at_index, class_name_at, named_at, integer_in, integer_at, long_in, long_at, string_in, string_at, NameAndDescriptor}
use Rattle.jv_pool.specs.declared.constant.Constant.TheVariants.{Integer, Long, String}
use Rattle.jv_class_structure.specs.Parts.{FieldSeen, field_shown}
use Rattle.jv_class_structure.specs.Structure.{FieldInfo, ClassStructure}
use Rattle.jv_class.specs.Class.{Field, Class, InitialValue, value_of_constant, initial_value, all_found, field_of, method_of, super_of, class_of}
use Rattle.jv_class.specs.Class.InitialValue.{IntValue, LongValue, StringValue}
use Rattle.jv_class.specs.ClassFile.{class_name}
use Rattle.jv_class.specs.Value.{value_of_field}
use Rattle.jv_link_cache.specs.Tasks.{value_at, settings_from}
use Rattle.jv_link_cache.proofs.Bodied.{chained, all_found_at, map_at}
use Rattle.jv_meaning_world.proofs.Lists.{drop_one_more}

same_some : {A : Type 0} → {x y : A} → Some x ≡ Some y → x ≡ y
same_some e = cc

-- ---- constants

module _ (pool : List Entry) where
  pub int_stands : (index : ℕ) (value : ℤ) → option_map (cast_signed w32) (integer_at pool index) ≡ Some value → value_at pool index ≡ Some (IntValue value)
  int_stands index value e = by_entry (at_index pool index) e
    where
      by_entry : (o : Option Entry) → option_map (cast_signed w32) (integer_in o) ≡ Some value → (o >>= value_of_constant pool) ≡ Some (IntValue value)
      by_entry (Some (Integer bits)) e = ap (λ v. Some (IntValue v)) (same_some e)
      by_entry _ e = absurd cc

  pub long_stands : (index : ℕ) (value : ℤ) → option_map (cast_signed w64) (long_at pool index) ≡ Some value → value_at pool index ≡ Some (LongValue value)
  long_stands index value e = by_entry (at_index pool index) e
    where
      by_entry : (o : Option Entry) → option_map (cast_signed w64) (long_in o) ≡ Some value → (o >>= value_of_constant pool) ≡ Some (LongValue value)
      by_entry (Some (Long high low)) e = ap (λ v. Some (LongValue v)) (same_some e)
      by_entry _ e = absurd cc

  pub string_stands : (index : ℕ) (text : List ℕ) → string_at pool index ≡ Some text → value_at pool index ≡ Some (StringValue text)
  string_stands index text e = by_entry (at_index pool index) e
    where
      by_entry : (o : Option Entry) → string_in pool o ≡ Some text → (o >>= value_of_constant pool) ≡ Some (StringValue text)
      by_entry (Some (String t)) e = ap (option_map StringValue) e
      by_entry _ e = absurd cc

-- ---- fields

fields_found : (c : ClassStructure) (class : Class) → class_of c ≡ Some class → all_found (field_of c.constant_pool) c.fields ≡ Some class.fields
fields_found c class e =
    let name = chained (class_name c) _ class e in
    let above = chained (super_of c) _ class name.2 in
    let interfaces = chained (all_found (class_name_at c.constant_pool) c.interfaces) _ class above.2 in
    let fields = chained (all_found (field_of c.constant_pool) c.fields) _ class interfaces.2 in
    let methods = chained (all_found (method_of c.constant_pool) c.methods) _ class fields.2 in
    fields.1 ∙ ap (λ l. Some l) cc

initial_of_field : (pool : List Entry) (info : FieldInfo) (f : Field) → field_of pool info ≡ Some f → initial_value pool info ≡ f.initial
initial_of_field pool info f e = by_texts (named_at pool info.name_index info.descriptor_index) e
  where
    by_texts : (o : Option NameAndDescriptor)
        → option_map (λ (texts : NameAndDescriptor). record { access_flags = info.access_flags; name = texts.name; descriptor = texts.descriptor; initial = initial_value pool info }) o ≡ Some f
        → initial_value pool info ≡ f.initial
    by_texts None e = absurd cc
    by_texts (Some texts) e = ap (λ (x : Field). x.initial) (same_some e)

pub initial_shown : (c : ClassStructure) (class : Class) → class_of c ≡ Some class → (k : ℕ) (f : Field) → slice_get class.fields k ≡ Some f
    → f.initial ≡ (value_of_field c k >>= value_at c.constant_pool)
initial_shown c class e k f at =
    let info = all_found_at (field_of c.constant_pool) c.fields class.fields f (fields_found c class e) k at in
    let shown = map_at (field_shown c.constant_pool) c.fields k info.0 info.1 in
    sym (initial_of_field c.constant_pool info.0 f info.2)
    ∙ ap (λ (o : Option FieldSeen). (o >>= λ x. x.constant_value) >>= value_at c.constant_pool) (sym shown)

pub setting_stands : (c : ClassStructure) (class : Class) (pool : List Entry) → class_of c ≡ Some class → pool ≡ c.constant_pool → (k : ℕ) (f : Field) → slice_get class.fields k ≡ Some f
    → (index : ℕ) (value : InitialValue) → Some index ≡ value_of_field c k → value_at pool index ≡ Some value → Some value ≡ f.initial
setting_stands c class pool e same k f at index value here is =
    sym is ∙ (ap (λ p. value_at p index) same ∙ (ap (λ (o : Option ℕ). o >>= value_at c.constant_pool) here ∙ sym (initial_shown c class e k f at)))

pub none_stands : (c : ClassStructure) (class : Class) → class_of c ≡ Some class → (k : ℕ) (f : Field) → slice_get class.fields k ≡ Some f → None ≡ value_of_field c k → None ≡ f.initial
none_stands c class e k f at here = ap (λ (o : Option ℕ). o >>= value_at c.constant_pool) here ∙ sym (initial_shown c class e k f at)

-- ---- those with constants

pub settings_go_on : (fs : List Field) (k : ℕ) (f : Field) (b : Bool) (settings all : List ℕ) → slice_get fs k ≡ Some f → b ≡ is_some f.initial
    → settings ++ settings_from k (drop k fs) ≡ all
    → (if b then settings ++ k ∷ [] else settings) ++ settings_from (k + 1) (drop (k + 1) fs) ≡ all
settings_go_on fs k f b settings all at is before = by_test b is ∙ (ap (λ gs. settings ++ settings_from k gs) (sym (drop_one_more fs k f at)) ∙ before)
  where
    rest : List ℕ
    rest = settings_from (k + 1) (drop (k + 1) fs)

    by_test : (t : Bool) → t ≡ is_some f.initial → (if t then settings ++ k ∷ [] else settings) ++ rest ≡ settings ++ (if is_some f.initial then k ∷ rest else rest)
    by_test true e = append_assoc settings (k ∷ []) rest ∙ ap (λ u. settings ++ (if u then k ∷ rest else rest)) e
    by_test false e = ap (λ u. settings ++ (if u then k ∷ rest else rest)) e
