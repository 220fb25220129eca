-- A trial of what a class keeps of its file's rules: fields of interfaces are static.
use Rattle.std.proofs.Common.{◌≡◌, ◌⊎◌, inl, inr, ℕ, Bool, true, false, not, ◌&&◌, ◌==◌, List, [], ◌∷◌, Option, Some, None, refl, sym, ap, subst, ◌∙◌}
use Rattle.std.specs.Prelude.{bit_and}
use Rattle.std.specs.List.{All, Contains}
use Rattle.std.specs.Option.{IsSomeAnd, option_map}
use Rattle.std.proofs.lemmas.Bool.{eqb-true}
use Rattle.std.proofs.lemmas.List.Elements.{All-head, All-tail, Contains-append_cases}
use Rattle.std.proofs.lemmas.Nat.{and_assoc}
use Rattle.jv_class_structure.specs.Flags.{has, acc_static, acc_interface, interface_field_keeps_rules, field_flags_but_synthetic}
use Rattle.jv_class_structure.specs.Structure.{FieldInfo, ClassStructure}
use Rattle.jv_pool.specs.Constants.{Entry, NameAndDescriptor, named_at}
use Rattle.jv_class.specs.Class.{Class, Field, field_of, initial_value, all_found, class_of}
use Rattle.jv_class.specs.ClassFile.{IsWellFormed}
use Rattle.jv_class.specs.Rules.{KeepsRulesAsField, KeepsFieldRules, field_flags_keep_rules}
use Rattle.jv_meaning_world.proofs.Up.{none, single}
use Rattle.jv_format.specs.Format.{◌>>=◌}
use Rattle.jv_sound.proofs.Logic.{clash}

pub chained : {A B : Type 0} (o : Option A) (f : A → Option B) (y : B) → (o >>= f) ≡ Some y → (a : A) × (o ≡ Some a) × (f a ≡ Some y)
chained None f y e = absurd cc
chained (Some a) f y e = (a, refl, e)

-- what was found of each of a list
pub of_each : {A B : Type 0} (find : A → Option B) (P : A → Type 0) (Q : B → Type 0) → ((a : A) (b : B) → P a → find a ≡ Some b → Q b)
    → (as_ : List A) (bs : List B) → All P as_ → all_found find as_ ≡ Some bs
    → (b : B) → Contains bs b → Q b
of_each {B = B} find P Q one [] bs all e b h = absurd (none b (subst (λ xs. Contains xs b) (nil bs e) h))
  where
    nil : (xs : List B) → Some [] ≡ Some xs → xs ≡ []
    nil [] k = refl
    nil (x ∷ xs) k = absurd cc
of_each {B = B} find P Q one (a ∷ as_) bs all e b h =
    let x = chained (find a) (λ b. all_found find as_ >>= λ others. Some (b ∷ others)) bs e in
    let y = chained (all_found find as_) (λ others. Some (x.0 ∷ others)) bs x.2 in
    let same : x.0 ∷ y.0 ≡ bs = some_same (x.0 ∷ y.0) bs y.2 in
    by_part x.0 y.0 x.1 (λ k. of_each find P Q one as_ y.0 (All-tail P a as_ all) y.1 b k)
    (Contains-append_cases (x.0 ∷ []) y.0 b (subst (λ xs. Contains xs b) (sym same) h))
  where
    some_same : (xs ys : List B) → Some xs ≡ Some ys → xs ≡ ys
    some_same xs ys k = cc

    by_part : (x : B) (more : List B) → find a ≡ Some x → (Contains more b → Q b) → Contains (x ∷ []) b ⊎ Contains more b → Q b
    by_part x more e f (inl k) = subst Q (single x b k) (one a x (All-head P a as_ all) e)
    by_part x more e f (inr k) = f k

-- an interface's field is static, by its flags
static_flags : (flags : ℕ) → interface_field_keeps_rules flags ≡ true → has flags acc_static ≡ true
static_flags flags e =
    let masked : bit_and flags field_flags_but_synthetic ≡ 25 = eqb-true (bit_and flags field_flags_but_synthetic) 25 e in
    let eight : bit_and flags 8 ≡ 8 = sym (and_assoc 8 flags field_flags_but_synthetic) ∙ ap (λ (n : ℕ). bit_and n 8) masked in
    ap (λ (n : ℕ). not (n == 0)) eight

-- in a class whose flags are these
abbrev IsStaticIn : ℕ → Field → Type 0
IsStaticIn class_flags f = has class_flags acc_interface ≡ true → has f.access_flags acc_static ≡ true

one_field : (pool : List Entry) (class_flags : ℕ) (info : FieldInfo) (f : Field) → KeepsFieldRules pool class_flags info
    → field_of pool info ≡ Some f → IsStaticIn class_flags f
one_field pool class_flags info f rules e i = by_texts (named_at pool info.name_index info.descriptor_index) rules e
  where
    by_texts : (o : Option NameAndDescriptor) → IsSomeAnd o (KeepsRulesAsField pool class_flags info.access_flags
        (Rattle.jv_class_structure.specs.Attributes.static_value pool info))
        → option_map (λ texts. record {
          access_flags = info.access_flags;
          name = texts.name;
          descriptor = texts.descriptor;
          initial =
              initial_value pool info;
        }) o ≡ Some f
        → has f.access_flags acc_static ≡ true
    by_texts None k e = absurd k
    by_texts (Some texts) k e =
        let flags : info.access_flags ≡ f.access_flags = same_flags e in
        subst (λ (n : ℕ). has n acc_static ≡ true) flags
        (static_flags info.access_flags (third (Rattle.jv_class_structure.specs.Flags.visibility_keeps_rules
        info.access_flags) (Rattle.jv_class_structure.specs.Flags.volatile_keeps_rules info.access_flags)
        (interface_field_keeps_rules info.access_flags) (subst (λ
        (b : Bool). field_flags_keep_rules b info.access_flags ≡ true) i k.flags_keep_rules)))
      where
        same_flags : Some (record {
          access_flags = info.access_flags;
          name = texts.name;
          descriptor = texts.descriptor;
          initial =
              initial_value pool info;
        }) ≡ Some f → info.access_flags ≡ f.access_flags
        same_flags e = let s : record {
          access_flags = info.access_flags;
          name = texts.name;
          descriptor = texts.descriptor;
          initial =
              initial_value pool info;
        } ≡ f = cc in ap (λ (x : Field). x.access_flags) s

        third : (a b c : Bool) → (a && b && c) ≡ true → c ≡ true
        third true true c h = h
        third true false c h = absurd (clash h)
        third false b c h = absurd (clash h)

pub interface_fields_are_static : (c : ClassStructure) (class : Class) → IsWellFormed c → class_of c ≡ Some class → (f : Field)
    → Contains class.fields f → has class.access_flags acc_interface ≡ true → has f.access_flags acc_static ≡ true
interface_fields_are_static c class formed e f there i =
    let name = chained (Rattle.jv_class.specs.ClassFile.class_name c) _ class e in
    let above = chained (Rattle.jv_class.specs.Class.super_of c) _ class name.2 in
    let interfaces = chained (all_found (Rattle.jv_pool.specs.Constants.class_name_at c.constant_pool)
    c.interfaces) _ class above.2 in
    let fields = chained (all_found (field_of c.constant_pool) c.fields) _ class interfaces.2 in
    let methods = chained (all_found (Rattle.jv_class.specs.Class.method_of c.constant_pool) c.methods) _
    class fields.2 in
    let same_fields : fields.0 ≡ class.fields = cc in
    let same_flags : c.access_flags ≡ class.access_flags = cc in
    of_each (field_of c.constant_pool) (KeepsFieldRules c.constant_pool c.access_flags) (IsStaticIn c.access_flags)
    (one_field c.constant_pool c.access_flags) c.fields fields.0 formed.rules.members.fields fields.1 f
    (subst (λ xs. Contains xs f) (sym same_fields) there) (ap (λ (n : ℕ). has n acc_interface) same_flags ∙ i)
