-- What the constants of a class's file name is what the class names.
use Rattle.std.proofs.Common.{◌≡◌, ℕ, Bool, true, false, ◌||◌, ◌==◌, cond, List, [], ◌∷◌, Option, Some, None, refl, sym, ap, subst, ◌∙◌}
use Rattle.std.specs.Prelude.{IsTrue, IsSome}
use Rattle.std.specs.List.{All, list_any}
use Rattle.std.specs.Option.{IsSomeAnd, option_map}
use Rattle.std.specs.Str.{bytes_eq}
use Rattle.std.specs.Cmp.Lexicographic.{nat_list_eq_equiv}
use Rattle.std.proofs.lemmas.List.Elements.{All-head, All-tail}
use Rattle.jv_format.specs.Format.{◌>>=◌}
use Rattle.jv_pool.specs.Named.{NamesByKind}
use Rattle.jv_pool.specs.Constants.{Entry, class_name_at}
use Rattle.jv_class_structure.specs.Attributes.{some_and}
use Rattle.jv_class_structure.specs.Structure.{ClassStructure}
use Rattle.jv_class.specs.ClassFile.{class_name, super_index, IsWellFormed}
use Rattle.jv_class.specs.Rules.{is_object, is_no_array_name, is_class_at, IsClassAt, KeepsRulesAsName}
use Rattle.jv_class.specs.Class.{Class, all_found, field_of, method_of, super_of, class_of}
use Rattle.jv_meaning_world.specs.World.{Loaded}
use Rattle.jv_meaning_typing.specs.MemberRules.{is_that_name}
use Rattle.jv_verify_types.specs.Typed.{name_at}
use Rattle.jv_verify_types.specs.PoolTypes.{PoolTypes}
use Rattle.jv_verify_types.specs.Inside.Named.{class_of_constant, class_of_constant_at}
use Rattle.jv_verify_types.specs.Inside.Marked.{names_it, AreMarkedAt}
use Rattle.jv_verify_types.specs.Inside.KeptClass.{AreGuards, IsNoArray, IsKept}
use Rattle.jv_verify_types.proofs.Naming.{named_class, named_no_array, named_by_no_array}

chained : {A B : Type 0} (o : Option A) (f : A → Option B) (y : B) → (o >>= f) ≡ Some y → (a : A) × (o ≡ Some a) × (f a ≡ Some y)
chained None f y e = absurd cc
chained (Some a) f y e = (a, refl, e)

pub record AreParts (c : ClassStructure) (class : Class) : Type 0 where
  pub name : class_name c ≡ Some class.name
  pub super_class : super_of c ≡ Some class.super_class
  pub interfaces : all_found (class_name_at c.constant_pool) c.interfaces ≡ Some class.interfaces
  pub pool : c.constant_pool ≡ class.constant_pool
  pub flags : c.access_flags ≡ class.access_flags
  pub methods : all_found (method_of c.constant_pool) c.methods ≡ Some class.methods

pub parts : (c : ClassStructure) (class : Class) → class_of c ≡ Some class → AreParts c class
parts c class e =
    let name = chained (class_name c) _ class e in
    let above = chained (super_of c) _ class name.2 in
    let interfaces = chained (all_found (class_name_at c.constant_pool) c.interfaces) _ class above.2 in
    let fields = chained (all_found (field_of c.constant_pool) c.fields) _ class interfaces.2 in
    let methods = chained (all_found (method_of c.constant_pool) c.methods) _ class fields.2 in
    record {
      name = name.1 ∙ ap (λ l. Some l) cc;
      super_class = above.1 ∙ ap (λ l. Some l) cc;
      interfaces = interfaces.1 ∙ ap (λ l. Some l) cc;
      pool = cc;
      flags = cc;
      methods = methods.1 ∙ ap (λ l. Some l) cc;
    }

-- ---- the rules on the names of a class and of its superclass, where both are

name_keeps_rules : (pool : List Entry) (super_class : ℕ) (o : Option (List ℕ)) → IsSomeAnd o (KeepsRulesAsName pool super_class) → IsTrue (some_and is_no_array_name o)
name_keeps_rules pool super_class None h = absurd h
name_keeps_rules pool super_class (Some name) h = h.no_array

super_keeps_rules : (pool : List Entry) (super_class : ℕ) (o : Option (List ℕ)) → IsSomeAnd o (KeepsRulesAsName pool super_class) → (super_class == 0) ≡ false → IsClassAt pool super_class
super_keeps_rules pool super_class None h other = absurd h
super_keeps_rules pool super_class (Some name) h other = by_object (is_object name) h.superclass
  where
    clash : false ≡ true → ⊥
    clash e = cc

    by_object : (b : Bool) → IsTrue (cond b (super_class == 0) (is_class_at pool super_class)) → IsClassAt pool super_class
    by_object true g = absurd (clash (sym other ∙ g))
    by_object false g = g

module _ (c : ClassStructure) (kinds : NamesByKind c.constant_pool) (well : IsWellFormed c) where
  -- ---- the class itself

  pub itself_named : class_of_constant c.constant_pool c.this_class ≡ class_name c
  itself_named = named_class c.constant_pool c.this_class kinds (name_keeps_rules c.constant_pool c.super_class (class_name c) well.rules.itself.named)

  -- ---- its superclass

  pub super_named : (super : Option (List ℕ)) → super_of c ≡ Some super → class_of_constant_at c.constant_pool (super_index c) ≡ super
  super_named super e = by_index (c.super_class == 0) refl e
    where
      none : Some None ≡ Some super → None ≡ super
      none f = cc

      by_name : (o : Option (List ℕ)) → option_map (λ name. Some name) o ≡ Some super → o ≡ super
      by_name None f = absurd cc
      by_name (Some name) f = cc

      by_index : (b : Bool) → (c.super_class == 0) ≡ b → cond b (Some None) (option_map (λ name. Some name) (class_name_at c.constant_pool c.super_class)) ≡ Some super
          → class_of_constant_at c.constant_pool (cond b None (Some c.super_class)) ≡ super
      by_index true is f = none f
      by_index false is f =
          named_class c.constant_pool c.super_class kinds (super_keeps_rules c.constant_pool c.super_class (class_name c) well.rules.itself.named is)
          ∙ by_name (class_name_at c.constant_pool c.super_class) f

  -- ---- its direct superinterfaces

  same_any : (name : List ℕ) (indices : List ℕ) (names : List (List ℕ)) → All (IsClassAt c.constant_pool) indices → all_found (class_name_at c.constant_pool) indices ≡ Some names
      → list_any (names_it c.constant_pool name) indices ≡ list_any (λ other. bytes_eq other name) names
  same_any name [] names right e = ap (list_any (λ other. bytes_eq other name)) (nothing e)
    where
      nothing : Some [] ≡ Some names → [] ≡ names
      nothing f = cc
  same_any name (index ∷ indices) names right e =
      let first = chained (class_name_at c.constant_pool index) _ names e in
      let rest = chained (all_found (class_name_at c.constant_pool) indices) _ names first.2 in
      let here : is_that_name name (class_of_constant c.constant_pool index) ≡ bytes_eq first.0 name =
      ap (is_that_name name) (named_class c.constant_pool index kinds (All-head (IsClassAt c.constant_pool) index indices right) ∙ first.1) ∙ nat_list_eq_equiv.symm name first.0 in
      ap (λ b. b || list_any (names_it c.constant_pool name) indices) here
      ∙ (ap (λ b. bytes_eq first.0 name || b) (same_any name indices rest.0 (All-tail (IsClassAt c.constant_pool) index indices right) rest.1)
      ∙ ap (list_any (λ other. bytes_eq other name)) (both rest.2))
    where
      both : {all : List (List ℕ)} → Some all ≡ Some names → all ≡ names
      both f = cc

  -- ---- the whole

  pub known : (constants : PoolTypes) (l : Loaded) (name : ℕ) (superclass : Option ℕ) (direct guarded : List Bool) → constants.pool ≡ c.constant_pool → class_of c ≡ Some l.class
      → class_of_constant constants.pool c.this_class ≡ Some (name_at constants.types.names name) → option_map (name_at constants.types.names)
      superclass ≡ class_of_constant_at constants.pool (super_index c)
      → AreMarkedAt constants.types.names constants.pool c.interfaces direct → AreGuards constants.types.world l constants.pool guarded → IsKept constants l name superclass direct guarded
  known constants l name superclass direct guarded same of named above marked guards =
      let is = parts c l.class of in
      let one_name : Some (name_at constants.types.names name) ≡ Some l.class.name = sym named ∙ (ap (λ p. class_of_constant p c.this_class) same ∙ (itself_named ∙ is.name)) in
      let is_above : class_of_constant_at constants.pool (super_index c) ≡ l.class.super_class = ap (λ p. class_of_constant_at p (super_index c))
      same ∙ super_named l.class.super_class is.super_class in
      record {
        pool = same ∙ is.pool;
        named = one one_name;
        superclass_named = above ∙ is_above;
        interfaces = record {
          size = marked.size;
          mark = λ place below.
              marked.marked place below
              ∙ (ap (λ p. list_any (names_it p (name_at constants.types.names place)) c.interfaces) same
              ∙ same_any (name_at constants.types.names place) c.interfaces l.class.interfaces well.rules.itself.supers.interfaces is.interfaces);
        };
        guards = guards;
        no_array = subst IsNoArray (named ∙ one_name) (named_no_array constants.pool c.this_class);
        no_array_above = subst IsNoArray is_above (named_by_no_array constants.pool (super_index c));
      }
    where
      one : {a b : List ℕ} → Some a ≡ Some b → a ≡ b
      one f = cc

  pub there : (pool : List Entry) (index : ℕ) → pool ≡ c.constant_pool → index ≡ c.this_class → IsSome (class_name_at pool index) → IsSome (class_of_constant pool index)
  there pool index same is named =
      subst IsSome (sym itself_named ∙ (ap (λ p. class_of_constant p c.this_class) (sym same) ∙ ap (class_of_constant pool) (sym is)))
      (subst IsSome (ap (class_name_at pool) is ∙ ap (λ p. class_name_at p c.this_class) same) named)
