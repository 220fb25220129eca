-- What soundness asks of the classes of a judged guest's world, from their files' rules, and of the tasks of initializations.
use Rattle.std.proofs.Common.{◌≡◌, ◌⊎◌, inl, inr, ℕ, Bool, true, false, not, ◌&&◌, ◌||◌, List, [], ◌∷◌, ◌++◌, map, Option, Some, None, refl, sym, ap, subst, ◌∙◌}
use Rattle.std.specs.Prelude.{IsTrue, IsSome, is_some, codes}
use Rattle.std.specs.List.{AllByRecursion, Contains, filter_map, cons_option}
use Rattle.std.specs.Option.{option_map, option_to_list}
use Rattle.std.specs.Str.{bytes_eq}
use Rattle.jv_text.specs.declared.descriptor.FieldTypeOf.{FieldTypeOf}
use Rattle.jv_text.specs.Name.{is_init}
use Rattle.jv_text.specs.Descriptor.{MethodDescriptor, is_floating, is_floating_method}
use Rattle.jv_text.specs.Types.{field_type_of, method_type_of}
use Rattle.jv_stackmap.specs.declared.verification.VerificationTypeOf.TheVariants as types
use Rattle.jv_stackmap.specs.Types.{FrameType, value_type}
use Rattle.jv_meaning_world.specs.System.Io.{io}
use Rattle.jv_class_structure.specs.Flags.{has, acc_static, acc_interface, acc_abstract}
use Rattle.jv_class.specs.Class.{Class, Field, Method, InitialValue, field_named, method_named}
use Rattle.jv_class.specs.Class.InitialValue.{IntValue, LongValue, StringValue}
use Rattle.jv_class.specs.Rules.{is_clinit}
use Rattle.jv_meaning_world.specs.World.{Loaded, loaded, class_named}
use Rattle.jv_meaning_world.specs.Overriding.{Declared}
use Rattle.jv_meaning_world.specs.LookUps.{is_concrete, field_by}
use Rattle.jv_meaning_world.specs.Verdicts.{is_interface, declared_by}
use Rattle.jv_meaning_world.proofs.Up.{first, later, named_stands, same_name, above_by_ways, above_is_transitive}
use Rattle.jv_meaning_typing.specs.Kind.{is_static_field, is_static_method}
use Rattle.jv_meaning_typing.specs.InitializationOrder.{init_order}
use Rattle.jv_meaning_typing.proofs.Found.{method_is_named}
use Rattle.jv_meaning_typing.proofs.Finals.{found_stands}
use Rattle.jv_meaning_typing.proofs.Searched.{init_order_is_above}
use Rattle.jv_meaning_machine.specs.Frames.{Task}
use Rattle.jv_meaning_machine.specs.Frames.Task.{SetsField, InitializesFirst, RunsInitializer}
use Rattle.jv_meaning_machine.specs.State.{Program}
use Rattle.jv_meaning_machine.specs.Literals.{string_name}
use Rattle.jv_meaning_machine.specs.Initialization.{setting, initializer_of, tasks_of, is_verified}
use Rattle.jv_meaning_machine.specs.Alone.{AreUnits}
use Rattle.jv_sound.specs.Sound.{AreSorts, IsResultSort, IsEnterable}
use Rattle.jv_sound.specs.Frames.{IsConstantOf, HasUnits, IsRunnable, IsTask}
use Rattle.jv_sound.proofs.Logic.{clash}
use Rattle.jv_sound.proofs.Taking.{and_parts}
use Rattle.jv_sound.proofs.Subtypes.{above_is_named}
use Rattle.jv_sound.proofs.Words.{plain_sorts}
use Rattle.jv_meaning_machine.specs.Calls.{is_built_in}
use Rattle.jv_sound.proofs.Formed.{needs_code, value_is, initial_fits, plain_type, plain_method_type, init_test, clinit_test, is_void, IsInitialText, IsFormed, IsCoded, or_gives}

-- all classes of the world
pub record AreFormed (program : Program) : Type 0 where
  pub each : (l : Loaded) → Contains program.world l → IsFormed l.class × (IsCoded l.class ⊎ (l ≡ loaded true io))

pub field_stands : (class : Class) (name descriptor : List ℕ) (f : Field) → field_named class name descriptor ≡ Some f
    → Contains class.fields f
field_stands class name descriptor f e = found_stands (λ f. bytes_eq f.name name && bytes_eq f.descriptor descriptor) class.fields f e

pub method_stands : (class : Class) (name descriptor : List ℕ) (m : Method) → method_named class name descriptor ≡ Some m
    → Contains class.methods m
method_stands class name descriptor m e = found_stands (λ m. bytes_eq m.name name && bytes_eq m.descriptor descriptor) class.methods m e

or_both : (a b c d : Bool) → ((a || b) || (c || d)) ≡ true → ((a ≡ true) ⊎ (b ≡ true)) ⊎ ((c ≡ true) ⊎ (d ≡ true))
or_both true b c d h = inl (inl refl)
or_both false true c d h = inl (inr refl)
or_both false false true d h = inr (inl refl)
or_both false false false d h = inr (inr h)

some_of : {A : Type 0} (o : Option A) → is_some o ≡ true → IsSome o
some_of None h = absurd (clash h)
some_of (Some a) h = refl

value_constant : (t : FrameType) (v : InitialValue) → value_is t v ≡ true → IsConstantOf t v
value_constant types.Int (IntValue number) h = tt
value_constant types.Int (LongValue number) h = absurd (clash h)
value_constant types.Int (StringValue text) h = absurd (clash h)
value_constant types.Long (LongValue number) h = tt
value_constant types.Long (IntValue number) h = absurd (clash h)
value_constant types.Long (StringValue text) h = absurd (clash h)
value_constant (types.Class name) (StringValue text) h = ap (λ (n : List ℕ). types.Class n) (same_name name string_name h)
value_constant (types.Class name) (IntValue number) h = absurd (clash h)
value_constant (types.Class name) (LongValue number) h = absurd (clash h)
value_constant types.Top v h = absurd (clash h)
value_constant types.Null v h = absurd (clash h)
value_constant types.UninitializedThis v h = absurd (clash h)
value_constant (types.Uninitialized offset) v h = absurd (clash h)
value_constant (types.Array components) v h = absurd (clash h)

tasks_join : (program : Program) (xs ys : List Task) → AllByRecursion (IsTask program) xs → AllByRecursion (IsTask program) ys
    → AllByRecursion (IsTask program) (xs ++ ys)
tasks_join program [] ys h k = k
tasks_join program (x ∷ xs) ys h k = (h.0, tasks_join program xs ys h.1 k)

module _ (program : Program) (formed : AreFormed program) (named : (l : Loaded) → Contains program.world l
    → class_named program.world l.class.name ≡ Some l) (units : AreUnits program.units) where
  -- an interface's fields are static
  pub interfaces_are_static : (l : Loaded) → Contains program.world l → is_interface l ≡ true → (name descriptor : List ℕ) (f : Field)
      → field_named l.class name descriptor ≡ Some f → is_static_field f ≡ true
  interfaces_are_static l here i name descriptor f e =
      let test = (formed.each l here).0.fields f (field_stands l.class name descriptor f e) in
      let rest = and_parts (plain_type (field_type_of f.descriptor))
      (initial_fits (field_type_of f.descriptor) f.initial &&
      (not (has l.class.access_flags acc_interface) || has f.access_flags acc_static)) test in
      let last = and_parts (initial_fits (field_type_of f.descriptor) f.initial)
      (not (has l.class.access_flags acc_interface) || has f.access_flags acc_static) rest.1 in
      or_gives (has l.class.access_flags acc_interface) (has f.access_flags acc_static) last.1 i

  -- a field's descriptor has a type, and no floating point number
  pub field_is_sort : (l : Loaded) → Contains program.world l → (f : Field) → Contains l.class.fields f
      → (type : FieldTypeOf (List ℕ)) × (field_type_of f.descriptor ≡ Some type) × (not (is_floating type) ≡ true)
  field_is_sort l here f there = by_type (field_type_of f.descriptor) refl
      (and_parts (plain_type (field_type_of f.descriptor)) (initial_fits (field_type_of f.descriptor) f.initial &&
      (not (has l.class.access_flags acc_interface) || has f.access_flags acc_static)) ((formed.each l here).0.fields f there)).0
    where
      by_type : (o : Option (FieldTypeOf (List ℕ))) → field_type_of f.descriptor ≡ o → plain_type o ≡ true
          → (type : FieldTypeOf (List ℕ)) × (field_type_of f.descriptor ≡ Some type) × (not (is_floating type) ≡ true)
      by_type None e k = absurd (clash k)
      by_type (Some type) e k = (type, e, k)

  -- a method's descriptor has types, and no floating point number
  pub method_is_plain : (l : Loaded) → Contains program.world l → (m : Method) → Contains l.class.methods m
      → (d : MethodDescriptor) × (method_type_of m.descriptor ≡ Some d) × (not (is_floating_method d) ≡ true)
  method_is_plain l here m there = by_type (method_type_of m.descriptor) refl
      (and_parts (plain_method_type (method_type_of m.descriptor)) (init_test l.class.access_flags m && clinit_test m)
      ((formed.each l here).0.methods m there)).0
    where
      by_type : (o : Option MethodDescriptor) → method_type_of m.descriptor ≡ o → plain_method_type o ≡ true
          → (d : MethodDescriptor) × (method_type_of m.descriptor ≡ Some d) × (not (is_floating_method d) ≡ true)
      by_type None e k = absurd (clash k)
      by_type (Some type) e k = (type, e, k)

  pub method_sorts : (d : Declared) (descriptor : MethodDescriptor) → class_named program.world d.by.class.name ≡ Some d.by
      → method_named d.by.class d.method.name d.method.descriptor ≡ Some d.method → method_type_of d.method.descriptor ≡ Some descriptor
      → AreSorts descriptor.parameters × IsResultSort descriptor.result
  method_sorts d descriptor here declared e =
      let plain = method_is_plain d.by (named_stands program.world d.by.class.name d.by here) d.method
      (method_stands d.by.class d.method.name d.method.descriptor d.method declared) in
      plain_sorts descriptor (subst (λ (x : MethodDescriptor). not (is_floating_method x) ≡ true)
      (one_type plain.0 descriptor (sym plain.1 ∙ e)) plain.2)
    where
      one_type : (a b : MethodDescriptor) → Some a ≡ Some b → a ≡ b
      one_type a b k = cc

  pub parameters_are_sorts : (d : Declared) (descriptor : MethodDescriptor) → IsEnterable program d
      → method_type_of d.method.descriptor ≡ Some descriptor → AreSorts descriptor.parameters
  parameters_are_sorts d descriptor h e = (method_sorts d descriptor h.here h.declared e).0

  -- what needs code has it, but for host/Io's methods
  pub needs_have_code : (l : Loaded) → Contains program.world l → (l ≡ loaded true io → ⊥) → (m : Method) → Contains l.class.methods m
      → needs_code m ≡ true → IsSome m.code
  needs_have_code l here other m there need = by_kind (formed.each l here).1
    where
      by_kind : IsCoded l.class ⊎ (l ≡ loaded true io) → IsSome m.code
      by_kind (inl k) = some_of m.code (or_gives (needs_code m) (is_some m.code) (k.coded m there) need)
      by_kind (inr e) = absurd (other e)

  or_last : (a b c d : Bool) → d ≡ true → ((a || b) || (c || d)) ≡ true
  or_last true b c d h = refl
  or_last false true c d h = refl
  or_last false false true d h = refl
  or_last false false false d h = h

  io_is_static : (m : Method) → Contains io.methods m → is_static_method m ≡ true
  io_is_static m h = Rattle.jv_meaning_world.proofs.OrderChains.all_at is_static_method io.methods m refl h

  pub concrete_have_code : (d : Declared) → class_named program.world d.by.class.name ≡ Some d.by
      → method_named d.by.class d.method.name d.method.descriptor ≡ Some d.method → is_concrete d ≡ true → is_static_method d.method ≡ false
      → IsSome d.method.code
  concrete_have_code d here declared concrete instance =
      let there = method_stands d.by.class d.method.name d.method.descriptor d.method declared in
      needs_have_code d.by (named_stands program.world d.by.class.name d.by here)
      (λ e. clash (sym instance ∙ io_is_static d.method (subst (λ (x : Loaded). Contains x.class.methods d.method) e there))) d.method there
      (or_last (is_clinit d.method.name) (is_init d.method.name) (has d.method.access_flags acc_static)
      (not (has d.method.access_flags acc_abstract)) concrete)

  -- an `<init>` has no result and is not static, and it has code
  pub constructor_rules : (d : Declared) → class_named program.world d.by.class.name ≡ Some d.by
      → method_named d.by.class d.method.name d.method.descriptor ≡ Some d.method → is_init d.method.name ≡ true
      → (is_void (method_type_of d.method.descriptor) ≡ true) × (is_static_method d.method ≡ false)
  constructor_rules d here declared init =
      let there = method_stands d.by.class d.method.name d.method.descriptor d.method declared in
      let test = (formed.each d.by (named_stands program.world d.by.class.name d.by here)).0.methods d.method there in
      let rest = and_parts (plain_method_type (method_type_of d.method.descriptor))
      (init_test d.by.class.access_flags d.method && clinit_test d.method) test in
      let own = by_test (is_init d.method.name) init (and_parts (init_test d.by.class.access_flags d.method)
      (clinit_test d.method) rest.1).0 in
      let last = and_parts (is_void (method_type_of d.method.descriptor)) (not (has d.method.access_flags acc_static))
      (and_parts (not (has d.by.class.access_flags acc_interface)) _ own).1 in
      (last.0, Rattle.jv_sound.proofs.Formed.not_true (has d.method.access_flags acc_static) last.1)
    where
      by_test : (b : Bool) → b ≡ true → (not b || (not (has d.by.class.access_flags acc_interface) &&
          (is_void (method_type_of d.method.descriptor) && not (has d.method.access_flags acc_static)))) ≡ true
          → (not (has d.by.class.access_flags acc_interface) && (is_void (method_type_of d.method.descriptor) && not
          (has d.method.access_flags acc_static))) ≡ true
      by_test true e k = k
      by_test false e k = absurd (clash e)

  or_second : (a b c d : Bool) → b ≡ true → ((a || b) || (c || d)) ≡ true
  or_second true b c d h = refl
  or_second false true c d h = refl
  or_second false false c d h = absurd (clash h)

  or_third : (a b c d : Bool) → c ≡ true → ((a || b) || (c || d)) ≡ true
  or_third true b c d h = refl
  or_third false true c d h = refl
  or_third false false true d h = refl
  or_third false false false d h = absurd (clash h)

  pub constructors_have_code : (d : Declared) → class_named program.world d.by.class.name ≡ Some d.by
      → method_named d.by.class d.method.name d.method.descriptor ≡ Some d.method → is_init d.method.name ≡ true → IsSome d.method.code
  constructors_have_code d here declared init =
      let there = method_stands d.by.class d.method.name d.method.descriptor d.method declared in
      needs_have_code d.by (named_stands program.world d.by.class.name d.by here)
      (λ e. clash (sym (constructor_rules d here declared init).1 ∙ io_is_static d.method
      (subst (λ (x : Loaded). Contains x.class.methods d.method) e there))) d.method there
      (or_second (is_clinit d.method.name) (is_init d.method.name) (has d.method.access_flags acc_static)
      (not (has d.method.access_flags acc_abstract)) init)

  -- so has a static method, host/Io's aside
  pub static_have_code : (d : Declared) → class_named program.world d.by.class.name ≡ Some d.by
      → method_named d.by.class d.method.name d.method.descriptor ≡ Some d.method → is_static_method d.method ≡ true → is_built_in d ≡ false
      → IsSome d.method.code
  static_have_code d here declared static other =
      let there = method_stands d.by.class d.method.name d.method.descriptor d.method declared in
      needs_have_code d.by (named_stands program.world d.by.class.name d.by here)
      (λ e. clash (sym other ∙ subst (λ (x : Loaded). (x.by_system && bytes_eq x.class.name (codes "host/Io")) ≡ true)
      (sym e) refl)) d.method there
      (or_third (is_clinit d.method.name) (is_init d.method.name) (has d.method.access_flags acc_static)
      (not (has d.method.access_flags acc_abstract)) static)

  -- a constant value is of its field's type
  setting_ok : (l : Loaded) → Contains program.world l → (f : Field) → Contains l.class.fields f → (v : InitialValue) → f.initial ≡ Some v
      → IsTask program (SetsField (field_by l f) v)
  setting_ok l here f there v e =
      let sort = field_is_sort l here f there in
      let rest = (and_parts (plain_type (field_type_of f.descriptor))
      (initial_fits (field_type_of f.descriptor) f.initial &&
      (not (has l.class.access_flags acc_interface) || has f.access_flags acc_static)) ((formed.each l here).0.fields f there)).1 in
      let fits = (and_parts (initial_fits (field_type_of f.descriptor) f.initial)
      (not (has l.class.access_flags acc_interface) || has f.access_flags acc_static) rest).0 in
      let both : initial_fits (Some sort.0) (Some v) ≡ true = subst (λ (o : Option InitialValue). initial_fits (Some sort.0) o ≡ true) e
      (subst (λ (o : Option (FieldTypeOf (List ℕ))). initial_fits o f.initial ≡ true) sort.1 fits) in (
        sort.0,
        sort.1,
        value_constant (value_type sort.0) v both,
        by_value v
            (subst IsInitialText e ((formed.each l here).0.initials f there)),
      )
    where
      by_value : (v : InitialValue) → IsInitialText (Some v) → HasUnits program v
      by_value (IntValue number) k = tt
      by_value (LongValue number) k = tt
      by_value (StringValue text) k = (k.0, (units text k.0).1 k.1)

  settings_ok : (l : Loaded) → Contains program.world l → (fs : List Field) → ((f : Field) → Contains fs f → Contains l.class.fields f)
      → AllByRecursion (IsTask program) (filter_map (setting l) fs)
  settings_ok l here [] h = tt
  settings_ok l here (f ∷ fs) h = by_initial (settings_ok l here fs (λ x k. h x (later f fs x k))) f.initial refl
    where
      by_initial : AllByRecursion (IsTask program) (filter_map (setting l) fs) → (o : Option InitialValue) → f.initial ≡ o
          → AllByRecursion (IsTask program) (cons_option (option_map (SetsField (field_by l f)) o) (filter_map (setting l) fs))
      by_initial rest None e = rest
      by_initial rest (Some v) e = (setting_ok l here f (h f (first f fs)) v e, rest)

  firsts_ok : (ls : List Loaded) → ((s : Loaded) → Contains ls s → Contains program.world s)
      → AllByRecursion (IsTask program) (map InitializesFirst ls)
  firsts_ok [] h = tt
  firsts_ok (l ∷ ls) h = (h l (first l ls), firsts_ok ls (λ x k. h x (later l ls x k)))

  -- `<clinit>` can be run
  clinit_ok : (l : Loaded) → Contains program.world l → IsTrue (is_verified program l) → (m : Method)
      → method_named l.class (codes "<clinit>") (codes "()V") ≡ Some m → IsRunnable program (declared_by l m) []
  clinit_ok l here verified m e =
      let texts = method_is_named l.class (codes "<clinit>") (codes "()V") m e in
      let there = method_stands l.class (codes "<clinit>") (codes "()V") m e in
      let name : is_clinit m.name ≡ true = ap is_clinit texts.0 in
      let rest = (and_parts (plain_method_type (method_type_of m.descriptor)) (init_test l.class.access_flags m && clinit_test m)
      ((formed.each l here).0.methods m there)).1 in
      let its = or_gives (is_clinit m.name) _ (and_parts (init_test l.class.access_flags m) (clinit_test m) rest).1 name in
      record {
        enterable = record {
          here = named l here;
          declared = ap (λ (n : List ℕ). method_named l.class n m.descriptor) texts.0 ∙
              (ap (method_named l.class (codes "<clinit>")) texts.1 ∙ e);
          verified = verified;
          code = needs_have_code l here (λ io_is. no_method (subst
              (λ (x : Loaded). method_named x.class (codes "<clinit>") (codes "()V") ≡ Some m) io_is e)) m there
              (ap (λ (b : Bool). (b || is_init m.name) || (has m.access_flags acc_static || not (has m.access_flags acc_abstract))) name);
        };
        static = (and_parts (has m.access_flags acc_static) _ its).0;
        plain = ap is_init texts.0;
        descriptor = record { parameters = []; result = None };
        described = ap method_type_of texts.1;
        takes = refl;
      }
    where
      no_method : method_named io (codes "<clinit>") (codes "()V") ≡ Some m → ⊥
      no_method k = absurd cc

  initializer_ok : (l : Loaded) → Contains program.world l → IsTrue (is_verified program l)
      → AllByRecursion (IsTask program) (initializer_of l)
  initializer_ok l here verified = by_method (method_named l.class (codes "<clinit>") (codes "()V")) refl
    where
      by_method : (o : Option Method) → method_named l.class (codes "<clinit>") (codes "()V") ≡ o
          → AllByRecursion (IsTask program) (map RunsInitializer (option_to_list (option_map (declared_by l) o)))
      by_method None e = tt
      by_method (Some m) e = (clinit_ok l here verified m e, tt)

  -- the tasks of a verified class
  pub tasks_ok : (l : Loaded) → Contains program.world l → IsTrue (is_verified program l)
      → AllByRecursion (IsTask program) (tasks_of program.world l)
  tasks_ok l here verified =
      tasks_join program (filter_map (setting l) l.class.fields) (map InitializesFirst (init_order program.world l) ++ initializer_of l)
      (settings_ok l here l.class.fields (λ f h. h))
      (tasks_join program (map InitializesFirst (init_order program.world l)) (initializer_of l)
      (firsts_ok (init_order program.world l) (λ s h. named_stands program.world s.class.name s
      (above_is_named program.world l.class s (init_order_is_above above_by_ways above_is_transitive program.world l s h))))
      (initializer_ok l here verified))
