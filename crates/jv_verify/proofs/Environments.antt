-- The environment of a method.
use Rattle.std.proofs.Common.{◌≡◌, ℕ, ◌≤◌, Bool, true, false, not, ◌&&◌, List, ◌++◌, map, Option, Some, None, refl, sym, ap, subst, ◌∙◌, arith}
use Rattle.std.specs.Prelude.{codes, IfSome}
use Rattle.std.specs.Option.{option_map}
use Rattle.std.specs.Str.{bytes_eq}
use Rattle.jv_format.specs.Format.{◌>>=◌}
use Rattle.jv_text.specs.declared.descriptor.FieldTypeOf.{FieldTypeOf}
use Rattle.jv_text.specs.Descriptor.{MethodDescriptor}
use Rattle.jv_text.specs.Name.{is_init}
use Rattle.jv_text.specs.Types.{method_type_of}
use Rattle.jv_pool.specs.Constants.{utf8_at}
use Rattle.jv_class_structure.specs.Flags.{has, acc_static}
use Rattle.jv_class_structure.specs.Parts.{CodeSeen, MethodSeen}
use Rattle.jv_code.specs.Insns.{Instruction}
use Rattle.jv_code.specs.Places.{IsCode}
use Rattle.jv_stackmap.specs.declared.verification.VerificationTypeOf.TheVariants as types
use Rattle.jv_stackmap.specs.Types.{FrameType, value_type, words}
use Rattle.jv_stackmap.specs.Initial.{receiver_entries, receiver_type}
use Rattle.jv_meaning_typing.specs.Uses.{Site}
use Rattle.jv_meaning_typing.specs.Environment.{Environment, current_class}
use Rattle.jv_meaning_typing.specs.Typing.{argument_words}
use Rattle.jv_verify_types.specs.Typed.{typed_all}
use Rattle.jv_verify_types.specs.Numbered.{Item}
use Rattle.jv_verify_types.specs.declared.texts.MethodTypes.{MethodTypes}
use Rattle.jv_verify_types.specs.PoolTypes.{CallTypes, call_types, call_types_at, typed_call}
use Rattle.jv_verify_types.specs.Current.{CurrentClass, IsOfClass}
use Rattle.jv_verify.specs.Judged.{IsMethodOf}
use Rattle.jv_verify.specs.Inside.Known.{IsEnvironmentOf, HasTypes}
use Rattle.jv_verify.specs.Inside.Read.{ReadMethod, IsOfRead}
use Rattle.jv_verify.proofs.EntryWords.{words_few}

-- ---- the receiver

pub in_object : (init object : Bool) → object ≡ true → (init && not object) ≡ false
in_object true object e = rw e refl
in_object false object e = refl

pub in_other_method : (init object : Bool) → init ≡ false → (init && not object) ≡ false
in_other_method init object e = rw e refl

pub plain_receiver : (class : CurrentClass) (env : Environment) (init object : Bool) → IsOfClass class env → object ≡ bytes_eq class.by.class.name
    (codes "java/lang/Object") → (init && not object) ≡ false
    → types.Class (current_class env).name ≡ receiver_type (current_class env).name init
plain_receiver class env init object of is plain =
    let same : (init && not (bytes_eq (current_class env).name (codes "java/lang/Object"))) ≡ false =
    ap (λ l. init && not (bytes_eq l.class.name (codes "java/lang/Object"))) of.by ∙ (ap (λ (b : Bool). init && not b) (sym is) ∙ plain) in
    rw same refl

-- ---- what a descriptor says

pub said : (names : List (List ℕ)) (found : Option MethodTypes) (types : Option CallTypes) → option_map (typed_call names) found ≡ types → IfSome found (λ t. types ≡ Some (typed_call names t))
said names None types e = tt
said names (Some t) types e = sym e

record Described (method : Option MethodDescriptor) (types : CallTypes) : Type 0 where
  pub descriptor : MethodDescriptor
  pub is : method ≡ Some descriptor
  pub says : call_types descriptor ≡ types

described : (method : Option MethodDescriptor) (types : CallTypes) → (method >>= λ m. Some (call_types m)) ≡ Some types → Described method types
described None types e = absurd cc
described (Some m) types e = record { descriptor = m; is = refl; says = cc }

-- ---- the environment of a site

pub record Found (class : CurrentClass) (shown : MethodSeen) (body : CodeSeen) (types : CallTypes) (site : Site) : Type 0 where
  pub env : Environment
  pub of : IsEnvironmentOf class shown body env
  pub described : call_types env.descriptor ≡ types
  pub there : env.site ≡ site

pub environment : (class : CurrentClass) (shown : MethodSeen) (body : CodeSeen) (types : CallTypes) (site : Site) (insns : List Instruction) → IsMethodOf class shown body site
    → call_types_at class.by.class.constant_pool shown.descriptor_index ≡ Some types → IsCode body.code insns → Found class shown body types site
environment class shown body types site insns of says code =
    let found = described (method_type_of site.method.descriptor) types (sym (ap (λ o. o >>= method_type_of >>= λ method. Some (call_types method)) of.descriptor) ∙ says) in
    record {
      env = record { world = class.types.world; site = site; descriptor = found.descriptor; code = body; instructions = insns };
      of = record { world = refl; method = of; is = record { descriptor = found.is; code = of.code; instructions = code } };
      described = found.says;
      there = refl;
    }

pub same_body : (class : CurrentClass) (shown : MethodSeen) (body : CodeSeen) (env : Environment) → IsEnvironmentOf class shown body env → env.code ≡ body
same_body class shown body env of = one (sym of.is.code ∙ of.method.code)
  where
    one : Some env.code ≡ Some body → env.code ≡ body
    one e = cc

-- ---- the environment of a method that was read

same_read : (method : ReadMethod) (class : CurrentClass) (body : CodeSeen) (initial : List Item) (init : Bool) (result : Option (FieldTypeOf ℕ)) →
    method.class ≡ class → method.body ≡ body → method.initial ≡ initial
    → method.is_init ≡ init → method.result ≡ result → record { class = class; body = body; initial = initial; is_init = init; result = result } ≡ method
same_read method class body initial init result c b e i r = rw (← c, ← b, ← e, ← i, ← r) refl

pub read_in : (class : CurrentClass) (shown : MethodSeen) (body : CodeSeen) (types : MethodTypes) (items : List Item) (static init : Bool) (env : Environment) → IsEnvironmentOf class shown body env
    → HasTypes (typed_call class.types.names types) body env → static ≡ has shown.access_flags acc_static
    → ((name : List ℕ) → utf8_at class.by.class.constant_pool shown.name_index ≡ Some name → init ≡ is_init name)
    → ((e : Environment) → IsOfClass class e → typed_all class.types.names items ≡ receiver_entries (current_class e).name static init ++ typed_all class.types.names types.arguments.now)
    → IsOfRead (record { class = class; body = body; initial = items; is_init = init; result = types.result }) env
read_in class shown body types items static init env of has_types flagged named initial =
    let here : IsOfClass class env = record { world = of.world; by = of.method.by } in
    let init_is : init ≡ is_init env.site.method.name = named env.site.method.name of.method.name in
    record {
      class = here;
      code = record {
        is = of.is;
        arguments = subst (λ (c : CodeSeen). argument_words env ≤ c.max_locals) (sym (same_body class shown body env of)) has_types.fit;
      };
      body = same_body class shown body env of;
      init = sym init_is;
      initial =
          ap (λ (flags : ℕ). receiver_entries (current_class env).name (has flags acc_static) (is_init env.site.method.name) ++ map value_type env.descriptor.parameters) of.method.flags
          ∙ (ap (λ (b : Bool). receiver_entries (current_class env).name b (is_init env.site.method.name) ++ map value_type env.descriptor.parameters) (sym flagged)
          ∙ (ap (λ (b : Bool). receiver_entries (current_class env).name static b ++ map value_type env.descriptor.parameters) (sym init_is)
          ∙ (ap (λ (c : CallTypes). receiver_entries (current_class env).name static init ++ c.arguments) has_types.described ∙ sym (initial env here))));
      result = ap (λ (c : CallTypes). c.result) has_types.described;
    }

pub of_read : (method : ReadMethod) (class : CurrentClass) (shown : MethodSeen) (body : CodeSeen) (types : MethodTypes) (items : List Item) (static init : Bool) (env : Environment)
    → method.class ≡ class → method.body ≡ body → method.initial ≡ items → method.is_init ≡ init → method.result ≡ types.result → IsEnvironmentOf class shown body env
    → HasTypes (typed_call class.types.names types) body env → static ≡ has shown.access_flags acc_static
    → ((name : List ℕ) → utf8_at class.by.class.constant_pool shown.name_index ≡ Some name → init ≡ is_init name)
    → ((e : Environment) → IsOfClass class e → typed_all class.types.names items ≡ receiver_entries (current_class e).name static init ++ typed_all class.types.names types.arguments.now)
    → IsOfRead method env
of_read method class shown body types items static init env c b e i r of has_types flagged named initial =
    subst (λ (m : ReadMethod). IsOfRead m env) (same_read method class body items init types.result c b e i r)
    (read_in class shown body types items static init env of has_types flagged named initial)

-- its initial local entries have no more words than there are local variables
pub has_room : (method : ReadMethod) (env : Environment) → IsOfRead method env → words (typed_all method.class.types.names method.initial) ≤ method.body.max_locals
has_room method env of =
    let few : words (typed_all method.class.types.names method.initial) ≤ argument_words env = subst (λ (ts : List FrameType). words ts ≤ argument_words env) of.initial (words_few env) in
    let room : argument_words env ≤ method.body.max_locals = subst (λ (c : CodeSeen). argument_words env ≤ c.max_locals) of.body of.code.arguments in
    omega (arith, few, room)
