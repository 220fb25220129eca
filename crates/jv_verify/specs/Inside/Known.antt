-- What is known of a method by its name, its flags and its descriptor.
use Rattle.std.specs.Prelude.{◌≡◌, ◌≤◌, ◌++◌, ◌↔◌, Option, Some, Bool, IsTrue, Result, IfOk, List, ℕ}
use Rattle.jv_class_structure.specs.Parts.{CodeSeen, MethodSeen}
use Rattle.jv_meaning_typing.specs.Environment.{Environment, IsEnvironment, current_class}
use Rattle.jv_meaning_typing.specs.Typing.{argument_words}
use Rattle.jv_verify_types.specs.Current.{CurrentClass, IsOfClass}
use Rattle.jv_verify_types.specs.PoolTypes.{CallTypes, call_types, call_types_at, typed_call}
use Rattle.jv_verify.specs.Judged.{IsMethodOf, IsVerdictOnMethod}
use Rattle.jv_verify_types.specs.declared.texts.MethodTypes.{MethodTypes}
use Rattle.jv_verify_pass.specs.declared.fault.CodeFault.{CodeFault}
use Rattle.jv_verify_types.specs.Typed.{typed, typed_all}
use Rattle.jv_stackmap.specs.Initial.{receiver_type, receiver_entries}
use Rattle.jv_meaning_typing.specs.Uses.{Site}
use Rattle.jv_verify_types.specs.Numbered.{Item}

-- an environment of the method
pub record IsEnvironmentOf (current : CurrentClass) (shown : MethodSeen) (body : CodeSeen) (env : Environment) : Type 0 where
  pub world : env.world ≡ current.types.world
  pub method : IsMethodOf current shown body env.site
  pub is : IsEnvironment env

-- its descriptor says these types, and its arguments are within so many words
pub record HasTypes (types : CallTypes) (body : CodeSeen) (env : Environment) : Type 0 where
  pub described : call_types env.descriptor ≡ types
  pub fit : argument_words env ≤ body.max_locals

-- an environment of the method whose descriptor says these types
abbrev pub IsEnvironmentWith : CurrentClass → MethodSeen → CodeSeen → MethodTypes → Environment → Type 0
IsEnvironmentWith class shown body types env =
    IsEnvironmentOf class shown body env × HasTypes (typed_call class.types.names types) body env

-- ---- in every environment of the method

-- whatever its body is, the words of its arguments are these
abbrev pub AreArgumentWords : CurrentClass → MethodSeen → Option ℕ → Type 0
AreArgumentWords class shown words =
    (body : CodeSeen) (env : Environment) → IsEnvironmentOf class shown body env → words ≡ Some (argument_words env)

-- they are within max_locals, or not
abbrev pub AreWithin : CurrentClass → MethodSeen → CodeSeen → Type 0
AreWithin class shown body = (env : Environment) → IsEnvironmentOf class shown body env → argument_words env ≤ body.max_locals

abbrev pub AreNotWithin : CurrentClass → MethodSeen → CodeSeen → Type 0
AreNotWithin class shown body = (env : Environment) → IsEnvironmentOf class shown body env → argument_words env ≤ body.max_locals → ⊥

abbrev pub IsWithinLocals : CurrentClass → MethodSeen → CodeSeen → Bool → Type 0
IsWithinLocals class shown body answer =
    (env : Environment) → IsEnvironmentOf class shown body env → IsTrue answer ↔ (argument_words env ≤ body.max_locals)

-- its descriptor says these types
abbrev pub SaysTypes : CurrentClass → ℕ → MethodTypes → Type 0
SaysTypes class descriptor types = call_types_at class.by.class.constant_pool descriptor ≡ Some (typed_call class.types.names types)

-- some environment has these types; and a verdict on the method in each that has them
abbrev pub HasEnvironment : CurrentClass → MethodSeen → CodeSeen → MethodTypes → Type 0
HasEnvironment class shown body types =
    (env : Environment) × (IsEnvironmentOf class shown body env × HasTypes (typed_call class.types.names types) body env)

abbrev pub IsVerdictWith : {E : Type 0} → CurrentClass → MethodSeen → CodeSeen → MethodTypes → Result (Option CodeFault) E → Type 0
IsVerdictWith class shown body types answer =
    (env : Environment) → IsEnvironmentOf class shown body env → HasTypes (typed_call class.types.names types) body env
    → IfOk answer (IsVerdictOnMethod class.types.world env.site)

-- at each site that is the method of the class that was shown so
abbrev pub IsVerdictOn : {E : Type 0} → CurrentClass → MethodSeen → CodeSeen → Result (Option CodeFault) E → Type 0
IsVerdictOn class shown body answer =
    (site : Site) → IsMethodOf class shown body site → IfOk answer (IsVerdictOnMethod class.types.world site)

-- ---- the types with which it begins

abbrev pub IsReceiver : CurrentClass → Bool → Item → Type 0
IsReceiver class is_init item =
    (env : Environment) → IsOfClass class env → typed class.types.names item ≡ receiver_type (current_class env).name is_init

abbrev pub AreReceivers : CurrentClass → Bool → Bool → List Item → Type 0
AreReceivers class is_static is_init items =
    (env : Environment) → IsOfClass class env
    → typed_all class.types.names items ≡ receiver_entries (current_class env).name is_static is_init

abbrev pub AreFirstEntries : CurrentClass → Bool → Bool → List Item → List Item → Type 0
AreFirstEntries class is_static is_init arguments items =
    (env : Environment) → IsOfClass class env
    → typed_all class.types.names items
    ≡ receiver_entries (current_class env).name is_static is_init ++ typed_all class.types.names arguments
