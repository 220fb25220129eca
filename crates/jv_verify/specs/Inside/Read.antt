-- A method whose code was read.
use Rattle.std.specs.Prelude.{◌≡◌, ℕ, ◌≤◌, Bool, List, Option, Some, Result, IfOk}
use Rattle.std.specs.List.{All}
use Rattle.jv_text.specs.declared.descriptor.FieldTypeOf.{FieldTypeOf}
use Rattle.jv_text.specs.Name.{is_init}
use Rattle.jv_class_structure.specs.Parts.{CodeSeen}
use Rattle.jv_stackmap.specs.Entries.{ReadFrame}
use Rattle.jv_stackmap.specs.Types.{words}
use Rattle.jv_meaning_typing.specs.Environment.{Environment}
use Rattle.jv_meaning_typing.specs.Typing.{HandlersKeepRules, entries_before}
use Rattle.jv_meaning_typing.specs.Judgement.{IsCodeOf}
use Rattle.jv_verify_types.specs.Typed.{typed_all}
use Rattle.jv_verify_types.specs.Numbered.{Item}
use Rattle.jv_verify_types.specs.PoolTypes.{PoolTypes, typed_result}
use Rattle.jv_verify_types.specs.Current.{CurrentClass, IsOfClass}
use Rattle.jv_verify_types.specs.Mapped.{EntryTypes}
use Rattle.jv_verify_pass.specs.Tables.{entry_types, MapsTo}
use Rattle.jv_verify_pass.specs.Pass.{HasRoom}
use Rattle.jv_verify_pass.specs.declared.fault.CodeFault.{CodeFault}
use Rattle.jv_verify.specs.Judged.{IsVerdictOnMethod}

-- its class, its body, the types of its initial local entries, whether its name is `<init>`, and the type of its result, if it
-- has one
pub record ReadMethod : Type 0 where
  pub class : CurrentClass
  pub body : CodeSeen
  pub initial : List Item
  pub is_init : Bool
  pub result : Option (FieldTypeOf ℕ)

-- the code is its body's, and its initial local entries have so many words, for which there is room
pub record IsRead (method : ReadMethod) (code_bytes : List ℕ) (count : ℕ) : Type 0 where
  pub code : method.body.code ≡ code_bytes
  pub words : (names : List (List ℕ)) → count ≡ words (typed_all names method.initial)
  pub room : count ≤ method.body.max_locals

-- the environment of the method, whose code is one
pub record IsOfRead (method : ReadMethod) (env : Environment) : Type 0 where
  pub class : IsOfClass method.class env
  pub code : IsCodeOf env
  pub body : env.code ≡ method.body
  pub init : is_init env.site.method.name ≡ method.is_init
  pub initial : entries_before env ≡ typed_all method.class.types.names method.initial
  pub result : env.descriptor.result ≡ typed_result method.class.types.names method.result

-- what its constants say
abbrev pub constants_of : ReadMethod → PoolTypes
constants_of method = record { types = method.class.types; pool = method.class.by.class.constant_pool }

abbrev pub types_of : ReadMethod → EntryTypes
types_of method = entry_types (constants_of method) method.initial

-- the environment, in which the handlers are right and these are the frames of the stack map
pub record HasReadFrames (method : ReadMethod) (frames : List ReadFrame) (env : Environment) : Type 0 where
  pub of : IsOfRead method env
  pub handlers : HandlersKeepRules env
  pub maps : MapsTo (types_of method) method.body.max_locals env (Some frames)

-- each of these frames has room
abbrev pub HaveRoom : ReadMethod → List ReadFrame → Type 0
HaveRoom method frames = All (HasRoom (types_of method) method.body.max_locals) frames

-- ---- what is found

-- the frames of its stack map, in every environment of it, or that they break a rule
abbrev pub IsMapRead : ReadMethod → Option (List ReadFrame) → Type 0
IsMapRead method found = (env : Environment) → IsOfRead method env → MapsTo (types_of method) method.body.max_locals env found

-- the verdict on it, where its handlers keep their rules, or also these are the frames of its stack map
abbrev pub IsVerdictBehindHandlers : {E : Type 0} → ReadMethod → Result (Option CodeFault) E → Type 0
IsVerdictBehindHandlers method answer =
    (env : Environment) → IsOfRead method env → HandlersKeepRules env → IfOk answer (IsVerdictOnMethod method.class.types.world env.site)

abbrev pub IsVerdictBehindFrames : {E : Type 0} → ReadMethod → List ReadFrame → Result (Option CodeFault) E → Type 0
IsVerdictBehindFrames method frames answer =
    (env : Environment) → HasReadFrames method frames env → IfOk answer (IsVerdictOnMethod method.class.types.world env.site)
