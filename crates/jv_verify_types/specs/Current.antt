-- The class whose methods are type checked, the current class (JVMS 2.6, 4.10.1.6).
use Rattle.std.specs.Prelude.{◌≡◌, ℕ, List, Bool, Some}
use Rattle.jv_meaning_world.specs.World.{Loaded, class_named}
use Rattle.jv_meaning_typing.specs.Environment.{Environment}
use Rattle.jv_verify_types.specs.Typed.{TypeWorld, name_at}
use Rattle.jv_pool.specs.Constants.{MemberReference, field_reference_at}
use Rattle.jv_meaning_typing.specs.Operands.{MethodReference, method_operand}
use Rattle.jv_meaning_typing.specs.Named.{is_guarded_field, is_guarded_method}
use Rattle.jv_meaning_typing.specs.MemberRules.{is_interface_named}

-- the class, with the names whose numbers stand in types and the world in which these are looked up
pub record CurrentClass : Type 0 where
  pub types : TypeWorld
  pub by : Loaded

-- an environment of a method of the class
pub record IsOfClass (class : CurrentClass) (env : Environment) : Type 0 where
  pub world : env.world ≡ class.types.world
  pub by : env.site.by ≡ class.by

-- it holds in every environment of a method of the class
abbrev pub InClass : CurrentClass → (Environment → Type 0) → Type 0
InClass class P = (env : Environment) → IsOfClass class env → P env

-- the name with a number
abbrev pub name_in : CurrentClass → ℕ → List ℕ
name_in class number = name_at class.types.names number

-- the class that an interface is asked of, and members that are guarded in it (JVMS 4.10.1.8)
abbrev pub NamesInterface : CurrentClass → ℕ → Bool → Type 0
NamesInterface class name answer =
    (env : Environment) → IsOfClass class env
    → is_interface_named env (name_in class name) (class_named env.world (name_in class name)) ≡ answer

abbrev pub GuardsFieldAt : CurrentClass → ℕ → Bool → Type 0
GuardsFieldAt class index answer =
    (env : Environment) → IsOfClass class env → (reference : MemberReference)
    → field_reference_at class.by.class.constant_pool index ≡ Some reference
    → is_guarded_field env.world env.site.by reference ≡ answer

abbrev pub GuardsMethodAt : CurrentClass → ℕ → Bool → Type 0
GuardsMethodAt class index answer =
    (env : Environment) → IsOfClass class env → (m : MethodReference) → method_operand class.by.class index ≡ Some m
    → is_guarded_method env.world env.site.by m.member ≡ answer
