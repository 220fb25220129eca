-- What soundness needs of a guest's program (JVMS 4.10, 5.3): all of it follows from the verdicts on its files and on the classes that its
-- host gives.
use Rattle.std.specs.Prelude.{◌≡◌, ⊤, ℕ, List, ◌++◌, map, Option, Some, None, IsSome, IsTrue, false, true}
use Rattle.std.specs.List.{Contains, AllByRecursion}
use Rattle.jv_text.specs.declared.descriptor.FieldTypeOf.{FieldTypeOf}
use Rattle.jv_stackmap.specs.declared.verification.VerificationTypeOf.TheVariants as types
use Rattle.jv_stackmap.specs.Types.{FrameType, value_type}
use Rattle.jv_meaning_world.specs.Library.{system_with}
use Rattle.jv_class.specs.Class.{Class, method_named}
use Rattle.jv_meaning_world.specs.World.{Loaded, class_named, loaded}
use Rattle.jv_meaning_world.specs.Laws.Above.{SystemStandsAlone}
use Rattle.jv_meaning_world.specs.Verdicts.{is_loadable}
use Rattle.jv_meaning_world.specs.Overriding.{Declared}
use Rattle.jv_meaning_world.specs.Laws.Order.{IsRooted}
use Rattle.jv_meaning_typing.specs.Environment.{Environment, IsEnvironment}
use Rattle.jv_meaning_typing.specs.Judgement.{AreTyped}
use Rattle.jv_meaning_typing.specs.Typing.{Assignment, IsTyping}
use Rattle.jv_stackmap.specs.Frames.{PlacedFrame}
use Rattle.jv_meaning_machine.specs.State.{Program, is_class_accepted}
use Rattle.jv_meaning_machine.specs.Initialization.{is_verified}
use Rattle.jv_meaning_machine.specs.Alone.{FindsInstructions}

-- ---- what a class file's rules leave to know of a class by its names

-- a type with values: no float and no double, which no supported class names
abbrev pub IsSort : FrameType → Type 0
IsSort types.Top = ⊥
IsSort types.UninitializedThis = ⊥
IsSort (types.Uninitialized offset) = ⊥
IsSort _ = ⊤

abbrev pub AreSorts : List (FieldTypeOf (List ℕ)) → Type 0
AreSorts parameters = AllByRecursion (λ t. IsSort (value_type t)) parameters

abbrev pub IsResultSort : Option (FieldTypeOf (List ℕ)) → Type 0
IsResultSort None = ⊤
IsResultSort (Some type) = IsSort (value_type type)

-- a descriptor, where it is one, has values alone
abbrev pub IsFieldSupported : Option (FieldTypeOf (List ℕ)) → Type 0
IsFieldSupported None = ⊤
IsFieldSupported (Some type) = IsSort (value_type type)

-- ---- methods that can be entered

-- a method with code of a class that was accepted with all above it
pub record IsEnterable (program : Program) (d : Declared) : Type 0 where
  pub here : class_named program.world d.by.class.name ≡ Some d.by
  pub declared : method_named d.by.class d.method.name d.method.descriptor ≡ Some d.method
  pub verified : IsTrue (is_verified program d.by)
  pub code : IsSome d.method.code

-- a method as it runs: the verifier has a typing of its code
pub record IsChecked (program : Program) (env : Environment) : Type 0 where
  pub world : env.world ≡ program.world
  pub is : IsEnvironment env
  pub maps : List PlacedFrame
  pub frames : Assignment
  pub typing : IsTyping env maps frames
  pub enterable : IsEnterable program env.site
  pub loadable : IsTrue (is_loadable program.world env.site.by)

-- ---- the whole

pub record IsSound (program : Program) : Type 0 where
  pub rooted : IsRooted program.world
  pub alone : SystemStandsAlone program.world
  -- the system's classes stand first, with what a library lends them; what follows is the library's and the guest's
  pub library : List Class
  pub guests : List Class
  pub world : program.world ≡ map (loaded true) (system_with library) ++ map (loaded false) guests
  pub named : (l : Loaded) → Contains program.world l → class_named program.world l.class.name ≡ Some l
  pub typed : (l : Loaded) → Contains program.world l → IsTrue (is_class_accepted program l) → AreTyped program.world l l.class.methods
  pub loadable : (l : Loaded) → Contains program.world l → IsTrue (is_class_accepted program l) → IsTrue (is_loadable program.world l)
  pub instructions : FindsInstructions program.instructions
