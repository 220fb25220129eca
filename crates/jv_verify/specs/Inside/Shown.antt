-- The methods of a class as its file shows them (JVMS 4.6), and what is found of one.
use Rattle.std.specs.Prelude.{◌≡◌, List, Option, Some, None, IsSome, Result, IfOk}
use Rattle.std.specs.Option.{option_map}
use Rattle.jv_pool.specs.Constants.{Entry, named_at}
use Rattle.jv_class_structure.specs.Parts.{MethodSeen}
use Rattle.jv_class.specs.Class.{Method, all_found}
use Rattle.jv_meaning_world.specs.World.{Loaded, World}
use Rattle.jv_meaning_world.specs.Verdicts.{declared_by}
use Rattle.jv_meaning_typing.specs.Judgement.{BreaksRule}
use Rattle.jv_meaning_typing.specs.Typing.{HasTyping}
use Rattle.jv_verify_pass.specs.declared.fault.CodeFault.{CodeFault}
use Rattle.jv_verify_types.specs.Current.{CurrentClass}

-- the method that is shown so, by its names
abbrev pub method_in : List Entry → MethodSeen → Option Method
method_in pool shown =
    option_map
    (λ texts. record { access_flags = shown.access_flags; name = texts.name; descriptor = texts.descriptor; code = shown.code })
    (named_at pool shown.name_index shown.descriptor_index)

-- these are the methods of the class
abbrev pub AreMethodsOf : Loaded → List MethodSeen → Type 0
AreMethodsOf l methods = all_found (method_in l.class.constant_pool) methods ≡ Some l.class.methods

-- the first rule that a method with code breaks, and where; none where it has no code, or its code has a typing
abbrev pub IsMethodJudged : World → Loaded → Method → Option CodeFault → Type 0
IsMethodJudged world l m None = IsSome m.code → HasTyping world (declared_by l m)
IsMethodJudged world l m (Some fault) = IsSome m.code × BreaksRule world (declared_by l m) fault.offset fault.rule

-- the method of the class that is shown so
abbrev pub IsJudgedIn : {E : Type 0} → CurrentClass → MethodSeen → Result (Option CodeFault) E → Type 0
IsJudgedIn class shown answer =
    (m : Method) → method_in class.by.class.constant_pool shown ≡ Some m → IfOk answer (IsMethodJudged class.types.world class.by m)
