-- Methods as steps call them (JVMS 5.4.3.3, 5.4.3.4, 6.5).
use Rattle.std.specs.Prelude.{◌≡◌, Some, Result, Ok, Err}
use Rattle.jv_text.specs.Name.{is_init}
use Rattle.jv_meaning_world.specs.World.{World}
use Rattle.jv_meaning_world.specs.Overriding.{Declared}
use Rattle.jv_lookups.specs.Places.{method_at}
use Rattle.jv_link.specs.declared.error.LinkError.{LinkError}
use Rattle.jv_link.specs.declared.target.MethodTarget.{MethodTarget}
use Rattle.jv_link.specs.Seen.{IsMethodTarget}
use Rattle.jv_link_cache.specs.declared.method_use.MethodUse.{MethodUse}
use Rattle.jv_link_cache.specs.Bodies.{IsArgumentCount}

-- it is of the method of its target: with its flags, whether it is an `<init>`, and the words of its arguments
pub record IsMethodUse (world : World) (use_of : MethodUse) : Type 0 where
  pub target_of : IsMethodTarget world use_of.target
  pub flags : (d : Declared) → method_at world use_of.target.declared ≡ Some d → use_of.access_flags ≡ d.method.access_flags
  pub init : (d : Declared) → method_at world use_of.target.declared ≡ Some d → use_of.is_init ≡ is_init d.method.name
  pub arguments : (d : Declared) → method_at world use_of.target.declared ≡ Some d → IsArgumentCount d.method use_of.argument_words

-- the target that is called, or the error
abbrev pub used_target : Result MethodUse LinkError → Result MethodTarget LinkError
used_target (Ok use_of) = Ok use_of.target
used_target (Err error) = Err error
