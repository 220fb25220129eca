-- What values of the code stand for: the same, with lists of bytes in place of slices.
use Rattle.std.specs.Prelude.{◌≡◌, ℕ, List, map}
use Rattle.std.specs.Borrow.{Bor}
use Rattle.std.specs.Option.{option_map}
use Rattle.jv_text.specs.Seen.{seen_result}
use Rattle.jv_stackmap.specs.Frames.{Frame}
use Rattle.jv_stackmap.specs.Seen.{seen_type}
use Rattle.jv_meaning_typing.specs.Environment.{Environment, current_class}
use Rattle.jv_operands.specs.declared.frame.FrameTypes.{FrameTypes}
use Rattle.jv_operands.specs.declared.method.MethodParts.{MethodParts}
use Rattle.jv_operands.specs.declared.unmet.UnmetWant.{UnmetWant}
use Rattle.jv_operands.specs.declared.want.Want.{Want}
use Rattle.jv_operands.specs.declared.want.Want.TheVariants as wants
use Rattle.jv_operands.specs.Unmet.{Unmet}
use Rattle.jv_operands.specs.Wants.{FrameWant}

abbrev pub seen_want : Want (Bor (List ℕ)) → FrameWant
seen_want (wants.Type type) = wants.Type (seen_type type)
seen_want (wants.Either one other) = wants.Either (seen_type one) (seen_type other)
seen_want wants.Reference = wants.Reference
seen_want wants.Array = wants.Array
seen_want wants.ReferenceArray = wants.ReferenceArray
seen_want wants.Uninitialized = wants.Uninitialized
seen_want wants.Word = wants.Word
seen_want wants.Any = wants.Any

abbrev pub seen_unmet : UnmetWant (Bor (List ℕ)) → Unmet
seen_unmet u = record { place = u.place; want = seen_want u.want; found = option_map seen_type u.found }

-- a frame with these local variables and this stack
pub record IsFrameOf (types : FrameTypes) (frame : Frame) : Type 0 where
  pub locals : frame.locals ≡ map seen_type types.locals.now
  pub stack : frame.stack ≡ map seen_type types.stack.now

-- an environment of the method
pub record IsMethodOf (method : MethodParts) (env : Environment) : Type 0 where
  pub pool : (current_class env).constant_pool ≡ method.pool.now
  pub class : (current_class env).name ≡ method.class.now
  pub name : env.site.method.name ≡ method.name.now
  pub result : env.descriptor.result ≡ seen_result method.result
