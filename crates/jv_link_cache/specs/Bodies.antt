-- Methods with code, as a call of one needs them (JVMS 4.6, 4.7.3, 2.6.1).
use Rattle.std.specs.Prelude.{◌≡◌, ℕ, ◌+◌, not, Option, Some, None, if◌then◌else◌}
use Rattle.jv_text.specs.Descriptor.{MethodDescriptor, slots}
use Rattle.jv_text.specs.Types.{method_type_of}
use Rattle.jv_class.specs.Class.{Method}
use Rattle.jv_class_structure.specs.Seen.{seen_code}
use Rattle.jv_meaning_typing.specs.Kind.{is_static_method}
use Rattle.jv_link_cache.specs.declared.bodies.Body.{Body}

-- the words of a method's arguments: those of its parameters, two for a long, and behind the receiver's where it has one
abbrev pub argument_words : Method → MethodDescriptor → ℕ
argument_words m type = (if is_static_method m then 0 else 1) + slots type

abbrev pub IsArgumentCount : Method → ℕ → Type 0
IsArgumentCount m count = (type : MethodDescriptor) → method_type_of m.descriptor ≡ Some type → count ≡ argument_words m type

-- it is what a call of the method needs
pub record IsBodyOf (m : Method) (body : Body) : Type 0 where
  pub code : m.code ≡ Some (seen_code body.code)
  pub arguments : IsArgumentCount m body.argument_words
  pub receiver : body.has_receiver ≡ not (is_static_method m)

-- none where the method has no code
abbrev pub IsBody : Method → Option Body → Type 0
IsBody m None = m.code ≡ None
IsBody m (Some body) = IsBodyOf m body
