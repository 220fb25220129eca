-- Worked rows: objects, fields and methods, computed.
use Rattle.std.specs.Prelude.{◌≡◌, [], ◌∷◌, Some, None, codes}
use Rattle.jv_text.specs.declared.descriptor.Base.TheVariants as bases
use Rattle.jv_stackmap.specs.declared.verification.VerificationTypeOf.TheVariants as types
use Rattle.jv_code.specs.declared.insn.Insn.TheVariants as insns
use Rattle.jv_code.specs.declared.kinds.FieldAccess.TheVariants as access
use Rattle.jv_code.specs.declared.kinds.Invocation.TheVariants as invocations
use Rattle.jv_meaning_typing.specs.Rule.{handler_frame}
use Rattle.jv_meaning_typing.specs.Named.{throwable_type}
use Rattle.jv_meaning_typing.specs.Rows.Samples.{b, c, object, of_class, numbers, in_m, in_init, below_own_package, in_m_of_version, on_stack, on_stack_in, behind, frame, flagged}

-- ---- objects

pub record NewRows : Type 0 where
  -- copies of what the same `new` made before become top
  pub new : behind (insns.New 2) (frame (types.Uninitialized 9 ∷ types.Uninitialized 3 ∷ []) [])
      ≡ Some (frame (types.Top ∷ types.Uninitialized 3 ∷ []) (types.Uninitialized 9 ∷ []))
  pub new_on_stack : behind (insns.New 2) (frame [] (c ∷ types.Uninitialized 9 ∷ [])) ≡ None
  pub new_array : behind (insns.New 12) (frame [] []) ≡ None
  pub new_other_kind : behind (insns.New 44) (frame [] []) ≡ None

pub record CastRows : Type 0 where
  pub checkcast : on_stack (insns.CheckCast 12) (object ∷ []) ≡ Some (numbers 0 bases.Int ∷ [])
  pub checkcast_null : on_stack (insns.CheckCast 2) (types.Null ∷ []) ≡ Some (c ∷ [])
  pub checkcast_int : on_stack (insns.CheckCast 2) (types.Int ∷ []) ≡ None
  pub checkcast_uninitialized : on_stack (insns.CheckCast 2) (types.Uninitialized 0 ∷ []) ≡ None
  pub checkcast_missing : on_stack (insns.CheckCast 2) (of_class (codes "Missing") ∷ []) ≡ None
  pub instanceof : on_stack (insns.InstanceOf 2) (numbers 0 bases.Int ∷ []) ≡ Some (types.Int ∷ [])
  pub instanceof_other_kind : on_stack (insns.InstanceOf 44) (object ∷ []) ≡ None
  pub athrow : on_stack insns.Throw (throwable_type ∷ c ∷ []) ≡ Some (c ∷ [])
  pub athrow_null : on_stack insns.Throw (types.Null ∷ []) ≡ Some []
  pub athrow_object : on_stack insns.Throw (object ∷ []) ≡ None

-- ---- `<init>`: on what `new` made, whose class it names

pub record InitRows : Type 0 where
  pub all_copies : behind (insns.Invoke invocations.Special 38)
      (frame (types.Uninitialized 0 ∷ types.Uninitialized 3 ∷ []) (types.Uninitialized 0 ∷ types.Uninitialized 0 ∷ []))
      ≡ Some (frame (c ∷ types.Uninitialized 3 ∷ []) (c ∷ []))
  pub with_argument : on_stack (insns.Invoke invocations.Special 43) (types.Int ∷ types.Uninitialized 0 ∷ []) ≡ Some []
  pub wrong_argument : on_stack (insns.Invoke invocations.Special 43) (types.Null ∷ types.Uninitialized 0 ∷ []) ≡ None
  pub other_class : on_stack (insns.Invoke invocations.Special 40) (types.Uninitialized 0 ∷ []) ≡ None
  pub superclass : on_stack (insns.Invoke invocations.Special 39) (types.Uninitialized 0 ∷ []) ≡ None
  pub no_new_there : on_stack (insns.Invoke invocations.Special 38) (types.Uninitialized 1 ∷ []) ≡ None
  pub twice : on_stack (insns.Invoke invocations.Special 38) (c ∷ []) ≡ None
  -- protected, and in another package
  pub guarded : on_stack (insns.Invoke invocations.Special 39) (types.Uninitialized 3 ∷ []) ≡ None
  pub of_object : on_stack (insns.Invoke invocations.Special 40) (types.Uninitialized 6 ∷ object ∷ []) ≡ Some (object ∷ [])

-- on `this`: of its class or the direct superclass
pub record InitThisRows : Type 0 where
  pub super : behind (insns.Invoke invocations.Special 39)
      (flagged (types.UninitializedThis ∷ types.Uninitialized 0 ∷ []) (types.UninitializedThis ∷ types.UninitializedThis ∷ []))
      ≡ Some (frame (c ∷ types.Uninitialized 0 ∷ []) (c ∷ []))
  pub this : behind (insns.Invoke invocations.Special 38) (flagged (types.UninitializedThis ∷ []) (types.UninitializedThis ∷ []))
      ≡ Some (frame (c ∷ []) [])
  pub further_up : behind (insns.Invoke invocations.Special 40) (flagged (types.UninitializedThis ∷ []) (types.UninitializedThis ∷ []))
      ≡ None
  -- a constructor that makes another object keeps its flag
  pub of_new : behind (insns.Invoke invocations.Special 38) (flagged (types.UninitializedThis ∷ []) (types.Uninitialized 0 ∷ []))
      ≡ Some (flagged (types.UninitializedThis ∷ []) [])
  pub by_invokevirtual : on_stack (insns.Invoke invocations.Virtual 38) (c ∷ []) ≡ None
  pub by_invokestatic : on_stack (insns.Invoke invocations.Static 38) [] ≡ None

-- ---- fields; those of p/B are protected and in another package

pub record FieldRows : Type 0 where
  pub getstatic : on_stack (insns.Field access.GetStatic 23) [] ≡ Some (types.Int ∷ [])
  pub putstatic : on_stack (insns.Field access.PutStatic 23) (types.Int ∷ []) ≡ Some []
  pub putstatic_long : on_stack (insns.Field access.PutStatic 23) (types.Long ∷ []) ≡ None
  pub of_array : on_stack (insns.Field access.GetStatic 20) [] ≡ None
  pub other_kind : on_stack (insns.Field access.GetStatic 27) [] ≡ None
  pub getfield : on_stack (insns.Field access.GetField 18) (c ∷ []) ≡ Some (types.Int ∷ [])
  pub getfield_null : on_stack (insns.Field access.GetField 18) (types.Null ∷ []) ≡ Some (types.Int ∷ [])
  pub getfield_above : on_stack (insns.Field access.GetField 18) (b ∷ []) ≡ None
  pub getfield_this : on_stack (insns.Field access.GetField 18) (types.UninitializedThis ∷ []) ≡ None
  pub guarded : on_stack (insns.Field access.GetField 19) (b ∷ []) ≡ None
  pub guarded_on_current : on_stack (insns.Field access.GetField 19) (c ∷ []) ≡ Some (types.Int ∷ [])
  pub static_is_not_guarded : on_stack (insns.Field access.GetField 23) (b ∷ []) ≡ Some (types.Int ∷ [])
  -- nor is one that isn't there: the error comes when it is resolved
  pub missing_is_not_guarded : on_stack (insns.Field access.GetField 57) (b ∷ []) ≡ Some (types.Int ∷ [])
  -- nor one that a class of the same package declares, by way of a class of another one
  pub own_package_is_not_guarded : on_stack_in below_own_package (insns.Field access.GetField 60) (b ∷ []) ≡ Some (types.Int ∷ [])
  pub guarded_above : on_stack_in below_own_package (insns.Field access.GetField 19) (b ∷ []) ≡ None

pub record PutFieldRows : Type 0 where
  pub putfield : on_stack (insns.Field access.PutField 18) (types.Int ∷ c ∷ []) ≡ Some []
  pub putfield_value : on_stack (insns.Field access.PutField 18) (types.Null ∷ c ∷ []) ≡ None
  pub guarded : on_stack (insns.Field access.PutField 19) (types.Int ∷ b ∷ []) ≡ None
  -- before the call of another constructor: a field by way of the current class, which p/B has
  pub this : on_stack_in in_init (insns.Field access.PutField 18) (types.Int ∷ types.UninitializedThis ∷ []) ≡ Some []
  pub this_of_superclass : on_stack_in in_init (insns.Field access.PutField 19) (types.Int ∷ types.UninitializedThis ∷ []) ≡ None
  pub this_in_m : on_stack_in in_m (insns.Field access.PutField 18) (types.Int ∷ types.UninitializedThis ∷ []) ≡ None
  pub of_new : on_stack_in in_init (insns.Field access.PutField 18) (types.Int ∷ types.Uninitialized 0 ∷ []) ≡ None

-- ---- methods of an int and a long, which give an int

pub record VirtualRows : Type 0 where
  pub invokevirtual : on_stack (insns.Invoke invocations.Virtual 27) (types.Long ∷ types.Int ∷ c ∷ []) ≡ Some (types.Int ∷ [])
  pub arguments : on_stack (insns.Invoke invocations.Virtual 27) (types.Int ∷ types.Long ∷ c ∷ []) ≡ None
  pub receiver : on_stack (insns.Invoke invocations.Virtual 27) (types.Long ∷ types.Int ∷ b ∷ []) ≡ None
  pub uninitialized : on_stack (insns.Invoke invocations.Virtual 27) (types.Long ∷ types.Int ∷ types.Uninitialized 0 ∷ []) ≡ None
  pub guarded : on_stack (insns.Invoke invocations.Virtual 28) (types.Long ∷ types.Int ∷ b ∷ []) ≡ None
  pub guarded_on_current : on_stack (insns.Invoke invocations.Virtual 28) (types.Long ∷ types.Int ∷ c ∷ []) ≡ Some (types.Int ∷ [])
  pub static_is_not_guarded : on_stack (insns.Invoke invocations.Virtual 34) (types.Long ∷ types.Int ∷ b ∷ []) ≡ Some (types.Int ∷ [])
  pub of_array : on_stack (insns.Invoke invocations.Virtual 29) (types.Long ∷ types.Int ∷ numbers 0 bases.Int ∷ []) ≡ Some (types.Int ∷ [])
  pub of_interface : on_stack (insns.Invoke invocations.Virtual 30) (types.Long ∷ types.Int ∷ c ∷ []) ≡ None

pub record StaticRows : Type 0 where
  pub invokestatic : on_stack (insns.Invoke invocations.Static 27) (types.Long ∷ types.Int ∷ c ∷ []) ≡ Some (types.Int ∷ c ∷ [])
  pub of_interface : on_stack (insns.Invoke invocations.Static 30) (types.Long ∷ types.Int ∷ []) ≡ Some (types.Int ∷ [])
  pub of_array : on_stack (insns.Invoke invocations.Static 29) (types.Long ∷ types.Int ∷ []) ≡ Some (types.Int ∷ [])
  pub of_array_as_interface : on_stack (insns.Invoke invocations.Static 32) (types.Long ∷ types.Int ∷ []) ≡ None
  pub arguments : on_stack (insns.Invoke invocations.Static 27) (types.Int ∷ types.Int ∷ []) ≡ None
  pub other_kind : on_stack (insns.Invoke invocations.Static 18) (types.Long ∷ types.Int ∷ []) ≡ None

-- the count is of four words: the receiver, an int and a long; an interface takes each object
pub record InterfaceRows : Type 0 where
  pub invokeinterface : on_stack (insns.InvokeInterface 31 4) (types.Long ∷ types.Int ∷ object ∷ []) ≡ Some (types.Int ∷ [])
  pub fewer : on_stack (insns.InvokeInterface 31 3) (types.Long ∷ types.Int ∷ object ∷ []) ≡ None
  pub zero : on_stack (insns.InvokeInterface 31 0) (types.Long ∷ types.Int ∷ object ∷ []) ≡ None
  pub of_class : on_stack (insns.InvokeInterface 27 4) (types.Long ∷ types.Int ∷ c ∷ []) ≡ None
  pub of_array : on_stack (insns.InvokeInterface 32 4) (types.Long ∷ types.Int ∷ numbers 0 bases.Int ∷ []) ≡ None
  pub on_array : on_stack (insns.InvokeInterface 31 4) (types.Long ∷ types.Int ∷ numbers 0 bases.Int ∷ []) ≡ None
  pub on_uninitialized : on_stack (insns.InvokeInterface 31 4) (types.Long ∷ types.Int ∷ types.Uninitialized 0 ∷ []) ≡ None

-- invokespecial: a class above the current one, or a direct superinterface, on an object of the current class
pub record SpecialRows : Type 0 where
  pub superclass : on_stack (insns.Invoke invocations.Special 28) (types.Long ∷ types.Int ∷ c ∷ []) ≡ Some (types.Int ∷ [])
  pub own : on_stack (insns.Invoke invocations.Special 27) (types.Long ∷ types.Int ∷ c ∷ []) ≡ Some (types.Int ∷ [])
  pub on_superclass : on_stack (insns.Invoke invocations.Special 28) (types.Long ∷ types.Int ∷ b ∷ []) ≡ None
  pub interface : on_stack (insns.Invoke invocations.Special 30) (types.Long ∷ types.Int ∷ c ∷ []) ≡ Some (types.Int ∷ [])
  pub other_interface : on_stack (insns.Invoke invocations.Special 31) (types.Long ∷ types.Int ∷ c ∷ []) ≡ None
  pub interface_as_class : on_stack (insns.Invoke invocations.Special 53) (types.Long ∷ types.Int ∷ c ∷ []) ≡ Some (types.Int ∷ [])
  pub other_as_class : on_stack (insns.Invoke invocations.Special 54) (types.Long ∷ types.Int ∷ c ∷ []) ≡ None
  pub array : on_stack (insns.Invoke invocations.Special 29) (types.Long ∷ types.Int ∷ c ∷ []) ≡ None

-- in a class file of version 50.0 or 51.0, invokespecial and invokestatic name a method as that of a class only
pub record OlderRows : Type 0 where
  pub static : on_stack_in (in_m_of_version 51) (insns.Invoke invocations.Static 27) (types.Long ∷ types.Int ∷ []) ≡ Some (types.Int ∷ [])
  pub static_of_interface : on_stack_in (in_m_of_version 51) (insns.Invoke invocations.Static 30) (types.Long ∷ types.Int ∷ []) ≡ None
  pub static_of_interface_50 : on_stack_in (in_m_of_version 50) (insns.Invoke invocations.Static 30) (types.Long ∷ types.Int ∷ []) ≡ None
  pub static_of_interface_52 : on_stack_in (in_m_of_version 52) (insns.Invoke invocations.Static 30) (types.Long ∷ types.Int ∷ [])
      ≡ Some (types.Int ∷ [])
  pub special : on_stack_in (in_m_of_version 51) (insns.Invoke invocations.Special 28) (types.Long ∷ types.Int ∷ c ∷ [])
      ≡ Some (types.Int ∷ [])
  pub special_of_interface : on_stack_in (in_m_of_version 51) (insns.Invoke invocations.Special 30) (types.Long ∷ types.Int ∷ c ∷ []) ≡ None
  pub interface_as_class : on_stack_in (in_m_of_version 51) (insns.Invoke invocations.Special 53) (types.Long ∷ types.Int ∷ c ∷ [])
      ≡ Some (types.Int ∷ [])
  pub init : on_stack_in (in_m_of_version 50) (insns.Invoke invocations.Special 38) (types.Uninitialized 0 ∷ []) ≡ Some []
  pub virtual : on_stack_in (in_m_of_version 50) (insns.Invoke invocations.Virtual 27) (types.Long ∷ types.Int ∷ c ∷ [])
      ≡ Some (types.Int ∷ [])
  pub interface : on_stack_in (in_m_of_version 50) (insns.InvokeInterface 31 4) (types.Long ∷ types.Int ∷ object ∷ [])
      ≡ Some (types.Int ∷ [])

-- ---- the frame of handlers

pub record HandlerRows : Type 0 where
  pub plain : handler_frame in_m insns.Nop (frame (types.Int ∷ []) (c ∷ [])) ≡ frame (types.Int ∷ []) []
  -- `new` has no frame of its own
  pub new : handler_frame in_m (insns.New 2) (frame (types.Uninitialized 9 ∷ []) []) ≡ frame (types.Uninitialized 9 ∷ []) []
  pub super : handler_frame in_init (insns.Invoke invocations.Special 39)
      (flagged (types.UninitializedThis ∷ c ∷ []) (types.UninitializedThis ∷ [])) ≡ flagged (types.Top ∷ c ∷ []) []
  pub of_new : handler_frame in_init (insns.Invoke invocations.Special 38)
      (flagged (types.Uninitialized 0 ∷ types.UninitializedThis ∷ []) (types.Uninitialized 0 ∷ []))
      ≡ flagged (types.Top ∷ types.UninitializedThis ∷ []) []
  -- whatever stands above the object
  pub wrong_argument : handler_frame in_m (insns.Invoke invocations.Special 43)
      (frame (types.Uninitialized 0 ∷ []) (types.Long ∷ types.Uninitialized 0 ∷ [])) ≡ frame (types.Top ∷ []) []
  pub initialized : handler_frame in_m (insns.Invoke invocations.Special 38) (frame (c ∷ []) (c ∷ [])) ≡ frame (c ∷ []) []
  pub too_few : handler_frame in_m (insns.Invoke invocations.Special 43) (frame (types.Uninitialized 0 ∷ []) (types.Uninitialized 0 ∷ []))
      ≡ frame (types.Uninitialized 0 ∷ []) []
  pub other_method : handler_frame in_m (insns.Invoke invocations.Special 27) (frame (c ∷ []) (types.Long ∷ types.Int ∷ c ∷ []))
      ≡ frame (c ∷ []) []
