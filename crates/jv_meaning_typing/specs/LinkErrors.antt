-- The errors of linking (JVMS 5.4), and steps that can end in one.
use Rattle.std.specs.Prelude.{Bool, true, false, ◌++◌, ℕ, List, Option, Some, None, Result, Ok, Err, codes}

-- VerifyError is no answer of resolution or selection: it is thrown where a class that was not accepted is to be initialized
pub data LinkError : Type 0 where
  NoClassDefFoundError : LinkError
  ClassCircularityError : LinkError
  IncompatibleClassChangeError : LinkError
  IllegalAccessError : LinkError
  VerifyError : LinkError
  NoSuchFieldError : LinkError
  NoSuchMethodError : LinkError
  AbstractMethodError : LinkError
  InstantiationError : LinkError

-- the class of java/lang whose object is thrown
abbrev pub simple_name : LinkError → List ℕ
simple_name NoClassDefFoundError = codes "NoClassDefFoundError"
simple_name ClassCircularityError = codes "ClassCircularityError"
simple_name IncompatibleClassChangeError = codes "IncompatibleClassChangeError"
simple_name IllegalAccessError = codes "IllegalAccessError"
simple_name VerifyError = codes "VerifyError"
simple_name NoSuchFieldError = codes "NoSuchFieldError"
simple_name NoSuchMethodError = codes "NoSuchMethodError"
simple_name AbstractMethodError = codes "AbstractMethodError"
simple_name InstantiationError = codes "InstantiationError"

abbrev pub error_class : LinkError → List ℕ
error_class error = codes "java/lang/" ++ simple_name error

-- ---- steps

abbrev pub OrError : Type 0 → Type 0
OrError A = Result A LinkError

-- a step, and the next one with what it gave; the first error ends them
infixl 10 ◌>>=◌
abbrev pub ◌>>=◌ : {A B : Type 0} → OrError A → (A → OrError B) → OrError B
(Ok a) >>= next = next a
(Err error) >>= next = Err error

-- what passes a test goes on, and else ends in an error
abbrev pub provided : {A : Type 0} → Bool → LinkError → A → OrError A
provided true error a = Ok a
provided false error a = Err error

-- what no error is known of goes on
abbrev pub unless_wrong : {A : Type 0} → Option LinkError → A → OrError A
unless_wrong None a = Ok a
unless_wrong (Some error) a = Err error
