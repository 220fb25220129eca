-- What the initialization of a class does itself (JVMS 5.5, steps 6 and 9): it sets static fields to their constants (4.7.2), and
-- runs its `<clinit>` (2.9).
use Rattle.std.specs.Prelude.{◌≡◌, ℕ, ◌+◌, List, [], ◌∷◌, Option, is_some, IsTrue, codes, if◌then◌else◌, slice_get}
use Rattle.std.specs.Option.{option_and_then}
use Rattle.jv_format.specs.Format.{◌>>=◌}
use Rattle.jv_pool.specs.Constants.{Entry, at_index}
use Rattle.jv_class.specs.Class.{Field, Method, InitialValue as ValueOfNames, value_of_constant, method_named}
use Rattle.jv_class.specs.Class.InitialValue.{IntValue, LongValue, StringValue}
use Rattle.jv_meaning_world.specs.World.{Loaded, World}
use Rattle.jv_meaning_world.specs.Numbers.{HoldsAtNumber}
use Rattle.jv_meaning_world.specs.Verdicts.{is_loadable}
use Rattle.jv_link.specs.Orders.{IsOrder}
use Rattle.jv_link_cache.specs.declared.tasks.InitialValue.{InitialValue}
use Rattle.jv_link_cache.specs.declared.tasks.InitialValue.TheVariants as values

abbrev pub seen_initial : InitialValue → ValueOfNames
seen_initial (values.Int value) = IntValue value
seen_initial (values.Long value) = LongValue value
seen_initial (values.String text) = StringValue text.now

-- the value that the constant at an index is
abbrev pub value_at : List Entry → ℕ → Option ValueOfNames
value_at pool index = at_index pool index >>= value_of_constant pool

-- the places of the fields with a constant, of these, the first of which is at a place
abbrev pub settings_from : ℕ → List Field → List ℕ
settings_from place [] = []
settings_from place (f ∷ more) = if is_some f.initial then place ∷ settings_from (place + 1) more else settings_from (place + 1) more

abbrev pub settings_of : Loaded → List ℕ
settings_of l = settings_from 0 l.class.fields

abbrev pub initializer_of : Loaded → Option Method
initializer_of l = method_named l.class (codes "<clinit>") (codes "()V")

-- it is the place of the class's `<clinit>`, none where it has none
abbrev pub IsInitializer : Loaded → Option ℕ → Type 0
IsInitializer l place = option_and_then (slice_get l.class.methods) place ≡ initializer_of l

-- ---- what is initialized before it

-- they are the numbers of what is initialized before a class, if it can be loaded
abbrev pub IsOrderOf : World → ℕ → List ℕ → Type 0
IsOrderOf world class numbers = HoldsAtNumber world class (λ l. IsTrue (is_loadable world l) → IsOrder world numbers l)
