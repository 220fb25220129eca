-- Constants that are pushed or stored (JVMS 4.4.3, 5.1, 6.5 ldc): ints, longs, and string literals, of which each text has one
-- object.
use Rattle.std.specs.Prelude.{ℕ, ◌+◌, pos, true, List, [], ◌∷◌, map, length, Option, Some, None, Ok, Err, codes, if◌then◌else◌}
use Rattle.std.specs.Int.{w32, w64, cast_signed}
use Rattle.std.specs.Str.{bytes_eq}
use Rattle.jv_text.specs.declared.descriptor.Base.TheVariants as bases
use Rattle.jv_pool.specs.declared.constant.Constant.TheVariants as constants
use Rattle.jv_pool.specs.Constants.{Entry, at_index, utf8_at, long_at, member_of, name_and_descriptor}
use Rattle.jv_class.specs.Class.{InitialValue}
use Rattle.jv_class.specs.Class.InitialValue.{IntValue, LongValue, StringValue}
use Rattle.jv_meaning_world.specs.World.{Loaded, class_named}
use Rattle.jv_meaning_typing.specs.Layout.{object_cells}
use Rattle.jv_meaning_typing.specs.Environment.{current_class}
use Rattle.jv_meaning_machine.specs.Faults.{OrFault, found, ◌>>=◌}
use Rattle.jv_meaning_machine.specs.Faults.Fault.{OffsetFault, ReferenceFault}
use Rattle.jv_meaning_machine.specs.Values.{Value}
use Rattle.jv_meaning_machine.specs.Values.Value.{Int, Long, Reference}
use Rattle.jv_meaning_machine.specs.Objects.{FieldKey, Object, new_instance, with_value}
use Rattle.jv_meaning_machine.specs.Objects.Object.{InstanceOf, ArrayWith}
use Rattle.jv_meaning_machine.specs.State.{Program, Memory}
use Rattle.jv_meaning_machine.specs.Costs.{array_cells, paid, with_objects, next_object}
use Rattle.jv_meaning_machine.specs.Effects.{Context, Outcome, method_at, goes_on, goes_on_with, lacks_memory}
use Rattle.jv_meaning_machine.specs.Arrays.{base_components}

-- ---- string literals

abbrev pub string_name : List ℕ
string_name = codes "java/lang/String"

-- the field of a String that holds its array of chars
abbrev pub string_value : FieldKey
string_value = member_of string_name (name_and_descriptor (codes "value") (codes "[C"))

abbrev pub char_of : ℕ → Value
char_of unit = Int (pos unit)

-- the chars of a text
abbrev pub chars_of : List ℕ → Object
chars_of units = ArrayWith (base_components bases.Char) (map char_of units)

-- a String, whose chars are an object with a number
abbrev pub string_with : Program → Loaded → ℕ → Object
string_with program l chars =
    InstanceOf (record (new_instance program.world true l) {
      fields = with_value string_value (Reference chars) (new_instance program.world true l).fields;
    })

abbrev pub literal_in : List ℕ → List (List ℕ × ℕ) → Option ℕ
literal_in text [] = None
literal_in text (literal ∷ more) = if bytes_eq text literal.0 then Some literal.1 else literal_in text more

abbrev pub with_literal : List ℕ → Memory → Memory
with_literal text memory = record memory { literals = (text, next_object memory) ∷ memory.literals }

-- the String and then its array join the objects, where the cells of both were paid
abbrev pub literal_made : Program → Loaded → List ℕ → List ℕ → Option Memory → Option (Memory × ℕ)
literal_made program l text units None = None
literal_made program l text units (Some memory) =
    Some (
      with_objects (string_with program l (next_object memory + 1) ∷ chars_of units ∷ []) (with_literal text memory),
      next_object memory,
    )

abbrev pub literal_cells : Program → Loaded → List ℕ → ℕ
literal_cells program l units = object_cells program.world l + array_cells (base_components bases.Char) (length units)

-- the object of a text: the one that it has, or one that is made now; None where its cells are not left
abbrev pub literal_or_new : Program → List ℕ → Memory → Option ℕ → OrFault (Option (Memory × ℕ))
literal_or_new program text memory (Some object) = Ok (Some (memory, object))
literal_or_new program text memory None =
    found ReferenceFault (class_named program.world string_name) >>= λ l. found OffsetFault (program.units text) >>= λ units.
    Ok (literal_made program l text units (paid (literal_cells program l units) memory))

abbrev pub literal : Program → List ℕ → Memory → OrFault (Option (Memory × ℕ))
literal program text memory = literal_or_new program text memory (literal_in text memory.literals)

-- ---- the value of a constant, and the memory with it

abbrev pub string_loaded : Option (Memory × ℕ) → Option (Memory × Value)
string_loaded None = None
string_loaded (Some made) = Some (made.0, Reference made.1)

abbrev pub constant_value : Program → InitialValue → Memory → OrFault (Option (Memory × Value))
constant_value program (IntValue number) memory = Ok (Some (memory, Int number))
constant_value program (LongValue number) memory = Ok (Some (memory, Long number))
constant_value program (StringValue text) memory = literal program text memory >>= λ made. Ok (string_loaded made)

-- ---- ldc, ldc_w, ldc2_w

-- a constant of one word: an int or a string; a class literal is none of this host's (own)
abbrev pub pushed_constant : List Entry → Option Entry → OrFault InitialValue
pushed_constant pool (Some (constants.Integer bits)) = Ok (IntValue (cast_signed w32 bits))
pushed_constant pool (Some (constants.String text)) = found OffsetFault (utf8_at pool text) >>= λ bytes. Ok (StringValue bytes)
pushed_constant pool _ = Err OffsetFault

abbrev pub push_value : Context → Option (Memory × Value) → Outcome
push_value c None = lacks_memory c
push_value c (Some made) = goes_on_with c made.0 (made.1 ∷ c.frame.stack)

abbrev pub pool_at : Context → List Entry
pool_at c = (current_class (method_at c)).constant_pool

abbrev pub push_constant : Context → ℕ → Outcome
push_constant c index =
    pushed_constant (pool_at c) (at_index (pool_at c) index) >>= λ constant.
    constant_value c.program constant c.memory >>= push_value c

abbrev pub push_long_constant : Context → ℕ → Outcome
push_long_constant c index =
    found OffsetFault (long_at (pool_at c) index) >>= λ bits. goes_on c (Long (cast_signed w64 bits) ∷ c.frame.stack)
