-- Laws of new objects (JVMS 6.5: new, newarray, anewarray, multianewarray, ldc): those that such an instruction makes stand behind all
-- that there were, and the first of them, to which a reference is pushed, has their count as its number. What `arrayLike` of host/Io makes
-- stands behind them too, as what any instruction makes.
use Rattle.std.specs.Prelude.{◌≡◌, ℕ, pos, negsuc, ◌+◌, ◌-◌, ◌≤◌, ◌<◌, ◌⊎◌, true, false, List, [], ◌∷◌, ◌++◌, length, map, replicate, Option, Some, None, Ok, Err}
use Rattle.std.specs.List.{list_any}
use Rattle.jv_text.specs.declared.descriptor.FieldTypeOf.{FieldTypeOf}
use Rattle.jv_stackmap.specs.declared.verification.VerificationTypeOf.TheVariants as types
use Rattle.jv_stackmap.specs.Types.{component}
use Rattle.jv_code.specs.declared.insn.Insn.TheVariants as insns
use Rattle.jv_code.specs.declared.kinds.ElementType.{ElementType}
use Rattle.jv_code.specs.declared.kinds.IndexForm.{IndexForm}
use Rattle.jv_pool.specs.Constants.{at_index}
use Rattle.jv_class.specs.Class.{InitialValue}
use Rattle.jv_class.specs.Class.InitialValue.{StringValue}
use Rattle.jv_meaning_world.specs.World.{Loaded, class_named}
use Rattle.jv_meaning_typing.specs.Uses.{Use}
use Rattle.jv_meaning_typing.specs.Uses.Use.{New}
use Rattle.jv_meaning_typing.specs.LinkErrors.{LinkError, error_class}
use Rattle.jv_meaning_typing.specs.Operands.{class_operand}
use Rattle.jv_meaning_typing.specs.ClassResolution.{ResolvedClass, resolve_class}
use Rattle.jv_meaning_typing.specs.ClassResolution.ResolvedClass.{ClassOf, ArrayOf}
use Rattle.jv_meaning_typing.specs.Layout.{object_cells}
use Rattle.jv_meaning_typing.specs.Environment.{current_class}
use Rattle.jv_meaning_machine.specs.Values.{Value}
use Rattle.jv_meaning_machine.specs.Values.Value.{Int, Reference}
use Rattle.jv_meaning_machine.specs.Objects.{Object, new_object, new_array}
use Rattle.jv_meaning_machine.specs.State.{Memory, class_state, is_ready}
use Rattle.jv_meaning_machine.specs.Costs.{array_cells, arrays_cells}
use Rattle.jv_meaning_machine.specs.Operands.{taken}
use Rattle.jv_meaning_machine.specs.Effects.{Effect, Context, world_at, method_at, site_at, resolved_type, out_of_memory, negative_size}
use Rattle.jv_meaning_machine.specs.Effects.Effect.{Goes, Throws, Raises, Begins}
use Rattle.jv_meaning_machine.specs.Literals.{string_name, literal_in, literal_cells, string_with, chars_of, constant_value, pushed_constant, pool_at}
use Rattle.jv_meaning_machine.specs.Arrays.{arrays_made, base_of, base_components, is_negative_count, count_of}
use Rattle.jv_meaning_machine.specs.Instructions.{execute}

-- ---- what is made

-- Objects, of which there is one at least, join all that there were, their cells are taken from those that are left, and the next
-- instruction follows with a reference to the first one on the stack.
pub record Makes (c : Context) (cells : ℕ) (objects : List Object) (below : List Value) (after : Memory) (effect : Effect) : Type 0 where
  pub first : Object
  pub others : List Object
  pub are : objects ≡ first ∷ others
  pub left : cells ≤ c.memory.cells
  pub joins : after ≡ record c.memory { objects = c.memory.objects ++ objects; cells = c.memory.cells - cells }
  pub goes : effect ≡ Goes c.next c.frame.locals (Reference (length c.memory.objects) ∷ below)

-- The cells are not left, and the OutOfMemoryError object is thrown.
pub record LacksCells (c : Context) (cells : ℕ) (after : Memory) (effect : Effect) : Type 0 where
  pub lacks : c.memory.cells < cells
  pub same : after ≡ c.memory
  pub throws : effect ≡ Throws out_of_memory

abbrev pub MakesIf : Context → ℕ → List Object → List Value → Memory → Effect → Type 0
MakesIf c cells objects below after effect = LacksCells c cells after effect ⊎ Makes c cells objects below after effect

-- ---- what the index names

pub record NamesClass (c : Context) (how : Option Use) (index : ℕ) (resolved : ResolvedClass) : Type 0 where
  pub text : List ℕ
  pub operand : class_operand (current_class (method_at c)) index ≡ Some text
  pub resolves : resolve_class (world_at c) (site_at c) how text ≡ Ok resolved

pub record ThrowsClassError (c : Context) (how : Option Use) (index : ℕ) (after : Memory) (effect : Effect) : Type 0 where
  pub text : List ℕ
  pub operand : class_operand (current_class (method_at c)) index ≡ Some text
  pub error : LinkError
  pub unresolved : resolve_class (world_at c) (site_at c) how text ≡ Err error
  pub same : after ≡ c.memory
  pub throws : effect ≡ Raises (error_class error)

-- ---- new

-- the class is neither initialized nor being initialized, and that is begun
pub record BeginsClass (c : Context) (l : Loaded) (after : Memory) (effect : Effect) : Type 0 where
  pub not_ready : is_ready (class_state c.states l) ≡ false
  pub same : after ≡ c.memory
  pub begins : effect ≡ Begins l

pub record MakesObject (c : Context) (l : Loaded) (after : Memory) (effect : Effect) : Type 0 where
  pub ready : is_ready (class_state c.states l) ≡ true
  pub makes : MakesIf c (object_cells (world_at c) l) (new_object (world_at c) l ∷ []) c.frame.stack after effect

abbrev pub NewMakes : Type 0
NewMakes =
    (c : Context) (index : ℕ) (after : Memory) (effect : Effect) → execute c (insns.New index) ≡ Ok (after, effect)
    → ThrowsClassError c (Some New) index after effect
    ⊎ (l : Loaded) × NamesClass c (Some New) index (ClassOf l) × (BeginsClass c l after effect ⊎ MakesObject c l after effect)

-- ---- newarray, anewarray

-- the count on top of the stack is negative
pub record CountsBelowZero (c : Context) (after : Memory) (effect : Effect) : Type 0 where
  pub number : ℕ
  pub below : List Value
  pub stack : c.frame.stack ≡ Int (negsuc number) ∷ below
  pub same : after ≡ c.memory
  pub throws : effect ≡ Raises negative_size

pub record MakesArray (c : Context) (components : FieldTypeOf (List ℕ)) (after : Memory) (effect : Effect) : Type 0 where
  pub count : ℕ
  pub below : List Value
  pub stack : c.frame.stack ≡ Int (pos count) ∷ below
  pub makes : MakesIf c (array_cells components count) (new_array components count ∷ []) below after effect

abbrev pub NewArrayMakes : Type 0
NewArrayMakes =
    (c : Context) (element : ElementType) (after : Memory) (effect : Effect) → execute c (insns.NewArray element) ≡ Ok (after, effect)
    → CountsBelowZero c after effect ⊎ MakesArray c (base_components (base_of element)) after effect

abbrev pub NewReferenceArrayMakes : Type 0
NewReferenceArrayMakes =
    (c : Context) (index : ℕ) (after : Memory) (effect : Effect) → execute c (insns.NewReferenceArray index) ≡ Ok (after, effect)
    → ThrowsClassError c None index after effect
    ⊎ (resolved : ResolvedClass) × NamesClass c None index resolved
    × (CountsBelowZero c after effect ⊎ MakesArray c (resolved_type resolved) after effect)

-- ---- multianewarray, which has one dimension at least

pub record CountsOneBelowZero (c : Context) (counts : List Value) (after : Memory) (effect : Effect) : Type 0 where
  pub negative : list_any is_negative_count counts ≡ true
  pub same : after ≡ c.memory
  pub throws : effect ≡ Raises negative_size

pub record MakesArrays
    (c : Context) (components : FieldTypeOf (List ℕ)) (counts below : List Value) (after : Memory) (effect : Effect) : Type 0 where
  pub not_negative : list_any is_negative_count counts ≡ false
  pub makes :
      MakesIf c (arrays_cells components (map count_of counts))
      (arrays_made components (map count_of counts) (length c.memory.objects)) below after effect

pub record TakesCounts (c : Context) (dimensions : ℕ) (counts below : List Value) : Type 0 where
  pub takes : taken c.memory.objects (replicate dimensions types.Int) c.frame.stack ≡ Ok (counts, below)

abbrev pub NewMultiArrayMakes : Type 0
NewMultiArrayMakes =
    (c : Context) (index dimensions : ℕ) (after : Memory) (effect : Effect) → 1 ≤ dimensions
    → execute c (insns.NewMultiArray index dimensions) ≡ Ok (after, effect)
    → ThrowsClassError c None index after effect
    ⊎ (type : FieldTypeOf (List ℕ)) × NamesClass c None index (ArrayOf type) × (counts : List Value) × (below : List Value)
    × TakesCounts c dimensions counts below
    × (CountsOneBelowZero c counts after effect ⊎ MakesArrays c (component type) counts below after effect)

-- ---- ldc of a text

-- it has an object already, to which a reference is pushed
pub record PushesLiteral (c : Context) (text : List ℕ) (after : Memory) (effect : Effect) : Type 0 where
  pub object : ℕ
  pub known : literal_in text c.memory.literals ≡ Some object
  pub same : after ≡ c.memory
  pub goes : effect ≡ Goes c.next c.frame.locals (Reference object ∷ c.frame.stack)

-- it has none: a String and its array of chars join all objects that there were, and the String is the text's object from now on
pub record MakesLiteral (c : Context) (text : List ℕ) (after : Memory) (effect : Effect) : Type 0 where
  pub unknown : literal_in text c.memory.literals ≡ None
  pub l : Loaded
  pub string : class_named c.program.world string_name ≡ Some l
  pub units : List ℕ
  pub spelled : c.program.units text ≡ Some units
  pub left : literal_cells c.program l units ≤ c.memory.cells
  pub joins :
      after
      ≡ record c.memory {
        objects = c.memory.objects ++ string_with c.program l (length c.memory.objects + 1) ∷ chars_of units ∷ [];
        literals = (text, length c.memory.objects) ∷ c.memory.literals;
        cells = c.memory.cells - literal_cells c.program l units;
      }
  pub goes : effect ≡ Goes c.next c.frame.locals (Reference (length c.memory.objects) ∷ c.frame.stack)

-- its cells are not left
pub record LacksLiteral (c : Context) (text : List ℕ) (after : Memory) (effect : Effect) : Type 0 where
  pub unknown : literal_in text c.memory.literals ≡ None
  pub l : Loaded
  pub string : class_named c.program.world string_name ≡ Some l
  pub units : List ℕ
  pub spelled : c.program.units text ≡ Some units
  pub lacks : LacksCells c (literal_cells c.program l units) after effect

-- a constant that is no text is pushed
pub record PushesNumber (c : Context) (constant : InitialValue) (after : Memory) (effect : Effect) : Type 0 where
  pub no_text : (text : List ℕ) → constant ≡ StringValue text → ⊥
  pub value : Value
  pub is : constant_value c.program constant c.memory ≡ Ok (Some (c.memory, value))
  pub same : after ≡ c.memory
  pub goes : effect ≡ Goes c.next c.frame.locals (value ∷ c.frame.stack)

abbrev pub ConstantPushes : Type 0
ConstantPushes =
    (c : Context) (index : ℕ) (form : IndexForm) (after : Memory) (effect : Effect)
    → execute c (insns.PoolConstant index form) ≡ Ok (after, effect)
    → (constant : InitialValue) × (pushed_constant (pool_at c) (at_index (pool_at c) index) ≡ Ok constant)
    × (PushesNumber c constant after effect
    ⊎ (text : List ℕ) × (constant ≡ StringValue text)
    × (PushesLiteral c text after effect ⊎ LacksLiteral c text after effect ⊎ MakesLiteral c text after effect))
