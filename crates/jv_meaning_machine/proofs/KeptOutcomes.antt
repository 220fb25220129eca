-- Memory stays over an instruction: the ways on, and instructions on fields and constants.
use Rattle.std.proofs.Common.{◌≡◌, ℕ, ◌+◌, Bool, true, false, true≢false, sym, List, [], ◌∷◌, map, length, Option, Some, None, Ok, Err, refl, ap, ◌∙◌, arith, slice_get, sum_by, is_some, if◌then◌else◌}
use Rattle.std.proofs.lemmas.List.{length-map}
use Rattle.std.proofs.lemmas.List.Sums.{sum_by-cons}
use Rattle.jv_text.specs.declared.descriptor.Base.TheVariants as bases
use Rattle.jv_code.specs.declared.kinds.FieldAccess.{FieldAccess}
use Rattle.jv_code.specs.declared.kinds.FieldAccess.TheVariants as accesses
use Rattle.jv_pool.specs.Constants.{MemberReference}
use Rattle.jv_class.specs.Class.{InitialValue}
use Rattle.jv_class.specs.Class.InitialValue.{IntValue, LongValue, StringValue}
use Rattle.jv_meaning_world.specs.World.{Loaded, World, class_named}
use Rattle.jv_meaning_world.specs.LookUps.{DeclaredField}
use Rattle.jv_meaning_typing.specs.LinkErrors.{OrError, error_class}
use Rattle.jv_meaning_typing.specs.Operands.{field_operand}
use Rattle.jv_meaning_typing.specs.FieldResolution.{resolve_field}
use Rattle.jv_meaning_typing.specs.Environment.{current_class}
use Rattle.jv_meaning_typing.specs.Layout.{instance_fields, field_words, object_cells}
use Rattle.jv_meaning_machine.specs.Faults.{found, tested, ◌>>=◌}
use Rattle.jv_meaning_machine.specs.Faults.Fault.{OffsetFault, ReferenceFault, TagFault, ConstructionFault}
use Rattle.jv_meaning_machine.specs.Values.{Value}
use Rattle.jv_meaning_machine.specs.Values.Value.{Int, Long, Null, Reference, Half, Unset}
use Rattle.jv_meaning_machine.specs.Objects.{FieldKey, Object, Instance, key_of, default_entry, new_instance, value_at, with_value}
use Rattle.jv_meaning_machine.specs.Objects.Object.{InstanceOf, ArrayWith}
use Rattle.jv_meaning_machine.specs.State.{Program, Memory, class_state, is_ready}
use Rattle.jv_meaning_machine.specs.Costs.{array_cells, paid, next_object}
use Rattle.jv_meaning_machine.specs.Operands.{object_at}
use Rattle.jv_meaning_machine.specs.Effects.{Effect, Context, Outcome, world_at, method_at, site_at, goes_on_with, once_initialized, unless_error}
use Rattle.jv_meaning_machine.specs.Effects.Effect.{Goes, Enters, Constructs, Leaves, Throws, Raises, Begins}
use Rattle.jv_meaning_machine.specs.Arrays.{base_components}
use Rattle.jv_meaning_machine.specs.Literals.{string_name, string_value, chars_of, char_of, string_with, literal_in, literal_made, literal_cells, literal_or_new, literal, string_loaded, constant_value, push_value, push_constant, push_long_constant}
use Rattle.jv_meaning_machine.specs.Fields.{use_for, get_static, put_static, instance_in, get_field_of, get_field, can_be_set, with_field_value, with_object, put_field_of, put_field, access_field, use_field}
use Rattle.jv_meaning_machine.specs.Laws.Shapes.{shape_of, IsOfClass, shape_cells, field_cells, keys_in}
use Rattle.jv_meaning_machine.specs.Laws.Shapes.Shape.{ObjectShape}
use Rattle.jv_meaning_machine.specs.Laws.Kept.{Keeps, LeavesAll}
use Rattle.jv_meaning_machine.specs.Laws.Stores.{stores_field}
use Rattle.jv_meaning_machine.proofs.Leading.{Leads, leaf, failing, bound, bound_tested, chained, bound_gave, found_gave}
use Rattle.jv_meaning_machine.proofs.KeptMemory.{begins_same, keeps_same, keeps_over, same_keys, named_itself, new_is_of_class, keeps_static, keeps_object, keeps_joined, by_payment, with_literal_at, keeps_literal}

-- ---- the ways on

-- an `<init>` is entered on an object that is not constructed
abbrev pub MayConstruct : List Object → Effect → Type 0
MayConstruct objects (Constructs d object instance arguments stack) =
    (slice_get objects object ≡ Some (InstanceOf instance)) × (instance.constructed ≡ false)
MayConstruct objects _ = Unit {0}

abbrev pub is_plain : Effect → Bool
is_plain (Constructs d object instance arguments stack) = false
is_plain _ = true

plain_may : (objects : List Object) (effect : Effect) → is_plain effect ≡ true → MayConstruct objects effect
plain_may objects (Goes offset locals stack) e = tt
plain_may objects (Enters d receiver arguments stack) e = tt
plain_may objects (Constructs d object instance arguments stack) e = absurd (true≢false (sym e))
plain_may objects (Leaves result) e = tt
plain_may objects (Throws object) e = tt
plain_may objects (Raises class) e = tt
plain_may objects (Begins l) e = tt

-- over an instruction that stores
pub record IsStored (c : Context) (made : Memory × Effect) : Type 0 where
  pub keeps : Keeps (world_at c) c.memory made.0
  pub may : MayConstruct made.0.objects made.1

-- and over another one
pub record IsKept (c : Context) (made : Memory × Effect) : Type 0 where
  pub keeps : Keeps (world_at c) c.memory made.0
  pub may : MayConstruct made.0.objects made.1
  pub leaves : LeavesAll c.memory made.0

abbrev pub Stored : Context → Outcome → Type 0
Stored c done = Leads (Memory × Effect) (IsStored c) done

abbrev pub Kept : Context → Outcome → Type 0
Kept c done = Leads (Memory × Effect) (IsKept c) done

-- over one or the other
abbrev pub IsDone : Bool → Context → Memory × Effect → Type 0
IsDone true = IsStored
IsDone false = IsKept

abbrev pub Does : Bool → Context → Outcome → Type 0
Does stores c done = Leads (Memory × Effect) (IsDone stores c) done

pub made_stored :
    (c : Context) (memory : Memory) (effect : Effect) → is_plain effect ≡ true → Keeps (world_at c) c.memory memory
    → Stored c (Ok (memory, effect))
made_stored c memory effect plain h = leaf (IsStored c) (memory, effect) (record { keeps = h; may = plain_may memory.objects effect plain })

pub same_stored : (c : Context) (effect : Effect) → is_plain effect ≡ true → Stored c (Ok (c.memory, effect))
same_stored c effect plain = made_stored c c.memory effect plain (keeps_same c.memory)

pub made_kept :
    (c : Context) (memory : Memory) (effect : Effect) → is_plain effect ≡ true → Keeps (world_at c) c.memory memory
    → LeavesAll c.memory memory
    → Kept c (Ok (memory, effect))
made_kept c memory effect plain h leaves =
    leaf (IsKept c) (memory, effect) (record { keeps = h; may = plain_may memory.objects effect plain; leaves = leaves })

pub leaves_same : (memory : Memory) → LeavesAll memory memory
leaves_same memory = record { statics = refl; objects = begins_same memory.objects }

pub same_kept : (c : Context) (effect : Effect) → is_plain effect ≡ true → Kept c (Ok (c.memory, effect))
same_kept c effect plain = made_kept c c.memory effect plain (keeps_same c.memory) (leaves_same c.memory)

pub unless_kept :
    {A : Type 0} (c : Context) (o : OrError A) (next : A → Outcome) → ((a : A) → Kept c (next a)) → Kept c (unless_error c o next)
unless_kept c (Ok a) next h = h a
unless_kept c (Err error) next h = same_kept c _ refl

-- the same, with what was resolved to
pub unless_kept_as :
    {A :
    Type 0} (c : Context) (o : OrError A) (next : A → Outcome) → ((a : A) → o ≡ Ok a → Kept c (next a)) → Kept c (unless_error c o next)
unless_kept_as c (Ok a) next h = h a refl
unless_kept_as c (Err error) next h = same_kept c _ refl

pub once_kept : (c : Context) (l : Loaded) (outcome : Outcome) → Kept c outcome → Kept c (once_initialized c l outcome)
once_kept c l outcome h = by_state (is_ready (class_state c.states l))
  where
    by_state : (ready : Bool) → Kept c (if ready then outcome else Ok (c.memory, Begins l))
    by_state true = h
    by_state false = same_kept c _ refl

once_stored : (c : Context) (l : Loaded) (outcome : Outcome) → Stored c outcome → Stored c (once_initialized c l outcome)
once_stored c l outcome h = by_state (is_ready (class_state c.states l))
  where
    by_state : (ready : Bool) → Stored c (if ready then outcome else Ok (c.memory, Begins l))
    by_state true = h
    by_state false = same_stored c _ refl

-- ---- what is known of an object

pub object_stands :
    (objects : List Object) (id : ℕ) (object : Object) → object_at objects id ≡ Ok object → slice_get objects id ≡ Some object
object_stands objects id object e = found_gave ReferenceFault (slice_get objects id) object e

pub instance_is : (object : Object) (instance : Instance) → instance_in object ≡ Ok instance → object ≡ InstanceOf instance
instance_is (InstanceOf known) instance e = cc
instance_is (ArrayWith components values) instance e = absurd cc

pub instance_stands :
    (objects : List Object) (id : ℕ) (instance : Instance) → (object_at objects id >>= instance_in) ≡ Ok instance
    → slice_get objects id ≡ Some (InstanceOf instance)
instance_stands objects id instance e =
    let parts = bound_gave (object_at objects id) instance_in instance e in
    object_stands objects id parts.0 parts.1 ∙ ap (λ (o : Object). Some o) (instance_is parts.0 instance parts.2)

-- ---- static fields

get_static_kept : (c : Context) (d : DeclaredField) → Kept c (get_static c d)
get_static_kept c d = search (bound, same_kept)

put_static_stored : (c : Context) (d : DeclaredField) → Stored c (put_static c d)
put_static_stored c d = search (bound, made_stored, keeps_static)

-- ---- fields of objects

get_field_of_kept : (c : Context) (d : DeclaredField) (value : Value) (below : List Value) → Kept c (get_field_of c d value below)
get_field_of_kept c d (Int number) below = failing TagFault
get_field_of_kept c d (Long number) below = failing TagFault
get_field_of_kept c d Null below = same_kept c _ refl
get_field_of_kept c d (Reference id) below = search (bound, same_kept)
get_field_of_kept c d Half below = failing TagFault
get_field_of_kept c d Unset below = failing TagFault

get_field_kept : (c : Context) (d : DeclaredField) → Kept c (get_field c d)
get_field_kept c d = search (bound, get_field_of_kept)

keeps_field :
    {world : World} (memory : Memory) (id : ℕ) (instance : Instance) (key : FieldKey) (value : Value)
    → slice_get memory.objects id ≡ Some (InstanceOf instance)
    → Keeps world memory (with_object id (with_field_value key value instance) memory)
keeps_field memory id instance key value e =
    keeps_object id (InstanceOf instance) (with_field_value key value instance) memory e
    (ap (λ (keys : List FieldKey). ObjectShape instance.class keys) (same_keys key value instance.fields)) (λ constructed. constructed)

put_field_of_stored :
    (c : Context) (reference : MemberReference) (d : DeclaredField) (under value : Value) (below : List Value)
    → Stored c (put_field_of c reference d under value below)
put_field_of_stored c reference d (Int number) value below = failing TagFault
put_field_of_stored c reference d (Long number) value below = failing TagFault
put_field_of_stored c reference d Null value below = same_stored c _ refl
put_field_of_stored c reference d (Reference id) value below =
    bound (object_at c.memory.objects id >>= instance_in) _
    (λ instance e. at_instance instance (instance_stands c.memory.objects id instance e))
  where
    at_instance :
        (instance : Instance) → slice_get c.memory.objects id ≡ Some (InstanceOf instance)
        → Stored c
        (tested ConstructionFault (can_be_set c reference id instance) instance >>= λ instance.
        tested ReferenceFault (is_some (value_at (key_of d) instance.fields)) instance >>= λ instance.
        goes_on_with c (with_object id (with_field_value (key_of d) value instance) c.memory) below)
    at_instance instance e =
        let h : Keeps (world_at c) c.memory (with_object id (with_field_value (key_of d) value instance) c.memory) =
        keeps_field c.memory id instance (key_of d) value e in
        search (bound_tested, made_stored, h)
put_field_of_stored c reference d Half value below = failing TagFault
put_field_of_stored c reference d Unset value below = failing TagFault

put_field_stored : (c : Context) (reference : MemberReference) (d : DeclaredField) → Stored c (put_field c reference d)
put_field_stored c reference d = search (bound, put_field_of_stored)

access_does :
    (c : Context) (how : FieldAccess) (reference : MemberReference) (d : DeclaredField)
    → Does (stores_field how) c (access_field c how reference d)
access_does c accesses.GetStatic reference d = once_kept c d.by _ (get_static_kept c d)
access_does c accesses.PutStatic reference d = once_stored c d.by _ (put_static_stored c d)
access_does c accesses.GetField reference d = get_field_kept c d
access_does c accesses.PutField reference d = put_field_stored c reference d

same_done : (stores : Bool) (c : Context) (class : List ℕ) → IsDone stores c (c.memory, Raises class)
same_done true c class = record { keeps = keeps_same c.memory; may = tt }
same_done false c class = record { keeps = keeps_same c.memory; may = tt; leaves = leaves_same c.memory }

unless_does :
    (stores :
    Bool) (c : Context) (o : OrError DeclaredField) (next : DeclaredField → Outcome) → ((d : DeclaredField) → Does stores c (next d))
    → Does stores c (unless_error c o next)
unless_does stores c (Ok d) next h = h d
unless_does stores c (Err error) next h =
    leaf (IsDone stores c) (c.memory, Raises (error_class error)) (same_done stores c (error_class error))

pub use_field_does : (c : Context) (how : FieldAccess) (index : ℕ) → Does (stores_field how) c (use_field c how index)
use_field_does c how index =
    bound (found OffsetFault (field_operand (current_class (method_at c)) index))
    (λ reference. unless_error c (resolve_field (world_at c) (site_at c) (use_for how) reference) (access_field c how reference))
    (λ reference e.
    unless_does (stores_field how) c (resolve_field (world_at c) (site_at c) (use_for how) reference) (access_field c how reference)
    (access_does c how reference))

-- ---- what objects cost

-- the cells of an object's fields are those of its layout
field_cells_are : (fields : List DeclaredField) → sum_by field_cells (keys_in (map default_entry fields)) ≡ sum_by field_words fields
field_cells_are [] = refl
field_cells_are (d ∷ more) =
    omega (arith, sum_by-cons field_cells (key_of d) (keys_in (map default_entry more)), sum_by-cons field_words d more, field_cells_are more)

-- an object that the machine makes costs the cells of its class
pub cost_of_object :
    (world : World) (constructed : Bool) (l : Loaded)
    → shape_cells (shape_of (InstanceOf (new_instance world constructed l))) ≡ object_cells world l
cost_of_object world constructed l = ap (λ (n : ℕ). 1 + n) (field_cells_are (instance_fields world l))

-- one object, whose shape is that of a new one
pub cost_of_one : (object : Object) → sum_by shape_cells (map shape_of (object ∷ [])) ≡ shape_cells (shape_of object)
cost_of_one object = omega (arith, sum_by-cons shape_cells (shape_of object) [])

-- ---- constants

cost_of_literal :
    (program : Program) (l : Loaded) (units : List ℕ) (chars : ℕ)
    → sum_by shape_cells (map shape_of (string_with program l chars ∷ chars_of units ∷ [])) ≡ literal_cells program l units
cost_of_literal program l units chars =
    let keys : keys_in (with_value string_value (Reference chars) (new_instance program.world true l).fields) ≡ keys_in (new_instance program.world true l).fields =
    same_keys string_value (Reference chars) (new_instance program.world true l).fields in
    let string : shape_cells (shape_of (string_with program l chars)) ≡ object_cells program.world l =
    ap (λ (all : List FieldKey). 1 + sum_by field_cells all) keys ∙ cost_of_object program.world true l in
    let array : shape_cells (shape_of (chars_of units)) ≡ array_cells (base_components bases.Char) (length units) =
    ap (λ (n : ℕ). array_cells (base_components bases.Char) n) (length-map units char_of) in
    omega (arith, sum_by-cons shape_cells (shape_of (string_with program l chars)) (shape_of (chars_of units) ∷ []), cost_of_one (chars_of units))

string_is_of_class :
    (program : Program) (l : Loaded) (chars : ℕ) → class_named program.world l.class.name ≡ Some l
    → IsOfClass program.world (shape_of (string_with program l chars))
string_is_of_class program l chars named =
    let new = new_is_of_class program.world true l named in
    (new.0, new.1, same_keys string_value (Reference chars) (new_instance program.world true l).fields ∙ new.2)

-- a literal that is made or found, if its cells are left
abbrev pub IsKeptIf : {A : Type 0} → World → Memory → Option (Memory × A) → Type 0
IsKeptIf world before None = Unit {0}
IsKeptIf world before (Some made) = Keeps world before made.0 × LeavesAll before made.0

literal_made_kept :
    (program : Program) (l : Loaded) (text units : List ℕ) (memory : Memory) → class_named program.world l.class.name ≡ Some l
    → literal_in text memory.literals ≡ None
    → IsKeptIf program.world memory (literal_made program l text units (paid (literal_cells program l units) memory))
literal_made_kept program l text units memory named none =
    by_payment (λ (o : Option Memory). IsKeptIf program.world memory (literal_made program l text units o)) (literal_cells program l units)
    memory tt
    (λ within. (
      keeps_over memory (with_literal_at text (next_object memory) memory) _ (keeps_literal text (next_object memory) memory none)
          (keeps_joined (literal_cells program l units) (string_with program l (next_object memory + 1) ∷ chars_of units ∷ [])
          (with_literal_at text (next_object memory) memory) within (cost_of_literal program l units (next_object memory + 1))
          (string_is_of_class program l (next_object memory + 1) named, (tt, tt))),
      record { statics = refl; objects = (string_with program l (next_object memory + 1) ∷ chars_of units ∷ [], refl) },
    ))

literal_or_new_kept :
    (program : Program) (text : List ℕ) (memory : Memory) (known : Option ℕ) → literal_in text memory.literals ≡ known
    → Leads (Option (Memory × ℕ)) (IsKeptIf program.world memory) (literal_or_new program text memory known)
literal_or_new_kept program text memory (Some object) e =
    leaf (IsKeptIf {A = ℕ} program.world memory) (Some (memory, object)) (keeps_same memory, leaves_same memory)
literal_or_new_kept program text memory None e =
    bound (found ReferenceFault (class_named program.world string_name)) _
    (λ l f.
    bound (found OffsetFault (program.units text)) _
    (λ units g.
    leaf (IsKeptIf {A = ℕ} program.world memory) _
    (literal_made_kept program l text units memory
    (named_itself program.world string_name l (found_gave ReferenceFault (class_named program.world string_name) l f)) e)))

literal_kept :
    (program : Program) (text : List ℕ) (memory : Memory)
    → Leads (Option (Memory × ℕ)) (IsKeptIf program.world memory) (literal program text memory)
literal_kept program text memory = literal_or_new_kept program text memory (literal_in text memory.literals) refl

loaded_kept :
    (world : World) (memory : Memory) (made : Option (Memory × ℕ)) → IsKeptIf world memory made → IsKeptIf world memory (string_loaded made)
loaded_kept world memory None h = tt
loaded_kept world memory (Some made) h = h

pub constant_value_kept :
    (program : Program) (value : InitialValue) (memory : Memory)
    → Leads (Option (Memory × Value)) (IsKeptIf program.world memory) (constant_value program value memory)
constant_value_kept program (IntValue number) memory =
    leaf (IsKeptIf {A = Value} program.world memory) (Some (memory, Int number)) (keeps_same memory, leaves_same memory)
constant_value_kept program (LongValue number) memory =
    leaf (IsKeptIf {A = Value} program.world memory) (Some (memory, Long number)) (keeps_same memory, leaves_same memory)
constant_value_kept program (StringValue text) memory =
    chained (IsKeptIf {A = ℕ} program.world memory) (IsKeptIf {A = Value} program.world memory) (literal program text memory)
    (λ made. Ok (string_loaded made)) (literal_kept program text memory)
    (λ made h. leaf (IsKeptIf {A = Value} program.world memory) (string_loaded made) (loaded_kept program.world memory made h))

push_value_kept : (c : Context) (made : Option (Memory × Value)) → IsKeptIf (world_at c) c.memory made → Kept c (push_value c made)
push_value_kept c None h = same_kept c _ refl
push_value_kept c (Some made) h = made_kept c made.0 _ refl h.0 h.1

push_known_kept : (c : Context) (value : InitialValue) → Kept c (constant_value c.program value c.memory >>= push_value c)
push_known_kept c value =
    chained (IsKeptIf {A = Value} (world_at c) c.memory) (IsKept c) (constant_value c.program value c.memory) (push_value c)
    (constant_value_kept c.program value c.memory) (push_value_kept c)

pub push_constant_kept : (c : Context) (index : ℕ) → Kept c (push_constant c index)
push_constant_kept c index = search (bound, push_known_kept)

pub push_long_constant_kept : (c : Context) (index : ℕ) → Kept c (push_long_constant c index)
push_long_constant_kept c index = search (bound, same_kept)
