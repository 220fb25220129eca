-- New objects stand behind all that there were, and the first of them has their count as its number.
use Rattle.std.proofs.Common.{◌≡◌, ℕ, ◌≤◌, ◌<◌, nat_le, ℤ, pos, negsuc, Bool, true, false, not, List, [], ◌∷◌, map, length, replicate, Option, Some, None, Ok, Err, refl, sym, ap, subst, ◌∙◌, ◌⊎◌, inl, inr, arith, if◌then◌else◌}
use Rattle.std.specs.List.{list_any}
use Rattle.std.proofs.lemmas.Bool.{leb-true, leb-false}
use Rattle.std.proofs.lemmas.List.{length-replicate}
use Rattle.jv_text.specs.declared.descriptor.FieldTypeOf.{FieldTypeOf}
use Rattle.jv_text.specs.Name.{is_array_name}
use Rattle.jv_stackmap.specs.declared.verification.VerificationTypeOf.TheVariants as types
use Rattle.jv_stackmap.specs.Types.{FrameType, component}
use Rattle.jv_pool.specs.Constants.{at_index}
use Rattle.jv_class.specs.Class.{InitialValue}
use Rattle.jv_class.specs.Class.InitialValue.{IntValue, LongValue, StringValue}
use Rattle.jv_meaning_world.specs.World.{Loaded, class_named}
use Rattle.jv_meaning_typing.specs.Uses.{Use}
use Rattle.jv_meaning_typing.specs.Uses.Use.{New}
use Rattle.jv_meaning_typing.specs.LinkErrors.{OrError, error_class}
use Rattle.jv_meaning_typing.specs.Operands.{class_operand}
use Rattle.jv_meaning_typing.specs.ClassResolution.{ResolvedClass, resolve_class}
use Rattle.jv_meaning_typing.specs.ClassResolution.ResolvedClass.{ClassOf, ArrayOf}
use Rattle.jv_meaning_typing.specs.Layout.{object_cells}
use Rattle.jv_meaning_typing.specs.Environment.{current_class}
use Rattle.jv_meaning_machine.specs.Faults.{found, tested, ◌>>=◌}
use Rattle.jv_meaning_machine.specs.Faults.Fault.{OffsetFault, ReferenceFault}
use Rattle.jv_meaning_machine.specs.Values.{Value}
use Rattle.jv_meaning_machine.specs.Values.Value.{Int, Long}
use Rattle.jv_meaning_machine.specs.Objects.{Object, new_object, new_array}
use Rattle.jv_meaning_machine.specs.State.{Memory, class_state, is_ready}
use Rattle.jv_meaning_machine.specs.Costs.{array_cells, arrays_cells, paid, next_object}
use Rattle.jv_meaning_machine.specs.Operands.{taken, taken_as}
use Rattle.jv_meaning_machine.specs.Effects.{Effect, Context, Outcome, world_at, method_at, site_at, once_initialized, resolved_type, unless_error, out_of_memory}
use Rattle.jv_meaning_machine.specs.Effects.Effect.{Throws, Raises, Begins}
use Rattle.jv_meaning_machine.specs.Arithmetic.{one, as_int}
use Rattle.jv_meaning_machine.specs.Literals.{string_name, literal_in, literal_made, literal_cells, literal_or_new, string_loaded, constant_value, pushed_constant, push_value, pool_at}
use Rattle.jv_meaning_machine.specs.Arrays.{arrays_made, push_arrays, make_array, base_of, base_components, is_negative_count, count_of, make_arrays_if, make_arrays, names_array, array_resolved}
use Rattle.jv_meaning_machine.specs.Instructions.{push_object, create}
use Rattle.jv_meaning_machine.specs.Laws.NewObjects.{LacksCells, MakesIf, NamesClass, ThrowsClassError, BeginsClass, MakesObject, NewMakes, CountsBelowZero, MakesArray, NewArrayMakes, NewReferenceArrayMakes, CountsOneBelowZero, MakesArrays, TakesCounts, NewMultiArrayMakes, PushesLiteral, MakesLiteral, LacksLiteral, PushesNumber, ConstantPushes}
use Rattle.jv_meaning_machine.proofs.Leading.{also, Leads, leaf, failing, bound, bound_tested, chained}
use Rattle.jv_meaning_machine.proofs.KeptMemory.{less}
use Rattle.jv_meaning_machine.proofs.TakenItems.{taken_gave, int_gave, IsOne, one_taken, taken_count}

-- ---- payments

-- a payment, by whether the cells are left
by_cells :
    (P :
    Option Memory → Type 0) (cells : ℕ) (memory : Memory) → (memory.cells < cells → P None) → (cells ≤ memory.cells
    → P (Some (less cells memory)))
    → P (paid cells memory)
by_cells P cells memory none some = by_test (nat_le cells memory.cells) refl
  where
    by_test : (test : Bool) → nat_le cells memory.cells ≡ test → P (if test then Some (less cells memory) else None)
    by_test true e = some (leb-true cells memory.cells e)
    by_test false e = none (leb-false cells memory.cells e)

lacking : (c : Context) (cells : ℕ) → c.memory.cells < cells → LacksCells c cells c.memory (Throws out_of_memory)
lacking c cells h = record { lacks = h; same = refl; throws = refl }

abbrev MakesOf : Context → ℕ → List Object → List Value → Memory × Effect → Type 0
MakesOf c cells objects below made = MakesIf c cells objects below made.0 made.1

push_arrays_makes :
    (c : Context) (components : FieldTypeOf (List ℕ)) (counts : List ℕ) (cells : ℕ) (first : Object) (others : List Object)
    (below : List Value)
    → arrays_made components counts (next_object c.memory) ≡ first ∷ others
    → Leads (Memory × Effect) (MakesOf c cells (arrays_made components counts (next_object c.memory)) below)
    (push_arrays c components counts below (paid cells c.memory))
push_arrays_makes c components counts cells first others below e =
    by_cells (λ (o : Option Memory). Leads (Memory × Effect) (MakesOf c cells (arrays_made components counts (next_object c.memory)) below) (push_arrays c components counts below o))
    cells c.memory (λ h. leaf (MakesOf c cells (arrays_made components counts (next_object c.memory)) below) _ (inl (lacking c cells h)))
    (λ h.
    leaf (MakesOf c cells (arrays_made components counts (next_object c.memory)) below) _
    (inr (record { first = first; others = others; are = e; left = h; joins = refl; goes = refl })))

-- ---- what an index names

module _ (c : Context) (P : Memory × Effect → Type 0) (how : Option Use) (index : ℕ) (next : ResolvedClass → Outcome)
    (fails : (effect : Effect) → ThrowsClassError c how index c.memory effect → P (c.memory, effect))
    (h : (resolved : ResolvedClass) → NamesClass c how index resolved → Leads (Memory × Effect) P (next resolved)) where
  by_resolution :
      (text : List ℕ) → class_operand (current_class (method_at c)) index ≡ Some text → (o : OrError ResolvedClass)
      → resolve_class (world_at c) (site_at c) how text ≡ o → Leads (Memory × Effect) P (unless_error c o next)
  by_resolution text e (Ok resolved) f = h resolved (record { text = text; operand = e; resolves = f })
  by_resolution text e (Err error) f =
      leaf P _
      (fails (Raises (error_class error)) (record { text = text; operand = e; error = error; unresolved = f; same = refl; throws = refl }))

  -- the text that the index names has to pass a test
  tested_class_leads :
      (test : List ℕ → Bool)
      → Leads (Memory × Effect) P
      (found OffsetFault (class_operand (current_class (method_at c)) index) >>= λ text. tested OffsetFault (test text) text >>= λ text.
      unless_error c (resolve_class (world_at c) (site_at c) how text) next)
  tested_class_leads test = by_operand (class_operand (current_class (method_at c)) index) refl
    where
      by_operand :
          (o : Option (List ℕ)) → class_operand (current_class (method_at c)) index ≡ o
          → Leads (Memory × Effect) P
          (found OffsetFault o >>= λ text. tested OffsetFault (test text) text >>= λ text.
          unless_error c (resolve_class (world_at c) (site_at c) how text) next)
      by_operand None e = failing OffsetFault
      by_operand (Some text) e =
          bound_tested OffsetFault (test text) text (λ text. unless_error c (resolve_class (world_at c) (site_at c) how text) next)
          (λ passed. by_resolution text e (resolve_class (world_at c) (site_at c) how text) refl)

  class_leads :
      Leads (Memory × Effect) P
      (found OffsetFault (class_operand (current_class (method_at c)) index) >>= λ text.
      unless_error c (resolve_class (world_at c) (site_at c) how text) next)
  class_leads = by_operand (class_operand (current_class (method_at c)) index) refl
    where
      by_operand :
          (o : Option (List ℕ)) → class_operand (current_class (method_at c)) index ≡ o
          → Leads (Memory × Effect) P
          (found OffsetFault o >>= λ text. unless_error c (resolve_class (world_at c) (site_at c) how text) next)
      by_operand None e = failing OffsetFault
      by_operand (Some text) e = by_resolution text e (resolve_class (world_at c) (site_at c) how text) refl

-- ---- new

abbrev ObjectOf : Context → Loaded → Memory × Effect → Type 0
ObjectOf c l made = BeginsClass c l made.0 made.1 ⊎ MakesObject c l made.0 made.1

push_object_makes :
    (c : Context) (l : Loaded) → is_ready (class_state c.states l) ≡ true
    → Leads (Memory × Effect) (ObjectOf c l) (push_object c l (paid (object_cells (world_at c) l) c.memory))
push_object_makes c l ready =
    by_cells (λ (o : Option Memory). Leads (Memory × Effect) (ObjectOf c l) (push_object c l o)) (object_cells (world_at c) l) c.memory
    (λ h. leaf (ObjectOf c l) _ (inr (record { ready = ready; makes = inl (lacking c (object_cells (world_at c) l) h) })))
    (λ h.
    leaf (ObjectOf c l) _
    (inr
    (record {
      ready = ready;
      makes = inr (record { first = new_object (world_at c) l; others = []; are = refl; left = h; joins = refl; goes = refl });
    })))

once_makes :
    (c : Context) (l : Loaded)
    → Leads (Memory × Effect) (ObjectOf c l) (once_initialized c l (push_object c l (paid (object_cells (world_at c) l) c.memory)))
once_makes c l = by_state (is_ready (class_state c.states l)) refl
  where
    by_state :
        (ready : Bool) → is_ready (class_state c.states l) ≡ ready
        → Leads (Memory × Effect) (ObjectOf c l)
        (if ready then push_object c l (paid (object_cells (world_at c) l) c.memory) else Ok (c.memory, Begins l))
    by_state true e = push_object_makes c l e
    by_state false e = leaf (ObjectOf c l) _ (inl (record { not_ready = e; same = refl; begins = refl }))

abbrev NewOf : Context → ℕ → Memory × Effect → Type 0
NewOf c index made =
    ThrowsClassError c (Some New) index made.0 made.1 ⊎ (l : Loaded) × NamesClass c (Some New) index (ClassOf l) × ObjectOf c l made

create_makes :
    (c : Context) (index : ℕ) (resolved : ResolvedClass) → NamesClass c (Some New) index resolved
    → Leads (Memory × Effect) (NewOf c index) (create c resolved)
create_makes c index (ClassOf l) names =
    also (NewOf c index) (create c (ClassOf l)) (λ made h. inr (l, names, h)) (once_makes c l)
create_makes c index (ArrayOf type) names = failing OffsetFault

pub new_makes : NewMakes
new_makes c index after effect e =
    (tested_class_leads c (NewOf c index) (Some New) index (create c) (λ effect fails. inl fails) (create_makes c index)
    (λ text. not (is_array_name text))).at
    (after, effect) e

-- ---- newarray, anewarray

abbrev ArrayMade : Context → FieldTypeOf (List ℕ) → Memory × Effect → Type 0
ArrayMade c components made = CountsBelowZero c made.0 made.1 ⊎ MakesArray c components made.0 made.1

make_array_makes :
    (c : Context) (components : FieldTypeOf (List ℕ)) (count : ℤ) (below : List Value) → c.frame.stack ≡ Int count ∷ below
    → Leads (Memory × Effect) (ArrayMade c components) (make_array c components count below)
make_array_makes c components (negsuc n) below s =
    leaf (ArrayMade c components) _ (inl (record { number = n; below = below; stack = s; same = refl; throws = refl }))
make_array_makes c components (pos count) below s =
    also (ArrayMade c components) (make_array c components (pos count) below)
    (λ made h. inr (record { count = count; below = below; stack = s; makes = h }))
    (push_arrays_makes c components (count ∷ []) (array_cells components count) (new_array components count) [] below refl)

new_array_leads :
    (c : Context) (components : FieldTypeOf (List ℕ)) (operands : List Value × List Value) → IsOne c.frame.stack operands
    → Leads (Memory × Effect) (ArrayMade c components) (one operands.0 >>= as_int >>= λ count. make_array c components count operands.1)
new_array_leads c components operands known =
    subst
    (λ (values : List Value).
    Leads (Memory × Effect) (ArrayMade c components) (one values >>= as_int >>= λ count. make_array c components count operands.1))
    (sym known.is)
    (bound (as_int known.first) (λ count. make_array c components count operands.1)
    (λ count e.
    make_array_makes c components count operands.1
    (known.stood ∙ ap (λ (v : Value). v ∷ operands.1) (int_gave known.first count e))))

pub new_array_makes : NewArrayMakes
new_array_makes c element after effect e =
    (chained (IsOne c.frame.stack) (ArrayMade c (base_components (base_of element))) (taken c.memory.objects (types.Int ∷ []) c.frame.stack)
    (λ operands. one operands.0 >>= as_int >>= λ count. make_array c (base_components (base_of element)) count operands.1)
    (one_taken c.memory.objects types.Int c.frame.stack) (new_array_leads c (base_components (base_of element)))).at
    (after, effect) e

abbrev ReferencesOf : Context → ℕ → Memory × Effect → Type 0
ReferencesOf c index made =
    ThrowsClassError c None index made.0 made.1
    ⊎ (resolved : ResolvedClass) × NamesClass c None index resolved × ArrayMade c (resolved_type resolved) made

pub new_reference_array_makes : NewReferenceArrayMakes
new_reference_array_makes c index after effect e =
    (class_leads c (ReferencesOf c index) None index
    (λ resolved.
    taken_as c.memory.objects types.Int c.frame.stack >>= λ top. as_int top.0 >>= λ count.
    make_array c (resolved_type resolved) count top.1)
    (λ effect fails. inl fails)
    (λ resolved names.
    bound (taken_as c.memory.objects types.Int c.frame.stack)
    (λ top. as_int top.0 >>= λ count. make_array c (resolved_type resolved) count top.1)
    (λ top f.
    bound (as_int top.0) (λ count. make_array c (resolved_type resolved) count top.1)
    (λ count g.
    also (ReferencesOf c index) (make_array c (resolved_type resolved) count top.1) (λ made h. inr (resolved, names, h))
    (make_array_makes c (resolved_type resolved) count top.1
    (taken_gave c.memory.objects types.Int c.frame.stack top f ∙ ap (λ (v : Value). v ∷ top.1) (int_gave top.0 count g))))))).at
    (after, effect) e

-- ---- multianewarray

-- counts make one array at least
some_arrays :
    (components : FieldTypeOf (List ℕ)) (counts : List Value) (number : ℕ) → 1 ≤ length counts
    → (first : Object) × (others : List Object) × (arrays_made components (map count_of counts) number ≡ first ∷ others)
some_arrays components [] number h = absurd (omega (arith, h))
some_arrays components (count ∷ []) number h = (_, _, refl)
some_arrays components (count ∷ next ∷ more) number h = (_, _, refl)

abbrev ArraysMade : Context → FieldTypeOf (List ℕ) → List Value → List Value → Memory × Effect → Type 0
ArraysMade c components counts below made = CountsOneBelowZero c counts made.0 made.1 ⊎ MakesArrays c components counts below made.0 made.1

make_arrays_if_makes :
    (c : Context) (components : FieldTypeOf (List ℕ)) (counts below : List Value) (negative : Bool) → 1 ≤ length counts
    → list_any is_negative_count counts ≡ negative
    → Leads (Memory × Effect) (ArraysMade c components counts below) (make_arrays_if c components counts below negative)
make_arrays_if_makes c components counts below true some e =
    leaf (ArraysMade c components counts below) _ (inl (record { negative = e; same = refl; throws = refl }))
make_arrays_if_makes c components counts below false some e =
    let outer = some_arrays components counts (next_object c.memory) some in
    also (ArraysMade c components counts below) (make_arrays_if c components counts below false)
    (λ made h. inr (record { not_negative = e; makes = h }))
    (push_arrays_makes c components (map count_of counts) (arrays_cells components (map count_of counts)) outer.0 outer.1 below outer.2)

abbrev MultiOf : Context → ℕ → ℕ → Memory × Effect → Type 0
MultiOf c index dimensions made =
    ThrowsClassError c None index made.0 made.1
    ⊎ (type : FieldTypeOf (List ℕ)) × NamesClass c None index (ArrayOf type) × (counts : List Value) × (below : List Value)
    × TakesCounts c dimensions counts below × ArraysMade c (component type) counts below made

multi_leads :
    (c : Context) (index dimensions : ℕ) (type : FieldTypeOf (List ℕ)) → NamesClass c None index (ArrayOf type) → 1 ≤ dimensions
    → (operands : List Value × List Value) → taken c.memory.objects (replicate dimensions types.Int) c.frame.stack ≡ Ok operands
    → Leads (Memory × Effect) (MultiOf c index dimensions) (make_arrays c (component type) operands.0 operands.1)
multi_leads c index dimensions type names some (counts, below) e =
    let known : length counts ≡ length (replicate dimensions types.Int) =
    taken_count c.memory.objects (replicate dimensions types.Int) c.frame.stack (counts, below) e in
    let enough : 1 ≤ length counts = omega (arith, known, length-replicate {A = FrameType} dimensions types.Int) in
    also (MultiOf c index dimensions) (make_arrays c (component type) counts below)
    (λ made h. inr (type, names, counts, below, record { takes = e }, h))
    (make_arrays_if_makes c (component type) counts below (list_any is_negative_count counts) enough refl)

resolved_leads :
    (c : Context) (index dimensions : ℕ) → 1 ≤ dimensions → (resolved : ResolvedClass) → NamesClass c None index resolved
    → Leads (Memory × Effect) (MultiOf c index dimensions)
    (array_resolved resolved >>= λ type.
    taken c.memory.objects (replicate dimensions types.Int) c.frame.stack >>= λ counts.
    make_arrays c (component type) counts.0 counts.1)
resolved_leads c index dimensions some (ClassOf l) names = failing OffsetFault
resolved_leads c index dimensions some (ArrayOf type) names =
    bound (taken c.memory.objects (replicate dimensions types.Int) c.frame.stack)
    (λ counts. make_arrays c (component type) counts.0 counts.1)
    (multi_leads c index dimensions type names some)

pub new_multi_array_makes : NewMultiArrayMakes
new_multi_array_makes c index dimensions after effect some e =
    (tested_class_leads c (MultiOf c index dimensions) None index
    (λ resolved.
    array_resolved resolved >>= λ type.
    taken c.memory.objects (replicate dimensions types.Int) c.frame.stack >>= λ counts.
    make_arrays c (component type) counts.0 counts.1)
    (λ effect fails. inl fails) (resolved_leads c index dimensions some) (names_array dimensions)).at
    (after, effect) e

-- ---- ldc

abbrev TextOf : Context → List ℕ → Memory × Effect → Type 0
TextOf c text made = PushesLiteral c text made.0 made.1 ⊎ LacksLiteral c text made.0 made.1 ⊎ MakesLiteral c text made.0 made.1

literal_leads :
    (c : Context) (text : List ℕ) (known : Option ℕ) → literal_in text c.memory.literals ≡ known
    → Leads (Memory × Effect) (TextOf c text)
    (literal_or_new c.program text c.memory known >>= (λ made. Ok (string_loaded made)) >>= push_value c)
literal_leads c text (Some object) e = leaf (TextOf c text) _ (inl (record { object = object; known = e; same = refl; goes = refl }))
literal_leads c text None e = by_class (class_named c.program.world string_name) refl
  where
    by_units :
        (l : Loaded) → class_named c.program.world string_name ≡ Some l → (units : Option (List ℕ)) → c.program.units text ≡ units
        → Leads (Memory × Effect) (TextOf c text)
        ((found OffsetFault units >>= λ units.
        Ok (literal_made c.program l text units (paid (literal_cells c.program l units) c.memory)))
        >>= (λ made. Ok (string_loaded made))
        >>= push_value c)
    by_units l g None f = failing OffsetFault
    by_units l g (Some units) f =
        by_cells
        (λ (o : Option Memory).
        Leads (Memory × Effect) (TextOf c text) (push_value c (string_loaded (literal_made c.program l text units o))))
        (literal_cells c.program l units) c.memory
        (λ h.
        leaf (TextOf c text) _
        (inr
        (inl (record { unknown = e; l = l; string = g; units = units; spelled = f; lacks = lacking c (literal_cells c.program l units) h }))))
        (λ h. leaf (TextOf c text) _ (inr (inr (record { unknown = e; l = l; string = g; units = units; spelled = f; left = h; joins = refl; goes = refl }))))

    by_class :
        (class : Option Loaded) → class_named c.program.world string_name ≡ class
        → Leads (Memory × Effect) (TextOf c text)
        ((found ReferenceFault class >>= λ l. found OffsetFault (c.program.units text) >>= λ units.
        Ok (literal_made c.program l text units (paid (literal_cells c.program l units) c.memory)))
        >>= (λ made. Ok (string_loaded made))
        >>= push_value c)
    by_class None g = failing ReferenceFault
    by_class (Some l) g = by_units l g (c.program.units text) refl

abbrev ConstantOf : Context → ℕ → Memory × Effect → Type 0
ConstantOf c index made =
    (constant : InitialValue) × (pushed_constant (pool_at c) (at_index (pool_at c) index) ≡ Ok constant)
    × (PushesNumber c constant made.0 made.1 ⊎ (text : List ℕ) × (constant ≡ StringValue text) × TextOf c text made)

constant_leads :
    (c : Context) (index : ℕ) (constant : InitialValue) → pushed_constant (pool_at c) (at_index (pool_at c) index) ≡ Ok constant
    → Leads (Memory × Effect) (ConstantOf c index) (constant_value c.program constant c.memory >>= push_value c)
constant_leads c index (IntValue number) e =
    leaf (ConstantOf c index) _
    (IntValue number, e, inl (record { no_text = λ text f. absurd cc; value = Int number; is = refl; same = refl; goes = refl }))
constant_leads c index (LongValue number) e =
    leaf (ConstantOf c index) _
    (LongValue number, e, inl (record { no_text = λ text f. absurd cc; value = Long number; is = refl; same = refl; goes = refl }))
constant_leads c index (StringValue text) e =
    also (ConstantOf c index) (constant_value c.program (StringValue text) c.memory >>= push_value c)
    (λ made h. (StringValue text, e, inr (text, refl, h))) (literal_leads c text (literal_in text c.memory.literals) refl)

pub constant_pushes : ConstantPushes
constant_pushes c index form after effect e =
    (bound (pushed_constant (pool_at c) (at_index (pool_at c) index)) (λ constant. constant_value c.program constant c.memory >>= push_value c)
    (constant_leads c index)).at
    (after, effect) e
