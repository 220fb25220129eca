-- The instructions that store: each throws or begins an initialization and leaves the memory as it is, or stores at the location
-- that it names and goes on.
use Rattle.std.proofs.Common.{◌≡◌, ℕ, ℤ, pos, negsuc, Bool, true, false, List, [], ◌∷◌, Option, Some, None, Ok, Err, refl, sym, ap, subst, ◌∙◌, ◌⊎◌, inl, inr, slice_get, is_some, IsSome, codes, if◌then◌else◌}
use Rattle.jv_text.specs.declared.descriptor.FieldTypeOf.{FieldTypeOf}
use Rattle.jv_text.specs.Types.{field_type_of}
use Rattle.jv_stackmap.specs.declared.verification.VerificationTypeOf.TheVariants as types
use Rattle.jv_stackmap.specs.Types.{FrameType, value_type}
use Rattle.jv_code.specs.declared.kinds.FieldAccess.{FieldAccess}
use Rattle.jv_code.specs.declared.kinds.FieldAccess.TheVariants as access
use Rattle.jv_code.specs.declared.kinds.NumberElement.{NumberElement}
use Rattle.jv_pool.specs.Constants.{MemberReference}
use Rattle.jv_meaning_world.specs.World.{Loaded}
use Rattle.jv_meaning_world.specs.LookUps.{DeclaredField}
use Rattle.jv_meaning_typing.specs.LinkErrors.{OrError, error_class}
use Rattle.jv_meaning_typing.specs.Operands.{field_operand}
use Rattle.jv_meaning_typing.specs.FieldResolution.{resolve_field}
use Rattle.jv_meaning_typing.specs.Environment.{current_class}
use Rattle.jv_meaning_typing.specs.Named.{object_class_type, array_with, class_components}
use Rattle.jv_meaning_typing.specs.NumberRules.{element_number}
use Rattle.jv_meaning_machine.specs.Faults.{found, ◌>>=◌}
use Rattle.jv_meaning_machine.specs.Faults.Fault.{OffsetFault, TagFault}
use Rattle.jv_meaning_machine.specs.Values.{Value, narrowed}
use Rattle.jv_meaning_machine.specs.Values.Value.{Int, Long, Null, Reference, Half, Unset}
use Rattle.jv_meaning_machine.specs.Objects.{Object, Instance, key_of, value_at}
use Rattle.jv_meaning_machine.specs.Objects.Object.{InstanceOf, ArrayWith}
use Rattle.jv_meaning_machine.specs.State.{Memory, class_state, is_ready}
use Rattle.jv_meaning_machine.specs.Operands.{object_at, popped_reference, taken_as, taken_reference, taken}
use Rattle.jv_meaning_machine.specs.Effects.{Effect, Context, Outcome, world_at, method_at, site_at, goes_on_with, once_initialized, unless_error, null_pointer, array_index, array_store}
use Rattle.jv_meaning_machine.specs.Effects.Effect.{Goes, Raises, Begins}
use Rattle.jv_meaning_machine.specs.Arithmetic.{as_int}
use Rattle.jv_meaning_machine.specs.Fields.{use_for, described, with_static, put_static, instance_in, can_be_set, with_object, with_field_value, put_field_of, put_field, access_field, use_field}
use Rattle.jv_meaning_machine.specs.Instructions.{store_in_array}
use Rattle.jv_meaning_machine.specs.Arrays.{Components, array_in, at_place, place_for, holds_numbers, holds_references, with_component_stored, store_at, store_number, store_component, can_stand, store_reference_if, store_reference_at, store_reference}
use Rattle.jv_meaning_machine.specs.Laws.Locations.{field_of_object, component_in}
use Rattle.jv_meaning_machine.specs.Laws.Stores.{NamesField, ThrowsLinkError, BeginsFirst, PutsToNull, StoresToNull, StoresOutside, StoresStranger, PutsStatic, PutsField, PutsComponent, PutstaticStores, PutfieldStores, ArrayStoreStores, ReferenceArrayStoreStores}
use Rattle.jv_meaning_machine.proofs.Leading.{Leads, leaf, failing, bound, bound_tested, chained, found_gave}
use Rattle.jv_meaning_machine.proofs.KeptOutcomes.{instance_stands}
use Rattle.jv_meaning_machine.proofs.KeptArrays.{array_stands}
use Rattle.jv_meaning_machine.proofs.TakenItems.{popped_as_gave, taken_gave, int_gave}
use Rattle.jv_meaning_machine.proofs.Stores.{static_stores, field_stores, component_stores}

-- ---- the ways to an instruction on a field

module _ (c : Context) (P : Memory × Effect → Type 0) where
  once_leads :
      (l : Loaded) (done : Outcome) → (is_ready (class_state c.states l) ≡ false → P (c.memory, Begins l))
      → (is_ready (class_state c.states l) ≡ true → Leads (Memory × Effect) P done) → Leads (Memory × Effect) P (once_initialized c l done)
  once_leads l done begins h = by_state (is_ready (class_state c.states l)) refl
    where
      by_state :
          (ready : Bool) → is_ready (class_state c.states l) ≡ ready
          → Leads (Memory × Effect) P (if ready then done else Ok (c.memory, Begins l))
      by_state true e = h e
      by_state false e = leaf P _ (begins e)

  -- what holds where an error is thrown, and of what is done to the field that an index names
  use_field_leads :
      (how : FieldAccess) (index : ℕ) → ((effect : Effect) → ThrowsLinkError c how index effect → P (c.memory, effect))
      → ((d : DeclaredField) (names : NamesField c how index d) → Leads (Memory × Effect) P (access_field c how names.reference d))
      → Leads (Memory × Effect) P (use_field c how index)
  use_field_leads how index fails h =
      bound (found OffsetFault (field_operand (current_class (method_at c)) index))
      (λ reference. unless_error c (resolve_field (world_at c) (site_at c) (use_for how) reference) (access_field c how reference))
      (λ reference e.
      by_resolution reference (found_gave OffsetFault (field_operand (current_class (method_at c)) index) reference e)
      (resolve_field (world_at c) (site_at c) (use_for how) reference) refl)
    where
      by_resolution :
          (reference : MemberReference) → field_operand (current_class (method_at c)) index ≡ Some reference → (o : OrError DeclaredField)
          → resolve_field (world_at c) (site_at c) (use_for how) reference ≡ o
          → Leads (Memory × Effect) P (unless_error c o (access_field c how reference))
      by_resolution reference e (Ok d) f = h d (record { reference = reference; operand = e; resolved = f })
      by_resolution reference e (Err error) f =
          leaf P _
          (fails (Raises (error_class error)) (record { reference = reference; operand = e; error = error; unresolved = f; throws = refl }))

-- ---- putstatic

abbrev StaticPutOf : Context → DeclaredField → Memory × Effect → Type 0
StaticPutOf c d made = ((made.0 ≡ c.memory) × BeginsFirst c d made.1) ⊎ PutsStatic c d made.0 made.1

abbrev StaticPut : Context → ℕ → Memory × Effect → Type 0
StaticPut c index made =
    ((made.0 ≡ c.memory) × ThrowsLinkError c access.PutStatic index made.1)
    ⊎ (d : DeclaredField) × NamesField c access.PutStatic index d × StaticPutOf c d made

put_static_leads :
    (c : Context) (index : ℕ) (d : DeclaredField) → NamesField c access.PutStatic index d → is_ready (class_state c.states d.by) ≡ true
    → Leads (Memory × Effect) (StaticPut c index) (put_static c d)
put_static_leads c index d names ready =
    let stored :
    (type : FieldTypeOf (List ℕ)) (top : Value × List Value) → described d.field.descriptor ≡ Ok type
    → taken_as c.memory.objects (value_type type) c.frame.stack ≡ Ok top → (old : Value)
    → found OffsetFault (value_at (key_of d) c.memory.statics) ≡ Ok old
    → Leads (Memory × Effect) (StaticPut c index) (goes_on_with c (with_static (key_of d) (narrowed type top.0) c.memory) top.1) =
    λ type top e f old g.
    leaf (StaticPut c index) _
    (inr (
      d,
      names,
      inr
          (record {
            ready = ready;
            value = top.0;
            below = top.1;
            stack = taken_gave c.memory.objects (value_type type) c.frame.stack top f;
            type = type;
            described = found_gave OffsetFault (field_type_of d.field.descriptor) type e;
            there = ap is_some (found_gave OffsetFault (value_at (key_of d) c.memory.statics) old g);
            stores = static_stores (key_of d) (narrowed type top.0) c.memory;
            goes = refl;
          }),
    )) in
    search (bound, stored)

pub putstatic_stores : PutstaticStores
putstatic_stores c index after effect e =
    (use_field_leads c (StaticPut c index) access.PutStatic index (λ effect fails. inl (refl, fails))
    (λ d names.
    once_leads c (StaticPut c index) d.by _ (λ f. inr (d, names, inl (refl, record { not_ready = f; begins = refl })))
    (λ f. put_static_leads c index d names f))).at
    (after, effect) e

-- ---- putfield

abbrev FieldPutOf : Context → MemberReference → DeclaredField → Memory × Effect → Type 0
FieldPutOf c reference d made = ((made.0 ≡ c.memory) × PutsToNull c made.1) ⊎ PutsField c reference d made.0 made.1

-- on a reference that was taken, below a value of the field's type
put_on :
    (c : Context) (reference : MemberReference) (d : DeclaredField) (type : FieldTypeOf (List ℕ)) → described d.field.descriptor ≡ Ok type
    → (under value : Value) (below : List Value) → c.frame.stack ≡ value ∷ under ∷ below
    → Leads (Memory × Effect) (FieldPutOf c reference d) (put_field_of c reference d under (narrowed type value) below)
put_on c reference d type e (Int number) value below s = failing TagFault
put_on c reference d type e (Long number) value below s = failing TagFault
put_on c reference d type e Null value below s =
    leaf (FieldPutOf c reference d) _ (inl (refl, record { value = value; below = below; stack = s; throws = refl }))
put_on c reference d type e (Reference id) value below s =
    let stored :
    (instance : Instance) → (object_at c.memory.objects id >>= instance_in) ≡ Ok instance → can_be_set c reference id instance ≡ true
    → is_some (value_at (key_of d) instance.fields) ≡ true
    → Leads (Memory × Effect) (FieldPutOf c reference d)
    (goes_on_with c (with_object id (with_field_value (key_of d) (narrowed type value) instance) c.memory) below) =
    λ instance f can g.
    let is : slice_get c.memory.objects id ≡ Some (InstanceOf instance) = instance_stands c.memory.objects id instance f in
    leaf (FieldPutOf c reference d) _
    (inr
    (record {
      value = value;
      object = id;
      below = below;
      stack = s;
      instance = instance;
      object_is = is;
      can_be = can;
      type = type;
      described = found_gave OffsetFault (field_type_of d.field.descriptor) type e;
      there = subst (λ (o : Option Object). IsSome (field_of_object (key_of d) o)) (sym is) g;
      stores = field_stores c.memory id instance (key_of d) (narrowed type value) is;
      goes = refl;
    })) in
    search (bound, bound_tested, stored)
put_on c reference d type e Half value below s = failing TagFault
put_on c reference d type e Unset value below s = failing TagFault

put_field_leads :
    (c : Context) (reference : MemberReference) (d : DeclaredField)
    → Leads (Memory × Effect) (FieldPutOf c reference d) (put_field c reference d)
put_field_leads c reference d =
    let stored :
    (type : FieldTypeOf (List ℕ)) (top under : Value × List Value) → described d.field.descriptor ≡ Ok type
    → taken_as c.memory.objects (value_type type) c.frame.stack ≡ Ok top → popped_reference top.1 ≡ Ok under
    → Leads (Memory × Effect) (FieldPutOf c reference d) (put_field_of c reference d under.0 (narrowed type top.0) under.1) =
    λ type top under e f g.
    put_on c reference d type e under.0 top.0 under.1
    (taken_gave c.memory.objects (value_type type) c.frame.stack top f
    ∙ ap (λ (l : List Value). top.0 ∷ l) (popped_as_gave object_class_type top.1 under g)) in
    search (bound, stored)

abbrev FieldPut : Context → ℕ → Memory × Effect → Type 0
FieldPut c index made =
    ((made.0 ≡ c.memory) × ThrowsLinkError c access.PutField index made.1)
    ⊎ (d : DeclaredField) × (names : NamesField c access.PutField index d) × FieldPutOf c names.reference d made

pub putfield_stores : PutfieldStores
putfield_stores c index after effect e =
    (use_field_leads c (FieldPut c index) access.PutField index (λ effect fails. inl (refl, fails))
    (λ d names. record { at = λ made h. inr (d, names, (put_field_leads c names.reference d).at made h) })).at
    (after, effect) e

-- ---- stores to arrays

abbrev NothingStored : Context → Memory × Effect → Type 0
NothingStored c made = (made.0 ≡ c.memory) × (StoresToNull c made.1 ⊎ StoresOutside c made.1)

abbrev to_null :
    (c : Context) (value : Value) (index : ℤ) (below : List Value) → c.frame.stack ≡ value ∷ Int index ∷ Null ∷ below
    → StoresToNull c (Raises null_pointer)
to_null c value index below s = record { value = value; index = index; below = below; stack = s; throws = refl }

-- an array that was taken, and the operands above it
pub record ArrayTaken (c : Context) (value : Value) (index : ℤ) (id : ℕ) (below : List Value) (array : Components) : Type 0 where
  pub stack : c.frame.stack ≡ value ∷ Int index ∷ Reference id ∷ below
  pub is : slice_get c.memory.objects id ≡ Some (ArrayWith array.0 array.1)

outside :
    (c : Context) (value : Value) (index : ℤ) (id : ℕ) (below : List Value) (array : Components) → ArrayTaken c value index id below array
    → at_place index array.1 ≡ None → StoresOutside c (Raises array_index)
outside c value index id below array h e = record {
  value = value;
  index = index;
  array = id;
  below = below;
  stack = h.stack;
  components = array.0;
  values = array.1;
  array_is = h.is;
  outside = e;
  throws = refl;
}

-- what is done at a place that the array has
put_at :
    (c : Context) (test : FieldTypeOf (List ℕ) → Bool) (value old : Value) (index : ℤ) (id : ℕ) (below : List Value) (array : Components)
    → ArrayTaken c value index id below array → test array.0 ≡ true → at_place index array.1 ≡ Some old
    → (put : PutsComponent c test (with_component_stored id array (place_for index) value c.memory) (Goes c.next c.frame.locals below))
    × (put.components ≡ array.0) × (put.value ≡ value)
put_at c test value old (pos place) id below array h passes f = (
  record {
    value = value;
    place = place;
    array = id;
    below = below;
    stack = h.stack;
    components = array.0;
    values = array.1;
    array_is = h.is;
    passes = passes;
    there = subst (λ (o : Option Object). IsSome (component_in place o)) (sym h.is) (ap is_some f);
    stores = component_stores c.memory id array place value old h.is f;
    goes = refl;
  },
  refl,
  refl,
)
put_at c test value old (negsuc n) id below array h passes f = absurd cc

-- ---- iastore and its kin

abbrev NumberPut : Context → NumberElement → Memory × Effect → Type 0
NumberPut c kind made = NothingStored c made ⊎ PutsComponent c (holds_numbers kind) made.0 made.1

store_at_leads :
    (c : Context) (kind : NumberElement) (value : Value) (index : ℤ) (id : ℕ) (below : List Value) (array : Components) (o : Option Value)
    → ArrayTaken c value index id below array → holds_numbers kind array.0 ≡ true → at_place index array.1 ≡ o
    → Leads (Memory × Effect) (NumberPut c kind) (store_at c id array index value below o)
store_at_leads c kind value index id below array None h passes f =
    leaf (NumberPut c kind) _ (inl (refl, inr (outside c value index id below array h f)))
store_at_leads c kind value index id below array (Some old) h passes f =
    leaf (NumberPut c kind) _ (inr (put_at c (holds_numbers kind) value old index id below array h passes f).0)

store_number_leads :
    (c : Context) (kind : NumberElement) (index : ℤ) (value under : Value) (below : List Value)
    → c.frame.stack ≡ value ∷ Int index ∷ under ∷ below
    → Leads (Memory × Effect) (NumberPut c kind) (store_number c kind index value under below)
store_number_leads c kind index value (Int number) below s = failing TagFault
store_number_leads c kind index value (Long number) below s = failing TagFault
store_number_leads c kind index value Null below s = leaf (NumberPut c kind) _ (inl (refl, inl (to_null c value index below s)))
store_number_leads c kind index value (Reference id) below s =
    let stored :
    (array : Components) → (object_at c.memory.objects id >>= array_in) ≡ Ok array → holds_numbers kind array.0 ≡ true
    → Leads (Memory × Effect) (NumberPut c kind) (store_at c id array index value below (at_place index array.1)) =
    λ array e passes.
    store_at_leads c kind value index id below array (at_place index array.1)
    (record { stack = s; is = array_stands c.memory.objects id array e })
    passes refl in
    search (bound, bound_tested, stored)
store_number_leads c kind index value Half below s = failing TagFault
store_number_leads c kind index value Unset below s = failing TagFault

store_component_leads : (c : Context) (kind : NumberElement) → Leads (Memory × Effect) (NumberPut c kind) (store_component c kind)
store_component_leads c kind =
    let stored :
    (top second under : Value × List Value) (index : ℤ) → taken_as c.memory.objects (element_number kind) c.frame.stack ≡ Ok top
    → taken_as c.memory.objects types.Int top.1 ≡ Ok second → as_int second.0 ≡ Ok index
    → taken_reference c.memory.objects second.1 ≡ Ok under
    → Leads (Memory × Effect) (NumberPut c kind) (store_number c kind index top.0 under.0 under.1) =
    λ top second under index e f g h.
    store_number_leads c kind index top.0 under.0 under.1
    (taken_gave c.memory.objects (element_number kind) c.frame.stack top e
    ∙ ap (λ (l : List Value). top.0 ∷ l)
    (taken_gave c.memory.objects types.Int top.1 second f
    ∙ ap (λ (l : List Value). second.0 ∷ l) (taken_gave c.memory.objects object_class_type second.1 under h)
    ∙ ap (λ (v : Value). v ∷ under.0 ∷ under.1) (int_gave second.0 index g))) in
    search (bound, stored)

pub array_store_stores : ArrayStoreStores
array_store_stores c kind after effect e = (store_component_leads c kind).at (after, effect) e

-- ---- aastore, whose operands were taken by their types

abbrev ReferencePut : Context → Memory × Effect → Type 0
ReferencePut c made =
    ((made.0 ≡ c.memory) × (StoresToNull c made.1 ⊎ StoresOutside c made.1 ⊎ StoresStranger c made.1))
    ⊎ (put : PutsComponent c holds_references made.0 made.1) × (can_stand c put.components put.value ≡ Ok true)

stranger :
    (c : Context) (value old : Value) (index : ℤ) (id : ℕ) (below : List Value) (array : Components)
    → ArrayTaken c value index id below array
    → at_place index array.1 ≡ Some old → can_stand c array.0 value ≡ Ok false → StoresStranger c (Raises array_store)
stranger c value old (pos place) id below array h f g = record {
  value = value;
  place = place;
  array = id;
  below = below;
  stack = h.stack;
  components = array.0;
  values = array.1;
  array_is = h.is;
  within = ap is_some f;
  stranger = g;
  throws = refl;
}
stranger c value old (negsuc n) id below array h f g = absurd cc

store_if_leads :
    (c : Context) (value old : Value) (index : ℤ) (id : ℕ) (below : List Value) (array : Components) (test : Bool)
    → ArrayTaken c value index id below array → holds_references array.0 ≡ true → at_place index array.1 ≡ Some old
    → can_stand c array.0 value ≡ Ok test → Leads (Memory × Effect) (ReferencePut c) (store_reference_if c id array index value below test)
store_if_leads c value old index id below array true h passes f can =
    let put = put_at c holds_references value old index id below array h passes f in
    let same : can_stand c put.0.components put.0.value ≡ Ok true =
    ap (λ (type : FieldTypeOf (List ℕ)). can_stand c type put.0.value) put.1 ∙ ap (λ (v : Value). can_stand c array.0 v) put.2 ∙ can in
    leaf (ReferencePut c) _ (inr (put.0, same))
store_if_leads c value old index id below array false h passes f can =
    leaf (ReferencePut c) _ (inl (refl, inr (inr (stranger c value old index id below array h f can))))

store_reference_at_leads :
    (c : Context) (value : Value) (index : ℤ) (id : ℕ) (below : List Value) (array : Components) (o : Option Value)
    → ArrayTaken c value index id below array → holds_references array.0 ≡ true → at_place index array.1 ≡ o
    → Leads (Memory × Effect) (ReferencePut c) (store_reference_at c id array index value below o)
store_reference_at_leads c value index id below array None h passes f =
    leaf (ReferencePut c) _ (inl (refl, inr (inl (outside c value index id below array h f))))
store_reference_at_leads c value index id below array (Some old) h passes f =
    bound (can_stand c array.0 value) (store_reference_if c id array index value below)
    (λ test g. store_if_leads c value old index id below array test h passes f g)

store_reference_leads :
    (c : Context) (under : Value) (index : ℤ) (value : Value) (below : List Value) → c.frame.stack ≡ value ∷ Int index ∷ under ∷ below
    → Leads (Memory × Effect) (ReferencePut c) (store_reference c under index value below)
store_reference_leads c (Int number) index value below s = failing TagFault
store_reference_leads c (Long number) index value below s = failing TagFault
store_reference_leads c Null index value below s = leaf (ReferencePut c) _ (inl (refl, inl (to_null c value index below s)))
store_reference_leads c (Reference id) index value below s =
    let stored :
    (array : Components) → (object_at c.memory.objects id >>= array_in) ≡ Ok array → holds_references array.0 ≡ true
    → Leads (Memory × Effect) (ReferencePut c) (store_reference_at c id array index value below (at_place index array.1)) =
    λ array e passes.
    store_reference_at_leads c value index id below array (at_place index array.1)
    (record { stack = s; is = array_stands c.memory.objects id array e }) passes refl in
    search (bound, bound_tested, stored)
store_reference_leads c Half index value below s = failing TagFault
store_reference_leads c Unset index value below s = failing TagFault

-- three operands that were taken
record AreThree (stack : List Value) (operands : List Value × List Value) : Type 0 where
  pub first : Value
  pub second : Value
  pub third : Value
  pub are : operands.0 ≡ first ∷ second ∷ third ∷ []
  pub stood : stack ≡ third ∷ second ∷ first ∷ operands.1

three_taken :
    (objects : List Object) (a b c : FrameType) (stack : List Value)
    → Leads (List Value × List Value) (AreThree stack) (taken objects (a ∷ b ∷ c ∷ []) stack)
three_taken objects a b c stack =
    let known :
    (top second third : Value × List Value) → taken_as objects c stack ≡ Ok top → taken_as objects b top.1 ≡ Ok second
    → taken_as objects a second.1 ≡ Ok third
    → Leads (List Value × List Value) (AreThree stack) (Ok (third.0 ∷ second.0 ∷ top.0 ∷ [], third.1)) =
    λ top second third e f g.
    leaf (AreThree stack) _
    (record {
      first = third.0;
      second = second.0;
      third = top.0;
      are = refl;
      stood =
          taken_gave objects c stack top e
          ∙ ap (λ (l : List Value). top.0 ∷ l)
          (taken_gave objects b top.1 second f ∙ ap (λ (l : List Value). second.0 ∷ l) (taken_gave objects a second.1 third g));
    }) in
    search (bound, known)

store_in_array_leads :
    (c : Context) (operands : List Value × List Value) → AreThree c.frame.stack operands
    → Leads (Memory × Effect) (ReferencePut c) (store_in_array c operands.0 operands.1)
store_in_array_leads c operands known =
    subst (λ (values : List Value). Leads (Memory × Effect) (ReferencePut c) (store_in_array c values operands.1)) (sym known.are)
    (bound (as_int known.second) (λ index. store_reference c known.first index known.third operands.1)
    (λ index e.
    store_reference_leads c known.first index known.third operands.1
    (known.stood ∙ ap (λ (v : Value). known.third ∷ v ∷ known.first ∷ operands.1) (int_gave known.second index e))))

pub reference_array_store_stores : ReferenceArrayStoreStores
reference_array_store_stores c after effect e =
    (chained (AreThree c.frame.stack) (ReferencePut c)
    (taken c.memory.objects (array_with (class_components (codes "java/lang/Object")) ∷ types.Int ∷ object_class_type ∷ []) c.frame.stack)
    (λ operands. store_in_array c operands.0 operands.1)
    (three_taken c.memory.objects (array_with (class_components (codes "java/lang/Object"))) types.Int object_class_type c.frame.stack)
    (store_in_array_leads c)).at
    (after, effect) e
