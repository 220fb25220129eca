-- newarray, anewarray and multianewarray (JVMS 6.5).
use Rattle.std.proofs.Common.{◌≡◌, ◌⊎◌, inl, inr, ℕ, zero, suc, ◌+◌, ◌-◌, ◌≤◌, ℤ, Bool, true, false, List, [], ◌∷◌, ◌++◌, length, map, replicate, Option, Some, None, Ok, Err, refl, sym, ap, subst, ◌∙◌, arith}
use Rattle.std.specs.Prelude.{IsTrue, nat_lt, nat_le, pos, negsuc}
use Rattle.std.specs.List.{AllByRecursion, list_any}
use Rattle.std.proofs.Common.{leb-true, ◌&&◌}
use Rattle.jv_format.specs.Format as rules_format
use Rattle.jv_text.specs.declared.descriptor.FieldTypeOf.{FieldTypeOf}
use Rattle.jv_text.specs.Name.{is_array_name}
use Rattle.jv_text.specs.Types.{field_type_of}
use Rattle.jv_stackmap.specs.declared.verification.VerificationTypeOf.TheVariants as types
use Rattle.jv_stackmap.specs.Types.{FrameType, component}
use Rattle.jv_stackmap.specs.Frames.{Frame as TypesOf}
use Rattle.jv_code.specs.declared.insn.Insn.TheVariants as insns
use Rattle.jv_code.specs.declared.kinds.ElementType.{ElementType}
use Rattle.jv_code.specs.declared.kinds.ElementType.TheVariants as element_types
use Rattle.jv_code.specs.Insns.{Instruction}
use Rattle.jv_code.specs.Successors.{falls_through}
use Rattle.jv_meaning_world.proofs.Order.{below_is_reflexive}
use Rattle.jv_meaning_typing.specs.LinkErrors.{OrError, error_class}
use Rattle.jv_meaning_typing.specs.Operands.{class_operand}
use Rattle.jv_meaning_typing.specs.ClassResolution.{ResolvedClass, resolve_text}
use Rattle.jv_meaning_typing.specs.ClassResolution.ResolvedClass.{ArrayOf}
use Rattle.jv_meaning_world.specs.Laws.Order.{IsBelow, has_loadable_element}
use Rattle.jv_meaning_typing.specs.Environment.{current_class}
use Rattle.jv_meaning_typing.specs.FrameChanges.{with_stack, taken_as_all, exchanged}
use Rattle.jv_meaning_typing.specs.Named.{array_with, named_type, when}
use Rattle.jv_meaning_typing.specs.NumberRules.{new_array_type}
use Rattle.jv_meaning_machine.specs.Faults.{found, tested, ◌>>=◌}
use Rattle.jv_meaning_machine.specs.Faults.Fault.{OffsetFault}
use Rattle.jv_meaning_machine.specs.Values.{Value}
use Rattle.jv_meaning_machine.specs.Values.Value.{Reference}
use Rattle.jv_meaning_machine.specs.Objects.{Object}
use Rattle.jv_meaning_machine.specs.Objects.Object.{ArrayWith}
use Rattle.jv_meaning_machine.specs.State.{Memory}
use Rattle.jv_meaning_machine.specs.Costs.{paid, array_cells, arrays_cells}
use Rattle.jv_meaning_machine.specs.Arithmetic.{as_int}
use Rattle.jv_meaning_machine.specs.Arrays.{arrays_made, push_arrays, make_array, base_of, base_components, is_negative_count, count_of, make_arrays_if, make_arrays, has_dimensions, names_array, array_resolved}
use Rattle.jv_meaning_machine.specs.Operands.{taken, taken_as}
use Rattle.jv_meaning_machine.specs.Effects.{Outcome, unless_error, negative_size, resolved_type}
use Rattle.jv_sound.specs.Values.{Zip, Fits, Heap, HasStack}
use Rattle.jv_sound.specs.Sound.{IsSort}
use Rattle.jv_sound.proofs.Logic.{clash, then2, then1, then_holds, handed_on}
use Rattle.jv_sound.proofs.Types.{sort_item}
use Rattle.jv_sound.proofs.Heaps.{with_more, more_later, moved, stack_later}
use Rattle.jv_sound.proofs.Memories.{more_typed, paid_is}
use Rattle.jv_sound.proofs.Taking.{taken_one, taken_all}
use Rattle.jv_sound.proofs.Pure.{agrees_from, one_ok, int_ok}
use Rattle.jv_sound.proofs.ResolvedTypes.{IsResolvedArray, IsResolvedClass, resolved_text, resolved_components}
use Rattle.jv_sound.proofs.MadeArrays.{Stands, made_first, made_typed, get_after}
use Rattle.jv_sound.proofs.Ways.{Setting, IsSet, world_of, program_of, memory_of, context_of, here, Does, By, Sound, KeepsLocals, goes_with_ok, raises_ok, raised_ok, lacks_ok, anyway, by_table}

module _ (x : Setting) (h : IsSet x) where
  -- ---- arrays join, and the first of them is pushed

  abbrev made : FieldTypeOf (List ℕ) → List ℕ → List Object
  made c counts = arrays_made c counts (length x.heap.objects)

  abbrev with_made : FieldTypeOf (List ℕ) → List ℕ → Heap
  with_made c counts = with_more x.heap (made c counts)

  made_stand : (c : FieldTypeOf (List ℕ)) (counts : List ℕ) → Stands (x.heap.objects ++ made c counts) (length x.heap.objects)
      (made c counts)
  made_stand c counts k o e = get_after x.heap.objects (made c counts) k o e

  -- as a value of its own type, or of one above it
  pushes :
      (insn : Instruction) (c above : FieldTypeOf (List ℕ)) (counts : List ℕ) (S : List FrameType) (s : List Value) (cells : ℕ)
      → IsTrue (falls_through insn) → 1 ≤ length counts → length counts ≤ suc c.dimensions
      → IsTrue (has_loadable_element (world_of x) c.element) → IsBelow (world_of x) (types.Array c) (types.Array above) → HasStack (here x) S s
      → Does x insn (with_stack x.given (types.Array above ∷ S)) (push_arrays (context_of x insn) c counts s
      (Some (record (memory_of x) { cells = cells })))
  pushes insn c above counts S s cells falls some deep loadable below hs =
      let first = made_first (program_of x) (x.heap.objects ++ made c counts) counts c (length x.heap.objects) some (made_stand c counts) in
      goes_with_ok x h insn (types.Array above ∷ S) (Reference (length x.heap.objects) ∷ s) (with_made c counts)
      (record (memory_of x) { objects = x.heap.objects ++ made c counts; cells = cells }) falls
      (more_later (suc x.depth) x.heap (made c counts)) refl
      (more_typed (program_of x) x.heap (memory_of x) (made c counts) cells refl h.typed
      (λ k o e. made_typed (program_of x) (x.heap.objects ++ made c counts) counts c (length x.heap.objects) deep loadable
      (made_stand c counts) k o e)) (
        sort_item (moved (here x) (with_made c counts)) (types.Array above) (Reference (length x.heap.objects)) tt
            (record {
              object = ArrayWith c first.0;
              there = first.1;
              constructed = refl;
              below = below;
            }),
        stack_later (here x) (with_made c counts) (more_later (suc x.depth) x.heap (made c counts)) S s hs,
      )

  pays :
      (insn : Instruction) (c above : FieldTypeOf (List ℕ)) (counts : List ℕ) (S : List FrameType) (s : List Value) (cells : ℕ)
      → IsTrue (falls_through insn) → KeepsLocals x insn → 1 ≤ length counts → length counts ≤ suc c.dimensions
      → IsTrue (has_loadable_element (world_of x) c.element) → IsBelow (world_of x) (types.Array c) (types.Array above) → HasStack (here x) S s
      → Does x insn (with_stack x.given (types.Array above ∷ S)) (push_arrays (context_of x insn) c counts s (paid cells (memory_of x)))
  pays insn c above counts S s cells falls keeps some deep loadable below hs = by_cells (paid cells (memory_of x)) refl
    where
      by_cells : (o : Option Memory) → paid cells (memory_of x) ≡ o
          → Does x insn (with_stack x.given (types.Array above ∷ S)) (push_arrays (context_of x insn) c counts s o)
      by_cells None e = lacks_ok x h insn (with_stack x.given (types.Array above ∷ S)) keeps
      by_cells (Some left) e =
          subst (λ (m : Memory). Does x insn (with_stack x.given (types.Array above ∷ S)) (push_arrays (context_of x insn) c counts s (Some m)))
          (sym (paid_is (program_of x) cells (memory_of x) left e))
          (pushes insn c above counts S s (x.rest.cells - cells) falls some deep loadable below hs)

  -- one array
  pub makes_below : (insn : Instruction) (c above : FieldTypeOf (List ℕ)) (count : ℤ) (S : List FrameType) (s : List Value)
      → IsTrue (falls_through insn) → KeepsLocals x insn → IsTrue (has_loadable_element (world_of x) c.element)
      → IsBelow (world_of x) (types.Array c) (types.Array above) → HasStack (here x) S s
      → Does x insn (with_stack x.given (types.Array above ∷ S)) (make_array (context_of x insn) c count s)
  makes_below insn c above (negsuc n) S s falls keeps loadable below hs =
      raises_ok x h insn (with_stack x.given (types.Array above ∷ S)) negative_size refl keeps
  makes_below insn c above (pos count) S s falls keeps loadable below hs =
      pays insn c above (count ∷ []) S s (array_cells c count) falls keeps (omega arith) (one_deep c.dimensions) loadable below hs
    where
      one_deep : (d : ℕ) → 1 ≤ suc d
      one_deep d = omega arith

  makes : (insn : Instruction) (c : FieldTypeOf (List ℕ)) (count : ℤ) (S : List FrameType) (s : List Value) → IsTrue (falls_through insn)
      → KeepsLocals x insn → IsTrue (has_loadable_element (world_of x) c.element) → HasStack (here x) S s
      → Does x insn (with_stack x.given (types.Array c ∷ S)) (make_array (context_of x insn) c count s)
  makes insn c count S s falls keeps loadable hs =
      makes_below insn c c count S s falls keeps loadable (below_is_reflexive (world_of x) (types.Array c)) hs

  -- ---- newarray

  pub new_array_ok : (element : ElementType) → Sound x (insns.NewArray element)
  new_array_ok element =
      by_table x h (insns.NewArray element) (types.Int ∷ []) (new_array_type element ∷ []) (tt, tt) (λ S values s f hs.
      then_holds (then_holds (one_ok (Fits (world_of x) x.heap.objects) types.Int values f) (λ v g. int_ok v g)) (λ count _.
      subst (λ (t : FrameType). Does x (insns.NewArray element) (with_stack x.given (t ∷ S))
      (make_array (context_of x (insns.NewArray element)) (base_components (base_of element)) count s)) (same_type element)
      (makes (insns.NewArray element) (base_components (base_of element)) count S s refl refl refl hs)))
    where
      same_type : (element : ElementType) → types.Array (base_components (base_of element)) ≡ new_array_type element
      same_type element_types.Boolean = refl
      same_type element_types.Char = refl
      same_type element_types.Byte = refl
      same_type element_types.Short = refl
      same_type element_types.Int = refl
      same_type element_types.Long = refl

  -- ---- anewarray

  -- the rule's type, once its operand names one
  module _ (insn : Instruction) (index : ℕ) (keeps : KeepsLocals x insn) where
    -- what is resolved goes on
    resolves :
        (text : List ℕ) (rule : Option TypesOf) (next : ResolvedClass → Outcome)
        → ((class : ResolvedClass) → IsResolvedArray (world_of x) text class ⊎ IsResolvedClass (world_of x) text class
        → By x insn rule (next class))
        → By x insn rule (unless_error (context_of x insn) (resolve_text (world_of x) x.frame.method.site.by text) next)
    resolves text rule next k = by_class (resolve_text (world_of x) x.frame.method.site.by text) refl
      where
        by_class : (r : OrError ResolvedClass) → resolve_text (world_of x) x.frame.method.site.by text ≡ r
            → By x insn rule (unless_error (context_of x insn) r next)
        by_class (Ok class) e = k class (resolved_text (world_of x) h.alone x.frame.method.site.by text class e)
        by_class (Err error) e = anyway x h insn rule _ (λ g. raised_ok x h insn g (error_class error) (h.link_errors error) keeps)

  pub new_reference_array_ok : (index : ℕ) → Sound x (insns.NewReferenceArray index)
  new_reference_array_ok index = by_operand (class_operand (current_class x.frame.method) index)
    where
      makes_components : (type : FieldTypeOf (List ℕ)) → IsTrue (has_loadable_element (world_of x) type.element)
          → By x (insns.NewReferenceArray index) (exchanged (world_of x) (types.Int ∷ []) (array_with type ∷ []) x.given)
          (taken_as x.heap.objects types.Int x.frame.stack >>= λ top. as_int top.0 >>= λ count. make_array
          (context_of x (insns.NewReferenceArray index)) type count top.1)
      makes_components type loadable =
          handed_on (taken_as_all (world_of x) (types.Int ∷ []) x.given.stack)
          (λ below. Some (with_stack x.given (array_with type ∷ below))) _
          (then2 (taken_one (here x) h.rooted h.loadable types.Int x.given.stack x.frame.stack tt h.holding.stack) (λ S top f.
          then1 (int_ok top.0 f.0) (λ count _. agrees_from (makes
          (insns.NewReferenceArray index) type count S top.1 refl refl loadable f.1))))

      by_type : (text : List ℕ) (o : Option (FieldTypeOf (List ℕ))) → named_type text ≡ o
          → By x (insns.NewReferenceArray index) (rules_format.◌>>=◌
          (rules_format.◌>>=◌ o (λ type. when (nat_le (type.dimensions + 1) 255) (array_with type)))
          (λ array. exchanged (world_of x) (types.Int ∷ []) (array ∷ []) x.given))
          (unless_error (context_of x (insns.NewReferenceArray index)) (resolve_text (world_of x) x.frame.method.site.by text) (λ resolved.
          taken_as x.heap.objects types.Int x.frame.stack >>= λ top. as_int top.0 >>= λ count. make_array
          (context_of x (insns.NewReferenceArray index)) (resolved_type resolved) count top.1))
      by_type text None e = record { by = tt }
      by_type text (Some type) e = by_limit (nat_le (type.dimensions + 1) 255)
        where
          by_limit : (b : Bool)
              → By x (insns.NewReferenceArray index) (rules_format.◌>>=◌ (when b (array_with type))
              (λ array. exchanged (world_of x) (types.Int ∷ []) (array ∷ []) x.given))
              (unless_error (context_of x (insns.NewReferenceArray index)) (resolve_text (world_of x) x.frame.method.site.by text)
              (λ resolved.
              taken_as x.heap.objects types.Int x.frame.stack >>= λ top. as_int top.0 >>= λ count. make_array
              (context_of x (insns.NewReferenceArray index)) (resolved_type resolved) count top.1))
          by_limit false = record { by = tt }
          by_limit true =
              resolves (insns.NewReferenceArray index) index refl text _ _ (λ class r.
              let known = resolved_components (world_of x) text class type r e in
              subst (λ (c : FieldTypeOf (List ℕ)). By x (insns.NewReferenceArray index)
              (exchanged (world_of x) (types.Int ∷ []) (array_with type ∷ []) x.given)
              (taken_as x.heap.objects types.Int x.frame.stack >>= λ top. as_int top.0 >>= λ count. make_array
              (context_of x (insns.NewReferenceArray index)) c count top.1)) (sym known.0) (makes_components type known.1))

      by_operand : (o : Option (List ℕ))
          → By x (insns.NewReferenceArray index) (rules_format.◌>>=◌
          (rules_format.◌>>=◌ (rules_format.◌>>=◌ o named_type) (λ type. when (nat_le (type.dimensions + 1) 255) (array_with type)))
          (λ array. exchanged (world_of x) (types.Int ∷ []) (array ∷ []) x.given))
          (found OffsetFault o >>= λ text. unless_error (context_of x (insns.NewReferenceArray index))
          (resolve_text (world_of x) x.frame.method.site.by text) (λ resolved.
          taken_as x.heap.objects types.Int x.frame.stack >>= λ top. as_int top.0 >>= λ count. make_array
          (context_of x (insns.NewReferenceArray index)) (resolved_type resolved) count top.1))
      by_operand None = record { by = tt }
      by_operand (Some text) = by_type text (named_type text) refl

  -- ---- multianewarray

  ints : (n : ℕ) → AllByRecursion IsSort (replicate n types.Int)
  ints zero = tt
  ints (suc n) = (tt, ints n)

  counted : (n : ℕ) (values : List Value) → Zip (Fits (world_of x) x.heap.objects) (replicate n types.Int) values → length values ≡ n
  counted zero [] f = refl
  counted zero (v ∷ values) f = absurd f
  counted (suc n) [] f = absurd f
  counted (suc n) (v ∷ values) f = ap suc (counted n values f.1)

  pub new_multi_array_ok : (index dimensions : ℕ) → nat_lt 0 dimensions ≡ true → Sound x (insns.NewMultiArray index dimensions)
  new_multi_array_ok index dimensions some = by_operand (class_operand (current_class x.frame.method) index)
    where
      makes_counts : (c : FieldTypeOf (List ℕ)) (S : List FrameType) (counts s : List Value) → length counts ≡ dimensions
          → dimensions ≤ suc c.dimensions → 1 ≤ dimensions → IsTrue (has_loadable_element (world_of x) c.element) → HasStack (here x) S s
          → (b : Bool) → Does x (insns.NewMultiArray index dimensions) (with_stack x.given (types.Array c ∷ S))
          (make_arrays_if (context_of x (insns.NewMultiArray index dimensions)) c counts s b)
      makes_counts c S counts s many deep least loadable hs true = raises_ok x h (insns.NewMultiArray index dimensions)
          (with_stack x.given (types.Array c ∷ S)) negative_size refl refl
      makes_counts c S counts s many deep least loadable hs false =
          pays (insns.NewMultiArray index dimensions) c c (map count_of counts) S s (arrays_cells c (map count_of counts)) refl refl
          (omega (arith, mapped counts, many, least)) (omega (arith, mapped counts, many, deep)) loadable
          (below_is_reflexive (world_of x) (types.Array c)) hs
        where
          mapped : (vs : List Value) → length (map count_of vs) ≡ length vs
          mapped [] = refl
          mapped (v ∷ vs) = ap suc (mapped vs)

      by_text : (text : List ℕ) (type : FieldTypeOf (List ℕ)) → is_array_name text ≡ true → field_type_of text ≡ Some type → (b : Bool)
          → nat_le dimensions type.dimensions ≡ b
          → By x (insns.NewMultiArray index dimensions)
          (rules_format.◌>>=◌ (when b (array_with (record { dimensions = type.dimensions - 1; element = type.element })))
          (λ array. exchanged (world_of x) (replicate dimensions types.Int) (array ∷ []) x.given))
          (tested OffsetFault b text >>= λ text.
          unless_error (context_of x (insns.NewMultiArray index dimensions)) (resolve_text (world_of x) x.frame.method.site.by text)
          (λ resolved.
          array_resolved resolved >>= λ type. taken x.heap.objects
          (replicate dimensions types.Int) x.frame.stack >>= λ counts. make_arrays (context_of x (insns.NewMultiArray index dimensions))
          (component type) counts.0 counts.1))
      by_text text type array described false e = record { by = tt }
      by_text text type array described true e =
          resolves (insns.NewMultiArray index dimensions) index refl text _ _ (λ class r. by_class class r)
        where
          enough : dimensions ≤ type.dimensions
          enough = leb-true dimensions type.dimensions e

          least : 1 ≤ dimensions
          least = one_at_least dimensions some
            where
              one_at_least : (n : ℕ) → nat_lt 0 n ≡ true → 1 ≤ n
              one_at_least zero k = absurd (clash k)
              one_at_least (suc n) k = omega arith

          deep : dimensions ≤ suc (type.dimensions - 1)
          deep = omega (arith, enough, least)

          by_class : (class : ResolvedClass) → IsResolvedArray (world_of x) text class ⊎ IsResolvedClass (world_of x) text class
              → By x (insns.NewMultiArray index dimensions) (exchanged (world_of x) (replicate dimensions types.Int)
              (array_with (component type) ∷ []) x.given)
              (array_resolved class >>= λ type. taken x.heap.objects
              (replicate dimensions types.Int) x.frame.stack >>= λ counts. make_arrays (context_of x (insns.NewMultiArray index dimensions))
              (component type) counts.0 counts.1)
          by_class class (inr r) = absurd (clash (sym r.plain ∙ array))
          by_class class (inl r) =
              let same : r.type ≡ type = same_type r.type (sym r.described ∙ described) in
              let is : class ≡ ArrayOf type = r.is ∙ ap ArrayOf same in
              let loadable = subst (λ (t : FieldTypeOf (List ℕ)). IsTrue (has_loadable_element (world_of x) t.element)) same r.loadable in
              subst (λ (c : ResolvedClass). By x (insns.NewMultiArray index dimensions)
              (exchanged (world_of x) (replicate dimensions types.Int) (array_with (component type) ∷ []) x.given)
              (array_resolved c >>= λ type. taken x.heap.objects
              (replicate dimensions types.Int) x.frame.stack >>= λ counts. make_arrays (context_of x (insns.NewMultiArray index dimensions))
              (component type) counts.0 counts.1)) (sym is)
              (then2 (taken_all (here x) h.rooted h.loadable (replicate dimensions types.Int) x.given.stack x.frame.stack
              (ints dimensions) h.holding.stack) (λ S counts f.
              agrees_from (makes_counts (component type) S counts.0 counts.1 (counted dimensions counts.0 f.0) deep least loadable f.1
              (list_any is_negative_count counts.0))))
            where
              same_type : (t : FieldTypeOf (List ℕ)) → Some t ≡ Some type → t ≡ type
              same_type t k = cc

      by_described : (text : List ℕ) → is_array_name text ≡ true → (o : Option (FieldTypeOf (List ℕ))) → field_type_of text ≡ o
          → By x (insns.NewMultiArray index dimensions)
          (rules_format.◌>>=◌ (rules_format.◌>>=◌ o (λ type. when (nat_le dimensions type.dimensions)
          (array_with (record { dimensions = type.dimensions - 1; element = type.element }))))
          (λ array. exchanged (world_of x) (replicate dimensions types.Int) (array ∷ []) x.given))
          (tested OffsetFault (has_dimensions dimensions o) text >>= λ text.
          unless_error (context_of x (insns.NewMultiArray index dimensions)) (resolve_text (world_of x) x.frame.method.site.by text)
          (λ resolved.
          array_resolved resolved >>= λ type. taken x.heap.objects
          (replicate dimensions types.Int) x.frame.stack >>= λ counts. make_arrays (context_of x (insns.NewMultiArray index dimensions))
          (component type) counts.0 counts.1))
      by_described text array None e = record { by = tt }
      by_described text array (Some type) e = by_text text type array e (nat_le dimensions type.dimensions) refl

      by_array : (text : List ℕ) (b : Bool) → is_array_name text ≡ b
          → By x (insns.NewMultiArray index dimensions)
          (rules_format.◌>>=◌ (rules_format.◌>>=◌ (rules_format.◌>>=◌ (when b text) field_type_of)
          (λ type. when (nat_le dimensions type.dimensions) (array_with
          (record { dimensions = type.dimensions - 1; element = type.element }))))
          (λ array. exchanged (world_of x) (replicate dimensions types.Int) (array ∷ []) x.given))
          (tested OffsetFault (b && has_dimensions dimensions (field_type_of text)) text >>= λ text.
          unless_error (context_of x (insns.NewMultiArray index dimensions)) (resolve_text (world_of x) x.frame.method.site.by text)
          (λ resolved.
          array_resolved resolved >>= λ type. taken x.heap.objects
          (replicate dimensions types.Int) x.frame.stack >>= λ counts. make_arrays (context_of x (insns.NewMultiArray index dimensions))
          (component type) counts.0 counts.1))
      by_array text false e = record { by = tt }
      by_array text true e = by_described text e (field_type_of text) refl

      by_operand : (o : Option (List ℕ))
          → By x (insns.NewMultiArray index dimensions)
          (rules_format.◌>>=◌ (rules_format.◌>>=◌ o (λ text. rules_format.◌>>=◌
          (rules_format.◌>>=◌ (when (is_array_name text) text) field_type_of)
          (λ type. when (nat_le dimensions type.dimensions) (array_with
          (record { dimensions = type.dimensions - 1; element = type.element })))))
          (λ array. exchanged (world_of x) (replicate dimensions types.Int) (array ∷ []) x.given))
          (found OffsetFault o >>= λ text. tested OffsetFault (names_array dimensions text) text >>= λ text.
          unless_error (context_of x (insns.NewMultiArray index dimensions)) (resolve_text (world_of x) x.frame.method.site.by text) (λ resolved.
          array_resolved resolved >>= λ type. taken x.heap.objects
          (replicate dimensions types.Int) x.frame.stack >>= λ counts. make_arrays (context_of x (insns.NewMultiArray index dimensions))
          (component type) counts.0 counts.1))
      by_operand None = record { by = tt }
      by_operand (Some text) = by_array text (is_array_name text) refl
