-- anewarray and multianewarray on words, as far as the making: what the machine does stands afterwards.
use Rattle.std.proofs.Common.{◌≡◌, ℕ, zero, suc, ◌-◌, ◌≤◌, Bool, true, false, not, nat_le, List, Option, Some, None, Ok, Err, refl, sym, ap, subst, ◌∙◌, arith}
use Rattle.std.specs.Prelude.{Result, IsTrue}
use Rattle.std.proofs.lemmas.Bool.{and_parts}
use Rattle.std.proofs.lemmas.Grind.{common_steps}
use Rattle.jv_text.specs.declared.descriptor.FieldTypeOf.{FieldTypeOf}
use Rattle.jv_text.specs.Name.{is_array_name}
use Rattle.jv_text.specs.Descriptor.{is_floating}
use Rattle.jv_text.specs.Types.{field_type_of, TypesAgree}
use Rattle.jv_stackmap.specs.Types.{component}
use Rattle.jv_meaning_world.specs.World.{World}
use Rattle.jv_meaning_typing.specs.LinkErrors.{error_class}
use Rattle.jv_meaning_typing.specs.Operands.{class_operand}
use Rattle.jv_meaning_typing.specs.ClassResolution.{ResolvedClass, resolve_class}
use Rattle.jv_meaning_typing.specs.ClassResolution.ResolvedClass.{ClassOf, ArrayOf}
use Rattle.jv_meaning_typing.specs.Environment.{current_class}
use Rattle.jv_meaning_machine.specs.Faults.{tested, ◌>>=◌}
use Rattle.jv_meaning_machine.specs.Faults.Fault.{OffsetFault}
use Rattle.jv_meaning_machine.specs.State.{Memory}
use Rattle.jv_meaning_machine.specs.Effects.{Effect, Context, Outcome, world_at, method_at, site_at, unless_error, class_constant, resolved_type}
use Rattle.jv_meaning_machine.specs.Arrays.{has_dimensions, names_array, array_resolved, new_reference_array, new_multi_array}
use Rattle.jv_link.specs.Seen.{place_of}
use Rattle.jv_interp_words.proofs.Gave.{bound_gave, found_gave, tested_gave}
use Rattle.jv_interp_heap.specs.ObjectsInBlocks.{IsArrayWord}
use Rattle.jv_interp_held.specs.declared.effect.Effect.TheVariants as effects
use Rattle.jv_interp_held.specs.Executing.{Place, Executes}
use Rattle.jv_interp_held.specs.Growing.{DidIn}
use Rattle.jv_interp_heap.specs.SystemNumbers.{IsGuestsWorld}
use Rattle.jv_interp_members.specs.Known.{Known, IsKnown}
use Rattle.jv_interp_members.proofs.Sites.{at_place}
use Rattle.jv_interp_members.proofs.Called.{unless_raised, unless_next}
use Rattle.jv_interp_objects.specs.Arrays.{array_of, MakingArray as MakingOne}
use Rattle.jv_interp_objects.specs.NestedArrays.{arrays_of, HoldsArrays, MakingArrays as MakingMany}
use Rattle.jv_interp_objects.proofs.Went.{raises_in}
use Rattle.jv_interp_objects.specs.declared.types.NumberedType.{NumberedType}
use Rattle.jv_interp_objects.specs.Types.{IsOfType}
use Rattle.jv_interp_objects.specs.Named.{NamesClass, IsTypeOf, Names, IsNamed}
use Rattle.jv_interp_objects.specs.Making.{MakingArray, MakingArrays}
use Rattle.jv_interp_objects.specs.Inside.Slots.{HasSlots, inner_type, IsSlots}
use Rattle.jv_interp_objects.proofs.ArraySlots.{array_text, reference_slots, holds_arrays}
use Rattle.jv_interp_objects.proofs.NoFloatingArrays.{names_no_floating_array}
use Rattle.jv_interp_objects.proofs.Stays.{executed}

-- ---- an instruction that names a class, and what is done with what is resolved

module _ (part : Context → Outcome) (next : ℕ) (k : Known) (here : Place) (texts : List (List ℕ)) (c : Context) (addresses : List ℕ) (done : Memory × Effect) (below : List ℕ)
    (h : Executes part texts next here c addresses done below) (known : IsKnown k c) (index : ℕ) (text : List ℕ)
    (operand : class_operand (current_class (method_at c)) index ≡ Some text) (next_part : ResolvedClass → Outcome)
    (does : unless_error c (resolve_class (world_at c) (site_at c) None text) next_part ≡ Ok done) where
  guests : IsGuestsWorld c.program.world
  guests = subst (λ (w : World). IsGuestsWorld w) (sym known.world) known.guests

  names_so : NamesClass k.world k.site index
  names_so = record { s = c.frame.method.site; text = text; seen = known.site; operand = operand }

  resolves :
      (answer : Result NumberedType ℕ) → IsNamed k.world k.site index answer
      → Names c.program.world (resolve_class c.program.world c.frame.method.site None text) answer
  resolves answer clause =
      subst (λ (w : World). Names w (resolve_class w c.frame.method.site None text) answer) (sym known.world)
      (clause c.frame.method.site text known.site operand)

  fails : (number : ℕ) → IsNamed k.world k.site index (Err number) → DidIn here.blocks texts here (effects.Raises number) c addresses done below
  fails number clause =
      let e = resolves (Err number) clause in
      raises_in part texts next here c addresses done below h (error_class e.error) number
      (unless_raised c (resolve_class (world_at c) (site_at c) None text) next_part e.error done e.is does) e.numbered

  record Resolved (numbers : NumberedType) : Type 0 where
    pub type : IsTypeOf c.program.world (resolve_class c.program.world c.frame.method.site None text) numbers
    pub goes : next_part type.resolved ≡ Ok done

  resolved : (numbers : NumberedType) → IsNamed k.world k.site index (Ok numbers) → Resolved numbers
  resolved numbers clause =
      let t = resolves (Ok numbers) clause in
      record { type = t; goes = unless_next c (resolve_class (world_at c) (site_at c) None text) next_part t.resolved done t.is does }

-- ---- anewarray

pub record ArrayOfConstant (c : Context) (index : ℕ) (done : Memory × Effect) : Type 0 where
  pub text : List ℕ
  pub operand : class_operand (current_class (method_at c)) index ≡ Some text
  pub does : unless_error c (resolve_class (world_at c) (site_at c) None text) (λ resolved. array_of (resolved_type resolved) c) ≡ Ok done

of_constant : (c : Context) (index : ℕ) (done : Memory × Effect) → new_reference_array c index ≡ Ok done → ArrayOfConstant c index done
of_constant c index done e =
    let text =
    bound_gave (class_constant c index)
    (λ (t : List ℕ). unless_error c (resolve_class (world_at c) (site_at c) None t) (λ resolved. array_of (resolved_type resolved) c)) done e in
    record {
      text = text.0;
      operand = found_gave OffsetFault (class_operand (current_class (method_at c)) index) text.0 text.1;
      does = text.2;
    }

module _ (index next : ℕ) (k : Known) (here : Place) (texts : List (List ℕ)) (c : Context) (addresses : List ℕ) (done : Memory × Effect) (below : List ℕ)
    (h : MakingArray index next k here texts c addresses done below) where
  abbrev part : Context → Outcome
  part = λ c. new_reference_array c index

  it : ArrayOfConstant c index done
  it = of_constant c index done h.executes.does

  abbrev next_part : ResolvedClass → Outcome
  next_part = λ resolved. array_of (resolved_type resolved) c

  pub names : NamesClass k.world k.site index
  names = names_so part next k here texts c addresses done below h.executes h.known index it.text it.operand next_part it.does

  pub failed : (number : ℕ) → IsNamed k.world k.site index (Err number) → DidIn here.blocks texts here (effects.Raises number) c addresses done below
  failed = fails part next k here texts c addresses done below h.executes h.known index it.text it.operand next_part it.does

  pub record Made (numbers : NumberedType) (word : ℕ) : Type 0 where
    pub components : FieldTypeOf (List ℕ)
    pub making : MakingOne word 1 next here texts c components addresses done below

  pub made :
      (numbers : NumberedType) → IsNamed k.world k.site index (Ok numbers) → (word : ℕ)
      → ((w : World) (type : FieldTypeOf (List ℕ)) → IsOfType w type numbers → IsArrayWord w type word) → Made numbers word
  made numbers clause word tells =
      let r = resolved part next k here texts c addresses done below h.executes h.known index it.text it.operand next_part it.does numbers clause in
      let slots = reference_slots c.program.world c.frame.method.site.by it.text r.type.resolved r.type.is in
      record {
        components = resolved_type r.type.resolved;
        making =
            record {
              executes = executed part texts next here c addresses done below h.executes (array_of (resolved_type r.type.resolved)) r.goes;
              type = tells c.program.world (resolved_type r.type.resolved) r.type.of_type;
              slots_are = slots.width_is;
              cells_are = slots.cells_are;
              guests =
                  guests part next k here texts c addresses done below h.executes h.known index it.text it.operand next_part it.does;
            };
      }

-- ---- multianewarray

pub record ArraysOfConstant (c : Context) (index dimensions : ℕ) (done : Memory × Effect) : Type 0 where
  pub text : List ℕ
  pub operand : class_operand (current_class (method_at c)) index ≡ Some text
  pub names : names_array dimensions text ≡ true
  pub does :
      unless_error c (resolve_class (world_at c) (site_at c) None text)
      (λ resolved. array_resolved resolved >>= λ type. arrays_of dimensions (component type) c) ≡ Ok done

many_of_constant : (c : Context) (index dimensions : ℕ) (done : Memory × Effect) → new_multi_array c index dimensions ≡ Ok done → ArraysOfConstant c index dimensions done
many_of_constant c index dimensions done e =
    let text =
    bound_gave (class_constant c index)
    (λ (t : List ℕ).
    tested OffsetFault (names_array dimensions t) t >>= λ text.
    unless_error c (resolve_class (world_at c) (site_at c) None text)
    (λ resolved. array_resolved resolved >>= λ type. arrays_of dimensions (component type) c)) done e in
    let named =
    bound_gave (tested OffsetFault (names_array dimensions text.0) text.0)
    (λ (t : List ℕ).
    unless_error c (resolve_class (world_at c) (site_at c) None t)
    (λ resolved. array_resolved resolved >>= λ type. arrays_of dimensions (component type) c)) done text.2 in
    let kept = tested_gave OffsetFault (names_array dimensions text.0) text.0 named.0 named.1 in
    record {
      text = named.0;
      operand = found_gave OffsetFault (class_operand (current_class (method_at c)) index) text.0 text.1 ∙ ap Some kept.1;
      names = subst (λ (t : List ℕ). names_array dimensions t ≡ true) kept.1 kept.0;
      does = named.2;
    }

-- what is resolved is an array
is_array : (r : ResolvedClass) (type : FieldTypeOf (List ℕ)) → array_resolved r ≡ Ok type → r ≡ ArrayOf type
is_array (ClassOf l) type e = absurd cc
is_array (ArrayOf other) type e = cc

enough_dimensions : (dimensions : ℕ) (text : List ℕ) (type : FieldTypeOf (List ℕ)) → names_array dimensions text ≡ true → field_type_of text ≡ Some type → dimensions ≤ type.dimensions
enough_dimensions dimensions text type names e =
    let parts = and_parts (is_array_name text) (has_dimensions dimensions (field_type_of text)) names in
    let has : nat_le dimensions type.dimensions ≡ true =
    subst (λ (o : Option (FieldTypeOf (List ℕ))). has_dimensions dimensions o ≡ true) e parts.1 in
    grind (arith, common_steps, has)

module _ (index dimensions next : ℕ) (k : Known) (here : Place) (texts : List (List ℕ)) (c : Context) (addresses : List ℕ) (done : Memory × Effect) (below : List ℕ)
    (h : MakingArrays index dimensions next k here texts c addresses done below) where
  abbrev many_part : Context → Outcome
  many_part = λ c. new_multi_array c index dimensions

  many : ArraysOfConstant c index dimensions done
  many = many_of_constant c index dimensions done h.executes.does

  abbrev many_next : ResolvedClass → Outcome
  many_next = λ resolved. array_resolved resolved >>= λ type. arrays_of dimensions (component type) c

  pub many_names : NamesClass k.world k.site index
  many_names =
      names_so many_part next k here texts c addresses done below h.executes h.known index many.text many.operand many_next many.does

  pub many_failed : (number : ℕ) → IsNamed k.world k.site index (Err number) → DidIn here.blocks texts here (effects.Raises number) c addresses done below
  many_failed = fails many_part next k here texts c addresses done below h.executes h.known index many.text many.operand many_next many.does

  -- the array's type
  pub record IsArray (numbers : NumberedType) : Type 0 where
    pub type : FieldTypeOf (List ℕ)
    pub of_type : IsOfType c.program.world type numbers
    pub enough : dimensions ≤ type.dimensions
    pub no_floating : TypesAgree → is_floating type ≡ false
    pub does : arrays_of dimensions (component type) c ≡ Ok done

  pub array : (numbers : NumberedType) → IsNamed k.world k.site index (Ok numbers) → IsArray numbers
  array numbers clause =
      let r =
      resolved many_part next k here texts c addresses done below h.executes h.known index many.text many.operand many_next many.does numbers clause in
      let type = bound_gave (array_resolved r.type.resolved) (λ (t : FieldTypeOf (List ℕ)). arrays_of dimensions (component t) c) done r.goes in
      let is = is_array r.type.resolved type.0 type.1 in
      let text = array_text c.program.world c.frame.method.site.by many.text type.0 (r.type.is ∙ ap (λ (x : ResolvedClass). Ok x) is) in
      let at = (at_place k.world (place_of k.site) c.frame.method.site h.known.site).class in
      record {
        type = type.0;
        of_type = subst (λ (x : ResolvedClass). IsOfType c.program.world (resolved_type x) numbers) is r.type.of_type;
        enough = enough_dimensions dimensions many.text type.0 many.names text.1;
        no_floating =
            λ agree.
            let supported = names_no_floating_array k.world h.known.guests k.site.class index c.frame.method.site.by many.text at many.operand in
            not_true (is_floating type.0) ((supported.array text.0).field type.0 ((agree.field many.text type.0).1 text.1));
        does = type.2;
      }
    where
      not_true : (b : Bool) → IsTrue (not b) → b ≡ false
      not_true true e = absurd cc
      not_true false e = refl

  pub some_array : (numbers : NumberedType) → IsNamed k.world k.site index (Ok numbers) → dimensions ≤ numbers.dimensions
  some_array numbers clause = let a = array numbers clause in let e = a.of_type.dimensions in let n = a.enough in omega (arith, e, n)

  holds :
      (slots : ℕ) (type : FieldTypeOf (List ℕ)) (n : ℕ) → 1 ≤ n → n ≤ type.dimensions → HasSlots (inner_type type n) slots
      → HoldsArrays slots n (component type)
  holds slots type zero some less h = absurd (omega (arith, some))
  holds slots type (suc m) some less h =
      let fewer : type.dimensions - suc m ≡ type.dimensions - 1 - m = omega arith in
      holds_arrays slots type.element m (type.dimensions - 1) (omega (arith, less))
      (subst (λ (d : ℕ). HasSlots (record { dimensions = d; element = type.element }) slots) fewer h)

  pub record ManyMade (slots word : ℕ) : Type 0 where
    pub components : FieldTypeOf (List ℕ)
    pub making : MakingMany word slots dimensions next here texts c components addresses done below

  pub many_made :
      (numbers : NumberedType) → IsNamed k.world k.site index (Ok numbers) → 1 ≤ dimensions → TypesAgree → (slots word : ℕ)
      → IsSlots numbers dimensions slots
      → ((w : World) (type : FieldTypeOf (List ℕ)) → IsOfType w type (record { dimensions = numbers.dimensions - 1; element = numbers.element })
      → IsArrayWord w type word)
      → ManyMade slots word
  many_made numbers clause some agree slots word wide tells =
      let a = array numbers clause in
      record {
        components = component a.type;
        making =
            record {
              executes =
                  executed many_part texts next here c addresses done below h.executes (arrays_of dimensions (component a.type)) a.does;
              type =
                  tells c.program.world (component a.type)
                  (record { dimensions = ap (λ (n : ℕ). n - 1) a.of_type.dimensions; element = a.of_type.element });
              holds =
                  holds slots a.type dimensions some a.enough (wide c.program.world a.type a.of_type (a.no_floating agree) a.enough);
              guests =
                  guests many_part next k here texts c addresses done below h.executes h.known index many.text many.operand many_next many.does;
            };
      }
