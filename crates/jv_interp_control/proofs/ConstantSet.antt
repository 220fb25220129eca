-- A static field gets its constant: the machine's next state stands (JVMS 5.5, step 6).
use Rattle.std.proofs.Common.{◌≡◌, ℕ, ◌<◌, List, [], ◌++◌, Option, Some, None, Ok, true, length, sym, ap, subst, ◌∙◌, append-nil, slice_get}
use Rattle.std.specs.Option.{option_map}
use Rattle.jv_text.specs.declared.descriptor.FieldTypeOf.{FieldTypeOf}
use Rattle.jv_text.specs.Types.{field_type_of}
use Rattle.jv_stackmap.specs.Types.{value_type}
use Rattle.jv_class.specs.Class.{InitialValue}
use Rattle.jv_class.specs.Class.InitialValue.{IntValue, LongValue, StringValue}
use Rattle.jv_meaning_world.specs.World.{Loaded, World}
use Rattle.jv_meaning_world.specs.LookUps.{DeclaredField, field_by}
use Rattle.jv_lookups.specs.Places.{field_at, field_in, IsFieldPlace}
use Rattle.jv_link_cache.specs.Places.{IsWordOf}
use Rattle.jv_meaning_machine.specs.Faults.{OrFault, ◌>>=◌}
use Rattle.jv_meaning_machine.specs.Faults.Fault.{OffsetFault}
use Rattle.jv_meaning_machine.specs.Values.{Value, has_type, narrowed}
use Rattle.jv_meaning_machine.specs.Values.Value.{Int, Long, Reference}
use Rattle.jv_meaning_machine.specs.Objects.{key_of}
use Rattle.jv_meaning_machine.specs.State.{Program, Memory, State, state_of}
use Rattle.jv_meaning_machine.specs.Effects.{out_of_memory}
use Rattle.jv_meaning_machine.specs.Fields.{described, with_static}
use Rattle.jv_meaning_machine.specs.Literals.{literal, string_loaded, constant_value}
use Rattle.jv_meaning_machine.specs.Throws.{throw}
use Rattle.jv_meaning_machine.specs.Initialization.{set_field}
use Rattle.jv_interp_words.proofs.Gave.{bound_gave, found_gave}
use Rattle.jv_interp_heap.specs.ObjectsInBlocks.{Blocks}
use Rattle.jv_interp_heap.proofs.Joined.{within}
use Rattle.jv_interp_held.specs.declared.held.Held.{Held}
use Rattle.jv_interp_held.specs.Growing.{Grows}
use Rattle.jv_interp_held.proofs.Growths.{grows_not}
use Rattle.jv_interp_objects.specs.Literals.{FindingLiteral, LiteralGiven, NothingGiven}
use Rattle.jv_interp_objects.specs.Exceptions.{GivesObject}
use Rattle.jv_interp_control.specs.declared.frames.Frames.{Frames}
use Rattle.jv_interp_control.specs.declared.control.Control.{Control}
use Rattle.jv_interp_control.specs.Moves.{Throwing}
use Rattle.jv_interp_control.specs.Standing.{kept, Moves, Reaches}
use Rattle.jv_interp_control.proofs.Unwound.{stand_grown, same_state}
use Rattle.jv_interp_control.specs.Inside.Constants.{Putting, HasPut}
use Rattle.jv_interp_control.specs.Inside.DoingTasks.{Setting}
use Rattle.jv_interp_control.proofs.ConstantsOfFiles.{IsOfType, ConstantFits, constants_fit}

same_some : {A : Type 0} (x y : A) → Some x ≡ Some y → x ≡ y
same_some x y e = cc

module _ (world : World) (names : List (List ℕ)) (class member : ℕ) (program : Program) (s t : State) (addresses : List ℕ) (frames : Frames) (control : Control) (held : Held) (blocks : Blocks)
    (h : Moves world (Setting class member) program names s t addresses (kept frames control held blocks)) where
  abbrev pub d : DeclaredField
  d = field_by h.does.l h.does.f

  pub at_known : field_at program.world (record { class = class; member = member }) ≡ Some d
  at_known =
      ap (λ (o : Option Loaded). Rattle.jv_format.specs.Format.◌>>=◌ o (field_in member)) h.does.class_is ∙ ap (option_map (field_by h.does.l)) h.does.field_is

  pub at_here : field_at world (record { class = class; member = member }) ≡ Some d
  at_here = subst (λ (w : World). field_at w (record { class = class; member = member }) ≡ Some d) h.world_is at_known

  pub class_here : slice_get world class ≡ Some h.does.l
  class_here = subst (λ (w : World). slice_get w class ≡ Some h.does.l) h.world_is h.does.class_is

  pub low : class < length world
  low = within world class h.does.l class_here

  pub is_place : IsFieldPlace world (record { class = class; member = member })
  is_place = record {
    class = low;
    member =
        λ l at.
        subst (λ (x : Loaded). member < length x.class.fields) (same_some h.does.l l (sym class_here ∙ at)) (within h.does.l.class.fields member h.does.f h.does.field_is);
  }

  module _ (word : ℕ) (is_word : (w : World) (x : DeclaredField) → w ≡ world → field_at w (record { class = class; member = member }) ≡ Some x → IsWordOf w x word) where
    pub fit : ConstantFits program.world d h.does.constant word
    fit =
        constants_fit program.world h.guests class member h.does.l h.does.f h.does.constant word h.does.class_is h.does.field_is h.does.initial (is_word program.world d h.world_is at_known)

    pub goes : (constant_value program h.does.constant s.memory >>= set_field program.world s.frames s.control d fit.type s.memory) ≡ Ok t
    goes =
        let type =
        bound_gave (described d.field.descriptor)
        (λ (type : FieldTypeOf (List ℕ)). constant_value program h.does.constant s.memory >>= set_field program.world s.frames s.control d type s.memory) t h.does.does in
        let same : type.0 ≡ fit.type =
        same_some type.0 fit.type (sym (found_gave OffsetFault (field_type_of d.field.descriptor) type.0 type.1) ∙ fit.typed) in
        subst (λ (type : FieldTypeOf (List ℕ)). (constant_value program h.does.constant s.memory >>= set_field program.world s.frames s.control d type s.memory) ≡ Ok t) same type.2

    -- where the constant's value is known, with the objects behind it
    pub value_set :
        (memory : Memory) (value : Value) (more : List ℕ) (held_after : Held) (blocks_after : Blocks) → constant_value program h.does.constant s.memory ≡ Ok (Some (memory, value))
        → HasPut value program.world names memory (addresses ++ more) held_after blocks_after d fit.type → Grows addresses more blocks blocks_after
        → Reaches program names t addresses (kept frames control held blocks) (kept frames control held_after blocks_after)
    value_set memory value more held_after blocks_after e put grows =
        let ends : set_field program.world s.frames s.control d fit.type s.memory (Some (memory, value)) ≡ Ok t =
        subst (λ (o : OrFault (Option (Memory × Value))). (o >>= set_field program.world s.frames s.control d fit.type s.memory) ≡ Ok t) e goes in
        let is = same_state (state_of (with_static (key_of d) (narrowed fit.type value) memory) s.frames s.control) t ends in
        subst (λ (t : State). Reaches program names t addresses (kept frames control held blocks) (kept frames control held_after blocks_after)) is
        (record {
          more = more;
          stands = record {
            frames = stand_grown program addresses more s.frames frames s.control.words h.stands.frames;
            control = h.stands.control;
            memory = put;
          };
          grows = grows;
        })

    pub value_set_alone :
        (value : Value) (held_after : Held) → constant_value program h.does.constant s.memory ≡ Ok (Some (s.memory, value))
        → HasPut value program.world names s.memory addresses held_after blocks d fit.type
        → Reaches program names t addresses (kept frames control held blocks) (kept frames control held_after blocks)
    value_set_alone value held_after e put =
        value_set s.memory value [] held_after blocks e
        (subst (λ (l : List ℕ). HasPut value program.world names s.memory l held_after blocks d fit.type) (sym (append-nil addresses)) put) (grows_not addresses blocks)

    -- ---- an int, a long

    pub putting_int : (number : _) → Some (IntValue number) ≡ h.does.f.initial → Putting word (Int number) program.world names s.memory addresses held blocks d fit.type
    putting_int number is = record {
      stands = h.stands.memory;
      typed = fit.typed;
      begins = fit.begins;
      kind =
          subst (λ (k : InitialValue). IsOfType (value_type fit.type) k)
          (same_some h.does.constant (IntValue number) (sym h.does.initial ∙ sym is)) fit.fits;
    }

    pub putting_long : (number : _) → Some (LongValue number) ≡ h.does.f.initial → Putting word (Long number) program.world names s.memory addresses held blocks d fit.type
    putting_long number is = record {
      stands = h.stands.memory;
      typed = fit.typed;
      begins = fit.begins;
      kind =
          subst (λ (k : InitialValue). IsOfType (value_type fit.type) k)
          (same_some h.does.constant (LongValue number) (sym h.does.initial ∙ sym is)) fit.fits;
    }

    pub constant_is : (k : InitialValue) → Some k ≡ h.does.f.initial → constant_value program h.does.constant s.memory ≡ constant_value program k s.memory
    constant_is k is = ap (λ (k : InitialValue). constant_value program k s.memory) (same_some h.does.constant k (sym h.does.initial ∙ sym is))

    -- ---- a string

    module _ (number : ℕ) (text : List ℕ) (is : Some (StringValue text) ≡ h.does.f.initial) (number_is : slice_get names number ≡ Some text) where
      of_type : (object : ℕ) → has_type (value_type fit.type) (Reference object) ≡ true
      of_type =
          subst (λ (k : InitialValue). IsOfType (value_type fit.type) k)
          (same_some h.does.constant (StringValue text) (sym h.does.initial ∙ sym is)) fit.fits

      pub record Finds : Type 0 where
        pub made : Option (Memory × ℕ)
        pub finding : FindingLiteral number text held blocks names program s.memory addresses made
        pub value_is : constant_value program h.does.constant s.memory ≡ Ok (string_loaded made)

      pub finds : Finds
      finds =
          let all = subst (λ (o : OrFault (Option (Memory × Value))). (o >>= set_field program.world s.frames s.control d fit.type s.memory) ≡ Ok t) (constant_is (StringValue text) is) goes in
          let loaded = bound_gave (constant_value program (StringValue text) s.memory) (set_field program.world s.frames s.control d fit.type s.memory) t all in
          let made = bound_gave (literal program text s.memory) (λ (made : Option (Memory × ℕ)). Ok (string_loaded made)) loaded.0 loaded.1 in
          record {
            made = made.0;
            finding = record { does = made.1; stands = h.stands.memory; number_is = number_is; units = h.does.units; guests = h.guests };
            value_is = constant_is (StringValue text) is ∙ loaded.1 ∙ sym made.2;
          }

      -- it is made or found
      pub record Given (held_after : Held) (blocks_after : Blocks) (address : ℕ) : Type 0 where
        pub made : Memory × ℕ
        pub value_is : constant_value program h.does.constant s.memory ≡ Ok (Some (made.0, Reference made.1))
        pub gives : GivesObject program.world names addresses blocks made held_after blocks_after address
        pub putting : Putting word (Reference made.1) program.world names made.0 (addresses ++ gives.more) held_after blocks_after d fit.type

      pub given :
          (held_after : Held) (blocks_after : Blocks) (address : ℕ)
          → LiteralGiven program.world names addresses held blocks finds.made held_after blocks_after (Some address) → Given held_after blocks_after address
      given held_after blocks_after address g = by_made finds.made finds.value_is g
        where
          by_made :
              (made : Option (Memory × ℕ)) → constant_value program h.does.constant s.memory ≡ Ok (string_loaded made)
              → LiteralGiven program.world names addresses held blocks made held_after blocks_after (Some address) → Given held_after blocks_after address
          by_made None e g = absurd g
          by_made (Some made) e g = record {
            made = made;
            value_is = e;
            gives = g;
            putting = record { stands = g.memory; typed = fit.typed; begins = fit.begins; kind = of_type made.1 };
          }

      -- or its cells are not left
      pub lacking :
          (held_after : Held) (blocks_after : Blocks) → LiteralGiven program.world names addresses held blocks finds.made held_after blocks_after None
          → NothingGiven held held_after blocks blocks_after × (throw program.world s.memory s.frames s.control out_of_memory ≡ Ok t)
      lacking held_after blocks_after g = by_made finds.made finds.value_is g
        where
          by_made :
              (made : Option (Memory × ℕ)) → constant_value program h.does.constant s.memory ≡ Ok (string_loaded made)
              → LiteralGiven program.world names addresses held blocks made held_after blocks_after None
              → NothingGiven held held_after blocks blocks_after × (throw program.world s.memory s.frames s.control out_of_memory ≡ Ok t)
          by_made None e g = (
            g,
            subst (λ (o : OrFault (Option (Memory × Value))). (o >>= set_field program.world s.frames s.control d fit.type s.memory) ≡ Ok t) e goes,
          )
          by_made (Some made) e g = absurd g

      pub then_throws :
          (address : ℕ) → address ≡ held.out_of_memory → throw program.world s.memory s.frames s.control out_of_memory ≡ Ok t
          → Moves world (Throwing address) program names s t addresses (kept frames control held blocks)
      then_throws address at e = record {
        world_is = h.world_is;
        guests = h.guests;
        stands = h.stands;
        does = record { object = out_of_memory; at = h.stands.memory.error_stands ∙ ap Some (sym at); does = e };
      }
