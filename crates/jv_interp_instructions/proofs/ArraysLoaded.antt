-- Loads from arrays, as instructions.
use Rattle.std.proofs.Common.{◌≡◌, ℕ, true, zero, List, refl, sym, subst}
use Rattle.jv_text.specs.declared.descriptor.Base.TheVariants as bases
use Rattle.jv_text.specs.declared.descriptor.Element.{Element}
use Rattle.jv_text.specs.declared.descriptor.Element.TheVariants as elements
use Rattle.jv_text.specs.declared.descriptor.FieldTypeOf.{FieldTypeOf}
use Rattle.jv_stackmap.specs.Types.{FrameType, value_type, width}
use Rattle.jv_stackmap.specs.declared.verification.VerificationTypeOf.TheVariants as types
use Rattle.jv_code.specs.declared.insn.Insn.TheVariants as insns
use Rattle.jv_code.specs.declared.kinds.NumberElement.{NumberElement}
use Rattle.jv_code.specs.declared.kinds.NumberElement.TheVariants as numbers
use Rattle.jv_meaning_typing.specs.FrameChanges.{is_reference}
use Rattle.jv_meaning_machine.specs.Laws.Steps.{ExecutionKeeps}
use Rattle.jv_meaning_machine.specs.Arrays.{holds_by, holds_numbers, holds_references}
use Rattle.jv_interp_words.specs.declared.registers.Registers.{Registers}
use Rattle.jv_interp_heap.specs.ObjectsInBlocks.{Blocks}
use Rattle.jv_interp_held.specs.declared.held.Held.{Held}
use Rattle.jv_interp_held.specs.declared.effect.Effect.{Effect}
use Rattle.jv_interp_held.specs.Executing.{place}
use Rattle.jv_interp_objects.specs.Loads.{CanMeasure, Measures, CanLoad, Loads}
use Rattle.jv_interp_members.specs.Known.{Known}
use Rattle.jv_interp_instructions.specs.Components.{number_words}
use Rattle.jv_interp_instructions.specs.InGuest.{CanExecute, Executed}
use Rattle.jv_interp_instructions.proofs.Grown.{guests, did_same}

pub number_slots : (kind : NumberElement) (type : FieldTypeOf (List ℕ)) → holds_numbers kind type ≡ true → width (value_type type) ≡ number_words kind
number_slots kind type e = by_parts kind type.dimensions type.element e
  where
    by_parts : (kind : NumberElement) (dimensions : ℕ) (element : Element (List ℕ)) → holds_by kind dimensions element ≡ true
        → width (value_type (record { dimensions = dimensions; element = element })) ≡ number_words kind
    by_parts numbers.Int zero (elements.Base bases.Int) e = refl
    by_parts numbers.Long zero (elements.Base bases.Long) e = refl
    by_parts numbers.ByteOrBoolean zero (elements.Base bases.Byte) e = refl
    by_parts numbers.ByteOrBoolean zero (elements.Base bases.Boolean) e = refl
    by_parts numbers.Char zero (elements.Base bases.Char) e = refl
    by_parts numbers.Short zero (elements.Base bases.Short) e = refl
    by_parts kind dimensions element e = absurd cc

one_wide : (t : FrameType) → is_reference t ≡ true → width t ≡ 1
one_wide types.Long e = absurd cc
one_wide _ e = refl

pub reference_slots : (type : FieldTypeOf (List ℕ)) → holds_references type ≡ true → width (value_type type) ≡ 1
reference_slots type e = one_wide (value_type type) e

module _ (kept : ExecutionKeeps) (next : ℕ) (k : Known) (texts : List (List ℕ)) (at : Registers) (words : List ℕ) (held : Held) (blocks : Blocks) where
  pub can_measure : CanExecute insns.ArrayLength next k texts at words held blocks → CanMeasure next at words held blocks
  can_measure h = record {
    texts = texts;
    c = h.c;
    addresses = h.addresses;
    done = h.done;
    below = h.below;
    measures = record { executes = h.executes.executes; guests = guests kept insns.ArrayLength next k texts (place at words held blocks) h.c h.addresses h.done h.below h.executes };
  }

  pub measured :
      (after : Registers) (words_after : List ℕ) (effect : Effect) → Measures next at words held blocks after words_after effect
      → Executed insns.ArrayLength next k texts (place at words held blocks) (place after words_after held blocks) effect
  measured after words_after effect m c addresses done below h =
      did_same kept insns.ArrayLength next k texts (place at words held blocks) c addresses done below h after words_after held effect refl
      (m texts c addresses done below
      (record { executes = h.executes; guests = guests kept insns.ArrayLength next k texts (place at words held blocks) c addresses done below h }))

  pub can_load :
      (kind : NumberElement) → CanExecute (insns.ArrayLoad kind) next k texts at words held blocks → CanLoad (number_words kind) next at words held blocks
  can_load kind h = record {
    texts = texts;
    c = h.c;
    test = holds_numbers kind;
    addresses = h.addresses;
    done = h.done;
    below = h.below;
    loads = record {
      executes = h.executes.executes;
      slots_are = number_slots kind;
      guests = guests kept (insns.ArrayLoad kind) next k texts (place at words held blocks) h.c h.addresses h.done h.below h.executes;
    };
  }

  pub loaded :
      (kind : NumberElement) (after : Registers) (words_after : List ℕ) (effect : Effect) → Loads (number_words kind) next at words held blocks after words_after effect
      → Executed (insns.ArrayLoad kind) next k texts (place at words held blocks) (place after words_after held blocks) effect
  loaded kind after words_after effect m c addresses done below h =
      did_same kept (insns.ArrayLoad kind) next k texts (place at words held blocks) c addresses done below h after words_after held effect refl
      (m texts c (holds_numbers kind) addresses done below
      (record {
        executes = h.executes;
        slots_are = number_slots kind;
        guests = guests kept (insns.ArrayLoad kind) next k texts (place at words held blocks) c addresses done below h;
      }))

  pub can_load_reference : CanExecute insns.ReferenceArrayLoad next k texts at words held blocks → CanLoad 1 next at words held blocks
  can_load_reference h = record {
    texts = texts;
    c = h.c;
    test = holds_references;
    addresses = h.addresses;
    done = h.done;
    below = h.below;
    loads = record {
      executes = h.executes.executes;
      slots_are = reference_slots;
      guests = guests kept insns.ReferenceArrayLoad next k texts (place at words held blocks) h.c h.addresses h.done h.below h.executes;
    };
  }

  pub reference_loaded :
      (after : Registers) (words_after : List ℕ) (effect : Effect) → Loads 1 next at words held blocks after words_after effect
      → Executed insns.ReferenceArrayLoad next k texts (place at words held blocks) (place after words_after held blocks) effect
  reference_loaded after words_after effect m c addresses done below h =
      did_same kept insns.ReferenceArrayLoad next k texts (place at words held blocks) c addresses done below h after words_after held effect refl
      (m texts c holds_references addresses done below
      (record {
        executes = h.executes;
        slots_are = reference_slots;
        guests = guests kept insns.ReferenceArrayLoad next k texts (place at words held blocks) c addresses done below h;
      }))

  pub can_load_as :
      (kind : NumberElement) (n : ℕ) → number_words kind ≡ n → CanExecute (insns.ArrayLoad kind) next k texts at words held blocks
      → CanLoad n next at words held blocks
  can_load_as kind n is h = subst (λ (m : ℕ). CanLoad m next at words held blocks) is (can_load kind h)

  pub loaded_as :
      (kind : NumberElement) (n : ℕ) (after : Registers) (words_after : List ℕ) (effect : Effect) → number_words kind ≡ n
      → Loads n next at words held blocks after words_after effect
      → Executed (insns.ArrayLoad kind) next k texts (place at words held blocks) (place after words_after held blocks) effect
  loaded_as kind n after words_after effect is m =
      loaded kind after words_after effect (subst (λ (i : ℕ). Loads i next at words held blocks after words_after effect) (sym is) m)
