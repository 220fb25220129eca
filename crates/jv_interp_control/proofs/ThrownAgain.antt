-- What is thrown has a class, which its object tells (JVMS 2.10; own).
use Rattle.std.proofs.Common.{◌≡◌, ℕ, ◌+◌, ◌-◌, ◌^◌, ◌<◌, min, true, List, Option, Some, Ok, codes, length, get_or, slice_get, refl, sym, ap, subst, ◌∙◌, arith, [], ◌∷◌}
use Rattle.jv_store.specs.Content.{words_at}
use Rattle.jv_meaning_world.specs.FileContent.{FileContent}
use Rattle.jv_class.specs.Class.{Class}
use Rattle.jv_meaning_world.specs.Library.{with_library}
use Rattle.jv_meaning_world.specs.World.{World, world_of}
use Rattle.jv_meaning_machine.specs.Faults.{OrFault, ◌>>=◌}
use Rattle.jv_meaning_machine.specs.Faults.Fault.{ReferenceFault}
use Rattle.jv_meaning_machine.specs.Objects.{Instance, Object, is_at_or_below}
use Rattle.jv_meaning_machine.specs.Objects.Object.{InstanceOf, ArrayWith}
use Rattle.jv_meaning_machine.specs.Operands.{object_at}
use Rattle.jv_meaning_machine.specs.Fields.{instance_in}
use Rattle.jv_meaning_machine.specs.State.{Program, Memory, ThrowPlace, Control}
use Rattle.jv_meaning_machine.specs.Throws.{Thrown, thrown, thrown_once_more}
use Rattle.jv_interp_words.proofs.Gave.{bound_gave, found_gave}
use Rattle.jv_interp_heap.specs.ObjectsInBlocks.{Blocks, HasNumber, InstanceStands}
use Rattle.jv_interp_held.specs.declared.held.Held.{Held}
use Rattle.jv_interp_held.specs.HeldInWords.{MemoryStands}
use Rattle.jv_interp_control.specs.declared.throwing.Thrown.{Thrown as ThrownInWords}
use Rattle.jv_interp_control.specs.ControlStands.{PlaceStands}
use Rattle.jv_interp_control.specs.Inside.Walking.{ThrownStands, with_throws}

same_some : {A : Type 0} (x y : A) → Some x ≡ Some y → x ≡ y
same_some x y e = cc

-- an ExceptionInInitializerError is an Error
pub initializer_error :
    (library : List Class) (contents : List FileContent)
    → is_at_or_below (world_of (with_library library) contents) (codes "java/lang/ExceptionInInitializerError") (codes "java/lang/Error") ≡ true
initializer_error [] contents = refl
initializer_error (c ∷ library) contents = refl

-- ---- the machine's throw of what was made

pub record IsThrown (place : Option ThrowPlace) (control : Control) (made : Memory × ℕ) (t : Thrown) : Type 0 where
  pub instance : Instance
  pub there : slice_get made.0.objects made.1 ≡ Some (InstanceOf instance)
  pub is : record { object = made.1; class = instance.class; memory = made.0; control = thrown_once_more instance.class place control } ≡ t

pub is_thrown : (place : Option ThrowPlace) (control : Control) (made : Memory × ℕ) (t : Thrown) → thrown place control made ≡ Ok t → IsThrown place control made t
is_thrown place control made t e =
    let parts =
    bound_gave (object_at made.0.objects made.1 >>= instance_in)
    (λ (instance : Instance). Ok (record { object = made.1; class = instance.class; memory = made.0; control = thrown_once_more instance.class place control })) t e in
    let object = bound_gave (object_at made.0.objects made.1) instance_in parts.0 parts.1 in
    let there = found_gave ReferenceFault (slice_get made.0.objects made.1) object.0 object.1 in
    record {
      instance = parts.0;
      there = there ∙ ap Some (by_object object.0 parts.0 object.2);
      is = same_thrown (record { object = made.1; class = parts.0.class; memory = made.0; control = thrown_once_more parts.0.class place control }) t parts.2;
    }
  where
    by_object : (o : Object) (instance : Instance) → instance_in o ≡ Ok instance → o ≡ InstanceOf instance
    by_object (InstanceOf own) instance e = let same : own ≡ instance = cc in ap InstanceOf same
    by_object (ArrayWith components values) instance e = absurd cc

    same_thrown : (a b : Thrown) → ◌≡◌ {A = OrFault Thrown} (Ok a) (Ok b) → a ≡ b
    same_thrown a b e = cc

-- ---- the first word of its block is its class's number

module _ (world : World) (texts : List (List ℕ)) (memory : Memory) (addresses : List ℕ) (held : Held) (blocks : Blocks) (object address : ℕ) (instance : Instance)
    (h : MemoryStands world texts memory addresses held blocks) (at : slice_get addresses object ≡ Some address)
    (there : slice_get memory.objects object ≡ Some (InstanceOf instance)) where
  instance_stands : InstanceStands world addresses instance (words_at blocks address)
  instance_stands = h.objects.each object address (InstanceOf instance) at there

  pub has_word : 0 < length (words_at blocks address)
  has_word = let e = ap length instance_stands.words_are in omega (arith, e)

  pub class_word : (class : ℕ) → get_or (words_at blocks address) 0 0 ≡ class → HasNumber world instance.class class
  class_word class e =
      let is : instance_stands.number ≡ class = ap (λ (ws : List ℕ). get_or ws 0 0) (sym instance_stands.words_are) ∙ e in
      subst (λ (n : ℕ). HasNumber world instance.class n) is instance_stands.class

-- ---- so what is thrown stands

pub thrown_stands :
    (program : Program) (texts : List (List ℕ)) (place : Option ThrowPlace) (control : Control) (made : Memory × ℕ) (t : Thrown) (addresses : List ℕ) (held : Held)
    (blocks : Blocks) (now : ThrownInWords) (throws : ℕ) → MemoryStands program.world texts made.0 addresses held blocks → slice_get addresses made.1 ≡ Some now.address
    → IsThrown place control made t → get_or (words_at blocks now.address) 0 0 ≡ now.class → control.throws ≡ throws
    → now.throws ≡ min (throws + 1) (2 ^ 64 - 1) → PlaceStands program.world place now.place
    → ThrownStands program texts t addresses now held blocks
thrown_stands program texts place control made t addresses held blocks now throws h at e word throws_are more there =
    subst (λ (t : Thrown). ThrownStands program texts t addresses now held blocks) e.is
    (record {
      object = at;
      class = class_word program.world texts made.0 addresses held blocks made.1 now.address e.instance h at e.there now.class word;
      throws = ap (λ (n : ℕ). min (n + 1) (2 ^ 64 - 1)) throws_are ∙ sym more;
      last = refl;
      place = there;
      memory = h;
    })

pub thrown_control :
    (place : Option ThrowPlace) (control : Control) (made : Memory × ℕ) (t : Thrown) → IsThrown place control made t → t.control ≡ with_throws t.control control
thrown_control place control made t e = subst (λ (t : Thrown). t.control ≡ with_throws t.control control) e.is refl
