-- That an `<init>` is entered is noted in its object, and changes no word (JVMS 2.9).
use Rattle.std.proofs.Common.{◌≡◌, ℕ, zero, suc, List, [], ◌∷◌, Some, length, refl, sym, subst, append-nil, slice_get, slice_set}
use Rattle.jv_store.specs.Content.{words_at}
use Rattle.jv_meaning_world.specs.World.{World}
use Rattle.jv_meaning_world.specs.Overriding.{Declared}
use Rattle.jv_meaning_machine.specs.Objects.{Instance}
use Rattle.jv_meaning_machine.specs.Objects.Object.{InstanceOf}
use Rattle.jv_meaning_machine.specs.State.{Memory}
use Rattle.jv_meaning_machine.specs.Fields.{with_object}
use Rattle.jv_meaning_machine.specs.Entering.{entered_on}
use Rattle.jv_interp_heap.specs.ObjectsInBlocks.{Blocks, InstanceStands, ObjectStands, ObjectsStand}
use Rattle.jv_interp_heap.proofs.Changed.{object_changed}
use Rattle.jv_interp_held.specs.declared.held.Held.{Held}
use Rattle.jv_interp_held.specs.HeldInWords.{MemoryStands}
use Rattle.jv_interp_control.proofs.MemoryJoined.{memory_joined}

-- as long a list has an item at the same place
there_too :
    {A B : Type 0} (xs : List A) (ys : List B) (k : ℕ) (x : A) → slice_get xs k ≡ Some x → length ys ≡ length xs → (y : B) × (slice_get ys k ≡ Some y)
there_too [] ys k x e same = absurd cc
there_too (a ∷ xs) [] k x e same = absurd cc
there_too (a ∷ xs) (b ∷ ys) zero x e same = (b, refl)
there_too (a ∷ xs) (b ∷ ys) (suc k) x e same = there_too xs ys k x e (less (length ys) (length xs) same)
  where
    less : (m n : ℕ) → suc m ≡ suc n → m ≡ n
    less m n e = cc

instance_noted :
    (world : World) (addresses : List ℕ) (d : Declared) (instance : Instance) (words : List ℕ) → InstanceStands world addresses instance words
    → ObjectStands world addresses (entered_on d instance) words
instance_noted world addresses d instance words h =
    record { number = h.number; class = h.class; few = h.few; fields = h.fields; words_are = h.words_are; stand = h.stand }

pub noted_stands :
    (world : World) (texts : List (List ℕ)) (memory : Memory) (addresses : List ℕ) (held : Held) (blocks : Blocks) (d : Declared) (object : ℕ) (instance : Instance)
    → slice_get memory.objects object ≡ Some (InstanceOf instance) → MemoryStands world texts memory addresses held blocks
    → MemoryStands world texts (with_object object (entered_on d instance) memory) addresses held blocks
noted_stands world texts memory addresses held blocks d object instance there m =
    let address = there_too memory.objects addresses object (InstanceOf instance) there m.objects.count in
    let noted = slice_set memory.objects object (entered_on d instance) in
    let changed : ObjectsStand world noted addresses blocks =
    object_changed world memory.objects addresses blocks blocks object address.0 (InstanceOf instance) (entered_on d instance) (words_at blocks address.0)
    m.objects address.1 there
    (record { own = refl; others = λ other apart. refl; same_greatest = refl; same_lengths = λ other. refl; same_held = refl })
    (instance_noted world addresses d instance (words_at blocks address.0) (m.objects.each object address.0 (InstanceOf instance) address.1 there)) in
    subst (λ (l : List ℕ). MemoryStands world texts (with_object object (entered_on d instance) memory) l held blocks) (append-nil addresses)
    (memory_joined world texts memory addresses [] held held blocks blocks noted memory.cells m
    (subst (λ (l : List ℕ). ObjectsStand world noted l blocks) (sym (append-nil addresses)) changed) refl m.cells)
