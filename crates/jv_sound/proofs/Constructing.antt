-- An `<init>` that is entered: what becomes of its object, of all copies of it, and of everything else.
use Rattle.std.proofs.Common.{◌≡◌, ℕ, suc, Bool, true, false, ◌||◌, List, Option, Some, None, refl, sym, ap, subst, ◌∙◌, arith}
use Rattle.std.specs.Prelude.{⊤, slice_get, if◌then◌else◌}
use Rattle.std.specs.Str.{bytes_eq}
use Rattle.std.proofs.lemmas.Bool.{eqb-true, eq-eqb}
use Rattle.jv_stackmap.specs.declared.verification.VerificationTypeOf.TheVariants as types
use Rattle.jv_stackmap.specs.Types.{FrameType}
use Rattle.jv_meaning_world.specs.World.{Loaded, World, class_named}
use Rattle.jv_meaning_world.specs.Overriding.{Declared}
use Rattle.jv_meaning_typing.specs.Environment.{current_class}
use Rattle.jv_meaning_typing.specs.FrameChanges.{is_same_object}
use Rattle.jv_meaning_typing.specs.MemberRules.{is_that_name}
use Rattle.jv_meaning_machine.specs.Values.{Value}
use Rattle.jv_meaning_machine.specs.Values.Value.{Reference}
use Rattle.jv_meaning_machine.specs.Objects.{Instance, Object}
use Rattle.jv_meaning_machine.specs.Objects.Object.{InstanceOf}
use Rattle.jv_meaning_machine.specs.Calls.{is_superclass_of, can_enter}
use Rattle.jv_meaning_machine.specs.Entering.{entered_on}
use Rattle.jv_sound.specs.Values.{IsObject, Heap, Place, IsFresh, IsThis, FitsIn}
use Rattle.jv_sound.specs.Later.{IsLater}
use Rattle.jv_sound.specs.Effects.{after}
use Rattle.jv_sound.proofs.Logic.{clash}
use Rattle.jv_sound.proofs.Heaps.{with_set, set_later, get_set_other, upd_other, in_later}

-- not the object with this number
abbrev Apart : Place → ℕ → FrameType → Type 0
Apart p id (types.Uninitialized o) = p.made o ≡ id → ⊥
Apart p id types.UninitializedThis = (number : ℕ) → p.receiver ≡ Some number → number ≡ id → ⊥
Apart p id _ = ⊤

-- an object of the type u in this frame, which is not constructed: its copies are those of the type, and nothing else is it
pub record IsSubject (p : Place) (u : FrameType) (id : ℕ) (instance : Instance) : Type 0 where
  pub there : slice_get p.heap.objects id ≡ Some (InstanceOf instance)
  pub raw : instance.constructed ≡ false
  pub owner : p.heap.owner id ≡ p.depth
  pub apart : (t : FrameType) (v : Value) → FitsIn p t v → is_same_object u t ≡ false → Apart p id t
  pub copy : (t : FrameType) (v : Value) → FitsIn p t v → is_same_object u t ≡ true → v ≡ Reference id

same_instance : (objects : List Object) (a b : ℕ) (i j : Instance) → a ≡ b → slice_get objects a ≡ Some (InstanceOf i)
    → slice_get objects b ≡ Some (InstanceOf j) → i.entered ≡ j.entered
same_instance objects a b i j e x y = ap entered (some_same (sym x ∙ ap (slice_get objects) e ∙ y))
  where
    some_same : Some (InstanceOf i) ≡ Some (InstanceOf j) → InstanceOf i ≡ InstanceOf j
    some_same k = cc

    entered : Object → Option (List ℕ)
    entered o = Rattle.jv_sound.specs.Later.entered_of o

same_receiver : (a b : ℕ) → Some a ≡ Some b → a ≡ b
same_receiver a b e = cc

some_none : {A : Type 0} (a : A) → Some a ≡ None → ⊥
some_none a e = absurd cc

pub fresh_subject : (p : Place) (o : ℕ) (v : Value) (f : IsFresh p o v) → IsSubject p (types.Uninitialized o) (p.made o) f.instance
fresh_subject p o v f = record { there = f.there; raw = f.raw; owner = f.owner; apart = apart; copy = copy }
  where
    apart : (t : FrameType) (v : Value) → FitsIn p t v → is_same_object (types.Uninitialized o) t ≡ false → Apart p (p.made o) t
    apart (types.Uninitialized q) v k n = λ e. let s : o ≡ q = sym f.born ∙ ap p.heap.born (sym e) ∙ k.born in clash (sym n ∙ eq-eqb o q s)
    apart types.UninitializedThis v k n = λ number r e.
        let at : k.number ≡ p.made o = same_receiver k.number number (sym k.receiver ∙ r) ∙ e in
        some_none (current_class p.method).name (sym k.entered ∙ same_instance p.heap.objects k.number
        (p.made o) k.instance f.instance at k.there f.there ∙ f.none)
    apart _ v k n = tt

    copy : (t : FrameType) (v : Value) → FitsIn p t v → is_same_object (types.Uninitialized o) t ≡ true → v ≡ Reference (p.made o)
    copy (types.Uninitialized q) v k n = k.is ∙ ap (λ (x : ℕ). Reference (p.made x)) (sym (eqb-true o q n))
    copy _ v k n = absurd (clash n)

pub this_subject : (p : Place) (v : Value) (f : IsThis p v) → IsSubject p types.UninitializedThis f.number f.instance
this_subject p v f = record { there = f.there; raw = f.raw; owner = f.owner; apart = apart; copy = copy }
  where
    apart : (t : FrameType) (v : Value) → FitsIn p t v → is_same_object types.UninitializedThis t ≡ false → Apart p f.number t
    apart (types.Uninitialized q) v k n = λ e.
        some_none (current_class p.method).name (sym f.entered ∙ same_instance p.heap.objects f.number (p.made q) f.instance k.instance
        (sym e) f.there k.there ∙ k.none)
    apart types.UninitializedThis v k n = λ _ _ _. clash (sym n)
    apart _ v k n = tt

    copy : (t : FrameType) (v : Value) → FitsIn p t v → is_same_object types.UninitializedThis t ≡ true → v ≡ Reference f.number
    copy types.UninitializedThis v k n = k.is ∙ ap Reference (same_receiver k.number f.number (sym k.receiver ∙ f.receiver))
    copy _ v k n = absurd (clash n)

-- ---- after it was entered

module _ (p : Place) (u : FrameType) (id : ℕ) (i : Instance) (s : IsSubject p u id i) (d : Declared) where
  abbrev pub begun_heap : Heap
  begun_heap = with_set p.heap id (entered_on d i) (suc p.depth)

  pub begun_later : IsLater p.depth p.heap begun_heap
  begun_later =
      set_later p.depth p.heap id (InstanceOf i) (entered_on d i) (suc p.depth) s.there refl (λ e. absurd (clash (sym s.raw ∙ e)))
      (λ l. absurd (omega (arith, l, s.owner)))

  -- what is not the object is as it was
  unmoved : (t : FrameType) (v : Value) → Apart p id t → FitsIn p t v → FitsIn (after p begun_heap p.made) t v
  unmoved types.Top v n f = tt
  unmoved types.Int v n f = f
  unmoved types.Long v n f = f
  unmoved types.Null v n f = f
  unmoved (types.Class c) v n f = Rattle.jv_sound.proofs.Heaps.reference_later p.method.world begun_later
      (types.Class c) v f
  unmoved (types.Array c) v n f = Rattle.jv_sound.proofs.Heaps.reference_later p.method.world begun_later
      (types.Array c) v f
  unmoved (types.Uninitialized o) v n f = record {
    is = f.is;
    instance = f.instance;
    there = get_set_other p.heap.objects id (p.made o) (entered_on d i) n ∙ f.there;
    raw = f.raw;
    none = f.none;
    new = f.new;
    owner = upd_other p.heap.owner id (suc p.depth) (p.made o) n ∙ f.owner;
    born = f.born;
  }
  unmoved types.UninitializedThis v n f =
      let apart : f.number ≡ id → ⊥ = n f.number f.receiver in
      record {
        number = f.number;
        is = f.is;
        receiver = f.receiver;
        instance = f.instance;
        there = get_set_other p.heap.objects id f.number (entered_on d i) apart ∙ f.there;
        raw = f.raw;
        constructor = f.constructor;
        entered = f.entered;
        below = f.below;
        owner = upd_other p.heap.owner id (suc p.depth) f.number apart ∙ f.owner;
      }

  -- a handler finds top in the place of all copies
  pub dropped_one : (t : FrameType) (v : Value) → FitsIn p t v → FitsIn (after p begun_heap p.made)
      (if is_same_object u t then types.Top else t) v
  dropped_one t v f = go (is_same_object u t) refl
    where
      go : (b : Bool) → is_same_object u t ≡ b → FitsIn (after p begun_heap p.made) (if b then types.Top else t) v
      go true e = tt
      go false e = unmoved t v (s.apart t v f e) f

  -- and where the constructors have returned, all copies are of the class
  pub done_one : (name : List ℕ) (c : Heap) → IsLater (suc p.depth) begun_heap c → IsObject p.method.world c.objects (types.Class name) id
      → (t : FrameType) (v : Value) → FitsIn p t v → FitsIn (after p c p.made) (if is_same_object u t then types.Class name else t) v
  done_one name c l h t v f = go (is_same_object u t) refl
    where
      go : (b : Bool) → is_same_object u t ≡ b → FitsIn (after p c p.made) (if b then types.Class name else t) v
      go true e = subst (λ (x : Value). Rattle.jv_sound.specs.Values.IsReferenceTo p.method.world c.objects
          (types.Class name) x) (sym (s.copy t v f e)) h
      go false e = in_later (after p begun_heap p.made) c l t v (unmoved t v (s.apart t v f e) f)

-- ---- the order in which constructors are entered

pub order_fresh : (world : World) (i : Instance) (name : List ℕ) → i.constructed ≡ false → i.entered ≡ None → bytes_eq name i.class ≡ true
    → can_enter world i name ≡ true
order_fresh world i name raw none e = rw (raw, none) e

pub order_this : (world : World) (i : Instance) (l : Loaded) (name : List ℕ) → i.constructed ≡ false → i.entered ≡ Some l.class.name
    → class_named world l.class.name ≡ Some l
    → (bytes_eq name l.class.name || is_that_name name l.class.super_class) ≡ true → can_enter world i name ≡ true
order_this world i l name raw entered named e =
    rw (raw, entered) (subst (λ (o : Option Loaded). (bytes_eq name l.class.name || is_superclass_of world name o) ≡ true) (sym named) e)
