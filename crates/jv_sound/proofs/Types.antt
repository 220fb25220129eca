-- Values of types: which kinds they have, and of which other types they are.
use Rattle.std.proofs.lemmas.Bool.{eqb-true}
use Rattle.std.proofs.Common.{◌≡◌, ℕ, true, ◌==◌, List, Some, Ok, refl, ap, subst, ◌∙◌}
use Rattle.jv_stackmap.specs.declared.verification.VerificationTypeOf.TheVariants as types
use Rattle.jv_stackmap.specs.declared.width.Width.TheVariants.{One, Two}
use Rattle.jv_stackmap.specs.Types.{FrameType}
use Rattle.jv_code.specs.declared.kinds.ValueKind.{ValueKind}
use Rattle.jv_code.specs.declared.kinds.ValueKind.TheVariants as kinds
use Rattle.jv_meaning_world.specs.World.{World}
use Rattle.jv_meaning_world.specs.Flow.{flows}
use Rattle.jv_meaning_world.specs.FrameFlow.{item_flows}
use Rattle.jv_meaning_world.specs.Laws.Order.{IsRooted, is_usable_reference}
use Rattle.jv_meaning_world.proofs.Order.{below_is_kept}
use Rattle.jv_meaning_typing.specs.FrameChanges.{is_of_kind}
use Rattle.jv_meaning_machine.specs.Values.{Value, value_width, has_kind, has_type, is_reference_value}
use Rattle.jv_meaning_machine.specs.Values.Value.{Int, Long, Null, Reference}
use Rattle.jv_meaning_machine.specs.Objects.{Object}
use Rattle.jv_meaning_machine.specs.Operands.{usable_value}
use Rattle.jv_sound.specs.Values.{object_type, IsReferenceTo, IsInt, IsLong, Fits, Place, IsFresh, FitsIn, Item, type_width}
use Rattle.jv_sound.specs.Memory.{AreLoadable}
use Rattle.jv_sound.specs.Sound.{IsSort}
use Rattle.jv_sound.proofs.Logic.{clash}

pub same_number : (o p : ℕ) → (o == p) ≡ true → o ≡ p
same_number o p e = eqb-true o p e

-- ---- kinds

reference_value : (world : World) (objects : List Object) (type : FrameType) (v : Value) → IsReferenceTo world objects type v
    → is_reference_value v ≡ true
reference_value world objects type Null f = refl
reference_value world objects type (Reference id) f = refl
reference_value world objects type _ f = absurd f

int_value : (v : Value) → IsInt v → has_kind kinds.Int v ≡ true
int_value (Int n) f = refl
int_value _ f = absurd f

long_value : (v : Value) → IsLong v → has_kind kinds.Long v ≡ true
long_value (Long n) f = refl
long_value _ f = absurd f

pub kind_fits : (p : Place) (kind : ValueKind) (t : FrameType) (v : Value) → is_of_kind kind t ≡ true → FitsIn p t v
    → has_kind kind v ≡ true
kind_fits p kinds.Int types.Int v e f = int_value v f
kind_fits p kinds.Long types.Long v e f = long_value v f
kind_fits p kinds.Reference types.Null v e f = ap is_reference_value f
kind_fits p kinds.Reference types.UninitializedThis v e f = ap is_reference_value f.is
kind_fits p kinds.Reference (types.Class name) v e f = reference_value p.method.world p.heap.objects (types.Class name) v f
kind_fits p kinds.Reference (types.Array a) v e f = reference_value p.method.world p.heap.objects (types.Array a) v f
kind_fits p kinds.Reference (types.Uninitialized o) v e f = ap is_reference_value f.is
kind_fits p _ _ v e f = absurd (clash e)

pub sort_has_type : (world : World) (objects : List Object) (t : FrameType) (v : Value) → IsSort t → Fits world objects t v
    → has_type t v ≡ true
sort_has_type world objects types.Int v s f = int_value v f
sort_has_type world objects types.Long v s f = long_value v f
sort_has_type world objects types.Null v s f = ap is_reference_value f
sort_has_type world objects (types.Class name) v s f = reference_value world objects (types.Class name) v f
sort_has_type world objects (types.Array a) v s f = reference_value world objects (types.Array a) v f
sort_has_type world objects _ v s f = absurd s

reference_width : (world : World) (objects : List Object) (type : FrameType) (v : Value) → IsReferenceTo world objects type v
    → value_width v ≡ Some One
reference_width world objects type Null f = refl
reference_width world objects type (Reference id) f = refl
reference_width world objects type _ f = absurd f

int_width : (v : Value) → IsInt v → value_width v ≡ Some One
int_width (Int n) f = refl
int_width _ f = absurd f

long_width : (v : Value) → IsLong v → value_width v ≡ Some Two
long_width (Long n) f = refl
long_width _ f = absurd f

pub sort_width : (world : World) (objects : List Object) (t : FrameType) (v : Value) → IsSort t → Fits world objects t v
    → value_width v ≡ Some (type_width t)
sort_width world objects types.Int v s f = int_width v f
sort_width world objects types.Long v s f = long_width v f
sort_width world objects types.Null v s f = ap value_width f
sort_width world objects (types.Class name) v s f = reference_width world objects (types.Class name) v f
sort_width world objects (types.Array a) v s f = reference_width world objects (types.Array a) v f
sort_width world objects _ v s f = absurd s

pub fits_in : (p : Place) (t : FrameType) (v : Value) → Fits p.method.world p.heap.objects t v → FitsIn p t v
fits_in p types.Top v f = tt
fits_in p types.Int v f = f
fits_in p types.Long v f = f
fits_in p types.Null v f = f
fits_in p (types.Class name) v f = f
fits_in p (types.Array a) v f = f
fits_in p _ v f = absurd f

pub fits_out : (p : Place) (t : FrameType) (v : Value) → IsSort t → FitsIn p t v → Fits p.method.world p.heap.objects t v
fits_out p types.Int v s f = f
fits_out p types.Long v s f = f
fits_out p types.Null v s f = f
fits_out p (types.Class name) v s f = f
fits_out p (types.Array a) v s f = f
fits_out p _ v s f = absurd s

pub sort_item : (p : Place) (t : FrameType) (v : Value) → IsSort t → Fits p.method.world p.heap.objects t v → Item p t v
sort_item p t v s f = record { fits = fits_in p t v f; width = sort_width p.method.world p.heap.objects t v s f }

-- what is usable
reference_usable : (world : World) (objects : List Object) (type : FrameType) (v : Value) → IsReferenceTo world objects type v
    → usable_value objects v ≡ Ok v
reference_usable world objects type Null f = refl
reference_usable world objects type (Reference id) f = rw (f.there, f.constructed) refl
reference_usable world objects type _ f = absurd f

null_usable : (objects : List Object) (v : Value) → v ≡ Null → usable_value objects v ≡ Ok v
null_usable objects v f = rw f refl

int_usable : (objects : List Object) (v : Value) → IsInt v → usable_value objects v ≡ Ok v
int_usable objects (Int n) f = refl
int_usable objects _ f = absurd f

long_usable : (objects : List Object) (v : Value) → IsLong v → usable_value objects v ≡ Ok v
long_usable objects (Long n) f = refl
long_usable objects _ f = absurd f

pub sort_usable : (world : World) (objects : List Object) (t : FrameType) (v : Value) → IsSort t → Fits world objects t v
    → usable_value objects v ≡ Ok v
sort_usable world objects types.Int v s f = int_usable objects v f
sort_usable world objects types.Long v s f = long_usable objects v f
sort_usable world objects types.Null v s f = null_usable objects v f
sort_usable world objects (types.Class name) v s f = reference_usable world objects (types.Class name) v f
sort_usable world objects (types.Array a) v s f = reference_usable world objects (types.Array a) v f
sort_usable world objects _ v s f = absurd s

-- a class, an array and null have values
pub usable_sort : (t : FrameType) → is_usable_reference t ≡ true → IsSort t
usable_sort types.Null k = tt
usable_sort (types.Class name) k = tt
usable_sort (types.Array components) k = tt
usable_sort _ k = absurd (clash k)

-- ---- flow

module _ (p : Place) (rooted : IsRooted p.method.world) (loadable : AreLoadable p.method.world p.heap.objects) where
  reference_flows :
      (s t : FrameType) (v : Value) → flows p.method.world s t ≡ true → IsReferenceTo p.method.world p.heap.objects s v
      → IsReferenceTo p.method.world p.heap.objects t v
  reference_flows s t Null e f = tt
  reference_flows s t (Reference id) e f =
      record {
        object = f.object;
        there = f.there;
        constructed = f.constructed;
        below = below_is_kept p.method.world rooted (object_type f.object) s t (loadable id f.object f.there) f.below e;
      }
  reference_flows s t _ e f = absurd f

  null_flows : (t : FrameType) (v : Value) → v ≡ Null → IsReferenceTo p.method.world p.heap.objects t v
  null_flows t v f = rw f tt

  pub flows_fit : (s t : FrameType) (v : Value) → flows p.method.world s t ≡ true → FitsIn p s v → FitsIn p t v
  flows_fit s types.Top v e f = tt
  flows_fit types.Int types.Int v e f = f
  flows_fit types.Long types.Long v e f = f
  flows_fit types.Null types.Null v e f = f
  flows_fit types.Null (types.Class y) v e f = null_flows (types.Class y) v f
  flows_fit types.Null (types.Array b) v e f = null_flows (types.Array b) v f
  flows_fit types.UninitializedThis types.UninitializedThis v e f = f
  flows_fit (types.Uninitialized o) (types.Uninitialized q) v e f = subst (λ (n : ℕ). IsFresh p n v) (same_number o q e) f
  flows_fit (types.Class x) (types.Class y) v e f = reference_flows (types.Class x) (types.Class y) v e f
  flows_fit (types.Array a) (types.Class y) v e f = reference_flows (types.Array a) (types.Class y) v e f
  flows_fit (types.Array a) (types.Array b) v e f = reference_flows (types.Array a) (types.Array b) v e f
  flows_fit _ _ v e f = absurd (clash e)

  -- an item stays one of the same width
  pub item_flows_fit : (s t : FrameType) (v : Value) → item_flows p.method.world s t ≡ true → Item p s v → Item p t v
  item_flows_fit s t v e f = record { fits = flows_fit s t v (flow_of s t e) f.fits; width = f.width ∙ ap Some (same_width s t e) }
    where
      flow_of : (s t : FrameType) → item_flows p.method.world s t ≡ true → flows p.method.world s t ≡ true
      flow_of types.Long types.Long e = refl
      flow_of types.Long _ e = absurd (clash e)
      flow_of _ _ e = e

      same_width : (s t : FrameType) → item_flows p.method.world s t ≡ true → type_width s ≡ type_width t
      same_width types.Long types.Long e = refl
      same_width types.Long _ e = absurd (clash e)
      same_width types.Top types.Long e = absurd (clash e)
      same_width types.Int types.Long e = absurd (clash e)
      same_width types.Null types.Long e = absurd (clash e)
      same_width types.UninitializedThis types.Long e = absurd (clash e)
      same_width (types.Class x) types.Long e = absurd (clash e)
      same_width (types.Array a) types.Long e = absurd (clash e)
      same_width (types.Uninitialized o) types.Long e = absurd (clash e)
      same_width _ _ e = refl
