-- Heaps that change, and what stays of its type in them.
use Rattle.std.proofs.Common.{◌≡◌, ◌≢◌, ◌⊎◌, inl, inr, ℕ, zero, suc, ◌≤◌, ◌<◌, Bool, true, false, cond, List, [], ◌∷◌, ◌++◌, length, Option, Some, None, refl, sym, ap, subst, ◌∙◌, arith}
use Rattle.std.specs.Prelude.{slice_get, slice_set, nat_eq}
use Rattle.std.specs.List.{AllByRecursion}
use Rattle.std.proofs.lemmas.Bool.{eq-eqb}
use Rattle.std.proofs.lemmas.Bool.Decides.{eqb_tells}
use Rattle.jv_text.specs.declared.descriptor.FieldTypeOf.{FieldTypeOf}
use Rattle.jv_text.specs.Types.{field_type_of}
use Rattle.jv_text.specs.declared.descriptor.Element.{Element}
use Rattle.jv_text.specs.declared.descriptor.Element.TheVariants as elements
use Rattle.jv_stackmap.specs.declared.verification.VerificationTypeOf.TheVariants as types
use Rattle.jv_stackmap.specs.Types.{FrameType, value_type}
use Rattle.jv_meaning_world.specs.World.{World}
use Rattle.jv_meaning_world.specs.Laws.Order.{IsBelow}
use Rattle.jv_meaning_typing.specs.Named.{current_type}
use Rattle.jv_meaning_machine.specs.Values.{Value}
use Rattle.jv_meaning_machine.specs.Values.Value.{Null, Reference}
use Rattle.jv_meaning_machine.specs.Objects.{FieldKey, Content, Instance, Object, is_constructed, type_of_object}
use Rattle.jv_meaning_machine.specs.Objects.Object.{InstanceOf, ArrayWith}
use Rattle.jv_sound.specs.Values.{IsObject, IsReferenceTo, Fits, FitsDescribed, FitsEntry, Heap, Place, IsFresh, IsThis, FitsIn, HasStack, HasLocals, IsReady}
use Rattle.jv_sound.specs.Later.{entered_of, IsStill, IsLater}
use Rattle.jv_sound.specs.Effects.{after}

-- ---- later heaps

pub same : (d : ℕ) (a : Heap) → IsLater d a a
same d a = record {
  still = λ id o e. record {
    now = o;
    there = e;
    type = refl;
    constructed = λ x. x;
    kept = λ _.
        (refl, refl, refl, refl);
  };
}

pub later : {d : ℕ} {a b c : Heap} → IsLater d a b → IsLater d b c → IsLater d a c
later {d} {a} {b} {c} g k = record { still = λ id o e. one id o (g.still id o e) }
  where
    one : (id : ℕ) (o : Object) → IsStill d a b id o → IsStill d a c id o
    one id o p = two (k.still id p.now p.there)
      where
        two : IsStill d b c id p.now → IsStill d a c id o
        two q = record {
          now = q.now;
          there = q.there;
          type = q.type ∙ p.type;
          constructed = λ x. q.constructed (p.constructed x);
          kept = λ l.
              let u = p.kept l in
              let v = q.kept (subst (λ (n : ℕ). n < d) (sym u.2) l) in
              (v.0 ∙ u.0, v.1 ∙ u.1, v.2 ∙ u.2, v.3 ∙ u.3);
        }

pub weaker : {d e : ℕ} {a b : Heap} → d ≤ e → IsLater e a b → IsLater d a b
weaker le g = record {
  still = λ id o e.
      let p = g.still id o e in
      record { now = p.now; there = p.there; type = p.type; constructed = p.constructed; kept = λ l. p.kept (omega (arith, l, le)) };
}

-- ---- lists of objects

pub get_append : (h more : List Object) (id : ℕ) (o : Object) → slice_get h id ≡ Some o → slice_get (h ++ more) id ≡ Some o
get_append [] more id o e = absurd cc
get_append (x ∷ h) more zero o e = e
get_append (x ∷ h) more (suc id) o e = get_append h more id o e

pub get_behind : (h more : List Object) → slice_get (h ++ more) (length h) ≡ slice_get more 0
get_behind [] more = refl
get_behind (x ∷ h) more = get_behind h more

pub get_set_same : (h : List Object) (id : ℕ) (o q : Object) → slice_get h id ≡ Some o → slice_get (slice_set h id q) id ≡ Some q
get_set_same [] id o q e = absurd cc
get_set_same (x ∷ h) zero o q e = refl
get_set_same (x ∷ h) (suc id) o q e = get_set_same h id o q e

pub get_set_other : (h : List Object) (id j : ℕ) (q : Object) → (j ≡ id → ⊥) → slice_get (slice_set h id q) j ≡ slice_get h j
get_set_other [] id j q n = refl
get_set_other (x ∷ h) zero zero q n = absurd (n refl)
get_set_other (x ∷ h) zero (suc j) q n = refl
get_set_other (x ∷ h) (suc id) zero q n = refl
get_set_other (x ∷ h) (suc id) (suc j) q n = get_set_other h id j q (λ e. n (ap suc e))

pub set_cases : (h : List Object) (id : ℕ) (q : Object) (j : ℕ) (p : Object) → slice_get (slice_set h id q) j ≡ Some p
    → (slice_get h j ≡ Some p) ⊎ (q ≡ p)
set_cases [] id q j p e = inl e
set_cases (x ∷ h) zero q zero p e = inr cc
set_cases (x ∷ h) zero q (suc j) p e = inl e
set_cases (x ∷ h) (suc id) q zero p e = inl e
set_cases (x ∷ h) (suc id) q (suc j) p e = set_cases h id q j p e

-- ---- updates of the ghosts

abbrev pub upd : (ℕ → ℕ) → ℕ → ℕ → ℕ → ℕ
upd f i a j = cond (nat_eq j i) a (f j)

pub upd_same : (f : ℕ → ℕ) (i a : ℕ) → upd f i a i ≡ a
upd_same f i a = rw (eq-eqb i i refl) refl

pub upd_other : (f : ℕ → ℕ) (i a j : ℕ) → (j ≡ i → ⊥) → upd f i a j ≡ f j
upd_other f i a j n = go (eqb_tells j i)
  where
    go : ((nat_eq j i ≡ true) × (j ≡ i)) ⊎ ((nat_eq j i ≡ false) × (j ≢ i)) → upd f i a j ≡ f j
    go (inl e) = absurd (n e.1)
    go (inr e) = rw e.0 refl

-- objects join behind the others
abbrev pub with_more : Heap → List Object → Heap
with_more a more = record a { objects = a.objects ++ more }

pub more_later : (d : ℕ) (a : Heap) (more : List Object) → IsLater d a (with_more a more)
more_later d a more = record {
  still = λ id o x. record {
    now = o;
    there = get_append a.objects more id o x;
    type = refl;
    constructed = λ z. z;
    kept = λ _.
        (refl, refl, refl, refl);
  };
}

-- another object stands in the place of one, and belongs to a depth
abbrev pub with_set : Heap → ℕ → Object → ℕ → Heap
with_set a id q d = record a { objects = slice_set a.objects id q; owner = upd a.owner id d }

pub set_later :
    (e : ℕ) (a : Heap) (id : ℕ) (o q : Object) (d : ℕ) → slice_get a.objects id ≡ Some o → type_of_object q ≡ type_of_object o
    → (is_constructed o ≡ true → is_constructed q ≡ true)
    → (a.owner id < e → (is_constructed q ≡ is_constructed o) × (entered_of q ≡ entered_of o) × (d ≡ a.owner id))
    → IsLater e a (with_set a id q d)
set_later e a id o q d x c dn k = record { still = λ j p y. go j p y (eqb_tells j id) }
  where
    go : (j : ℕ) (p : Object) → slice_get a.objects j ≡ Some p → ((nat_eq j id ≡ true) × (j ≡ id)) ⊎ ((nat_eq j id ≡ false) × (j ≢ id))
        → IsStill e a (with_set a id q d) j p
    go j p y (inr n) = record {
      now = p;
      there = get_set_other a.objects id j q n.1 ∙ y;
      type = refl;
      constructed = λ z. z;
      kept = λ _.
          (refl, refl, upd_other a.owner id d j n.1, refl);
    }
    go j p y (inl n) =
        let s : o ≡ p = cc in
        subst (λ (r : Object). IsStill e a (with_set a id q d) j r) s (subst (λ (i : ℕ). IsStill e a (with_set a id q d) i o) (sym n.1)
        (record {
          now = q;
          there = get_set_same a.objects id o q x;
          type = c;
          constructed = dn;
          kept = λ l. let u = k l in
              (u.0, u.1, upd_same a.owner id d ∙ u.2, refl);
        }))

-- ---- what fits still fits

module _ (w : World) where
  pub object_later : {d : ℕ} {a b : Heap} → IsLater d a b → (t : FrameType) (id : ℕ) → IsObject w a.objects t id → IsObject w b.objects t id
  object_later g t id f =
      let p = g.still id f.object f.there in
      record {
        object = p.now;
        there = p.there;
        constructed = p.constructed f.constructed;
        below = subst
            (λ (y : FieldTypeOf (List ℕ)). IsBelow w (value_type y) t) (sym p.type) f.below;
      }

  pub reference_later : {d : ℕ} {a b : Heap} → IsLater d a b → (t : FrameType) (v : Value) → IsReferenceTo w a.objects t v
      → IsReferenceTo w b.objects t v
  reference_later g t Null f = tt
  reference_later g t (Reference id) f = object_later g t id f
  reference_later g t _ f = absurd f

  pub fits_later : {d : ℕ} {a b : Heap} → IsLater d a b → (t : FrameType) (v : Value) → Fits w a.objects t v → Fits w b.objects t v
  fits_later g types.Top v f = tt
  fits_later g types.Int v f = f
  fits_later g types.Long v f = f
  fits_later g types.Null v f = f
  fits_later g (types.Class name) v f = reference_later g (types.Class name) v f
  fits_later g (types.Array c) v f = reference_later g (types.Array c) v f
  fits_later g _ v f = absurd f

  described_later : {d : ℕ} {a b : Heap} → IsLater d a b → (t : Option (FieldTypeOf (List ℕ))) (v : Value) → FitsDescribed w a.objects t v
      → FitsDescribed w b.objects t v
  described_later g None v f = tt
  described_later g (Some t) v f = fits_later g (value_type t) v f

  pub entry_later : {d : ℕ} {a b : Heap} → IsLater d a b → (entry : FieldKey × Value) → FitsEntry w a.objects entry
      → FitsEntry w b.objects entry
  entry_later g entry f = described_later g (field_type_of entry.0.descriptor) entry.1 f

  pub entries_later : {d : ℕ} {a b : Heap} → IsLater d a b → (content : Content) → AllByRecursion (FitsEntry w a.objects) content
      → AllByRecursion (FitsEntry w b.objects) content
  entries_later g [] f = tt
  entries_later g (entry ∷ more) f = (entry_later g entry f.0, entries_later g more f.1)

  pub values_later : {d : ℕ} {a b : Heap} → IsLater d a b → (t : FrameType) (values : List Value)
      → AllByRecursion (Fits w a.objects t) values → AllByRecursion (Fits w b.objects t) values
  values_later g t [] f = tt
  values_later g t (v ∷ more) f = (fits_later g t v f.0, values_later g t more f.1)

-- ---- in a frame

-- the same frame in another heap
abbrev pub moved : Place → Heap → Place
moved p b = record p { heap = b }

abbrev element_name : Element (List ℕ) → List ℕ
element_name (elements.Class name) = name
element_name (elements.Base base) = []

-- an instance is still one of its class, and in the same state, where it is kept
still_instance : (i : Instance) (now : Object) → type_of_object now ≡ type_of_object (InstanceOf i)
    → (j : Instance) × (now ≡ InstanceOf j) × (j.class ≡ i.class)
still_instance i (InstanceOf j) e = (j, refl, ap (λ (t : FieldTypeOf (List ℕ)). element_name t.element) e)
still_instance i (ArrayWith components values) e =
    let clashing : suc components.dimensions ≡ 0 = ap (λ (t : FieldTypeOf (List ℕ)). t.dimensions) e in
    absurd cc

module _ (p : Place) (b : Heap) (g : IsLater (suc p.depth) p.heap b) where
  fresh_later : (o : ℕ) (v : Value) → IsFresh p o v → IsFresh (moved p b) o v
  fresh_later o v f =
      let s = g.still (p.made o) (InstanceOf f.instance) f.there in
      let k = s.kept (omega (arith, f.owner)) in
      let j = still_instance f.instance s.now s.type in
      record {
        is = f.is;
        instance = j.0;
        there = s.there ∙ ap Some j.1;
        raw = ap is_constructed (sym j.1) ∙ k.0 ∙ f.raw;
        none = ap entered_of (sym j.1) ∙ k.1 ∙ f.none;
        new = f.new ∙ ap Some (sym j.2);
        owner = k.2 ∙ f.owner;
        born = k.3 ∙ f.born;
      }

  this_later : (v : Value) → IsThis p v → IsThis (moved p b) v
  this_later v f =
      let s = g.still f.number (InstanceOf f.instance) f.there in
      let k = s.kept (omega (arith, f.owner)) in
      let j = still_instance f.instance s.now s.type in
      record {
        number = f.number;
        is = f.is;
        receiver = f.receiver;
        instance = j.0;
        there = s.there ∙ ap Some j.1;
        raw = ap is_constructed (sym j.1) ∙ k.0 ∙ f.raw;
        constructor = f.constructor;
        entered = ap entered_of (sym j.1) ∙ k.1 ∙ f.entered;
        below = subst (λ (name : List ℕ). IsBelow p.method.world (types.Class name) (types.Class p.method.site.by.class.name))
            (sym j.2) f.below;
        owner = k.2 ∙ f.owner;
      }

  pub in_later : (t : FrameType) (v : Value) → FitsIn p t v → FitsIn (moved p b) t v
  in_later types.Top v f = tt
  in_later types.Int v f = f
  in_later types.Long v f = f
  in_later types.Null v f = f
  in_later (types.Class name) v f = reference_later p.method.world g (types.Class name) v f
  in_later (types.Array c) v f = reference_later p.method.world g (types.Array c) v f
  in_later (types.Uninitialized o) v f = fresh_later o v f
  in_later types.UninitializedThis v f = this_later v f

  pub stack_later : (ts : List FrameType) (vs : List Value) → HasStack p ts vs → HasStack (moved p b) ts vs
  stack_later [] [] f = tt
  stack_later (t ∷ ts) (v ∷ vs) f = (record { fits = in_later t v f.0.fits; width = f.0.width }, stack_later ts vs f.1)
  stack_later _ _ f = absurd f

  pub locals_later : (ts : List FrameType) (vs : List Value) → HasLocals p ts vs → HasLocals (moved p b) ts vs
  locals_later [] [] f = tt
  locals_later (t ∷ ts) (v ∷ vs) f = (in_later t v f.0, f.1, locals_later ts vs f.2)
  locals_later _ _ f = absurd f

  pub ready_later : (flag : Bool) → IsReady p flag → IsReady (moved p b) flag
  ready_later flag r c = let k = r c in (k.0, k.1, λ e. object_later p.method.world g (types.Class p.method.site.by.class.name) k.0 (k.2 e))

-- whether a receiver is constructed does not depend on depths, nor on what is made
pub ready_any : (p : Place) (b : Heap) (made : ℕ → ℕ) {d : ℕ} → IsLater d p.heap b → (flag : Bool) → IsReady p flag
    → IsReady (after p b made) flag
ready_any p b made g flag r c = let k = r c in (k.0, k.1, λ e. object_later p.method.world g (current_type p.method) k.0 (k.2 e))
