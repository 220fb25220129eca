-- Local variables and their types.
use Rattle.std.proofs.Common.{◌≡◌, ℕ, zero, suc, Bool, true, false, List, [], ◌∷◌, length, Option, Some, None, arith}
use Rattle.std.specs.Prelude.{⊤, if◌then◌else◌}
use Rattle.std.specs.Option.{option_map}
use Rattle.std.proofs.lemmas.Bool.{le-leb}
use Rattle.jv_stackmap.specs.declared.verification.VerificationTypeOf.TheVariants as types
use Rattle.jv_stackmap.specs.Types.{FrameType}
use Rattle.jv_meaning_typing.specs.FrameChanges as rules
use Rattle.jv_meaning_machine.specs.Values.{Value}
use Rattle.jv_meaning_machine.specs.Values.Value.{Int, Long, Null, Reference, Half, Unset}
use Rattle.jv_meaning_machine.specs.Frames as machine
use Rattle.jv_meaning_machine.specs.Frames.{without_half}
use Rattle.jv_sound.specs.Values.{IsLong, Place, FitsIn, BeginsHalf, IsPaired, HasLocals}
use Rattle.jv_sound.proofs.Logic.{clash, Alike}

abbrev NotFirst : ℕ → Type 0
NotFirst zero = ⊥
NotFirst (suc i) = ⊤

no_pair : (u : FrameType) (v : Value) (vs more : List Value) → (BeginsHalf (v ∷ vs) → ⊥) → IsPaired u (v ∷ vs) → IsPaired u more
no_pair types.Long v vs more n h = absurd (n h)
no_pair _ v vs more n h = tt

same_pair : (u : FrameType) (v : Value) (vs more : List Value) → IsPaired u (v ∷ vs) → IsPaired u (v ∷ more)
same_pair types.Long Half vs more h = tt
same_pair types.Long _ vs more h = absurd h
same_pair _ v vs more h = tt

module _ (p : Place) where
  -- Half is of no type but top
  half_goes : (t : FrameType) → FitsIn p t Half → FitsIn p t Unset
  half_goes types.Top f = tt
  half_goes types.Null f = absurd cc
  half_goes (types.Uninitialized o) f = absurd (no f.is)
    where
      no : Half ≡ Reference (p.made o) → ⊥
      no e = absurd cc
  half_goes types.UninitializedThis f = absurd (no f.number f.is)
    where
      no : (n : ℕ) → Half ≡ Reference n → ⊥
      no n e = absurd cc
  half_goes _ f = absurd f

  pub without_half_fits : (ts : List FrameType) (vs : List Value) → HasLocals p ts vs → HasLocals p ts (without_half vs)
  without_half_fits [] [] f = tt
  without_half_fits (t ∷ ts) (Half ∷ vs) f = (half_goes t f.0, f.1, f.2)
  without_half_fits (t ∷ ts) (v ∷ vs) f = f
  without_half_fits _ _ f = absurd f

  -- what is stored, and that a long before it stays whole
  record IsStored (index : ℕ) (vs : List Value) (types_after : List FrameType) (after : List Value) : Type 0 where
    fits : HasLocals p types_after after
    pairs : (u : FrameType) → NotFirst index → IsPaired u vs → IsPaired u after

  prepended :
      (i : ℕ) (t : FrameType) (v : Value) (vs : List Value) (r : Option (List FrameType)) (m : Option (List Value)) → FitsIn p t v
      → ((after : List Value) → (NotFirst i → IsPaired t vs → IsPaired t after) → IsPaired t after)
      → Alike (IsStored i vs) r m → Alike (IsStored (suc i) (v ∷ vs)) (option_map (λ rest. t ∷ rest) r) (option_map (λ rest. v ∷ rest) m)
  prepended i t v vs None m f c a = record { by = tt }
  prepended i t v vs (Some ts') None f c a = absurd a.by
  prepended i t v vs (Some ts') (Some vs') f c a =
      record { by = record { fits = (f, c vs' (λ n h. a.by.pairs t n h), a.by.fits); pairs = λ u n h. same_pair u v vs vs' h } }

  -- a long before it is cut
  cut_off :
      (vs : List Value) (n : Value) (r : Option (List FrameType)) (m : Option (List Value)) → (BeginsHalf (n ∷ vs) → ⊥)
      → Alike (IsStored 0 vs) r m
      → Alike (IsStored 1 (n ∷ vs)) (option_map (λ rest. types.Top ∷ rest) r) (option_map (λ rest. Unset ∷ rest) m)
  cut_off vs n None m k a = record { by = tt }
  cut_off vs n (Some ts') None k a = absurd a.by
  cut_off vs n (Some ts') (Some vs') k a = record {
    by = record {
      fits = (tt, tt, a.by.fits);
      pairs = λ u x h. no_pair u n vs
          (Unset ∷ vs') k h;
    };
  }

  module _ (ws : List FrameType) (words : List Value)
      (base : (ts : List FrameType) (vs : List Value) → HasLocals p ts vs
      → Alike (HasLocals p) (rules.stored ws 0 ts) (machine.stored words 0 vs)) where
    base_stored : (vs : List Value) (r : Option (List FrameType)) (m : Option (List Value)) → Alike (HasLocals p) r m
        → Alike (IsStored 0 vs) r m
    base_stored vs None m a = record { by = tt }
    base_stored vs (Some ts') None a = absurd a.by
    base_stored vs (Some ts') (Some vs') a = record { by = record { fits = a.by; pairs = λ u n h. absurd n } }

    -- right behind the first
    second :
        (t : FrameType) (v : Value) (ts : List FrameType) (vs : List Value) → FitsIn p t v → IsPaired t vs → HasLocals p ts vs
        → Alike (IsStored 1 (v ∷ vs)) (rules.stored ws 1 (t ∷ ts)) (machine.stored words 1 (v ∷ vs))
    second types.Long (Long n) ts vs f h more = cut_off vs (Long n) (rules.stored ws 0 ts) (machine.stored words 0 vs) (λ x. x)
        (base_stored vs _ _ (base ts vs more))
    second types.Top (Long n) ts vs f h more = cut_off vs (Long n) (rules.stored ws 0 ts) (machine.stored words 0 vs) (λ x. x)
        (base_stored vs _ _ (base ts vs more))
    second types.Top v ts vs f h more = prepended 0 types.Top v vs (rules.stored ws 0 ts) (machine.stored words 0 vs) f (λ after k. tt)
        (base_stored vs _ _ (base ts vs more))
    second types.Int (Int n) ts vs f h more = prepended 0 types.Int (Int n) vs (rules.stored ws 0 ts) (machine.stored words 0 vs) f
        (λ after k. tt) (base_stored vs _ _ (base ts vs more))
    second types.Null Null ts vs f h more = prepended 0 types.Null Null vs (rules.stored ws 0 ts) (machine.stored words 0 vs) f
        (λ after k. tt) (base_stored vs _ _ (base ts vs more))
    second types.Null _ ts vs f h more = absurd cc
    second (types.Class c) Null ts vs f h more = prepended 0 (types.Class c) Null vs (rules.stored ws 0 ts) (machine.stored words 0 vs) f
        (λ after k. tt) (base_stored vs _ _ (base ts vs more))
    second (types.Class c) (Reference id) ts vs f h more = prepended 0 (types.Class c) (Reference id) vs (rules.stored ws 0 ts)
        (machine.stored words 0 vs) f (λ after k. tt) (base_stored vs _ _ (base ts vs more))
    second (types.Array c) Null ts vs f h more = prepended 0 (types.Array c) Null vs (rules.stored ws 0 ts) (machine.stored words 0 vs) f
        (λ after k. tt) (base_stored vs _ _ (base ts vs more))
    second (types.Array c) (Reference id) ts vs f h more = prepended 0 (types.Array c) (Reference id) vs (rules.stored ws 0 ts)
        (machine.stored words 0 vs) f (λ after k. tt) (base_stored vs _ _ (base ts vs more))
    second (types.Uninitialized o) (Reference id) ts vs f h more = prepended 0 (types.Uninitialized o) (Reference id) vs
        (rules.stored ws 0 ts) (machine.stored words 0 vs) f (λ after k. tt) (base_stored vs _ _ (base ts vs more))
    second types.UninitializedThis (Reference id) ts vs f h more = prepended 0 types.UninitializedThis (Reference id) vs
        (rules.stored ws 0 ts) (machine.stored words 0 vs) f (λ after k. tt) (base_stored vs _ _ (base ts vs more))
    second (types.Uninitialized o) v ts vs f h more = absurd (let e : v ≡ Reference (p.made o) = f.is in cc)
    second types.UninitializedThis v ts vs f h more = absurd (let e : v ≡ Reference f.number = f.is in cc)
    second _ _ ts vs f h more = absurd f

    stored_at : (index : ℕ) (ts : List FrameType) (vs : List Value) → HasLocals p ts vs
        → Alike (IsStored index vs) (rules.stored ws index ts) (machine.stored words index vs)
    stored_at zero ts vs f = base_stored vs _ _ (base ts vs f)
    stored_at (suc zero) [] [] f = record { by = tt }
    stored_at (suc (suc i)) [] [] f = record { by = tt }
    stored_at (suc zero) (t ∷ ts) (v ∷ vs) f = second t v ts vs f.0 f.1 f.2
    stored_at (suc (suc i)) (t ∷ ts) (v ∷ vs) f = prepended (suc i) t v vs (rules.stored ws (suc i) ts)
        (machine.stored words (suc i) vs) f.0 (λ after k. k tt f.1) (stored_at (suc i) ts vs f.2)
    stored_at _ _ _ f = absurd f

    pub stored_fits : (index : ℕ) (ts : List FrameType) (vs : List Value) → HasLocals p ts vs
        → Alike (HasLocals p) (rules.stored ws index ts) (machine.stored words index vs)
    stored_fits index ts vs f = forget _ _ (stored_at index ts vs f)
      where
        forget : (r : Option (List FrameType)) (m : Option (List Value)) → Alike (IsStored index vs) r m → Alike (HasLocals p) r m
        forget None m a = record { by = tt }
        forget (Some r) None a = absurd a.by
        forget (Some r) (Some m) a = record { by = a.by.fits }

  by_room :
      (a b : Bool) (ts : List FrameType) (vs : List Value) → a ≡ true → b ≡ true → HasLocals p ts vs
      → Alike (HasLocals p) (if a then Some ts else None) (if b then Some vs else None)
  by_room true true ts vs e k f = record { by = f }
  by_room false b ts vs e k f = absurd (clash e)
  by_room true false ts vs e k f = absurd (clash k)

  -- one word that is no long
  pub one_base :
      (t : FrameType) (v : Value) → FitsIn p t v → ((after : List Value) → IsPaired t after) → (ts : List FrameType) (vs : List Value)
      → HasLocals p ts vs
      → Alike (HasLocals p) (rules.stored (t ∷ []) 0 ts) (machine.stored (v ∷ []) 0 vs)
  one_base t v f n [] [] h = record { by = tt }
  one_base t v f n (x ∷ ts) (y ∷ vs) h =
      by_room _ _ (t ∷ ts) (v ∷ without_half vs) (le-leb 1 (length (x ∷ ts)) (omega arith)) (le-leb 1 (length (y ∷ vs)) (omega arith))
      (f, n (without_half vs), without_half_fits ts vs h.2)
  one_base t v f n _ _ h = absurd h

  pub long_base :
      (n : Value) → IsLong n → (ts : List FrameType) (vs : List Value) → HasLocals p ts vs
      → Alike (HasLocals p) (rules.stored (types.Long ∷ types.Top ∷ []) 0 ts) (machine.stored (n ∷ Half ∷ []) 0 vs)
  long_base n f [] [] h = record { by = tt }
  long_base n f (x ∷ []) (y ∷ []) h = record { by = tt }
  long_base n f (x ∷ z ∷ ts) (y ∷ w ∷ vs) h =
      by_room _ _ (types.Long ∷ types.Top ∷ ts) (n ∷ Half ∷ without_half vs) (le-leb 2 (length (x ∷ z ∷ ts)) (omega arith))
      (le-leb 2 (length (y ∷ w ∷ vs)) (omega arith))
      (f, tt, (tt, tt, without_half_fits ts vs h.2.2))
  long_base n f (x ∷ []) (y ∷ w ∷ vs) h = absurd h.2
  long_base n f (x ∷ z ∷ ts) (y ∷ []) h = absurd h.2
  long_base n f _ _ h = absurd h
