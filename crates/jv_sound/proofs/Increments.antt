-- iinc: an int takes the place of one, and no type changes.
use Rattle.std.proofs.Common.{◌≡◌, inr, ℕ, zero, suc, ℤ, Bool, true, false, List, [], ◌∷◌, length, Option, Some, None, refl, sym, ap, ◌∙◌, arith}
use Rattle.std.specs.Prelude.{slice_get, nat_le, if◌then◌else◌}
use Rattle.std.specs.Int.{w32, int_wrapping_add}
use Rattle.std.specs.Option.{option_map}
use Rattle.std.proofs.lemmas.Bool.{le-leb}
use Rattle.jv_format.specs.Format as rules
use Rattle.jv_stackmap.specs.declared.verification.VerificationTypeOf.TheVariants as types
use Rattle.jv_stackmap.specs.Types.{FrameType}
use Rattle.jv_code.specs.declared.insn.Insn.TheVariants as insns
use Rattle.jv_code.specs.declared.kinds.IncrementForm.{IncrementForm}
use Rattle.jv_code.specs.declared.kinds.ValueKind.TheVariants as kinds
use Rattle.jv_meaning_typing.specs.Environment.{offset_behind}
use Rattle.jv_meaning_typing.specs.FrameChanges.{is_of_kind}
use Rattle.jv_meaning_typing.specs.Named.{when}
use Rattle.jv_meaning_machine.specs.Values.{Value}
use Rattle.jv_meaning_machine.specs.Values.Value.{Int, Long, Null, Reference, Half, Unset}
use Rattle.jv_meaning_machine.specs.Frames.{stored, without_half}
use Rattle.jv_meaning_machine.specs.Effects.Effect.{Goes}
use Rattle.jv_meaning_machine.specs.Instructions.{increment}
use Rattle.jv_sound.specs.Values.{Place, FitsIn, BeginsHalf, IsPaired, HasLocals}
use Rattle.jv_sound.proofs.Logic.{clash}
use Rattle.jv_sound.proofs.Locals.{without_half_fits}
use Rattle.jv_sound.proofs.Pure.{agrees_from}
use Rattle.jv_sound.proofs.Ways.{Setting, IsSet, here, context_of, By, Sound, stays}

abbrev is_long : Value → Bool
is_long (Long n) = true
is_long _ = false

stored_behind : (words : List Value) (i : ℕ) (v : Value) (vs : List Value) → is_long v ≡ false
    → stored words (suc i) (v ∷ vs) ≡ option_map (λ rest. v ∷ rest) (stored words i vs)
stored_behind words zero (Int n) vs e = refl
stored_behind words zero Null vs e = refl
stored_behind words zero (Reference n) vs e = refl
stored_behind words zero Half vs e = refl
stored_behind words zero Unset vs e = refl
stored_behind words zero (Long n) vs e = absurd (clash (sym e))
stored_behind words (suc i) v vs e = refl

by_room : (b : Bool) (vs : List Value) → b ≡ true → (if b then Some vs else None) ≡ Some vs
by_room true vs e = refl
by_room false vs e = absurd (clash e)

module _ (p : Place) where
  -- an int local
  pub int_at : (index : ℕ) (ts : List FrameType) (vs : List Value) → HasLocals p ts vs → slice_get ts index ≡ Some types.Int
      → (m : ℤ) × (slice_get vs index ≡ Some (Int m))
  int_at index [] [] f e = absurd cc
  int_at (suc i) (t ∷ ts) (v ∷ vs) f e = int_at i ts vs f.2 e
  int_at zero (t ∷ ts) (v ∷ vs) f e = by_type t v f.0 (type_is t e)
    where
      type_is : (t : FrameType) → slice_get (t ∷ ts) 0 ≡ Some types.Int → t ≡ types.Int
      type_is t e = cc

      by_type : (t : FrameType) (v : Value) → FitsIn p t v → t ≡ types.Int → (m : ℤ) × (Some v ≡ Some (Int m))
      by_type types.Int (Int m) f e = (m, refl)
      by_type types.Int _ f e = absurd f
      by_type _ v f e = absurd cc
  int_at index _ _ f e = absurd f

  pub record IsIncremented (index : ℕ) (ts : List FrameType) (n : ℤ) (vs : List Value) : Type 0 where
    pub after : List Value
    pub is : stored (Int n ∷ []) index vs ≡ Some after
    pub fits : HasLocals p ts after
    pub pairs : (u : FrameType) → IsPaired u vs → IsPaired u after

  starts_int : (u : FrameType) (m : ℤ) (vs after : List Value) → IsPaired u (Int m ∷ vs) → IsPaired u after
  starts_int types.Long m vs after h = absurd h
  starts_int _ m vs after h = tt

  same_start : (u : FrameType) (v : Value) (vs after : List Value) → IsPaired u (v ∷ vs) → IsPaired u (v ∷ after)
  same_start types.Long Half vs after h = tt
  same_start types.Long _ vs after h = absurd h
  same_start _ v vs after h = tt

  long_start : (u : FrameType) (n : ℤ) (vs after : List Value) → IsPaired u (Long n ∷ vs) → IsPaired u after
  long_start types.Long n vs after h = absurd h
  long_start _ n vs after h = tt

  -- at the first place
  at_first : (ts : List FrameType) (n m : ℤ) (vs : List Value) → HasLocals p (types.Int ∷ ts) (Int m ∷ vs)
      → IsIncremented 0 (types.Int ∷ ts) n (Int m ∷ vs)
  at_first ts n m vs f = record {
    after = Int n ∷ without_half vs;
    is = by_room (nat_le 1 (length (Int m ∷ vs))) (Int n ∷ without_half vs) (le-leb 1 (length (Int m ∷ vs)) (omega arith));
    fits = (tt, tt, without_half_fits p ts vs f.2);
    pairs = λ u h. starts_int u m vs (Int n ∷ without_half vs) h;
  }

  -- behind one that is no long
  behind_one : (i : ℕ) (t : FrameType) (ts : List FrameType) (n : ℤ) (v : Value) (vs : List Value) → is_long v ≡ false
      → HasLocals p (t ∷ ts) (v ∷ vs) → IsIncremented i ts n vs → IsIncremented (suc i) (t ∷ ts) n (v ∷ vs)
  behind_one i t ts n v vs e f k = record {
    after = v ∷ k.after;
    is = stored_behind (Int n ∷ []) i v vs e ∙ ap (option_map (λ rest. v ∷ rest)) k.is;
    fits = (f.0, k.pairs t f.1, k.fits);
    pairs = λ u h. same_start u v vs k.after h;
  }

  behind_other : (i : ℕ) (t : FrameType) (ts : List FrameType) (n : ℤ) (v : Value) (vs : List Value) → HasLocals p (t ∷ ts) (v ∷ vs)
      → IsIncremented (suc i) ts n vs → IsIncremented (suc (suc i)) (t ∷ ts) n (v ∷ vs)
  behind_other i t ts n v vs f k = record {
    after = v ∷ k.after;
    is = ap (option_map (λ rest. v ∷ rest)) k.is;
    fits = (f.0, k.pairs t f.1, k.fits);
    pairs = λ u h. same_start u v vs k.after h;
  }

  no_half : (ts : List FrameType) (vs : List Value) → HasLocals p ts vs → slice_get ts 0 ≡ Some types.Int → BeginsHalf vs → ⊥
  no_half ts (Half ∷ vs) f e h = let k = int_at 0 ts (Half ∷ vs) f e in absurd (no k.0 k.1)
    where
      no : (m : ℤ) → Some Half ≡ Some (Int m) → ⊥
      no m e = absurd cc
  no_half ts _ f e h = absurd h

  -- right behind a long, which is of no type but top
  behind_long : (t : FrameType) (ts : List FrameType) (n m : ℤ) (vs : List Value) → slice_get ts 0 ≡ Some types.Int
      → HasLocals p (t ∷ ts) (Long m ∷ vs) → IsIncremented 0 ts n vs → IsIncremented 1 (t ∷ ts) n (Long m ∷ vs)
  behind_long types.Top ts n m vs e f k = record {
    after = Unset ∷ k.after;
    is = ap (option_map (λ rest. Unset ∷ rest)) k.is;
    fits = (tt, tt, k.fits);
    pairs = λ u h. long_start u m vs (Unset ∷ k.after) h;
  }
  behind_long types.Long ts n m vs e f k = absurd (no_half ts vs f.2 e f.1)
  behind_long types.Int ts n m vs e f k = absurd f.0
  behind_long types.Null ts n m vs e f k = absurd (let z : Long m ≡ Null = f.0 in cc)
  behind_long types.UninitializedThis ts n m vs e f k = absurd (no f.0.number f.0.is)
    where
      no : (i : ℕ) → Long m ≡ Reference i → ⊥
      no i z = absurd cc
  behind_long (types.Uninitialized o) ts n m vs e f k = absurd (let z : Long m ≡ Reference (p.made o) = f.0.is in cc)
  behind_long (types.Class c) ts n m vs e f k = absurd f.0
  behind_long (types.Array c) ts n m vs e f k = absurd f.0

  pub incremented : (index : ℕ) (ts : List FrameType) (n : ℤ) (vs : List Value) → HasLocals p ts vs → slice_get ts index ≡ Some types.Int
      → IsIncremented index ts n vs
  incremented index [] n [] f e = absurd cc
  incremented zero (t ∷ ts) n (v ∷ vs) f e = by_type t v f (type_is t e)
    where
      type_is : (t : FrameType) → slice_get (t ∷ ts) 0 ≡ Some types.Int → t ≡ types.Int
      type_is t e = cc

      by_type : (t : FrameType) (v : Value) → HasLocals p (t ∷ ts) (v ∷ vs) → t ≡ types.Int → IsIncremented 0 (t ∷ ts) n (v ∷ vs)
      by_type types.Int (Int m) f e = at_first ts n m vs f
      by_type types.Int _ f e = absurd f.0
      by_type _ v f e = absurd cc
  incremented (suc zero) (t ∷ ts) n (Long m ∷ vs) f e = behind_long t ts n m vs e f (incremented zero ts n vs f.2 e)
  incremented (suc zero) (t ∷ ts) n (Int m ∷ vs) f e = behind_one zero t ts n (Int m) vs refl f (incremented zero ts n vs f.2 e)
  incremented (suc zero) (t ∷ ts) n (Null ∷ vs) f e = behind_one zero t ts n Null vs refl f (incremented zero ts n vs f.2 e)
  incremented (suc zero) (t ∷ ts) n (Reference m ∷ vs) f e = behind_one zero t ts n (Reference m) vs refl f (incremented zero ts n vs f.2 e)
  incremented (suc zero) (t ∷ ts) n (Half ∷ vs) f e = behind_one zero t ts n Half vs refl f (incremented zero ts n vs f.2 e)
  incremented (suc zero) (t ∷ ts) n (Unset ∷ vs) f e = behind_one zero t ts n Unset vs refl f (incremented zero ts n vs f.2 e)
  incremented (suc (suc i)) (t ∷ ts) n (v ∷ vs) f e = behind_other i t ts n v vs f (incremented (suc i) ts n vs f.2 e)
  incremented index _ n _ f e = absurd f

module _ (x : Setting) (h : IsSet x) where
  pub increment_ok : (index : ℕ) (value : ℤ) (form : IncrementForm) → Sound x (insns.Increment index value form)
  increment_ok index value form = by_local (slice_get x.given.locals index) refl
    where
      int_is : (t : FrameType) (b : Bool) → is_of_kind kinds.Int t ≡ b → b ≡ true → t ≡ types.Int
      int_is types.Int b e k = refl
      int_is _ b e k = absurd (clash (e ∙ k))

      by_test : (t : FrameType) → slice_get x.given.locals index ≡ Some t → (b : Bool) → is_of_kind kinds.Int t ≡ b
          → By x (insns.Increment index value form) (when b x.given)
          (increment (context_of x (insns.Increment index value form)) index value)
      by_test t e false k = record { by = tt }
      by_test t e true k =
          let int : slice_get x.given.locals index ≡ Some types.Int = e ∙ ap (λ (u : FrameType). Some u) (int_is t true k refl) in
          let old = int_at (here x) index x.given.locals x.frame.locals h.holding.locals int in
          let new = incremented (here x) index x.given.locals (int_wrapping_add w32 old.0 value) x.frame.locals h.holding.locals int in
          rw (old.1, new.is) (agrees_from (stays x h (insns.Increment index value form) x.given
          (Goes (offset_behind x.frame.offset (insns.Increment index value form)) new.after x.frame.stack)
          (inr (refl, refl), record { locals = new.fits; stack = h.holding.stack; ready = h.holding.ready })))

      by_local : (o : Option FrameType) → slice_get x.given.locals index ≡ o
          → By x (insns.Increment index value form) (rules.◌>>=◌ o (λ type. when (is_of_kind kinds.Int type) x.given))
          (increment (context_of x (insns.Increment index value form)) index value)
      by_local None e = record { by = tt }
      by_local (Some t) e = by_test t e (is_of_kind kinds.Int t) refl
