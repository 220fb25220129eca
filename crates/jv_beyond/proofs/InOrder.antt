-- The first part that is beyond the profile, place by place and rank by rank.
use Rattle.std.proofs.Common.{◌≡◌, ◌≢◌, ℕ, zero, suc, ◌+◌, ◌<◌, ◌≤◌, ◌⊎◌, inl, inr, Bool, false, List, length, Option, Some, None, refl, sym, ap, subst, ◌∙◌, arith}
use Rattle.std.specs.Prelude.{IsTrue, slice_get}
use Rattle.std.proofs.lemmas.Option.{slice_get_within}
use Rattle.jv_pool.specs.Constants.{Entry, at_index, pool_count, table_of, usable}
use Rattle.jv_class_structure.specs.Parts.{MethodSeen, methods_of}
use Rattle.jv_class_structure.specs.Structure.{ClassStructure}
use Rattle.jv_class.specs.Inside.Reading.{IsSupportedAt}
use Rattle.jv_class.specs.Supported.{IsSupportedConstant}
use Rattle.jv_beyond.specs.Beyond.{IsBeyond, IsCodeBeyond, place_of, rank}
use Rattle.jv_beyond.specs.Inside.Found.{IsFoundOf, NoneAt, NoneBelow, NoneOf}
use Rattle.jv_beyond.specs.Uses.{IsConstantBeyond}
use Rattle.jv_beyond.specs.declared.beyond.Beyond.{Beyond}
use Rattle.jv_beyond.specs.declared.beyond.Beyond.TheVariants.{Instruction, Use, Field, MethodFlags, MethodType, Constant}

-- ---- parts of a rank

pub instructions : (P : Beyond → Type 0) → ((method offset : ℕ) → P (Instruction method offset)) → (other : Beyond) → rank other ≡ 0 → P other
instructions P h (Instruction method offset) e = h method offset
instructions P h (Use method offset) e = absurd (omega (arith, e))
instructions P h (Field place) e = absurd (omega (arith, e))
instructions P h (MethodFlags place) e = absurd (omega (arith, e))
instructions P h (MethodType place) e = absurd (omega (arith, e))
instructions P h (Constant index) e = absurd (omega (arith, e))

pub uses : (P : Beyond → Type 0) → ((method offset : ℕ) → P (Use method offset)) → (other : Beyond) → rank other ≡ 1 → P other
uses P h (Instruction method offset) e = absurd (omega (arith, e))
uses P h (Use method offset) e = h method offset
uses P h (Field place) e = absurd (omega (arith, e))
uses P h (MethodFlags place) e = absurd (omega (arith, e))
uses P h (MethodType place) e = absurd (omega (arith, e))
uses P h (Constant index) e = absurd (omega (arith, e))

constants : (P : Beyond → Type 0) → ((index : ℕ) → P (Constant index)) → (other : Beyond) → rank other ≡ 5 → P other
constants P h (Instruction method offset) e = absurd (omega (arith, e))
constants P h (Use method offset) e = absurd (omega (arith, e))
constants P h (Field place) e = absurd (omega (arith, e))
constants P h (MethodFlags place) e = absurd (omega (arith, e))
constants P h (MethodType place) e = absurd (omega (arith, e))
constants P h (Constant index) e = h index

nothing : {X : Type 0} (x : X) → None ≡ Some x → ⊥
nothing x e = cc

-- where a test of what stands at an index answers no
pub constant_fails : (pool : List Entry) (index : ℕ) (b : Bool) → (IsSupportedAt pool index → IsTrue b) → b ≡ false → IsConstantBeyond pool index
constant_fails pool index b keeps off = by_entry (at_index pool index) refl
  where
    clash : IsTrue b → ⊥
    clash on = cc

    by_entry : (o : Option Entry) → at_index pool index ≡ o → IsConstantBeyond pool index
    by_entry None e = absurd (clash (keeps (λ entry at. absurd (nothing entry (sym e ∙ at)))))
    by_entry (Some x) e = (x, e, λ fits. clash (keeps (λ entry at. same entry fits (sym e ∙ at))))
      where
        same : (entry : Entry) → IsSupportedConstant pool x → Some x ≡ Some entry → IsSupportedConstant pool entry
        same entry fits both =
            let one : x ≡ entry = cc in
            subst (IsSupportedConstant pool) one fits

-- ---- one place after the other

same_or_other : (k n : ℕ) → (k ≡ n) ⊎ (k ≢ n)
same_or_other zero zero = inl refl
same_or_other zero (suc n) = inr (λ e. omega (arith, e))
same_or_other (suc k) zero = inr (λ e. omega (arith, e))
same_or_other (suc k) (suc n) =
    elim (same_or_other k n) [
      | inl same ↦ inl (ap suc same)
      | inr other ↦ inr (λ e. other (omega (arith, e)))
    ]

module _ (c : ClassStructure) (of : ℕ) where
  pub none_more : (place : ℕ) → NoneAt c of place → NoneBelow c of place → NoneBelow c of (place + 1)
  none_more place here before other ranked less is = elim (same_or_other (place_of other) place) [
    | inl same ↦ here other ranked same is
    | inr not ↦ before other ranked (omega (arith, less, not)) is
  ]

-- ---- of each rank

module _ (c : ClassStructure) where
  -- instructions

  pub no_code_at : (place : ℕ) (m : MethodSeen) → slice_get (methods_of c) place ≡ Some m → ((offset : ℕ) → IsCodeBeyond m offset → ⊥) → NoneAt c 0 place
  no_code_at place m at none = instructions (λ other. place_of other ≡ place → IsBeyond c other → ⊥) each
    where
      each : (method offset : ℕ) → method ≡ place → IsBeyond c (Instruction method offset) → ⊥
      each method offset same (shown, there, is) =
          let both : Some shown ≡ Some m = sym there ∙ (ap (slice_get (methods_of c)) same ∙ at) in
          let one : shown ≡ m = cc in
          none offset (subst (λ (x : MethodSeen). IsCodeBeyond x offset) one is)

  -- constants

  pub constant_there : (index : ℕ) → IsConstantBeyond c.constant_pool index → NoneBelow c 5 index → IsFoundOf c 5 (Some (Constant index))
  constant_there index is before = record { is = is; ranked = refl; first = before }

  pub no_constant_at : (index : ℕ) → IsSupportedAt c.constant_pool index → NoneAt c 5 index
  no_constant_at index fits = constants (λ other. place_of other ≡ index → IsBeyond c other → ⊥) each
    where
      each : (k : ℕ) → k ≡ index → IsBeyond c (Constant k) → ⊥
      each k same (entry, at, is) = is (fits entry (ap (at_index c.constant_pool) (sym same) ∙ at))

  -- there is none at index 0
  pub no_constant_yet : NoneBelow c 5 1
  no_constant_yet = constants (λ other. place_of other < 1 → IsBeyond c other → ⊥) each
    where
      each : (k : ℕ) → k < 1 → IsBeyond c (Constant k) → ⊥
      each zero less (entry, at, is) = nothing entry at
      each (suc k) less is = absurd (omega (arith, less))

  pub no_constant : (index : ℕ) → pool_count c.constant_pool ≤ index → NoneBelow c 5 index → NoneOf c 5
  no_constant index end before = constants (λ other. IsBeyond c other → ⊥) each
    where
      within : (table : List (Option Entry)) (n : ℕ) (entry : Entry) → usable (slice_get table n) ≡ Some entry → n < length table
      within table n entry at = by_slot (slice_get table n) refl at
        where
          by_slot : (o : Option (Option Entry)) → slice_get table n ≡ o → usable o ≡ Some entry → n < length table
          by_slot None e f = absurd (nothing entry f)
          by_slot (Some slot) e f = slice_get_within table n slot e

      each : (k : ℕ) → IsBeyond c (Constant k) → ⊥
      each zero (entry, at, is) = nothing entry at
      each (suc n) (entry, at, is) =
          let less = within (table_of c.constant_pool) n entry at in
          before (Constant (suc n)) refl (omega (arith, less, end)) (entry, at, is)
