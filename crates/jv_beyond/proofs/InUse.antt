-- The first instruction of the profile that names a constant which the profile leaves out.
use Rattle.std.proofs.Common.{◌≡◌, ℕ, zero, suc, ◌+◌, ◌*◌, ◌<◌, ◌≤◌, ◌⊎◌, inl, inr, List, [], ◌∷◌, length, Option, Some, None, refl, sym, ap, subst, ◌∙◌, arith}
use Rattle.std.specs.Prelude.{IfNone, IfSome, false, is_some, slice_get}
use Rattle.std.proofs.lemmas.Option.{slice_get_within}
use Rattle.jv_pool.specs.Constants.{Entry, at_index}
use Rattle.jv_class_structure.specs.Parts.{CodeSeen, MethodSeen, methods_of}
use Rattle.jv_class_structure.specs.Structure.{ClassStructure}
use Rattle.jv_class.specs.Inside.Reading.{IsSupportedAt}
use Rattle.jv_code.specs.Insns.{Instruction, insn_bytes}
use Rattle.jv_code.specs.Places.{IsAt, IsCode, OneAtOffset, StartsApart}
use Rattle.jv_code.proofs.OperandLaws.{has_room}
use Rattle.jv_beyond.specs.Beyond.{IsBeyond, place_of}
use Rattle.jv_beyond.specs.Inside.Found.{NoneBelow, NoneOf}
use Rattle.jv_beyond.specs.Inside.Used.{IsFoundAmong, IsFoundBy, IsFoundIn, IsUseFound, NoUseBefore, NoUseBelow}
use Rattle.jv_beyond.specs.Uses.{IsConstantBeyond, IsUse, IsUseIn, NamesBeyond, both_of, constant_index, constants_at, parts_of_member}
use Rattle.jv_beyond.specs.declared.beyond.Beyond.TheVariants.{Use}
use Rattle.jv_beyond.proofs.InOrder.{uses}

nothing : {X : Type 0} (x : X) → None ≡ Some x → ⊥
nothing x e = cc

order : (a b : ℕ) → (a < b) ⊎ ((a ≡ b) ⊎ (b < a))
order zero zero = inr (inl refl)
order zero (suc b) = inl (omega arith)
order (suc a) zero = inr (inr (omega arith))
order (suc a) (suc b) =
    elim (order a b) [
      | inl less ↦ inl (omega (arith, less))
      | inr (inl same) ↦ inr (inl (ap suc same))
      | inr (inr more) ↦ inr (inr (omega (arith, more)))
    ]

-- ---- among the constants that one names

module _ (pool : List Entry) where
  none_more : (x : ℕ) (xs : List ℕ) → IsSupportedAt pool x → IsFoundAmong pool xs None → IsFoundAmong pool (x ∷ xs) None
  none_more x xs fits none other (zero, at, (entry, there, is)) =
      let same : x ≡ other = cc in
      is (fits entry (ap (at_index pool) same ∙ there))
  none_more x xs fits none other (suc k, at, is) = none other (k, at, is)

  none_there : IsFoundAmong pool [] None
  none_there other (zero, at, is) = nothing other at
  none_there other (suc k, at, is) = nothing other at

  pub alone : (index : ℕ) → parts_of_member (at_index pool index) ≡ None → IsSupportedAt pool index → IsFoundAmong pool (constants_at pool index) None
  alone index e fits = subst (λ (o : Option (ℕ × ℕ)). IsFoundAmong pool (index ∷ both_of o) None) (sym e) (none_more index [] fits none_there)

  module _ (index class name : ℕ) (e : parts_of_member (at_index pool index) ≡ Some (class, name)) where
    pub all_three : IsSupportedAt pool index → IsSupportedAt pool class → IsSupportedAt pool name → IsFoundAmong pool (constants_at pool index) None
    all_three one two three =
        subst (λ (o : Option (ℕ × ℕ)). IsFoundAmong pool (index ∷ both_of o) None) (sym e)
        (none_more index (class ∷ name ∷ []) one (none_more class (name ∷ []) two (none_more name [] three none_there)))

    pub second : IsConstantBeyond pool class → IsFoundAmong pool (constants_at pool index) (Some class)
    second is = (1, ap (λ (o : Option (ℕ × ℕ)). slice_get (index ∷ both_of o) 1) e, is)

    pub third : IsConstantBeyond pool name → IsFoundAmong pool (constants_at pool index) (Some name)
    third is = (2, ap (λ (o : Option (ℕ × ℕ)). slice_get (index ∷ both_of o) 2) e, is)

  pub by_index : (insn : Instruction) (index : ℕ) → constant_index insn ≡ Some index → (found : Option ℕ) → IsFoundAmong pool (constants_at pool index) found → IsFoundBy pool insn found
  by_index insn index e (Some other) (place, at, is) = record { index = index; named = e; place = place; among = at; beyond = is }
  by_index insn index e None none = λ other names.
      let both : Some names.index ≡ Some index = sym names.named ∙ e in
      let same : names.index ≡ index = cc in
      none other (names.place, subst (λ (i : ℕ). slice_get (constants_at pool i) names.place ≡ Some other) same names.among, names.beyond)

  pub by_none : (insn : Instruction) → constant_index insn ≡ None → IsFoundBy pool insn None
  by_none insn e = λ other names. nothing names.index (sym e ∙ names.named)

  pub found_none : (insn : Instruction) (found : Option ℕ) → is_some found ≡ false → IsFoundBy pool insn found → IsFoundBy pool insn None
  found_none insn None e none = none
  found_none insn (Some other) e is = absurd cc

-- ---- one instruction after the other

module _ (pool : List Entry) (code : List ℕ) where
  pub no_use_yet : NoUseBefore pool code 0
  no_use_yet pc less is = absurd (omega (arith, less))

  pub no_use_more : OneAtOffset → StartsApart → (offset next : ℕ) (insn : Instruction) → IsAt code offset insn → next ≡ offset + length (insn_bytes insn)
      → IsFoundBy pool insn None → NoUseBefore pool code offset → NoUseBefore pool code next
  no_use_more one apart offset next insn at to none before pc less (other_insn, there, (other, names)) =
      elim (order pc offset) [
        | inl lower ↦ before pc lower (other_insn, there, (other, names))
        | inr (inl same) ↦
            none other (subst (λ (i : Instruction). NamesBeyond pool i other)
            (one code offset other_insn insn (subst (λ (n : ℕ). IsAt code n other_insn) same there) at) names)
        | inr (inr higher) ↦
            let behind = apart code offset pc insn other_insn at there (omega (arith, higher)) in
            absurd (omega (arith, behind, less, to))
      ]

  pub no_use : (offset : ℕ) → length code ≤ offset → NoUseBefore pool code offset → IsFoundIn pool code None
  no_use offset end before = λ pc (insn, at, names).
      let room = has_room code pc (insn, at) in
      before pc (omega (arith, room, end)) (insn, at, names)

-- ---- in a method

module _ (pool : List Entry) (m : MethodSeen) where
  pub no_body : m.code ≡ None → (offset : ℕ) → IsUse pool m offset → ⊥
  no_body e offset it = nothing it.body (sym e ∙ it.has_code)

  module _ (body : CodeSeen) (has : m.code ≡ Some body) where
    body_is : (offset : ℕ) → IsUse pool m offset → IsUseIn pool body.code offset
    body_is offset it =
        let both : Some it.body ≡ Some body = sym it.has_code ∙ has in
        let same : it.body ≡ body = cc in
        subst (λ (b : CodeSeen). IsUseIn pool b.code offset) same it.is

    pub bad_code : ((insns : List Instruction) → IsCode body.code insns → ⊥) → (offset : ℕ) → IsUse pool m offset → ⊥
    bad_code bad offset it =
        let (insn, at, names) = body_is offset it in
        bad _ at.code

    pub no_use_in : IsFoundIn pool body.code None → (offset : ℕ) → IsUse pool m offset → ⊥
    no_use_in none offset it = none offset (body_is offset it)

    pub use_found : (offset : ℕ) → IsFoundIn pool body.code (Some offset) → IsUse pool m offset × NoUseBelow pool m offset
    use_found offset (is, first) =
        (record { body = body; has_code = has; is = is }, λ pc less it. first pc less (body_is pc it))

    pub use_of_found : (code : List ℕ) → code ≡ body.code → (found : Option ℕ) → IsFoundIn pool code found
        → IfSome found (λ offset. NoUseBelow pool m offset) × IfNone found ((offset : ℕ) → IsUse pool m offset → ⊥)
    use_of_found code same None none = (tt, no_use_in (subst (λ (bytes : List ℕ). IsFoundIn pool bytes None) same none))
    use_of_found code same (Some offset) is =
        ((use_found offset (subst (λ (bytes : List ℕ). IsFoundIn pool bytes (Some offset)) same is)).1, tt)

  small : (offset : ℕ) → IsUse pool m offset → offset < 65536
  small offset it =
      let (insn, at, names) = it.is in
      let room = has_room it.body.code offset (insn, at) in
      let few = at.code.few in
      omega (arith, room, few)

-- ---- in a class

module _ (c : ClassStructure) (place : ℕ) where
  module _ (m : MethodSeen) (at : slice_get (methods_of c) place ≡ Some m) where
    own : (k : ℕ) → k ≡ place → (shown : MethodSeen) → slice_get (methods_of c) k ≡ Some shown → shown ≡ m
    own k same shown there =
        let both : Some shown ≡ Some m = sym there ∙ (ap (slice_get (methods_of c)) same ∙ at) in
        cc

    pub use_there : (offset : ℕ) → IsUse c.constant_pool m offset → NoUseBelow c.constant_pool m offset → IsUseFound c place (Some (Use place offset))
    use_there offset it first = ((m, at, it), refl, λ before. uses (λ other. place_of other < place * 65536 + offset → IsBeyond c other → ⊥) (each before))
      where
        each : NoneBelow c 1 (place * 65536) → (k pc : ℕ) → k * 65536 + pc < place * 65536 + offset → IsBeyond c (Use k pc) → ⊥
        each before k pc less (shown, there, is) =
            let low = small c.constant_pool shown pc is in
            let here = small c.constant_pool m offset it in
            elim (order k place) [
              | inl lower ↦ before (Use k pc) refl (omega (arith, lower, low)) (shown, there, is)
              | inr (inl same) ↦ first pc (omega (arith, same, less)) (subst (λ (x : MethodSeen). IsUse c.constant_pool x pc) (own k same shown there) is)
              | inr (inr higher) ↦ absurd (omega (arith, higher, less, here))
            ]

    pub no_use_there : ((offset : ℕ) → IsUse c.constant_pool m offset → ⊥) → IsUseFound c place None
    no_use_there none before = uses (λ other. place_of other < (place + 1) * 65536 → IsBeyond c other → ⊥) each
      where
        each : (k pc : ℕ) → k * 65536 + pc < (place + 1) * 65536 → IsBeyond c (Use k pc) → ⊥
        each k pc less (shown, there, is) =
            let low = small c.constant_pool shown pc is in
            elim (order k place) [
              | inl lower ↦ before (Use k pc) refl (omega (arith, lower, low)) (shown, there, is)
              | inr (inl same) ↦ none pc (subst (λ (x : MethodSeen). IsUse c.constant_pool x pc) (own k same shown there) is)
              | inr (inr higher) ↦ absurd (omega (arith, higher, less))
            ]

  pub no_method_there : slice_get (methods_of c) place ≡ None → IsUseFound c place None
  no_method_there none before = uses (λ other. place_of other < (place + 1) * 65536 → IsBeyond c other → ⊥) each
    where
      each : (k pc : ℕ) → k * 65536 + pc < (place + 1) * 65536 → IsBeyond c (Use k pc) → ⊥
      each k pc less (shown, there, is) =
          let low = small c.constant_pool shown pc is in
          elim (order k place) [
            | inl lower ↦ before (Use k pc) refl (omega (arith, lower, low)) (shown, there, is)
            | inr (inl same) ↦ nothing shown (sym none ∙ (ap (slice_get (methods_of c)) (sym same) ∙ there))
            | inr (inr higher) ↦ absurd (omega (arith, higher, less))
          ]

  pub no_use_left : length (methods_of c) ≤ place → NoneBelow c 1 (place * 65536) → NoneOf c 1
  no_use_left end before = uses (λ other. IsBeyond c other → ⊥) each
    where
      each : (k pc : ℕ) → IsBeyond c (Use k pc) → ⊥
      each k pc (shown, there, is) =
          let low = small c.constant_pool shown pc is in
          let within = slice_get_within (methods_of c) k shown there in
          before (Use k pc) refl (omega (arith, within, end, low)) (shown, there, is)
