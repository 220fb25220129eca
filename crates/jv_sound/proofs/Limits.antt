-- A stack map's frames are within the limits, and an instruction fits where it stands.
use Rattle.std.proofs.Common.{◌≡◌, ◌⊎◌, inl, inr, ℕ, ◌+◌, ◌≤◌, Bool, true, false, ◌==◌, List, [], ◌∷◌, length, map, reverse, Option, Some, None, refl, sym, subst, arith}
use Rattle.std.specs.Prelude.{nat_le, if◌then◌else◌}
use Rattle.std.specs.List.{Contains}
use Rattle.std.proofs.lemmas.Bool.{eqb-true}
use Rattle.std.proofs.lemmas.List.Elements.{Contains-append_cases}
use Rattle.jv_format.specs.Format.{◌>>=◌}
use Rattle.jv_stackmap.specs.declared.item.Item.{Item}
use Rattle.jv_stackmap.specs.declared.limits.Limits.{Limits}
use Rattle.jv_stackmap.specs.Bytes.{MapForm}
use Rattle.jv_stackmap.specs.Types.{FrameType, words}
use Rattle.jv_stackmap.specs.Frames.{MapFrame, PlacedFrame, Maps, frame_behind, frame_if, frames_behind, is_within, placed_frame, type_of}
use Rattle.jv_pool.specs.Constants.{Entry}
use Rattle.jv_meaning_world.proofs.Up.{none, single, first, later}
use Rattle.jv_code.specs.Insns.{Instruction, insn_bytes, insn_fits}
use Rattle.jv_code.specs.Places.{all_fit}
use Rattle.jv_meaning_typing.specs.Environment.{Environment, IsEnvironment, instruction_from, instruction_at, offset_behind}
use Rattle.jv_sound.proofs.Taking.{and_parts}
use Rattle.jv_sound.proofs.Formats.{chained}

module _ {T : Type 0} (entry_of : Item → Option T) (test : MapFrame T → Bool) where
  passed_one : (g f : MapFrame T) → frame_if test g ≡ Some f → test f ≡ true
  passed_one g f e = by_test (test g) refl e
    where
      by_test : (b : Bool) → test g ≡ b → (if b then Some g else None) ≡ Some f → test f ≡ true
      by_test true t k = let same : g ≡ f = cc in subst (λ (x : MapFrame T). test x ≡ true) same t
      by_test false t k = absurd cc

  each_passes : (forms : List MapForm) (base : ℕ) (before : List T) (entries : List (MapFrame T))
      → frames_behind entry_of test base before forms ≡ Some entries → (e : MapFrame T) → Contains entries e → test e ≡ true
  each_passes [] base before entries k e h = absurd (none e (subst (λ (xs : List (MapFrame T)). Contains xs e) (nil entries k) h))
    where
      nil : (xs : List (MapFrame T)) → Some [] ≡ Some xs → xs ≡ []
      nil [] k = refl
      nil (x ∷ xs) k = absurd cc
  each_passes (form ∷ more) base before entries k e h =
      let f = chained (frame_behind entry_of base before form >>= frame_if test)
      (λ f. frames_behind entry_of test (f.offset + 1) f.locals more >>= λ fs. Some (f ∷ fs)) entries k in
      let g = chained (frame_behind entry_of base before form) (frame_if test) f.0 f.1 in
      let fs = chained (frames_behind entry_of test (f.0.offset + 1) f.0.locals more) (λ fs. Some (f.0 ∷ fs)) entries f.2 in
      let same : f.0 ∷ fs.0 ≡ entries = some_same (f.0 ∷ fs.0) entries fs.2 in
      by_part f.0 fs.0 (passed_one g.0 f.0 g.2) (λ j. each_passes more (f.0.offset + 1) f.0.locals fs.0 fs.1 e j)
      (Contains-append_cases (f.0 ∷ []) fs.0 e (subst (λ (xs : List (MapFrame T)). Contains xs e) (sym same) h))
    where
      some_same : (xs ys : List (MapFrame T)) → Some xs ≡ Some ys → xs ≡ ys
      some_same xs ys k = cc

      by_part : (f : MapFrame T) (fs : List (MapFrame T)) → test f ≡ true → (Contains fs e → test e ≡ true)
          → Contains (f ∷ []) e ⊎ Contains fs e → test e ≡ true
      by_part f fs t again (inl j) = subst (λ (x : MapFrame T). test x ≡ true) (single f e j) t
      by_part f fs t again (inr j) = again j

in_map : {A B : Type 0} (f : A → B) (xs : List A) (y : B) → Contains (map f xs) y → (x : A) × Contains xs x × (f x ≡ y)
in_map f [] y h = absurd (none y h)
in_map {A = A} {B = B} f (x ∷ xs) y h = by_part (λ k. in_map f xs y k) (Contains-append_cases (f x ∷ []) (map f xs) y h)
  where
    by_part : (Contains (map f xs) y → (x : A) × Contains xs x × (f x ≡ y)) → Contains (f x ∷ []) y ⊎ Contains (map f xs) y
        → (z : A) × Contains (x ∷ xs) z × (f z ≡ y)
    by_part again (inl k) = (x, first x xs, single (f x) y k)
    by_part again (inr k) = let found = again k in (found.0, later x xs found.0 found.1, found.2)

from_leb : (a b : ℕ) → nat_le a b ≡ true → a ≤ b
from_leb a b e = grind (arith, Rattle.std.proofs.lemmas.Bool.Decides.nat_tests)

-- the stack of a frame that a map spells is within the limit
pub maps_within : (pool : List Entry) (limits : Limits) (initial : List FrameType) (bytes : List ℕ) (frames : List PlacedFrame)
    → Maps pool limits initial bytes frames → (f : PlacedFrame) → Contains frames f → words f.frame.stack ≤ limits.max_stack
maps_within pool limits initial bytes frames maps f h =
    let found = in_map (placed_frame limits.max_locals) maps.entries f (subst (λ (fs : List PlacedFrame). Contains fs f) maps.expand h) in
    let test = each_passes (type_of pool) (is_within limits) maps.forms 0 (reverse initial) maps.entries maps.made found.0 found.1 in
    let parts = and_parts (nat_le (words found.0.locals) limits.max_locals) (nat_le (words found.0.stack) limits.max_stack) test in
    subst (λ (x : PlacedFrame). words x.frame.stack ≤ limits.max_stack) found.2 (from_leb (words found.0.stack) limits.max_stack parts.1)

-- where all instructions fit, each does where it stands
pub fits_there : (start : ℕ) (all : List Instruction) (pc : ℕ) (i : Instruction) → all_fit start all ≡ true
    → instruction_from start all pc ≡ Some i → insn_fits pc i ≡ true
fits_there start [] pc i fit e = absurd cc
fits_there start (x ∷ all) pc i fit e =
    let parts = and_parts (insn_fits start x) (all_fit (start + length (insn_bytes x)) all) fit in
    by_test (start == pc) refl e parts.0 (λ k. fits_there (start + length (insn_bytes x)) all pc i parts.1 k)
  where
    by_test : (b : Bool) → (start == pc) ≡ b → (if b then Some x else instruction_from (offset_behind start x) all pc) ≡ Some i
        → insn_fits start x ≡ true → (instruction_from (offset_behind start x) all pc ≡ Some i → insn_fits pc i ≡ true)
        → insn_fits pc i ≡ true
    by_test true t k here again =
        let same : x ≡ i = cc in
        subst (λ (n : ℕ). insn_fits n i ≡ true) (eqb-true start pc t) (subst (λ (y : Instruction). insn_fits start y ≡ true) same here)
    by_test false t k here again = again k

pub instruction_fits : (env : Environment) (pc : ℕ) (i : Instruction) → IsEnvironment env → instruction_at env pc ≡ Some i
    → insn_fits pc i ≡ true
instruction_fits env pc i is e = fits_there 0 env.instructions pc i is.instructions.fit e
