-- Methods that are kept by the numbers of their codes: more codes leave what they are.
use Rattle.std.proofs.Common.{◌≡◌, ℕ, zero, suc, ◌-◌, ◌<◌, ◌≤◌, List, [], ◌∷◌, ◌++◌, length, Option, refl, ap, subst, ◌∙◌, arith}
use Rattle.std.specs.Prelude.{map, slice_get}
use Rattle.std.specs.List.{All}
use Rattle.std.proofs.lemmas.List.{map_push}
use Rattle.std.proofs.lemmas.List.Elements.{All-head, All-tail}
use Rattle.jv_class_structure.specs.declared.member.PackedCode.{PackedCode}
use Rattle.jv_class_structure.specs.declared.method_list.KeptMethod.{KeptMethod}
use Rattle.jv_class_structure.specs.Parts.{CodeSeen, MethodSeen}
use Rattle.jv_class_structure.specs.Inside.Kept.{seen_codes, numbered, seen_kept, IsOneMore}

slice_get_left : {X : Type 0} (xs ys : List X) (k : ℕ) → k < length xs → slice_get (xs ++ ys) k ≡ slice_get xs k
slice_get_left [] ys k lt = absurd (omega (arith, lt))
slice_get_left (x ∷ xs) ys zero lt = refl
slice_get_left (x ∷ xs) ys (suc k) lt = slice_get_left xs ys k (omega (arith, lt))

numbered_left : (codes more : List PackedCode) (n : ℕ) → n ≤ length codes → numbered (codes ++ more) n ≡ numbered codes n
numbered_left codes more zero le = refl
numbered_left codes more (suc n) le = slice_get_left codes more n (omega (arith, le))

stay : (codes more : List PackedCode) (kept : List KeptMethod) → All (λ m. m.code ≤ length codes) kept → map (seen_kept (codes ++ more)) kept ≡ map (seen_kept codes) kept
stay codes more [] all = refl
stay codes more (m ∷ kept) all =
    let one : numbered (codes ++ more) m.code ≡ numbered codes m.code = numbered_left codes more m.code (All-head (λ m. m.code ≤ length codes) m kept all) in
    let others : map (seen_kept (codes ++ more)) kept ≡ map (seen_kept codes) kept = stay codes more kept (All-tail (λ m. m.code ≤ length codes) m kept all) in
    rw (one, others) refl

-- a method as it is shown with this code
abbrev shown_with : KeptMethod → Option CodeSeen → MethodSeen
shown_with m code = record { access_flags = m.access_flags.0; name_index = m.name.0; descriptor_index = m.descriptor.0; code = code }

-- one method more, with the number of its code
pub one_more_kept : (old new : List PackedCode) (kept : List KeptMethod) (m : KeptMethod) (code : Option CodeSeen) → All (λ m. m.code ≤ length old)
    kept → IsOneMore old new → seen_codes (numbered new m.code) ≡ code
    → map (seen_kept new) (kept ++ m ∷ []) ≡ map (seen_kept old) kept ++ shown_with m code ∷ []
one_more_kept old new kept m code all more is =
    let same : map (seen_kept new) kept ≡ map (seen_kept old) kept = ap (λ (codes : List PackedCode). map (seen_kept codes) kept) more.joined ∙ stay old more.more kept all in
    map_push (seen_kept new) kept m ∙ ap (λ (seen : List MethodSeen). seen ++ seen_kept new m ∷ []) same ∙ ap (λ (o : Option CodeSeen). map (seen_kept old) kept ++ shown_with m o ∷ []) is

-- what is found in front of a number has that number
pub numbered_there : (codes : List PackedCode) (n : ℕ) (found : Option PackedCode) → (n ≡ 0 → ⊥) → slice_get codes (n - 1) ≡ found → numbered codes n ≡ found
numbered_there codes zero found some is = absurd (some refl)
numbered_there codes (suc n) found some is =
    let same : suc n - 1 ≡ n = omega arith in
    subst (λ k. slice_get codes k ≡ found) same is
