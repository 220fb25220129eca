-- The references of code, one instruction after another.
use Rattle.std.proofs.Common.{◌≡◌, ℕ, ◌+◌, ◌<◌, ◌≤◌, List, Option, [], ◌∷◌, ◌++◌, length, refl, sym, ap, subst, ◌∙◌, append_assoc, append-nil, arith}
use Rattle.std.specs.List.{flat_map}
use Rattle.std.proofs.lemmas.Grind.{flat_map-append}
use Rattle.std.proofs.lemmas.List.{length-append}
use Rattle.jv_pool.specs.Constants.{Entry}
use Rattle.jv_code.specs.Insns.{Instruction, insn_bytes}
use Rattle.jv_code.specs.Places.{IsAt, IsCode, OneAtOffset}
use Rattle.jv_code.proofs.Sizes.{some_bytes}
use Rattle.jv_meaning_world.specs.World.{World}
use Rattle.jv_meaning_typing.specs.Uses.{Site}
use Rattle.jv_links.specs.References.{link_error}
use Rattle.jv_links.specs.Unresolved.{if_unresolved, unresolved_from}
use Rattle.jv_links.specs.Text.{reference_text, references_text}
use Rattle.jv_links.specs.Inside.Walked.{AreToldBelow}

abbrev size : List Instruction → ℕ
size insns = length (flat_map insn_bytes insns)

size-append : (xs ys : List Instruction) → size (xs ++ ys) ≡ size xs + size ys
size-append xs ys = ap length (flat_map-append insn_bytes xs ys) ∙ length-append (flat_map insn_bytes xs) (flat_map insn_bytes ys)

size-cons : (x : Instruction) (xs : List Instruction) → size (x ∷ xs) ≡ length (insn_bytes x) + size xs
size-cons x xs = length-append (insn_bytes x) (flat_map insn_bytes xs)

module _ (world : World) (pool : List Entry) (line : ℕ → Option ℕ) (site : Site) where
  abbrev from : ℕ → List Instruction → List ℕ
  from start insns = references_text world pool line (unresolved_from world site start insns)

  abbrev one : ℕ → Instruction → List ℕ
  one start insn = references_text world pool line (if_unresolved start insn (link_error world site insn))

  from-cons : (start : ℕ) (x : Instruction) (xs : List Instruction) → from start (x ∷ xs) ≡ one start x ++ from (start + length (insn_bytes x)) xs
  from-cons start x xs =
      flat_map-append (reference_text world pool line) (if_unresolved start x (link_error world site x)) (unresolved_from world site (start + length (insn_bytes x)) xs)

  -- one instruction more
  from-more : (start : ℕ) (xs : List Instruction) (x : Instruction) → from start (xs ++ x ∷ []) ≡ from start xs ++ one (start + size xs) x
  from-more start [] x =
      let here : start ≡ start + size [] = omega arith in
      from-cons start x [] ∙ (append-nil (one start x) ∙ ap (λ (n : ℕ). one n x) here)
  from-more start (y ∷ xs) x =
      let next = start + length (insn_bytes y) in
      let sizes = size-cons y xs in
      let there : next + size xs ≡ start + size (y ∷ xs) = omega (arith, sizes) in
      from-cons start y (xs ++ x ∷ [])
      ∙ (ap (λ (t : List ℕ). one start y ++ t) (from-more next xs x ∙ ap (λ (n : ℕ). from next xs ++ one n x) there)
      ∙ (sym (append_assoc (one start y) (from next xs) (one (start + size (y ∷ xs)) x)) ∙ ap (λ (t : List ℕ). t ++ one (start + size (y ∷ xs)) x) (sym (from-cons start y xs))))

  pub none_told : (insns : List Instruction) (text : List ℕ) → text ≡ [] → AreToldBelow world pool line site insns 0 text
  none_told insns text e = record { before = []; after = insns; is = refl; place = refl; told = e }

  module _ (insns : List Instruction) (code : List ℕ) (is : IsCode code insns) (offset : ℕ) (text : List ℕ) (below : AreToldBelow world pool line site insns offset text) where
    sizes_are : length code ≡ offset + size below.after
    sizes_are =
        let both : length code ≡ size below.before + size below.after = ap length is.spelled ∙ (ap size below.is ∙ size-append below.before below.after) in
        let at = below.place in
        omega (arith, both, at)

    next_told : (insn : Instruction) (rest : List Instruction) → below.after ≡ insn ∷ rest → (next : ℕ) (one_told more : List ℕ) → next ≡ offset + length (insn_bytes insn)
        → one_told ≡ one offset insn → more ≡ text ++ one_told → AreToldBelow world pool line site insns next more
    next_told insn rest after next one_told more behind says appended =
        let at = below.place in
        let sizes = size-append below.before (insn ∷ []) in
        let last = size-cons insn [] in
        let none : size [] ≡ 0 = refl in
        let here : 0 + size below.before ≡ offset = omega (arith, at) in
        record {
          before = below.before ++ insn ∷ [];
          after = rest;
          is = below.is ∙ (ap (λ (l : List Instruction). below.before ++ l) after ∙ sym (append_assoc below.before (insn ∷ []) rest));
          place = omega (arith, at, behind, sizes, last, none);
          told =
              appended
              ∙ (ap (λ (t : List ℕ). t ++ one_told) below.told
              ∙ (ap (λ (t : List ℕ). from 0 below.before ++ t) (says ∙ ap (λ (n : ℕ). one n insn) (sym here)) ∙ sym (from-more 0 below.before insn)));
        }

    -- the instruction at the offset is told
    pub told_more : OneAtOffset → (insn : Instruction) → IsAt code offset insn → offset < length code → (next : ℕ) (one_told more : List ℕ)
        → next ≡ offset + length (insn_bytes insn) → one_told ≡ one offset insn → more ≡ text ++ one_told → AreToldBelow world pool line site insns next more
    told_more law insn at less next one_told more behind says appended = by_after below.after refl
      where
        by_after : (after : List Instruction) → below.after ≡ after → AreToldBelow world pool line site insns next more
        by_after [] e =
            let all : length code ≡ offset + size below.after = sizes_are in
            let none : size below.after ≡ 0 = ap size e in
            absurd (omega (arith, all, none, less))
        by_after (i ∷ rest) e =
            let stands : IsAt code offset i = record {
              before = below.before;
              after = rest;
              code = subst (λ (l : List Instruction). IsCode code l) (below.is ∙ ap (λ (l : List Instruction). below.before ++ l) e) is;
              place = below.place;
            } in
            let same : i ≡ insn = law code offset i insn stands at in
            next_told insn rest (e ∙ ap (λ (j : Instruction). j ∷ rest) same) next one_told more behind says appended

    -- no instruction is left
    pub told_all : length code ≤ offset → text ≡ from 0 insns
    told_all end = by_after below.after refl
      where
        by_after : (after : List Instruction) → below.after ≡ after → text ≡ from 0 insns
        by_after [] e =
            let whole : insns ≡ below.before = below.is ∙ (ap (λ (l : List Instruction). below.before ++ l) e ∙ append-nil below.before) in
            below.told ∙ ap (from 0) (sym whole)
        by_after (i ∷ rest) e =
            let all : length code ≡ offset + size below.after = sizes_are in
            let more : size below.after ≡ length (insn_bytes i) + size rest = ap size e ∙ size-cons i rest in
            let some = some_bytes i in
            absurd (omega (arith, all, more, some, end))
