-- Instructions in front of the rest of the bytes.
use Rattle.std.proofs.Common.{◌≡◌, ℕ, ◌+◌, ◌-◌, ◌<◌, ◌≤◌, List, [], ◌∷◌, ◌++◌, length, refl, sym, ap, subst, ◌∙◌, append_assoc, arith}
use Rattle.std.specs.Prelude.{IsTrue}
use Rattle.std.specs.List.{flat_map}
use Rattle.std.proofs.lemmas.Bool.{and_parts, and_from}
use Rattle.std.proofs.lemmas.List.{append-nil, nil_from_length, length-append}
use Rattle.std.proofs.lemmas.List.Concat.{flat_map-append}
use Rattle.jv_format.proofs.Laws.{one_form}
use Rattle.jv_code.specs.Insns.{Instruction, insn_bytes, insn_fits}
use Rattle.jv_code.specs.Places.{all_fit, IsCode}
use Rattle.jv_code.specs.Inside.Reading.{insn}
use Rattle.jv_code.proofs.Laws.{insn_is}
use Rattle.jv_code.proofs.Sizes.{size, some_bytes, size-cons}

pub fit-append : (at : ℕ) (xs ys : List Instruction) → IsTrue (all_fit at xs) → IsTrue (all_fit (at + size xs) ys) → IsTrue (all_fit at (xs ++ ys))
fit-append at [] ys p q = subst (λ (k : ℕ). IsTrue (all_fit k ys)) (omega arith) q
fit-append at (x ∷ xs) ys p q =
    let parts = and_parts _ _ p in
    let next : at + size (x ∷ xs) ≡ (at + length (insn_bytes x)) + size xs = omega (arith, size-cons x xs) in
    and_from _ _ parts.0 (fit-append (at + length (insn_bytes x)) xs ys parts.1 (subst (λ (k : ℕ). IsTrue (all_fit k ys)) next q))

-- the instructions before stand in front of the rest
pub record Front (before : List Instruction) (bytes rest : List ℕ) : Type 0 where
  pub is : bytes ≡ flat_map insn_bytes before ++ rest
  pub fit : IsTrue (all_fit 0 before)

pub Front-nil : (bytes : List ℕ) → Front [] bytes bytes
Front-nil bytes = record { is = refl; fit = refl }

pub Front-place : (before : List Instruction) (bytes rest : List ℕ) → Front before bytes rest → length bytes ≡ size before + length rest
Front-place before bytes rest front = ap length front.is ∙ length-append (flat_map insn_bytes before) rest

pub Front-push : (before : List Instruction) (bytes rest : List ℕ) (i : Instruction) (after : List ℕ) → rest ≡ insn_bytes i ++ after →
    IsTrue (insn_fits (length bytes - length rest) i) → Front before bytes rest → Front (before ++ i ∷ []) bytes after
Front-push before bytes rest i after e h front =
    let place : length bytes - length rest ≡ 0 + size before = omega (arith, Front-place before bytes rest front) in
    let one : IsTrue (insn_fits (0 + size before) i) = rw (← place) h in
    record {
      is = front.is ∙ ap (λ (r : List ℕ). flat_map insn_bytes before ++ r) e ∙ sym (append_assoc (flat_map insn_bytes before) (insn_bytes i) after)
          ∙ ap (λ (r : List ℕ). r ++ after) (ap (λ (r : List ℕ). flat_map insn_bytes before ++ r) (sym (append-nil (insn_bytes i))) ∙ sym (flat_map-append insn_bytes before (i ∷ [])));
      fit = fit-append 0 before (i ∷ []) front.fit (and_from _ _ one refl);
    }

-- a list that begins with the same bytes begins with the same instructions
pub aligned : (at : ℕ) (before all : List Instruction) (rest : List ℕ) → IsTrue (all_fit at before) → IsTrue (all_fit at all) → flat_map insn_bytes before ++ rest ≡ flat_map insn_bytes all
    → (more : List Instruction) × (all ≡ before ++ more) × (rest ≡ flat_map insn_bytes more) × IsTrue (all_fit (at + size before) more)
aligned at [] all rest p q e = (all, refl, e, subst (λ (k : ℕ). IsTrue (all_fit k all)) (omega arith) q)
aligned at (i ∷ before) [] rest p q e =
    absurd (omega (
      arith,
      ap length e,
      some_bytes i,
      length-append (insn_bytes i ++ flat_map insn_bytes before) rest,
      length-append (insn_bytes i)
          (flat_map insn_bytes before),
    ))
aligned at (i ∷ before) (j ∷ all) rest p q e =
    let ps = and_parts _ _ p in
    let qs = and_parts _ _ q in
    let one = one_form (insn at) (insn_is at) i j (flat_map insn_bytes before ++ rest) (flat_map insn_bytes all) ps.0 qs.0 (sym (append_assoc (insn_bytes i) (flat_map insn_bytes before) rest) ∙ e) in
    let next = aligned (at + length (insn_bytes i)) before all rest ps.1 (subst (λ (k : Instruction). IsTrue (all_fit (at + length (insn_bytes k)) all)) (sym one.0) qs.1) one.1 in
    let place : (at + length (insn_bytes i)) + size before ≡ at + size (i ∷ before) = omega (arith, size-cons i before) in
    (next.0, ap (λ (k : Instruction). k ∷ all) (sym one.0) ∙ ap (λ (xs : List Instruction). i ∷ xs) next.1, next.2, subst (λ (k : ℕ). IsTrue (all_fit k next.0)) place next.3)

pub Front-only : (before : List Instruction) (bytes rest : List ℕ) (all : List Instruction) → Front before bytes rest → IsCode bytes all →
    (more : List Instruction) × (all ≡ before ++ more) × (rest ≡ flat_map insn_bytes more) × IsTrue (all_fit (size before) more)
Front-only before bytes rest all front code =
    let a = aligned 0 before all rest front.fit code.fit (sym front.is ∙ code.spelled) in
    (a.0, a.1, a.2, subst (λ (k : ℕ). IsTrue (all_fit k a.0)) (omega arith) a.3)

pub Front-all : (before : List Instruction) (bytes rest : List ℕ) → length rest ≡ 0 → 1 ≤ length bytes → length bytes ≤ 65535 → Front before bytes rest → IsCode bytes before
Front-all before bytes rest e some few front =
    record { spelled = front.is ∙ ap (λ (r : List ℕ). flat_map insn_bytes before ++ r) (nil_from_length rest e) ∙ append-nil (flat_map insn_bytes before); fit = front.fit; some = some; few = few }

pub none_more : (at : ℕ) (more : List Instruction) (rest : List ℕ) → 0 < length rest →
    ((i : Instruction) (after : List ℕ) → IsTrue (insn_fits at i) → rest ≡ insn_bytes i ++ after → ⊥) → rest ≡ flat_map insn_bytes more →
    IsTrue (all_fit at more) → ⊥
none_more at [] rest lt none e fit = omega (arith, ap length e)
none_more at (i ∷ more) rest lt none e fit = none i (flat_map insn_bytes more) (and_parts _ _ fit).0 e

-- where no instruction stands at the rest, no list of instructions has the bytes
pub Front-none : (before : List Instruction) (bytes rest : List ℕ) → 0 < length rest →
    ((i : Instruction) (after : List ℕ) → IsTrue (insn_fits (length bytes - length rest) i) → rest ≡ insn_bytes i ++ after → ⊥)
    → Front before bytes rest → (all : List Instruction) → IsCode bytes all → ⊥
Front-none before bytes rest lt none front all code =
    let place : length bytes - length rest ≡ size before = omega (arith, Front-place before bytes rest front) in
    let a = Front-only before bytes rest all front code in
    none_more (size before) a.0 rest lt (λ i after h e. none i after (rw place h) e) a.2 a.3
