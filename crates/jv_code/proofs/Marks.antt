-- A table of the offsets where instructions start.
use Rattle.std.proofs.Common.{◌≡◌, ◌≢◌, ℕ, zero, suc, ◌+◌, ◌<◌, ◌≤◌, Bool, true, false, true≢false, ◌↔◌, List, [], ◌∷◌, length, replicate, take, set, Some, refl, sym, ap, subst, ◌∙◌, inl, inr, arith}
use Rattle.std.specs.List.{slice_get, All}
use Rattle.std.proofs.lemmas.List.Elements.{All-more, All-get_or}
use Rattle.jv_format.specs.declared.handlers.Handler.{Handler}
use Rattle.std.proofs.lemmas.List.{get_or-replicate, length-replicate}
use Rattle.std.proofs.lemmas.Bool.{cases_eq, cases_lt}
use Rattle.std.proofs.lemmas.Option.{slice_get_within, get_or_from_slice_get}
use Rattle.jv_code.specs.Insns.{Instruction, insn_bytes}
use Rattle.jv_code.specs.Places.{IsAt, IsStart, IsStartOrEnd}
use Rattle.jv_code.specs.Inside.StartTable.{IsBlank, IsStartTable}
use Rattle.jv_code.proofs.Sizes.{some_bytes}
use Rattle.jv_code.proofs.StartLaws.{end_within, StartsApart-holds}

-- an instruction starts inside the code
start_within : (bytes : List ℕ) (pc : ℕ) → IsStart bytes pc → pc < length bytes
start_within bytes pc s = omega (arith, end_within bytes pc s.0 s.1, some_bytes s.0)

pub IsBlank-replicate : (n : ℕ) → IsBlank (replicate n false)
IsBlank-replicate n pc h =
    let lt : pc < n = omega (arith, slice_get_within (replicate n false) pc true h, length-replicate n false) in
    true≢false (sym (get_or_from_slice_get (replicate n false) pc true false h) ∙ get_or-replicate n pc false false lt)

slice_get-set_other : (table : List Bool) (pc k : ℕ) → k ≢ pc → slice_get (set table pc true) k ≡ slice_get table k
slice_get-set_other [] pc k other = refl
slice_get-set_other (x ∷ table) zero zero other = absurd (other refl)
slice_get-set_other (x ∷ table) zero (suc k) other = refl
slice_get-set_other (x ∷ table) (suc pc) zero other = refl
slice_get-set_other (x ∷ table) (suc pc) (suc k) other = slice_get-set_other table pc k (λ e. other (ap suc e))

slice_get-set_same : (table : List Bool) (pc : ℕ) → pc < length table → slice_get (set table pc true) pc ≡ Some true
slice_get-set_same [] pc lt = absurd (omega (arith, lt))
slice_get-set_same (x ∷ table) zero lt = refl
slice_get-set_same (x ∷ table) (suc pc) lt = slice_get-set_same table pc (omega (arith, lt))

-- the table marks the starts below an offset, where the next instruction starts or the code ends
pub record Marked (bytes : List ℕ) (table : List Bool) (next : ℕ) : Type 0 where
  pub goes_on : IsStartOrEnd bytes next
  pub marks : (pc : ℕ) → (slice_get table pc ≡ Some true) ↔ (IsStart bytes pc × (pc < next))

pub Marked-blank : (bytes : List ℕ) (table : List Bool) → IsStart bytes 0 → IsBlank table → Marked bytes table 0
Marked-blank bytes table first blank = record {
  goes_on = inl first;
  marks = λ pc. (λ h. absurd (blank pc h), λ s. absurd (omega (arith, s.1)));
}

-- a start that is not this one lies below it, if it lies below the next
below_this : (bytes : List ℕ) (pc k : ℕ) (i : Instruction) → IsAt bytes pc i → k ≢ pc → k < pc + length (insn_bytes i) → IsStart bytes k → k < pc
below_this bytes pc k i at other lt s =
    elim (cases_lt k pc) [
      | inl below ↦ below
      | inr past ↦ absurd (omega (arith, lt, other, past, StartsApart-holds bytes pc k i s.0 at s.1 (omega (arith, other, past))))
    ]

pub Marked-more : (bytes : List ℕ) (table : List Bool) (pc next : ℕ) (i : Instruction) → IsAt bytes pc i → next ≡ pc + length (insn_bytes i) →
    IsStartOrEnd bytes next → pc < length table → Marked bytes table pc
    → Marked bytes (set table pc true) next
Marked-more bytes table pc next i at is goes_on lt m = record {
  goes_on = goes_on;
  marks = λ k. elim (cases_eq k pc) [
    | inl same ↦ (
      λ _. (subst (λ (n : ℕ). IsStart bytes n) (sym same) (i, at), omega (arith, same, is, some_bytes i)),
      λ _. ap (slice_get (set table pc true)) same ∙ slice_get-set_same table pc lt,
    )
    | inr other ↦ (
      λ h. let s = (m.marks k).0 (sym (slice_get-set_other table pc k other) ∙ h) in (s.0, omega (arith, s.1, is)),
      λ s. slice_get-set_other table pc k other ∙ (m.marks k).1 (s.0, below_this bytes pc k i at other (omega (arith, s.1, is)) s.0),
    )
  ];
}

pub Marked-all : (bytes : List ℕ) (table : List Bool) (next : ℕ) → length bytes ≤ next → Marked bytes table next → IsStartTable bytes table
Marked-all bytes table next le m = λ pc. (λ h. ((m.marks pc).0 h).0, λ s. (m.marks pc).1 (s, omega (arith, le, start_within bytes pc s)))

-- ---- each handler of a table

pub handler_more : (P : Handler → Type 0) (xs : List Handler) (k : ℕ) (h : Handler) → slice_get xs k ≡ Some h → All P (take k xs) → P h → All P (take (k + 1) xs)
handler_more P xs k h e all one =
    All-more P xs k h (slice_get_within xs k h e) all (subst P (sym (get_or_from_slice_get xs k h h e)) one)

pub handler_there : (P : Handler → Type 0) (xs : List Handler) (k : ℕ) (h : Handler) → slice_get xs k ≡ Some h → All P xs → P h
handler_there P xs k h e all = subst P (get_or_from_slice_get xs k h h e) (All-get_or P xs k h (slice_get_within xs k h e) all)
