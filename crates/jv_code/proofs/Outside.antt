-- Where the instructions of the profile end.
use Rattle.std.proofs.Common.{◌≡◌, ℕ, ◌+◌, ◌-◌, ◌<◌, Bool, true, false, ◌||◌, leb, List, [], ◌∷◌, ◌++◌, length, Option, Some, None, refl, sym, ap, subst, ◌∙◌, append_assoc, ◌⊎◌, inl, inr, arith}
use Rattle.std.specs.Prelude.{IsTrue, is_none, not}
use Rattle.std.specs.List.{flat_map}
use Rattle.std.proofs.lemmas.Bool.{and_parts, eqb-true, leb-true, false≢true}
use Rattle.std.proofs.lemmas.List.{append-nil}
use Rattle.jv_format.specs.Format.{◌>>=◌}
use Rattle.jv_format.proofs.Laws.{one_form}
use Rattle.jv_code.specs.Insns.{Instruction, insn_bytes, insn_fits}
use Rattle.jv_code.specs.declared.shapes.OpcodeShape.{OpcodeShape}
use Rattle.jv_code.specs.Inside.Shapes.{shape_at}
use Rattle.jv_code.specs.Places.{all_fit}
use Rattle.jv_code.specs.Inside.Reading.{insn, insn_read, operands}
use Rattle.jv_format.specs.Numbers.{is_from_to}
use Rattle.jv_code.specs.Unsupported.{moves_floats, computes_floats, is_unsupported, makes_floats, is_wide_float, front_unsupported, IsUnsupported, IsUnsupportedAt, CodeIsSupported}
use Rattle.jv_code.proofs.Tables.{all_below, one_below}
use Rattle.jv_code.proofs.Laws.{insn_is}
use Rattle.jv_code.proofs.Sizes.{size, size-cons, shorter}
use Rattle.jv_code.proofs.Fronts.{Front, Front-place}

or_parts : (a b : Bool) → IsTrue (a || b) → IsTrue a ⊎ IsTrue b
or_parts true b h = inl refl
or_parts false b h = inr h

none_is : (o : Option OpcodeShape) → IsTrue (is_none o) → o ≡ None
none_is None h = refl
none_is (Some s) h = absurd cc

-- the opcodes of the list are those of one byte

abbrev Below : ℕ → Bool → Type 0
Below opcode b = IsTrue b → opcode < 256

either : {opcode : ℕ} (a b : Bool) → Below opcode a → Below opcode b → Below opcode (a || b)
either true b p q h = p refl
either false b p q h = q h

within : (first last opcode : ℕ) → IsTrue (leb last 255) → Below opcode (is_from_to first last opcode)
within first last opcode few h =
    omega (arith, leb-true opcode last (and_parts (leb first opcode) (leb opcode last) h).1, leb-true last 255 few)

moves_below : (opcode : ℕ) → Below opcode (moves_floats opcode)
moves_below opcode = either _ _ (within 11 15 opcode refl)
    (either _ _ (within 23 24 opcode refl)
    (either _ _ (within 34 41 opcode refl)
    (either _ _ (within 48 49 opcode refl)
    (either _ _ (within 56 57 opcode refl) (either _ _ (within 67 74 opcode refl) (within 81 82 opcode refl))))))

computes_below : (opcode : ℕ) → Below opcode (computes_floats opcode)
computes_below opcode = either _ _ (within 98 99 opcode refl)
    (either _ _ (within 102 103 opcode refl)
    (either _ _ (within 106 107 opcode refl)
    (either _ _ (within 110 111 opcode refl)
    (either _ _ (within 114 115 opcode refl)
    (either _ _ (within 118 119 opcode refl)
    (either _ _ (within 134 135 opcode refl)
    (either _ _ (within 137 144 opcode refl) (either _ _ (within 149 152 opcode refl) (within 174 175 opcode refl)))))))))

unsupported_below : (opcode : ℕ) → Below opcode (is_unsupported opcode)
unsupported_below opcode =
    either _ _ (moves_below opcode) (either _ _ (computes_below opcode) (either _ _ (λ e. let same : opcode ≡ 186 = eqb-true opcode 186 e in omega arith) (within 194 195 opcode refl)))

no_shape : (opcode : ℕ) → IsTrue (is_unsupported opcode) → shape_at opcode ≡ None
no_shape opcode h =
    let all : IsTrue (all_below 256 (λ o. not (is_unsupported o) || is_none (shape_at o))) = refl in
    let one = one_below 256 opcode (λ o. not (is_unsupported o) || is_none (shape_at o)) all (unsupported_below opcode h) in
    elim (or_parts (not (is_unsupported opcode)) (is_none (shape_at opcode)) one) [
      | inl other ↦ absurd (false≢true (sym (ap not h) ∙ other))
      | inr none ↦ none_is (shape_at opcode) none
    ]

unread : (at opcode : ℕ) (rest : List ℕ) → IsTrue (is_unsupported opcode) → insn_read at (opcode ∷ rest) ≡ None
unread at opcode rest h = ap (λ (o : Option OpcodeShape). o >>= operands at rest) (no_shape opcode h)

floats_unread : (at opcode code : ℕ) (rest : List ℕ) → IsTrue (makes_floats opcode code) → insn_read at (opcode ∷ code ∷ rest) ≡ None
floats_unread at opcode code rest h =
    let parts = and_parts _ _ h in
    let is : opcode ≡ 188 = eqb-true _ _ parts.0 in
    elim (or_parts _ _ parts.1) [
      | inl six ↦ let e : code ≡ 6 = eqb-true _ _ six in rw (is, e) refl
      | inr seven ↦ let e : code ≡ 7 = eqb-true _ _ seven in rw (is, e) refl
    ]

wide_unread : (at opcode next : ℕ) (rest : List ℕ) → IsTrue (is_wide_float opcode next) → insn_read at (opcode ∷ next ∷ rest) ≡ None
wide_unread at opcode next rest h =
    let parts = and_parts _ _ h in
    let is : opcode ≡ 196 = eqb-true _ _ parts.0 in
    elim (or_parts _ _ parts.1) [
      | inl a ↦ let e : next ≡ 23 = eqb-true _ _ a in rw (is, e) refl
      | inr b ↦ elim (or_parts _ _ b) [
        | inl a ↦ let e : next ≡ 24 = eqb-true _ _ a in rw (is, e) refl
        | inr b ↦ elim (or_parts _ _ b) [
          | inl a ↦ let e : next ≡ 56 = eqb-true _ _ a in rw (is, e) refl
          | inr a ↦ let e : next ≡ 57 = eqb-true _ _ a in rw (is, e) refl
        ]
      ]
    ]

none_read : (at : ℕ) (bytes : List ℕ) → IsTrue (front_unsupported bytes) → insn_read at bytes ≡ None
none_read at [] h = absurd cc
none_read at (opcode ∷ []) h = unread at opcode [] h
none_read at (opcode ∷ next ∷ rest) h =
    elim (or_parts _ _ h) [
      | inl a ↦ unread at opcode (next ∷ rest) a
      | inr b ↦ elim (or_parts _ _ b) [
        | inl a ↦ floats_unread at opcode next rest a
        | inr a ↦ wide_unread at opcode next rest a
      ]
    ]

-- no instruction of the profile stands there
outside : (at : ℕ) (i : Instruction) (bytes rest : List ℕ) → IsTrue (insn_fits at i) → bytes ≡ insn_bytes i ++ rest → IsTrue (front_unsupported bytes) → ⊥
outside at i bytes rest fits e h =
    let none = none_read at bytes h in
    let some : insn_read at bytes ≡ Some (i, rest) = ap (insn_read at) e ∙ (insn_is at).again i rest fits in
    cc

-- one of two lists of instructions at the front goes on with the other's rest
abbrev GoesOn : ℕ → List Instruction → List Instruction → List ℕ → List ℕ → Type 0
GoesOn at xs ys r s = (more : List Instruction) × (r ≡ flat_map insn_bytes more ++ s) × IsTrue (all_fit (at + size xs) more)

two_fronts : (at : ℕ) (xs ys : List Instruction) (r s : List ℕ) → IsTrue (all_fit at xs) → IsTrue (all_fit at ys) → flat_map insn_bytes xs ++ r ≡
    flat_map insn_bytes ys ++ s → GoesOn at xs ys r s ⊎ GoesOn at ys xs s r
two_fronts at [] ys r s p q e = inl (ys, e, subst (λ (k : ℕ). IsTrue (all_fit k ys)) (omega arith) q)
two_fronts at (x ∷ xs) [] r s p q e = inr (x ∷ xs, sym e, subst (λ (k : ℕ). IsTrue (all_fit k (x ∷ xs))) (omega arith) p)
two_fronts at (x ∷ xs) (y ∷ ys) r s p q e =
    let ps = and_parts _ _ p in
    let qs = and_parts _ _ q in
    let one = one_form (insn at) (insn_is at) x y (flat_map insn_bytes xs ++ r) (flat_map insn_bytes ys ++ s) ps.0 qs.0
    (sym (append_assoc (insn_bytes x) (flat_map insn_bytes xs) r) ∙ e ∙ append_assoc (insn_bytes y) (flat_map insn_bytes ys) s) in
    let qt : IsTrue (all_fit (at + length (insn_bytes x)) ys) = subst (λ (k : Instruction). IsTrue (all_fit (at + length (insn_bytes k)) ys)) (sym one.0) qs.1 in
    let here : (at + length (insn_bytes x)) + size xs ≡ at + size (x ∷ xs) = omega (arith, size-cons x xs) in
    let there : (at + length (insn_bytes x)) + size ys ≡ at + size (y ∷ ys) = omega (arith, size-cons y ys, ap (λ (k : Instruction). length (insn_bytes k)) one.0) in
    elim (two_fronts (at + length (insn_bytes x)) xs ys r s ps.1 qt one.1) [
      | inl a ↦ inl (a.0, a.1, subst (λ (k : ℕ). IsTrue (all_fit k a.0)) here a.2)
      | inr a ↦ inr (a.0, a.1, subst (λ (k : ℕ). IsTrue (all_fit k a.0)) there a.2)
    ]

-- a list at the front ends where no instruction stands
same_end : (at : ℕ) (more : List Instruction) (r s : List ℕ) → ((i : Instruction) (after : List ℕ) → IsTrue (insn_fits at i) → r ≡ insn_bytes i ++
    after → ⊥) → r ≡ flat_map insn_bytes more ++ s → IsTrue (all_fit at more) → r ≡ s
same_end at [] r s none e fit = e
same_end at (i ∷ more) r s none e fit = absurd (none i (flat_map insn_bytes more ++ s) (and_parts _ _ fit).0 (e ∙ append_assoc (insn_bytes i) (flat_map insn_bytes more) s))

pub Front-unsupported : (before : List Instruction) (bytes rest : List ℕ) → ((i : Instruction) (after : List ℕ) → IsTrue (insn_fits (length bytes - length rest) i) → rest ≡ insn_bytes i ++ after → ⊥)
    → Front before bytes rest → IsUnsupported bytes → IsTrue (front_unsupported rest)
Front-unsupported before bytes rest none front u =
    let place : length bytes - length rest ≡ 0 + size before = omega (arith, Front-place before bytes rest front) in
    let stops : (i : Instruction) (after : List ℕ) → IsTrue (insn_fits (0 + size before) i) → rest ≡ insn_bytes i ++ after → ⊥ = λ i after h e. none i after (rw place h) e in
    elim (two_fronts 0 before u.before rest u.rest front.fit u.fit (sym front.is ∙ u.spelled)) [
      | inl a ↦ let same = same_end (0 + size before) a.0 rest u.rest stops a.1 a.2 in rw same u.front
      | inr a ↦ let same = same_end (0 + size u.before) a.0 u.rest rest (λ i after h e. outside (0 + size u.before) i u.rest after h e u.front) a.1 a.2 in rw (← same) u.front
    ]

pub is_unsupported_at :
    (before : List Instruction) (bytes rest : List ℕ) → Front before bytes rest → IsTrue (front_unsupported rest)
    → IsUnsupportedAt bytes (length bytes - length rest)
is_unsupported_at before bytes rest front h =
    let place : length bytes - length rest ≡ size before = omega (arith, Front-place before bytes rest front) in
    record { is = record { before = before; rest = rest; spelled = front.is; fit = front.fit; front = h }; place = place }

-- behind all instructions of some code nothing is left
pub code_is_supported : CodeIsSupported
code_is_supported bytes insns code u =
    let front : Front insns bytes [] = record { is = code.spelled ∙ sym (append-nil (flat_map insn_bytes insns)); fit = code.fit } in
    let none = Front-unsupported insns bytes [] (λ i after h e. omega (arith, shorter i [] after e)) front u in
    cc
