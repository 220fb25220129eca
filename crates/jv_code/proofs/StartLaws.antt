-- Where instructions start.
use Rattle.std.proofs.Common.{◌≡◌, ℕ, ◌+◌, ◌-◌, ◌<◌, ◌≤◌, List, [], ◌∷◌, ◌++◌, length, drop, Some, None, refl, sym, ap, subst, ◌∙◌, append_assoc, ◌⊎◌, inl, inr, arith}
use Rattle.std.specs.Prelude.{IsTrue, ◌&&◌, ◌-ℤ◌, ◌==◌, nat_lt, ◌/◌, ◌*◌}
use Rattle.jv_format.specs.Format.{quad}
use Rattle.std.specs.List.{flat_map}
use Rattle.std.proofs.lemmas.Bool.{and_parts}
use Rattle.std.proofs.lemmas.List.{append-nil, drop_at, length-append, length-drop}
use Rattle.std.proofs.lemmas.List.Concat.{flat_map-append}
use Rattle.jv_format.proofs.Laws.{one_form, is_some}
use Rattle.jv_code.specs.Insns.{Instruction, insn_bytes, insn_fits}
use Rattle.jv_code.specs.Places.{all_fit, IsCode, IsAt, IsStart, IsStartOrEnd, OneList, StandsInList, StartsApart, OneAtOffset, FitsThere, EachHasDistance, KeysRise}
use Rattle.jv_code.specs.Inside.Reading.{insn, insn_read, known_insn_read}
use Rattle.jv_code.specs.Numbers.{signed32}
use Rattle.jv_code.specs.Switches.{padding_fits, pairs_fit, pairs_keep_rules, pairs_in, keys_rise}
use Rattle.jv_code.proofs.Distances.{each_distance}
use Rattle.jv_code.proofs.Known.{insn_known}
use Rattle.jv_code.proofs.Laws.{insn_is}
use Rattle.jv_code.proofs.Fronts.{Front, Front-nil, Front-place, Front-only, none_more}
use Rattle.jv_code.proofs.Sizes.{size, some_bytes, size-cons, size-append}

-- every instruction before starts below pc
abbrev pub StartsBelow : List Instruction → ℕ → Type 0
StartsBelow before pc = (b c : List Instruction) (i : Instruction) → before ≡ b ++ i ∷ c → size b < pc

pub StartsBelow-nil : (pc : ℕ) → StartsBelow [] pc
StartsBelow-nil pc [] c i e = absurd cc
StartsBelow-nil pc (x ∷ b) c i e = absurd cc

-- where a list and one more is cut at an instruction
push_cut : (before b c : List Instruction) (i j : Instruction) → before ++ i ∷ [] ≡ b ++ j ∷ c → (b ≡ before) ⊎ ((d : List Instruction) × (before ≡ b ++ j ∷ d))
push_cut [] [] c i j e = inl refl
push_cut [] (x ∷ []) c i j e = absurd cc
push_cut [] (x ∷ y ∷ b) c i j e = absurd cc
push_cut (x ∷ before) [] c i j e = inr (before, let same : x ≡ j = cc in ap (λ (k : Instruction). k ∷ before) same)
push_cut (x ∷ before) (y ∷ b) c i j e =
    let head : x ≡ y = cc in
    let tail : before ++ i ∷ [] ≡ b ++ j ∷ c = cc in
    elim (push_cut before b c i j tail) [
      | inl same ↦ inl (rw (head, same) refl)
      | inr d ↦ inr (d.0, rw (head, ← d.1) refl)
    ]

pub StartsBelow-push : (before : List Instruction) (pc : ℕ) (i : Instruction) → size before < pc → StartsBelow before pc → StartsBelow (before ++ i ∷ []) pc
StartsBelow-push before pc i lt h b c j e =
    elim (push_cut before b c i j e) [
      | inl same ↦ rw same lt
      | inr d ↦ h b d.0 j d.1
    ]

-- two ways to cut a list
two_cuts : (xs more b c : List Instruction) (i : Instruction) → xs ++ more ≡ b ++ i ∷ c → ((d : List Instruction) × (xs ≡ b ++ i ∷ d)) ⊎ ((d : List Instruction) × (b ≡ xs ++ d) × (more ≡ d ++ i ∷ c))
two_cuts [] more b c i e = inr (b, refl, e)
two_cuts (x ∷ xs) more [] c i e = inl (xs, let same : x ≡ i = cc in ap (λ (k : Instruction). k ∷ xs) same)
two_cuts (x ∷ xs) more (y ∷ b) c i e =
    let head : x ≡ y = cc in
    let tail : xs ++ more ≡ b ++ i ∷ c = cc in
    elim (two_cuts xs more b c i tail) [
      | inl d ↦ inl (d.0, rw (head, ← d.1) refl)
      | inr d ↦ inr (d.0, rw (head, ← d.1) refl, d.2)
    ]

-- a search from the start that has passed every start below pc
pub record Search (before : List Instruction) (bytes rest : List ℕ) (pc : ℕ) : Type 0 where
  pub front : Front before bytes rest
  pub below : StartsBelow before pc

-- an instruction at pc is the first of the rest
pub start_is_next : (before : List Instruction) (bytes rest : List ℕ) (pc : ℕ) (i : Instruction) → pc ≤ size before → Search before bytes rest pc →
    IsAt bytes pc i → (pc ≡ size before) × (1 ≤ length rest)
start_is_next before bytes rest pc i le s at =
    let a = Front-only before bytes rest (at.before ++ i ∷ at.after) s.front at.code in
    elim (two_cuts before a.0 at.before at.after i (sym a.1)) [
      | inl d ↦ absurd (omega (arith, s.below at.before d.0 i d.1, at.place))
      | inr d ↦ (
        omega (arith, at.place, ap size d.1, size-append before d.0, le),
        omega (arith, ap length a.2, ap size d.2, size-append d.0 (i ∷ at.after), size-cons i at.after, some_bytes i),
      )
    ]

first_more : (all before more : List Instruction) (bytes rest : List ℕ) (pc : ℕ) → IsCode bytes all → pc ≡ size before → 1 ≤ length rest → all ≡
    before ++ more → rest ≡ flat_map insn_bytes more → (i : Instruction) × IsAt bytes pc i
first_more all before [] bytes rest pc code place lt e is = absurd (omega (arith, ap length is, lt))
first_more all before (i ∷ more) bytes rest pc code place lt e is = (i, record { before = before; after = more; code = rw (← e) code; place = place })

fit-parts : (at : ℕ) (xs ys : List Instruction) → IsTrue (all_fit at (xs ++ ys)) → IsTrue (all_fit (at + size xs) ys)
fit-parts at [] ys h = subst (λ (k : ℕ). IsTrue (all_fit k ys)) (omega arith) h
fit-parts at (x ∷ xs) ys h =
    let next : (at + length (insn_bytes x)) + size xs ≡ at + size (x ∷ xs) = omega (arith, size-cons x xs) in
    subst (λ (k : ℕ). IsTrue (all_fit k ys)) next (fit-parts (at + length (insn_bytes x)) xs ys (and_parts _ _ h).1)

-- what stands at an instruction's offset
pub at_rest : (bytes : List ℕ) (pc : ℕ) (i : Instruction) (at : IsAt bytes pc i) → (drop pc bytes ≡ insn_bytes i ++ flat_map insn_bytes at.after) × IsTrue (insn_fits pc i)
at_rest bytes pc i at =
    let whole : bytes ≡ flat_map insn_bytes at.before ++ flat_map insn_bytes (i ∷ at.after) = at.code.spelled ∙ flat_map-append insn_bytes at.before (i ∷ at.after) in
    let place : length (flat_map insn_bytes at.before) ≡ pc = sym at.place in
    let fits = (and_parts _ _ (fit-parts 0 at.before (i ∷ at.after) at.code.fit)).0 in
    let same : 0 + size at.before ≡ pc = omega (arith, at.place) in
    (ap (drop pc) whole ∙ drop_at (flat_map insn_bytes at.before) (flat_map insn_bytes (i ∷ at.after)) pc place, subst (λ (k : ℕ). IsTrue (insn_fits k i)) same fits)

pub is_at : (bytes : List ℕ) (pc : ℕ) (i j : Instruction) (after : List ℕ) → IsAt bytes pc i → drop pc bytes ≡ insn_bytes j ++ after → IsTrue (insn_fits pc j) → IsAt bytes pc j
is_at bytes pc i j after at e fits =
    let rest = at_rest bytes pc i at in
    let same = one_form (insn pc) (insn_is pc) i j (flat_map insn_bytes at.after) after rest.1 fits (sym rest.0 ∙ e) in
    subst (λ (k : Instruction). IsAt bytes pc k) same.0 at

pub next_is_start : (all before : List Instruction) (bytes rest : List ℕ) (pc : ℕ) → IsCode bytes all → pc ≡ size before → 1 ≤ length rest →
    Front before bytes rest → (i : Instruction) × IsAt bytes pc i
next_is_start all before bytes rest pc code place lt front =
    let a = Front-only before bytes rest all front code in
    first_more all before a.0 bytes rest pc code place lt a.1 a.2

pub moved : (a b : List ℕ) (pc : ℕ) (i : Instruction) → a ≡ b → IsAt b pc i → IsAt a pc i
moved a b pc i e at = subst (λ (v : List ℕ). IsAt v pc i) (sym e) at

-- where no instruction stands at the rest, none starts at pc
pub search_fails : (before : List Instruction) (bytes rest : List ℕ) (pc : ℕ) (i : Instruction) →
    ((j : Instruction) (after : List ℕ) → IsTrue (insn_fits (length bytes - length rest) j) → rest ≡ insn_bytes j ++ after → ⊥)
    → Search before bytes rest pc → IsAt bytes pc i → ⊥
search_fails before bytes rest pc i none s at =
    let place : length bytes - length rest ≡ size before = omega (arith, Front-place before bytes rest s.front) in
    let a = Front-only before bytes rest (at.before ++ i ∷ at.after) s.front at.code in
    elim (two_cuts before a.0 at.before at.after i (sym a.1)) [
      | inl d ↦ omega (arith, s.below at.before d.0 i d.1, at.place)
      | inr d ↦ none_more (size before) a.0 rest (omega (arith, ap length a.2, ap size d.2, size-append d.0 (i ∷ at.after), size-cons i at.after, some_bytes i))
          (λ j after h e. none j after (rw place h) e) a.2 a.3
    ]

-- the test at the end of a search, which may have stopped past pc
pub search_ends : (all before : List Instruction) (bytes rest : List ℕ) (pc : ℕ) → IsCode bytes all → pc ≤ length bytes - length rest → Search before bytes rest pc
    → (length bytes - length rest ≡ pc → 1 ≤ length rest → (i : Instruction) × IsAt bytes pc i) × ((i : Instruction) → IsAt bytes pc i → (length bytes - length rest ≡ pc) × (1 ≤ length rest))
search_ends all before bytes rest pc code le s =
    let place : length bytes - length rest ≡ size before = omega (arith, Front-place before bytes rest s.front) in
    (λ e lt. next_is_start all before bytes rest pc code (sym e ∙ place) lt s.front, λ i at. let n = start_is_next before bytes rest pc i (omega (arith, place, le)) s at in (place ∙ sym n.0, n.1))

pub first_start : (all : List Instruction) (bytes : List ℕ) → IsCode bytes all → IsStart bytes 0
first_start all bytes code = next_is_start all [] bytes bytes 0 code refl code.some (Front-nil bytes)

-- where an instruction ends
after_end : (bytes : List ℕ) (before more : List Instruction) (i : Instruction) → IsCode bytes (before ++ i ∷ more) → IsStartOrEnd bytes (size before + length (insn_bytes i))
after_end bytes before [] i code =
    inr (sym (ap length code.spelled ∙ size-append before (i ∷ []) ∙ ap (λ (n : ℕ). size before + n) (omega (arith, size-cons i []))))
after_end bytes before (j ∷ more) i code =
    let all : before ++ i ∷ (j ∷ more) ≡ (before ++ i ∷ []) ++ j ∷ more = sym (append_assoc before (i ∷ []) (j ∷ more)) in
    inl (
      j,
      record {
        before = before ++ i ∷ [];
        after = more;
        code = subst (λ (insns : List Instruction). IsCode bytes insns) all code;
        place = omega (arith, size-append before (i ∷ []), size-cons i []);
      },
    )

pub end_is_start : (bytes : List ℕ) (pc : ℕ) (i : Instruction) → IsAt bytes pc i → IsStartOrEnd bytes (pc + length (insn_bytes i))
end_is_start bytes pc i at =
    subst (λ (n : ℕ). IsStartOrEnd bytes (n + length (insn_bytes i))) (sym at.place) (after_end bytes at.before at.after i at.code)

pub end_within : (bytes : List ℕ) (pc : ℕ) (i : Instruction) → IsAt bytes pc i → pc + length (insn_bytes i) ≤ length bytes
end_within bytes pc i at = omega (arith, ap length at.code.spelled, at.place, size-append at.before (i ∷ at.after), size-cons i at.after)

-- where an instruction ends, by what follows it
pub ends_at : (bytes : List ℕ) (pc : ℕ) (i : Instruction) (after : List ℕ) → IsAt bytes pc i → drop pc bytes ≡ insn_bytes i ++ after → IsStartOrEnd bytes (length bytes - length after)
ends_at bytes pc i after at e =
    let rest = at_rest bytes pc i at in
    let same = (one_form (insn pc) (insn_is pc) i i (flat_map insn_bytes at.after) after rest.1 rest.1 (sym rest.0 ∙ e)).1 in
    let place : pc + length (insn_bytes i) ≡ length bytes - length after =
    omega (arith, ap length same, ap length at.code.spelled, at.place, size-append at.before (i ∷ at.after), size-cons i at.after) in
    subst (λ (n : ℕ). IsStartOrEnd bytes n) place (end_is_start bytes pc i at)

-- ---- laws

no_more : (more : List Instruction) → [] ≡ flat_map insn_bytes more → more ≡ []
no_more [] e = refl
no_more (i ∷ more) e = absurd (omega (arith, ap length e, size-cons i more, some_bytes i))

pub OneList-holds : OneList
OneList-holds bytes all others p q =
    let a = Front-only all bytes [] others (record { is = p.spelled ∙ sym (append-nil (flat_map insn_bytes all)); fit = p.fit }) q in
    let none : a.0 ≡ [] = no_more a.0 a.2 in
    sym (a.1 ∙ ap (λ (r : List Instruction). all ++ r) none ∙ append-nil all)

pub StandsInList-holds : StandsInList
StandsInList-holds bytes all pc i code = (
  λ at. record { before = at.before; after = at.after; is = OneList-holds bytes all (at.before ++ i ∷ at.after) code at.code; place = at.place },
  λ cut. record { before = cut.before; after = cut.after; code = subst (λ (insns : List Instruction). IsCode bytes insns) cut.is code; place = cut.place },
)

-- two instructions of one list
apart : (b c d e : List Instruction) (i j : Instruction) → b ++ i ∷ c ≡ d ++ j ∷ e → 1 + size b ≤ size d → size b + length (insn_bytes i) ≤ size d
apart [] c [] e i j same lt = absurd (omega (arith, lt))
apart [] c (x ∷ d) e i j same lt = let head : i ≡ x = cc in rw head (omega (arith, size-cons x d))
apart (y ∷ b) c [] e i j same lt = absurd (omega (arith, lt))
apart (y ∷ b) c (x ∷ d) e i j same lt =
    let head : y ≡ x = cc in
    let tail : b ++ i ∷ c ≡ d ++ j ∷ e = cc in
    let less : 1 + size b ≤ size d = omega (arith, lt, size-cons y b, size-cons x d, ap (λ (k : Instruction). length (insn_bytes k)) head) in
    omega (arith, apart b c d e i j tail less, size-cons y b, size-cons x d, ap (λ (k : Instruction). length (insn_bytes k)) head)

pub StartsApart-holds : StartsApart
StartsApart-holds bytes pc next i j p q lt =
    let same = OneList-holds bytes (p.before ++ i ∷ p.after) (q.before ++ j ∷ q.after) p.code q.code in
    omega (arith, apart p.before p.after q.before q.after i j same (omega (arith, lt, p.place, q.place)), p.place, q.place)

pub OneAtOffset-holds : OneAtOffset
OneAtOffset-holds bytes pc i j p q =
    let one = at_rest bytes pc i p in
    let two = at_rest bytes pc j q in
    (one_form (insn pc) (insn_is pc) i j (flat_map insn_bytes p.after) (flat_map insn_bytes q.after) one.1 two.1 (sym one.0 ∙ two.0)).0

pub FitsThere-holds : FitsThere
FitsThere-holds bytes pc i at = (at_rest bytes pc i at).1

pub EachHasDistance-holds : EachHasDistance
EachHasDistance-holds bytes pc padding default low high distances at =
    let fits = (at_rest bytes pc _ at).1 in
    each_distance (high -ℤ low) distances (and_parts _ _ (and_parts _ _ fits).1).1

pub KeysRise-holds : KeysRise
KeysRise-holds bytes pc padding default pairs at =
    let fits = (and_parts (signed32.fits default) (pairs_fit pairs) (and_parts (padding_fits pc padding) (signed32.fits default && pairs_fit pairs) (at_rest bytes pc _ at).1).1).1 in
    let rest = (and_parts (quad.fits (length pairs / 8)) (length pairs == 8 * (length pairs / 8) && pairs_keep_rules (length pairs / 8) pairs) fits).1 in
    let right = (and_parts (length pairs == 8 * (length pairs / 8)) (pairs_keep_rules (length pairs / 8) pairs) rest).1 in
    (and_parts (nat_lt (length pairs / 8) 2147483648) (keys_rise (pairs_in pairs)) right).1

-- ---- what is read where an instruction is known to stand

known_there : (bytes rest : List ℕ) (pc : ℕ) (i : Instruction) (at : IsAt bytes pc i) → drop pc bytes ≡ rest → known_insn_read pc rest ≡ Some (i, flat_map insn_bytes at.after)
known_there bytes rest pc i at e =
    let h = at_rest bytes pc i at in
    insn_known pc rest (i, flat_map insn_bytes at.after) (ap (insn_read pc) (sym e ∙ h.0) ∙ (insn_is pc).again i (flat_map insn_bytes at.after) h.1)

pub known_none : (bytes rest : List ℕ) (pc : ℕ) (i : Instruction) → IsAt bytes pc i → drop pc bytes ≡ rest → known_insn_read pc rest ≡ None → ⊥
known_none bytes rest pc i at e none = let there = known_there bytes rest pc i at e in cc

abbrev ReadThere : List ℕ → ℕ → Instruction → List ℕ → Type 0
ReadThere bytes pc j after = IsAt bytes pc j × (drop pc bytes ≡ insn_bytes j ++ after)

pub known_is : (bytes rest : List ℕ) (pc : ℕ) (i j : Instruction) (after : List ℕ) → IsAt bytes pc i → drop pc bytes ≡ rest →
    known_insn_read pc rest ≡ Some (j, after) → IsAt bytes pc j × (drop pc bytes ≡ insn_bytes j ++ after)
known_is bytes rest pc i j after at e read =
    let first : Instruction × List ℕ = (i, flat_map insn_bytes at.after) in
    let same : first ≡ (j, after) = is_some first (j, after) (sym (known_there bytes rest pc i at e) ∙ read) in
    subst (λ (y : Instruction × List ℕ). ReadThere bytes pc y.0 y.1) same (at, (at_rest bytes pc i at).0)

-- what is behind an instruction is the rest of the code
pub ends_there : (bytes : List ℕ) (pc : ℕ) (i : Instruction) (after : List ℕ) → IsAt bytes pc i → drop pc bytes ≡ insn_bytes i ++ after → (pc + length (insn_bytes i)) + length after ≡ length bytes
ends_there bytes pc i after at e =
    omega (arith, ap length e, length-append (insn_bytes i) after, length-drop pc bytes, end_within bytes pc i at)
