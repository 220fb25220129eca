-- Items that are instructions are code.
use Rattle.std.proofs.Common.{◌≡◌, ℕ, ◌+◌, ◌-◌, ◌*◌, ◌/◌, ◌%◌, ◌<◌, ◌≤◌, ◌^◌, List, [], ◌∷◌, ◌++◌, length, refl, sym, ap, subst, ◌∙◌, arith, eq-eqb, length-append}
use Rattle.std.specs.Prelude.{ℤ, pos, negsuc, ◌-ℤ◌, IsTrue, nat_lt, ◌&&◌}
use Rattle.std.specs.Int.{w32}
use Rattle.std.specs.List.{flat_map, list_all}
use Rattle.std.proofs.lemmas.Bool.{eqb-true, ltb-true, lt-ltb, and_parts, and_from}
use Rattle.std.proofs.lemmas.List.{length-replicate}
use Rattle.jv_format.specs.Format.{quad}
use Rattle.jv_format.proofs.Laws.{IsFormat, quad_is, signed_is, both_is}
use Rattle.jv_code.specs.declared.insn.Insn.TheVariants.{Nop, NullConstant, Compute, PoolConstant, PoolLongConstant, Load, Store, StoreLong, ArrayLoad, ReferenceArrayLoad, ArrayStore, ReferenceArrayStore, Stack, Division, Increment, Branch, Goto, TableSwitch, LookupSwitch, ReturnValue, Return, Field, Invoke, InvokeInterface, New, NewArray, NewReferenceArray, NewMultiArray, ArrayLength, Throw, CheckCast, InstanceOf}
use Rattle.jv_code.specs.declared.kinds.Computation.TheVariants as compute
use Rattle.jv_code.specs.declared.kinds.LocalForm.TheVariants as local
use Rattle.jv_code.specs.declared.kinds.IncrementForm.TheVariants as increment
use Rattle.jv_code.specs.declared.kinds.IntForm.TheVariants as int
use Rattle.jv_code.specs.declared.kinds.IndexForm.TheVariants as index
use Rattle.jv_code.specs.declared.kinds.JumpForm.TheVariants as jump
use Rattle.jv_code.specs.Numbers.{signed32}
use Rattle.jv_code.specs.Switches.{padding_fits, distances_fit, pair, pairs_in, keys_rise, pairs_fit}
use Rattle.jv_code.specs.Insns.{Instruction, insn_bytes, insn_fits}
use Rattle.jv_code.specs.Places.{all_fit}
use Rattle.jv_code.proofs.Pairs.{pair_found}
use Rattle.jv_code.proofs.Sizes.{some_bytes}
use Rattle.jv_asm.specs.declared.item.Item.{Item}
use Rattle.jv_asm.specs.Items.{zeros, lookup_switch_bytes, code_of_item, code_of_items, IsItemOf, AreInstructions, count_keeps_rules, table_keeps_rules, lookup_keeps_rules, ItemsAreCode}
use Rattle.jv_asm.proofs.Sizes.{distances_length, pairs_length}

-- ---- switches

zeros_fit : (at : ℕ) → IsTrue (padding_fits at (zeros at))
zeros_fit at = eq-eqb _ _ (length-replicate (3 - at % 4) 0)

table_fits_if : (z : ℤ) (offsets : List ℤ) → IsTrue (count_keeps_rules z (length offsets)) → IsTrue (distances_fit z (flat_map signed32.spelling offsets))
table_fits_if (pos n) offsets h =
    let count : length offsets ≡ n + 1 = eqb-true _ _ h in
    eq-eqb _ _ (omega (arith, distances_length offsets))
table_fits_if (negsuc n) offsets h = absurd cc

quad_below : (k : ℕ) → IsTrue (quad.fits k) → k < 2 ^ 32
quad_below k h = let lt : k < 4294967296 = ltb-true k 4294967296 h in omega arith

quad_within : (k : ℕ) → k < 2 ^ 32 → IsTrue (quad.fits k)
quad_within k h = lt-ltb k 4294967296 (omega arith)

signed32_is : IsFormat signed32
signed32_is = signed_is w32 quad quad_is quad_below quad_within

pair_is : IsFormat pair
pair_is = both_is signed32 signed32 signed32_is signed32_is

pairs_back : (pairs : List (ℤ × ℤ)) → IsTrue (list_all pair.fits pairs) → pairs_in (flat_map pair.spelling pairs) ≡ pairs
pairs_back [] h = refl
pairs_back (p ∷ pairs) h =
    let parts = and_parts (pair.fits p) (list_all pair.fits pairs) h in
    let rest = flat_map pair.spelling pairs in
    (pair_found (pair.spelling p ++ rest) p rest (pair_is.again p rest parts.0)).0 ∙ ap (λ (ps : List (ℤ × ℤ)). p ∷ ps) (pairs_back pairs parts.1)

pairs_fit_if : (pairs : List (ℤ × ℤ)) → IsTrue (list_all pair.fits pairs) → IsTrue (nat_lt (length pairs) 2147483648) → IsTrue (keys_rise pairs)
    → IsTrue (pairs_fit (flat_map pair.spelling pairs))
pairs_fit_if pairs fit few rise =
    let bytes = flat_map pair.spelling pairs in
    let long = pairs_length pairs in
    let count : length bytes / 8 ≡ length pairs = omega arith in
    let small : length pairs < 2147483648 = ltb-true (length pairs) 2147483648 few in
    let whole : length bytes ≡ 8 * (length bytes / 8) = omega arith in
    and_from _ _ (quad_within (length bytes / 8) (omega arith))
    (and_from _ _ (eq-eqb _ _ whole)
    (and_from _ _ (lt-ltb (length bytes / 8) 2147483648 (omega arith)) (subst (λ (ps : List (ℤ × ℤ)). IsTrue (keys_rise ps)) (sym (pairs_back pairs fit)) rise)))

lookup_spelled : (at : ℕ) (default : ℤ) (pairs : List (ℤ × ℤ)) → lookup_switch_bytes at default pairs ≡ insn_bytes (LookupSwitch (zeros at) default (flat_map pair.spelling pairs))
lookup_spelled at default pairs =
    let long = pairs_length pairs in
    let count : length pairs ≡ length (flat_map pair.spelling pairs) / 8 = omega arith in
    ap (λ (n : ℕ). 171 ∷ (zeros at ++ (signed32.spelling default ++ (quad.spelling n ++ flat_map pair.spelling pairs)))) count

table_switch_fits : (at : ℕ) (default low high : ℤ) (offsets : List ℤ) → IsTrue (table_keeps_rules default low high offsets)
    → IsTrue (insn_fits at (TableSwitch (zeros at) default low high (flat_map signed32.spelling offsets)))
table_switch_fits at default low high offsets h =
    let fit = and_parts (signed32.fits default && (signed32.fits low && signed32.fits high)) (count_keeps_rules (high -ℤ low) (length offsets)) h in
    and_from _ _ (zeros_fit at) (and_from _ _ fit.0 (table_fits_if (high -ℤ low) offsets fit.1))

lookup_switch_fits : (at : ℕ) (default : ℤ) (pairs : List (ℤ × ℤ)) → IsTrue (lookup_keeps_rules default pairs)
    → IsTrue (insn_fits at (LookupSwitch (zeros at) default (flat_map pair.spelling pairs)))
lookup_switch_fits at default pairs h =
    let fit = and_parts _ _ h in
    let more = and_parts _ _ fit.1 in
    let last = and_parts _ _ more.1 in
    and_from _ _ (zeros_fit at) (and_from _ _ fit.0 (pairs_fit_if pairs more.0 last.0 last.1))

-- ---- items

spelled : (at : ℕ) (insn : Instruction) (i : Item) → IsItemOf at insn i → code_of_item at i ≡ insn_bytes insn
spelled at Nop i h = ap (code_of_item at) h
spelled at NullConstant i h = ap (code_of_item at) h
spelled at (Compute (compute.IntConstant z int.Opcode)) i h = ap (code_of_item at) h
spelled at (Compute (compute.IntConstant z int.Byte)) i h = ap (code_of_item at) h
spelled at (Compute (compute.IntConstant z int.Half)) i h = ap (code_of_item at) h
spelled at (Compute (compute.LongConstant l)) i h = ap (code_of_item at) h
spelled at (Compute (compute.Arithmetic kind op)) i h = ap (code_of_item at) h
spelled at (Compute (compute.Negate kind)) i h = ap (code_of_item at) h
spelled at (Compute (compute.Shift kind op)) i h = ap (code_of_item at) h
spelled at (Compute (compute.Convert to)) i h = ap (code_of_item at) h
spelled at (Compute compute.CompareLongs) i h = ap (code_of_item at) h
spelled at (PoolConstant n index.Byte) i h = ap (code_of_item at) h
spelled at (PoolConstant n index.Half) i h = ap (code_of_item at) h
spelled at (PoolLongConstant n) i h = ap (code_of_item at) h
spelled at (Load kind n local.Opcode) i h = ap (code_of_item at) h
spelled at (Load kind n local.Byte) i h = ap (code_of_item at) h
spelled at (Load kind n local.Wide) i h = ap (code_of_item at) h
spelled at (Store kind n local.Opcode) i h = ap (code_of_item at) h
spelled at (Store kind n local.Byte) i h = ap (code_of_item at) h
spelled at (Store kind n local.Wide) i h = ap (code_of_item at) h
spelled at (StoreLong n local.Opcode) i h = ap (code_of_item at) h
spelled at (StoreLong n local.Byte) i h = ap (code_of_item at) h
spelled at (StoreLong n local.Wide) i h = ap (code_of_item at) h
spelled at (ArrayLoad kind) i h = ap (code_of_item at) h
spelled at ReferenceArrayLoad i h = ap (code_of_item at) h
spelled at (ArrayStore kind) i h = ap (code_of_item at) h
spelled at ReferenceArrayStore i h = ap (code_of_item at) h
spelled at (Stack form) i h = ap (code_of_item at) h
spelled at (Division kind op) i h = ap (code_of_item at) h
spelled at (Increment n z increment.Byte) i h = ap (code_of_item at) h
spelled at (Increment n z increment.Wide) i h = ap (code_of_item at) h
spelled at (Branch test z) i h = ap (code_of_item at) h
spelled at (Goto z jump.Half) i h = ap (code_of_item at) h
spelled at (Goto z jump.Quad) i h = ap (code_of_item at) h
spelled at (TableSwitch padding default low high offsets) i h =
    ap (code_of_item at) h.is
    ∙ ap (λ (p : List ℕ). 170 ∷ (p ++ ((signed32.spelling default ++ (signed32.spelling low ++ signed32.spelling high)) ++ flat_map signed32.spelling h.distances.now))) (sym h.padding_is)
    ∙ ap (λ (o : List ℕ). 170 ∷ (padding ++ ((signed32.spelling default ++ (signed32.spelling low ++ signed32.spelling high)) ++ o))) (sym h.offsets_are)
spelled at (LookupSwitch padding default pairs) i h =
    ap (code_of_item at) h.is ∙ lookup_spelled at default h.keys.now
    ∙ ap (λ (p : List ℕ). insn_bytes (LookupSwitch p default (flat_map pair.spelling h.keys.now))) (sym h.padding_is)
    ∙ ap (λ (p : List ℕ). insn_bytes (LookupSwitch padding default p)) (sym h.pairs_are)
spelled at (ReturnValue kind) i h = ap (code_of_item at) h
spelled at Return i h = ap (code_of_item at) h
spelled at (Field access n) i h = ap (code_of_item at) h
spelled at (Invoke how n) i h = ap (code_of_item at) h
spelled at (InvokeInterface n count) i h = ap (code_of_item at) h
spelled at (New n) i h = ap (code_of_item at) h
spelled at (NewArray type) i h = ap (code_of_item at) h
spelled at (NewReferenceArray n) i h = ap (code_of_item at) h
spelled at (NewMultiArray n dimensions) i h = ap (code_of_item at) h
spelled at ArrayLength i h = ap (code_of_item at) h
spelled at Throw i h = ap (code_of_item at) h
spelled at (CheckCast n) i h = ap (code_of_item at) h
spelled at (InstanceOf n) i h = ap (code_of_item at) h

-- ---- lists of items

all_spelled : (at : ℕ) (items : List Item) (insns : List Instruction) → AreInstructions at items insns
    → (code_of_items at items ≡ flat_map insn_bytes insns) × IsTrue (all_fit at insns)
all_spelled at [] [] h = (refl, refl)
all_spelled at [] (insn ∷ insns) h = absurd h
all_spelled at (i ∷ items) [] h = absurd h
all_spelled at (i ∷ items) (insn ∷ insns) h =
    let one = spelled at insn i h.0.spells in
    let rest = all_spelled (at + length (code_of_item at i)) items insns h.1 in (
      ap (λ b. b ++ code_of_items (at + length (code_of_item at i)) items) one ∙ ap (λ b. insn_bytes insn ++ b) rest.0,
      and_from _ _ h.0.fits (subst (λ (b : List ℕ). IsTrue (all_fit (at + length b) insns)) one rest.1),
    )

some_spelled : (items : List Item) (insns : List Instruction) → 1 ≤ length items → AreInstructions 0 items insns → 1 ≤ length (code_of_items 0 items)
some_spelled [] insns some h = absurd (omega arith)
some_spelled (i ∷ items) [] some h = absurd h
some_spelled (i ∷ items) (insn ∷ insns) some h =
    let one = ap length (spelled 0 insn i h.0.spells) in
    omega (arith, some_bytes insn, length-append (code_of_item 0 i) (code_of_items (0 + length (code_of_item 0 i)) items))

pub items_are_code : ItemsAreCode
items_are_code = record {
  code = λ items insns some few h. record {
    spelled = (all_spelled 0 items insns h).0;
    fit = (all_spelled 0 items insns h).1;
    some = some_spelled items insns some h;
    few = few;
  };
  table = λ at default low high offsets h. record {
    spells = record { distances = offsets; is = refl; padding_is = refl; offsets_are = refl };
    fits = table_switch_fits at default low high offsets.now h;
  };
  lookup = λ at default pairs h. record {
    spells = record { keys = pairs; is = refl; padding_is = refl; pairs_are = refl };
    fits = lookup_switch_fits at default pairs.now h;
  };
}
