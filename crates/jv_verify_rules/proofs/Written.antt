-- Where an instruction that stores can write.
use Rattle.std.proofs.Common.{◌≡◌, ℕ, zero, suc, ◌+◌, ◌<◌, ◌≤◌, Bool, true, false, List, [], ◌∷◌, ◌++◌, length, drop, Option, Some, None, refl, subst, inl, inr, arith, if◌then◌else◌}
use Rattle.std.specs.Prelude.{nat_le, slice_get, ◌⊎◌}
use Rattle.std.specs.Option.{option_map}
use Rattle.std.proofs.lemmas.Bool.{leb-true}
use Rattle.jv_format.specs.Format.{◌>>=◌}
use Rattle.jv_stackmap.specs.declared.verification.VerificationTypeOf.TheVariants as types
use Rattle.jv_stackmap.specs.Types.{FrameType}
use Rattle.jv_stackmap.specs.Frames.{Frame, type_by_words}
use Rattle.jv_code.specs.Insns.{Instruction}
use Rattle.jv_code.specs.declared.insn.Insn.TheVariants as insns
use Rattle.jv_code.specs.declared.kinds.Invocation.TheVariants as invocations
use Rattle.jv_code.specs.declared.kinds.ValueKind.{ValueKind}
use Rattle.jv_code.specs.declared.kinds.ValueKind.TheVariants as kinds
use Rattle.jv_meaning_typing.specs.Environment.{Environment}
use Rattle.jv_meaning_typing.specs.FrameChanges.{with_stack, with_locals, taken_of_kind, stored}
use Rattle.jv_meaning_typing.specs.ValueRules.{value_kind, store}
use Rattle.jv_meaning_typing.specs.Rule.{other_rule, rule}
use Rattle.jv_verify_rules.specs.Laws.{keeps_locals, is_beside, may_write}
use Rattle.jv_verify_rules.proofs.Unwritten.{Leaves, bound, other_keeps, rule_keeps}

-- a local variable is before those beside an index, or behind them
abbrev Apart : ℕ → ℕ → Type 0
Apart index k = (suc k < index) ⊎ (suc index < k)

apart : (index k : ℕ) → is_beside index k ≡ false → Apart index k
apart index k e = by_test (nat_le index (suc k)) refl
  where
    by_test : (b : Bool) → nat_le index (suc k) ≡ b → Apart index k
    by_test false below = inl (grind (arith, below))
    by_test true above = inr (grind (arith, above, e))

-- ---- what is stored leaves the others

abbrev LeavesOthers : ℕ → List FrameType → Option (List FrameType) → Type 0
LeavesOthers index old None = Unit {0}
LeavesOthers index old (Some new) = (k : ℕ) → Apart index k → slice_get new k ≡ slice_get old k

behind_words : (words locals : List FrameType) (k : ℕ) → length words ≤ length locals → length words ≤ k → slice_get (words ++ drop (length words) locals) k ≡ slice_get locals k
behind_words [] locals k room le = refl
behind_words (w ∷ words) [] k room le = absurd (omega (arith, room))
behind_words (w ∷ words) (l ∷ locals) zero room le = absurd (omega (arith, le))
behind_words (w ∷ words) (l ∷ locals) (suc k) room le = behind_words words locals k (omega (arith, room)) (omega (arith, le))

first_stored : (words locals : List FrameType) → length words ≤ 2 → LeavesOthers zero locals (stored words zero locals)
first_stored words locals few = by_test (nat_le (length words) (length locals)) refl
  where
    by_test : (test : Bool) → nat_le (length words) (length locals) ≡ test → LeavesOthers zero locals (if test then Some (words ++ drop (length words) locals) else None)
    by_test false e = tt
    by_test true e = λ k away. behind_words words locals k (leb-true (length words) (length locals) e) (behind k away)
      where
        behind : (k : ℕ) → Apart zero k → length words ≤ k
        behind k (inl lt) = absurd (omega (arith, lt))
        behind k (inr lt) = omega (arith, lt, few)

-- behind a first one, whatever that becomes
behind_one : (old new : FrameType) (locals : List FrameType) (o : Option (List FrameType)) → LeavesOthers zero locals o
    → LeavesOthers (suc zero) (old ∷ locals) (option_map (λ rest. new ∷ rest) o)
behind_one old new locals None h = tt
behind_one old new locals (Some rest) h = by_place
  where
    by_place : (k : ℕ) → Apart (suc zero) k → slice_get (new ∷ rest) k ≡ slice_get (old ∷ locals) k
    by_place zero (inl lt) = absurd (omega (arith, lt))
    by_place zero (inr lt) = absurd (omega (arith, lt))
    by_place (suc k) (inl lt) = absurd (omega (arith, lt))
    by_place (suc k) (inr lt) = h k (inr (omega (arith, lt)))

-- behind one that stays
behind_same : (index : ℕ) (local : FrameType) (locals : List FrameType) (o : Option (List FrameType)) → LeavesOthers index locals o
    → LeavesOthers (suc index) (local ∷ locals) (option_map (λ rest. local ∷ rest) o)
behind_same index local locals None h = tt
behind_same index local locals (Some rest) h = by_place
  where
    by_place : (k : ℕ) → Apart (suc index) k → slice_get (local ∷ rest) k ≡ slice_get (local ∷ locals) k
    by_place zero away = refl
    by_place (suc k) (inl lt) = h k (inl (omega (arith, lt)))
    by_place (suc k) (inr lt) = h k (inr (omega (arith, lt)))

stored_leaves : (words : List FrameType) (index : ℕ) (locals : List FrameType) → length words ≤ 2 → LeavesOthers index locals (stored words index locals)
stored_leaves words zero locals few = first_stored words locals few
stored_leaves words (suc index) [] few = tt
stored_leaves words (suc zero) (types.Top ∷ more) few = behind_one types.Top types.Top more (stored words zero more) (first_stored words more few)
stored_leaves words (suc zero) (types.Int ∷ more) few = behind_one types.Int types.Int more (stored words zero more) (first_stored words more few)
stored_leaves words (suc zero) (types.Long ∷ more) few = behind_one types.Long types.Top more (stored words zero more) (first_stored words more few)
stored_leaves words (suc zero) (types.Null ∷ more) few = behind_one types.Null types.Null more (stored words zero more) (first_stored words more few)
stored_leaves words (suc zero) (types.UninitializedThis ∷ more) few =
    behind_one types.UninitializedThis types.UninitializedThis more (stored words zero more) (first_stored words more few)
stored_leaves words (suc zero) (types.Class name ∷ more) few = behind_one (types.Class name) (types.Class name) more (stored words zero more) (first_stored words more few)
stored_leaves words (suc zero) (types.Array components ∷ more) few =
    behind_one (types.Array components) (types.Array components) more (stored words zero more) (first_stored words more few)
stored_leaves words (suc zero) (types.Uninitialized offset ∷ more) few =
    behind_one (types.Uninitialized offset) (types.Uninitialized offset) more (stored words zero more) (first_stored words more few)
stored_leaves words (suc (suc index)) (local ∷ more) few = behind_same (suc index) local more (stored words (suc index) more) (stored_leaves words (suc index) more few)

two_words : (t : FrameType) → length (type_by_words t) ≤ 2
two_words types.Top = omega arith
two_words types.Int = omega arith
two_words types.Long = omega arith
two_words types.Null = omega arith
two_words types.UninitializedThis = omega arith
two_words (types.Class name) = omega arith
two_words (types.Array components) = omega arith
two_words (types.Uninitialized offset) = omega arith

-- ---- what rules leave of the local variables that an instruction can't write

module _ (env : Environment) (frame : Frame) (insn : Instruction) where
  abbrev Stays : List FrameType → Bool → Type 0
  Stays locals flag = (k : ℕ) → may_write insn k ≡ false → slice_get locals k ≡ slice_get frame.locals k

  -- where each may be written
  any_left : ((k : ℕ) → may_write insn k ≡ true) → (o : Option Frame) → Leaves Stays o
  any_left all None = tt
  any_left all (Some left) = λ k e. absurd (clash k (all k) e)
    where
      clash : (k : ℕ) → may_write insn k ≡ true → may_write insn k ≡ false → ⊥
      clash k t f = cc

  with_stored : (index : ℕ) (into : Frame) (o : Option (List FrameType)) → ((k : ℕ) → may_write insn k ≡ is_beside index k) → LeavesOthers index frame.locals o
      → Leaves Stays (o >>= λ locals. Some (with_locals into locals))
  with_stored index into None is h = tt
  with_stored index into (Some locals) is h = λ k e. h k (apart index k (subst (λ (b : Bool). b ≡ false) (is k) e))

  store_stays : (kind : ValueKind) (index : ℕ) → ((k : ℕ) → may_write insn k ≡ is_beside index k) → Leaves Stays (store kind index frame)
  store_stays kind index is =
      bound Stays (taken_of_kind kind frame.stack)
      (λ popped. stored (type_by_words popped.0) index frame.locals >>= λ locals. Some (with_locals (with_stack frame popped.1) locals))
      (λ popped. with_stored index (with_stack frame popped.1) (stored (type_by_words popped.0) index frame.locals) is (stored_leaves (type_by_words popped.0) index frame.locals (two_words popped.0)))

module _ (env : Environment) (frame : Frame) where
  writer_writes : (pc : ℕ) (insn : Instruction) → keeps_locals insn ≡ false → Leaves (Stays env frame insn) (other_rule env pc insn frame)
  writer_writes pc (insns.Store kind index form) e = store_stays env frame (insns.Store kind index form) (value_kind kind) index (λ k. refl)
  writer_writes pc (insns.StoreLong index form) e = store_stays env frame (insns.StoreLong index form) kinds.Long index (λ k. refl)
  writer_writes pc (insns.New index) e = any_left env frame (insns.New index) (λ k. refl) (other_rule env pc (insns.New index) frame)
  writer_writes pc (insns.Invoke invocations.Special index) e =
      any_left env frame (insns.Invoke invocations.Special index) (λ k. refl) (other_rule env pc (insns.Invoke invocations.Special index) frame)
  writer_writes pc (insns.PoolConstant index form) e = absurd cc
  writer_writes pc (insns.PoolLongConstant index) e = absurd cc
  writer_writes pc (insns.Load kind index form) e = absurd cc
  writer_writes pc (insns.Increment index value form) e = absurd cc
  writer_writes pc (insns.ArrayLoad element) e = absurd cc
  writer_writes pc insns.ReferenceArrayLoad e = absurd cc
  writer_writes pc (insns.ArrayStore element) e = absurd cc
  writer_writes pc (insns.Stack form) e = absurd cc
  writer_writes pc (insns.Branch test distance) e = absurd cc
  writer_writes pc (insns.ReturnValue kind) e = absurd cc
  writer_writes pc insns.Return e = absurd cc
  writer_writes pc (insns.Field access index) e = absurd cc
  writer_writes pc (insns.Invoke invocations.Virtual index) e = absurd cc
  writer_writes pc (insns.Invoke invocations.Static index) e = absurd cc
  writer_writes pc (insns.InvokeInterface index count) e = absurd cc
  writer_writes pc (insns.NewReferenceArray index) e = absurd cc
  writer_writes pc (insns.NewMultiArray index dimensions) e = absurd cc
  writer_writes pc insns.ArrayLength e = absurd cc
  writer_writes pc (insns.CheckCast index) e = absurd cc
  writer_writes pc (insns.InstanceOf index) e = absurd cc
  writer_writes pc insns.Nop e = absurd cc
  writer_writes pc insns.NullConstant e = absurd cc
  writer_writes pc (insns.Compute what) e = absurd cc
  writer_writes pc (insns.Division kind operator) e = absurd cc
  writer_writes pc (insns.Goto distance form) e = absurd cc
  writer_writes pc (insns.TableSwitch padding default low high distances) e = absurd cc
  writer_writes pc (insns.LookupSwitch padding default pairs) e = absurd cc
  writer_writes pc insns.ReferenceArrayStore e = absurd cc
  writer_writes pc (insns.NewArray element) e = absurd cc
  writer_writes pc insns.Throw e = absurd cc

  all_stay : (pc : ℕ) (insn : Instruction) → Leaves (Stays env frame insn) (rule env pc insn frame)
  all_stay pc insn = rule_keeps (Stays env frame insn) env frame (λ k e. refl) pc insn (by_writer (keeps_locals insn) refl)
    where
      by_writer : (b : Bool) → keeps_locals insn ≡ b → Leaves (Stays env frame insn) (other_rule env pc insn frame)
      by_writer true e = other_keeps (Stays env frame insn) env frame (λ k e. refl) pc insn e
      by_writer false e = writer_writes pc insn e

pub writes_there : (env : Environment) (pc : ℕ) (insn : Instruction) (before behind : Frame) → rule env pc insn before ≡ Some behind
    → (k : ℕ) → may_write insn k ≡ false → slice_get behind.locals k ≡ slice_get before.locals k
writes_there env pc insn before behind e = subst (Leaves (Stays env before insn)) e (all_stay env before pc insn)
