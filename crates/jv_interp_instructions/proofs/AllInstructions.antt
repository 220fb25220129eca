-- All instructions, each by its arm.
use Rattle.std.proofs.Common.{◌≡◌, ℕ, true, List, refl, subst}
use Rattle.std.specs.Borrow.{Bor}
use Rattle.jv_code.specs.Insns.{Instruction, instruction_of}
use Rattle.jv_code.specs.declared.insn.Insn.{Insn}
use Rattle.jv_code.specs.declared.insn.Insn.TheVariants as insns
use Rattle.jv_code.specs.declared.kinds.IndexForm.{IndexForm}
use Rattle.jv_code.specs.declared.kinds.NumberElement.{NumberElement}
use Rattle.jv_code.specs.declared.kinds.FieldAccess.{FieldAccess}
use Rattle.jv_code.specs.declared.kinds.Invocation.{Invocation}
use Rattle.jv_code.specs.declared.kinds.ElementType.{ElementType}
use Rattle.jv_interp_words.specs.declared.registers.Registers.{Registers}
use Rattle.jv_interp_heap.specs.ObjectsInBlocks.{Blocks}
use Rattle.jv_interp_held.specs.declared.class_state.ClassState.{ClassState}
use Rattle.jv_interp_held.specs.declared.held.Held.{Held}
use Rattle.jv_interp_held.specs.declared.effect.Effect.{Effect}
use Rattle.jv_interp_held.specs.Executing.{Place}
use Rattle.jv_interp_members.specs.Known.{Known}
use Rattle.jv_interp_instructions.specs.OnWords.{works_on_words, KeysRise}
use Rattle.jv_interp_instructions.specs.InGuest.{Executed, CanExecuteAt, ExecutedAt, KeepsCodeRules}

pub can_at :
    (states : List ClassState) (next : ℕ) (k : Known) (texts : List (List ℕ)) (at : Registers) (words : List ℕ) (held : Held) (blocks : Blocks)
    (insn other : Insn (Bor (List ℕ))) → insn ≡ other → CanExecuteAt states (instruction_of insn) next k texts at words held blocks
    → CanExecuteAt states (instruction_of other) next k texts at words held blocks
can_at states next k texts at words held blocks insn other e h =
    subst (λ (i : Insn (Bor (List ℕ))). CanExecuteAt states (instruction_of i) next k texts at words held blocks) e h

pub settled :
    (states : List ClassState) (insn : Instruction) (next : ℕ) (k : Known) (texts : List (List ℕ)) (before after : Place) (effect : Effect)
    → Executed insn next k texts before after effect → ExecutedAt states insn next k texts before after effect
settled states insn next k texts before after effect m c addresses done below h states_are = m c addresses done below h

pub keys_kept : (insn : Instruction) → KeepsCodeRules insn → KeysRise insn
keys_kept (insns.LookupSwitch padding default pairs) h = h
keys_kept _ h = tt

-- an instruction that is none of the others works on words alone
pub works_else :
    (insn : Insn (Bor (List ℕ)))
    → ((x : ℕ) (y : IndexForm) → insn ≡ insns.PoolConstant x y → ⊥)
    → ((x : ℕ) → insn ≡ insns.PoolLongConstant x → ⊥)
    → ((x : NumberElement) → insn ≡ insns.ArrayLoad x → ⊥)
    → (insn ≡ insns.ReferenceArrayLoad → ⊥)
    → ((x : NumberElement) → insn ≡ insns.ArrayStore x → ⊥)
    → (insn ≡ insns.ReferenceArrayStore → ⊥)
    → ((x : FieldAccess) (y : ℕ) → insn ≡ insns.Field x y → ⊥)
    → ((x : Invocation) (y : ℕ) → insn ≡ insns.Invoke x y → ⊥)
    → ((x : ℕ) (y : ℕ) → insn ≡ insns.InvokeInterface x y → ⊥)
    → ((x : ℕ) → insn ≡ insns.New x → ⊥)
    → ((x : ElementType) → insn ≡ insns.NewArray x → ⊥)
    → ((x : ℕ) → insn ≡ insns.NewReferenceArray x → ⊥)
    → ((x : ℕ) (y : ℕ) → insn ≡ insns.NewMultiArray x y → ⊥)
    → (insn ≡ insns.ArrayLength → ⊥)
    → (insn ≡ insns.Throw → ⊥)
    → ((x : ℕ) → insn ≡ insns.CheckCast x → ⊥)
    → ((x : ℕ) → insn ≡ insns.InstanceOf x → ⊥)
    → works_on_words (instruction_of insn) ≡ true
works_else insns.Nop a b c d e f g h i j k l m n o p q = refl
works_else insns.NullConstant a b c d e f g h i j k l m n o p q = refl
works_else (insns.Compute u) a b c d e f g h i j k l m n o p q = refl
works_else (insns.Load u v w) a b c d e f g h i j k l m n o p q = refl
works_else (insns.Store u v w) a b c d e f g h i j k l m n o p q = refl
works_else (insns.StoreLong u v) a b c d e f g h i j k l m n o p q = refl
works_else (insns.Stack u) a b c d e f g h i j k l m n o p q = refl
works_else (insns.Division u v) a b c d e f g h i j k l m n o p q = refl
works_else (insns.Increment u v w) a b c d e f g h i j k l m n o p q = refl
works_else (insns.Branch u v) a b c d e f g h i j k l m n o p q = refl
works_else (insns.Goto u v) a b c d e f g h i j k l m n o p q = refl
works_else (insns.TableSwitch u v w x y) a b c d e f g h i j k l m n o p q = refl
works_else (insns.LookupSwitch u v w) a b c d e f g h i j k l m n o p q = refl
works_else (insns.ReturnValue u) a b c d e f g h i j k l m n o p q = refl
works_else insns.Return a b c d e f g h i j k l m n o p q = refl
works_else (insns.PoolConstant u v) a b c d e f g h i j k l m n o p q = absurd (a u v refl)
works_else (insns.PoolLongConstant u) a b c d e f g h i j k l m n o p q = absurd (b u refl)
works_else (insns.ArrayLoad u) a b c d e f g h i j k l m n o p q = absurd (c u refl)
works_else insns.ReferenceArrayLoad a b c d e f g h i j k l m n o p q = absurd (d refl)
works_else (insns.ArrayStore u) a b c d e f g h i j k l m n o p q = absurd (e u refl)
works_else insns.ReferenceArrayStore a b c d e f g h i j k l m n o p q = absurd (f refl)
works_else (insns.Field u v) a b c d e f g h i j k l m n o p q = absurd (g u v refl)
works_else (insns.Invoke u v) a b c d e f g h i j k l m n o p q = absurd (h u v refl)
works_else (insns.InvokeInterface u v) a b c d e f g h i j k l m n o p q = absurd (i u v refl)
works_else (insns.New u) a b c d e f g h i j k l m n o p q = absurd (j u refl)
works_else (insns.NewArray u) a b c d e f g h i j k l m n o p q = absurd (k u refl)
works_else (insns.NewReferenceArray u) a b c d e f g h i j k l m n o p q = absurd (l u refl)
works_else (insns.NewMultiArray u v) a b c d e f g h i j k l m n o p q = absurd (m u v refl)
works_else insns.ArrayLength a b c d e f g h i j k l m n o p q = absurd (n refl)
works_else insns.Throw a b c d e f g h i j k l m n o p q = absurd (o refl)
works_else (insns.CheckCast u) a b c d e f g h i j k l m n o p q = absurd (p u refl)
works_else (insns.InstanceOf u) a b c d e f g h i j k l m n o p q = absurd (q u refl)
