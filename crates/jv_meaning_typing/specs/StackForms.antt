-- What `pop` to `swap` do with the words on top of a stack (JVMS 6.5, dup_x1 and its kin), said of whatever its items are:
-- types here, and values in a machine. A long is one item of two words, and no form takes a part of it.
use Rattle.std.specs.Prelude.{ℕ, zero, suc, List, [], ◌∷◌, ◌++◌, Option, Some, None}
use Rattle.jv_format.specs.Format.{◌>>=◌}
use Rattle.jv_stackmap.specs.declared.width.Width.{Width}
use Rattle.jv_stackmap.specs.declared.width.Width.TheVariants.{One, Two}
use Rattle.jv_code.specs.declared.kinds.StackForm.{StackForm}
use Rattle.jv_code.specs.declared.kinds.StackForm.TheVariants as forms

-- the words that are left of so many, where an item of a width is the next; an item without a width is taken by no form
abbrev pub words_behind : ℕ → Option Width → Option ℕ
words_behind (suc n) (Some One) = Some n
words_behind (suc (suc n)) (Some Two) = Some n
words_behind _ _ = None

abbrev pub item_before : {T : Type 0} → T → List T × List T → List T × List T
item_before item parts = (item ∷ parts.0, parts.1)

-- the items on top that come to so many words, the top first, and those below
abbrev pub top_words : {T : Type 0} → (T → Option Width) → ℕ → List T → Option (List T × List T)
top_words width zero stack = Some ([], stack)
top_words width (suc n) [] = None
top_words width (suc n) (item ∷ below) =
    words_behind (suc n) (width item) >>= λ left. top_words width left below >>= λ parts. Some (item_before item parts)

-- the words that a form drops, copies or swaps
abbrev pub taken_words : StackForm → ℕ
taken_words forms.Pop = 1
taken_words forms.Pop2 = 2
taken_words forms.Dup = 1
taken_words forms.DupX1 = 1
taken_words forms.DupX2 = 1
taken_words forms.Dup2 = 2
taken_words forms.Dup2X1 = 2
taken_words forms.Dup2X2 = 2
taken_words forms.Swap = 1

-- the words below them that it puts copies under, or swaps them with
abbrev pub passed_words : StackForm → ℕ
passed_words forms.Pop = 0
passed_words forms.Pop2 = 0
passed_words forms.Dup = 0
passed_words forms.DupX1 = 1
passed_words forms.DupX2 = 2
passed_words forms.Dup2 = 0
passed_words forms.Dup2X1 = 1
passed_words forms.Dup2X2 = 2
passed_words forms.Swap = 1

-- what stands in the place of both, the top first
abbrev pub arranged : {T : Type 0} → StackForm → List T → List T → List T
arranged forms.Pop taken passed = passed
arranged forms.Pop2 taken passed = passed
arranged forms.Swap taken passed = passed ++ taken
arranged _ taken passed = taken ++ (passed ++ taken)

abbrev pub rearranged : {T : Type 0} → (T → Option Width) → StackForm → List T → Option (List T)
rearranged width form stack =
    top_words width (taken_words form) stack >>= λ a. top_words width (passed_words form) a.1 >>= λ b.
    Some (arranged form a.0 b.0 ++ b.1)
