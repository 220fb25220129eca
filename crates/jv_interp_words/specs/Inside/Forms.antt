-- The forms of the stack on its words (JVMS 6.5, dup_x1 and its kin): each word is an item of its own.
use Rattle.std.specs.Prelude.{◌≡◌, ℕ, List, Option, Some}
use Rattle.jv_stackmap.specs.declared.width.Width.{Width}
use Rattle.jv_stackmap.specs.declared.width.Width.TheVariants.{One}
use Rattle.jv_code.specs.declared.kinds.StackForm.{StackForm}
use Rattle.jv_code.specs.declared.kinds.StackForm.TheVariants as forms
use Rattle.jv_meaning_typing.specs.StackForms.{rearranged}

abbrev pub word_width : ℕ → Option Width
word_width word = Some One

abbrev pub Rearranges : StackForm → List ℕ → List ℕ → Type 0
Rearranges form before after = rearranged word_width form before ≡ Some after

-- the words by which a form lets a stack grow
abbrev pub added_words : StackForm → ℕ
added_words forms.Dup = 1
added_words forms.DupX1 = 1
added_words forms.DupX2 = 1
added_words forms.Dup2 = 2
added_words forms.Dup2X1 = 2
added_words forms.Dup2X2 = 2
added_words _ = 0
