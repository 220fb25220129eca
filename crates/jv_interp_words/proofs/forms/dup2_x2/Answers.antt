use Rattle.std.proofs.Common.{refl}
use Rattle.jv_code.specs.declared.kinds.StackForm.TheVariants as forms
use Rattle.jv_interp_words.proofs.Rearranged.{rearranges, one_on, two_on}
use Rattle.jv_interp_words.proofs.forms.dup2_x2.Goals as goal

pub returns-clause-done : goal.returns-clause-done
returns-clause-done c =
    rearranges forms.Dup2X2 _ _ _ _
    (one_on c.top_word-a.result c.top_word-a.ensures
    (one_on c.top_word-b.result c.top_word-b.ensures
    (one_on c.top_word-c.result c.top_word-c.ensures (one_on c.top_word-d.result c.top_word-d.ensures refl))))
    (two_on c.top_word-a.result c.top_word-b.result c.push_two.ensures.used
    (two_on c.top_word-c.result c.top_word-d.result c.push_two-high.ensures.used
    (two_on c.top_word-a.result c.top_word-b.result c.push_two-low.ensures.used refl)))
    refl
