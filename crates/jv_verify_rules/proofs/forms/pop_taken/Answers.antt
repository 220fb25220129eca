use Rattle.std.proofs.Common.{sym, subst}
use Rattle.jv_code.specs.declared.kinds.StackForm.{StackForm}
use Rattle.jv_meaning_typing.specs.FrameChanges.{item_width}
use Rattle.jv_meaning_typing.specs.StackForms.{top_words, taken_words}
use Rattle.jv_verify_types.specs.Typed.{typed_all}
use Rattle.jv_verify_rules.specs.Inside.Words.{AreTaken}
use Rattle.jv_verify_rules.proofs.forms.pop_taken.Goals as goal

pub returns-in-Pop2 : goal.returns-in-Pop2
returns-in-Pop2 c = λ names.
    subst (λ (f : StackForm). AreTaken names (top_words item_width (taken_words f) (typed_all names c.args.frame.now.stack)) c.args.frame.now c.pop_two_words.new.frame c.pop_two_words.result)
    (sym c.in-Pop2.is) (c.pop_two_words.ensures names)

pub returns-in-Dup2 : goal.returns-in-Dup2
returns-in-Dup2 c = λ names.
    subst (λ (f : StackForm). AreTaken names (top_words item_width (taken_words f) (typed_all names c.args.frame.now.stack)) c.args.frame.now
    c.pop_two_words-in-Dup2.new.frame c.pop_two_words-in-Dup2.result)
    (sym c.in-Dup2.is) (c.pop_two_words-in-Dup2.ensures names)

pub returns-in-Dup2X1 : goal.returns-in-Dup2X1
returns-in-Dup2X1 c = λ names.
    subst (λ (f : StackForm). AreTaken names (top_words item_width (taken_words f) (typed_all names c.args.frame.now.stack)) c.args.frame.now
    c.pop_two_words-in-Dup2X1.new.frame c.pop_two_words-in-Dup2X1.result)
    (sym c.in-Dup2X1.is) (c.pop_two_words-in-Dup2X1.ensures names)

pub returns-in-Dup2X2 : goal.returns-in-Dup2X2
returns-in-Dup2X2 c = λ names.
    subst (λ (f : StackForm). AreTaken names (top_words item_width (taken_words f) (typed_all names c.args.frame.now.stack)) c.args.frame.now
    c.pop_two_words-in-Dup2X2.new.frame c.pop_two_words-in-Dup2X2.result)
    (sym c.in-Dup2X2.is) (c.pop_two_words-in-Dup2X2.ensures names)

pub returns-in-Pop : goal.returns-in-Pop
returns-in-Pop c = λ names.
    subst (λ (f : StackForm). AreTaken names (top_words item_width (taken_words f) (typed_all names c.args.frame.now.stack)) c.args.frame.now c.pop_one_word.new.frame c.pop_one_word.result)
    (sym c.in-Pop.is) (c.pop_one_word.ensures names)

pub returns-in-Dup : goal.returns-in-Dup
returns-in-Dup c = λ names.
    subst (λ (f : StackForm). AreTaken names (top_words item_width (taken_words f) (typed_all names c.args.frame.now.stack)) c.args.frame.now
    c.pop_one_word-in-Dup.new.frame c.pop_one_word-in-Dup.result)
    (sym c.in-Dup.is) (c.pop_one_word-in-Dup.ensures names)

pub returns-in-DupX1 : goal.returns-in-DupX1
returns-in-DupX1 c = λ names.
    subst (λ (f : StackForm). AreTaken names (top_words item_width (taken_words f) (typed_all names c.args.frame.now.stack)) c.args.frame.now
    c.pop_one_word-in-DupX1.new.frame c.pop_one_word-in-DupX1.result)
    (sym c.in-DupX1.is) (c.pop_one_word-in-DupX1.ensures names)

pub returns-in-DupX2 : goal.returns-in-DupX2
returns-in-DupX2 c = λ names.
    subst (λ (f : StackForm). AreTaken names (top_words item_width (taken_words f) (typed_all names c.args.frame.now.stack)) c.args.frame.now
    c.pop_one_word-in-DupX2.new.frame c.pop_one_word-in-DupX2.result)
    (sym c.in-DupX2.is) (c.pop_one_word-in-DupX2.ensures names)

pub returns-in-Swap : goal.returns-in-Swap
returns-in-Swap c = λ names.
    subst (λ (f : StackForm). AreTaken names (top_words item_width (taken_words f) (typed_all names c.args.frame.now.stack)) c.args.frame.now
    c.pop_one_word-in-Swap.new.frame c.pop_one_word-in-Swap.result)
    (sym c.in-Swap.is) (c.pop_one_word-in-Swap.ensures names)
