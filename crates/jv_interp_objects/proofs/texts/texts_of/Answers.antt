use Rattle.std.proofs.Common.{◌<◌, ◌∙◌, ℕ, List, sym, subst}
use Rattle.jv_pool.specs.Constants.{Entry}
use Rattle.jv_interp_objects.specs.Texts.{AreNumbers}
use Rattle.jv_interp_objects.proofs.InTexts.{all_before, pool_of, string_within}
use Rattle.jv_interp_objects.proofs.texts.texts_of.Goals as goal

pub returns-in_ok-numbers-in-Some-clause-texts : goal.returns-in_ok-numbers-in-Some-clause-texts
returns-in_ok-numbers-in-Some-clause-texts c =
    let numbers = c.in_ok-numbers-in-Some.numbers.items in
    let before = c.in_ok-numbers-in-Some.ensures.before in
    let count = c.in_ok-numbers-in-Some.ensures.count in
    let all = all_before c.numbers_in.new.names c.pool.result.now numbers before
    (λ index text string. subst (λ (n : ℕ). index < n) (sym count) (string_within c.pool.result.now index text string)) in
    subst (λ (pool : List Entry). AreNumbers c.numbers_in.new.names pool numbers)
    (c.pool.ensures ∙ pool_of c.in-Some.file.now c.args.class.now.class (c.in-Some.ensures.file)) all
