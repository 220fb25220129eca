use Rattle.std.proofs.Common.{◌∙◌, Option, Some, ap, subst}
use Rattle.std.proofs.lemmas.Result.{IfOk-weaker}
use Rattle.jv_interp_instructions.specs.declared.pool_constants.PoolConstant.{PoolConstant}
use Rattle.jv_interp_instructions.specs.PoolConstants.{IsConstantOf}
use Rattle.jv_interp_instructions.proofs.Constants.{can_push_int, int_done, short_text, text_counted, can_push_string, string_done, no_constant}
use Rattle.jv_interp_instructions.proofs.pool_constants.execute_other_constant.Goals as goal

pub push_int-requires : goal.push_int-requires
push_int-requires g c =
    let r = c.requires.can in
    let clause = subst (λ (o : Option PoolConstant). IsConstantOf c.args.current.classes.now.world c.args.current.site.class c.args.index o)
    (c.in-Some-Int.is ∙ ap Some c.in-Some-Int.field-0-is) c.constant_of.ensures in
    can_push_int c.execution_keeps.ensures c.args.index r.0 _ r.1 _ c.args.current.site c.args.texts.now _ _ _ _ r.2 _ clause r.4

pub unreachable-requires : goal.unreachable-requires
unreachable-requires g c =
    let r = c.requires.can in
    let clause = subst (λ (o : Option PoolConstant). IsConstantOf c.args.current.classes.now.world c.args.current.site.class c.args.index o)
    c.in-None.is c.constant_of.ensures in
    no_constant c.args.index r.0 _ r.1 _ c.args.current.site c.args.texts.now _ _ _ _ _ r.2 r.4.executes clause

pub push_string-requires-clause-few : goal.push_string-requires-clause-few
push_string-requires-clause-few g c =
    let r = c.requires.can in
    let clause = subst (λ (o : Option PoolConstant). IsConstantOf c.args.current.classes.now.world c.args.current.site.class c.args.index o)
    (c.in-Some-String.is ∙ ap Some c.in-Some-String.field-0-is) c.constant_of.ensures in
    short_text c.execution_keeps.ensures c.args.index r.0 _ r.1 _ c.args.current.site c.args.texts.now _ _ _ _ r.2 r.3 c.in-Some-String.text clause
    c.number-number.result c.number-number.ensures r.4

pub push_string-requires-clause-count : goal.push_string-requires-clause-count
push_string-requires-clause-count g c =
    let r = c.requires.can in
    let clause = subst (λ (o : Option PoolConstant). IsConstantOf c.args.current.classes.now.world c.args.current.site.class c.args.index o)
    (c.in-Some-String.is ∙ ap Some c.in-Some-String.field-0-is) c.constant_of.ensures in
    text_counted c.execution_keeps.ensures c.args.index r.0 _ r.1 _ c.args.current.site c.args.texts.now _ _ _ _ r.2 r.3 c.in-Some-String.text clause
    c.number-number.result c.number-number.ensures c.count-count.result c.count-count.ensures r.4

pub push_string-requires-clause-can : goal.push_string-requires-clause-can
push_string-requires-clause-can g c =
    let r = c.requires.can in
    let clause = subst (λ (o : Option PoolConstant). IsConstantOf c.args.current.classes.now.world c.args.current.site.class c.args.index o)
    (c.in-Some-String.is ∙ ap Some c.in-Some-String.field-0-is) c.constant_of.ensures in
    can_push_string c.execution_keeps.ensures c.args.index r.0 _ r.1 _ c.args.current.site c.args.texts.now _ _ _ _ r.2 r.3 c.in-Some-String.text clause
    c.number-number.result c.number-number.ensures r.4

pub returns-in-Some-Int-clause-done : goal.returns-in-Some-Int-clause-done
returns-in-Some-Int-clause-done g c form k of_site are =
    let clause = subst (λ (o : Option PoolConstant). IsConstantOf c.args.current.classes.now.world c.args.current.site.class c.args.index o)
    (c.in-Some-Int.is ∙ ap Some c.in-Some-Int.field-0-is) c.constant_of.ensures in
    int_done c.execution_keeps.ensures c.args.index form _ k _ c.args.current.site c.args.texts.now _ _ _ _ of_site _ _ _ _ clause c.push_int.ensures.pushes

pub returns-in-Some-String-clause-done : goal.returns-in-Some-String-clause-done
returns-in-Some-String-clause-done g c =
    let clause = subst (λ (o : Option PoolConstant). IsConstantOf c.args.current.classes.now.world c.args.current.site.class c.args.index o)
    (c.in-Some-String.is ∙ ap Some c.in-Some-String.field-0-is) c.constant_of.ensures in
    IfOk-weaker c.push_string.result _ _
    (λ effect pushes form k of_site are. string_done c.execution_keeps.ensures c.args.index form _ k _ c.args.current.site c.args.texts.now _ _ _ _ of_site are
    c.in-Some-String.text clause c.number-number.result c.number-number.ensures _ _ _ _ effect pushes)
    c.push_string.ensures.pushes
