use Rattle.std.proofs.Common.{◌≡◌, ℕ, List, refl, sym, ap, subst, ◌∙◌, Some, None}
use Rattle.std.specs.Option.{option_map, option_copied}
use Rattle.jv_format.specs.Format.{◌>>=◌}
use Rattle.jv_pool.specs.Constants.{Entry, at_index, class_name_at, utf8_at}
use Rattle.jv_meaning_typing.specs.Environment.{Environment}
use Rattle.jv_meaning_typing.specs.Named.{method_named_by}
use Rattle.jv_verify_types.specs.Typed.{typed}
use Rattle.jv_verify_types.specs.PoolTypes.{typed_call}
use Rattle.jv_verify_types.specs.Operands.{HasPool, FindsCalledTypes}
use Rattle.jv_verify_types.specs.declared.methods.CalledTypes.{CalledTypes}
use Rattle.jv_verify_types.specs.declared.indices.MethodIndices.{MethodIndices}
use Rattle.jv_verify_types.specs.Inside.Parts.{method_indices}
use Rattle.jv_verify_types.proofs.Members.{method_in, method_at, method_found}
use Rattle.jv_verify_types.proofs.Called.{called, made, no_call, names_method}
use Rattle.jv_verify_types.proofs.methods.called_types.Goals as goal

-- what the constant at an index names
named_at : (env : Environment) (pool other : List Entry) (index : ℕ) (i : MethodIndices) → HasPool pool env → other ≡ pool → method_indices other (at_index other index) ≡ Some i
    → method_named_by env index ≡ made i.of_class (class_name_at pool i.member.class) (utf8_at pool i.member.name) (utf8_at pool i.member.descriptor)
named_at env pool other index i has same found =
    ap (λ p. method_in p (at_index p index) >>= called) (has ∙ sym same)
    ∙ (ap (λ o. o >>= called) (method_found other (at_index other index) i found)
    ∙ ap (λ p. method_at p i >>= called) same)

pub returns-in_err-types : goal.returns-in_err-types
returns-in_err-types c = λ env has.
    let pool = c.args.constants.now.pool in
    let i = c.in_ok-indices.indices in
    let none : made i.of_class (class_name_at pool i.member.class) (utf8_at pool i.member.name) (utf8_at pool i.member.descriptor) ≡ None =
    no_call i.of_class (class_name_at pool i.member.class) (utf8_at pool i.member.name) (utf8_at pool i.member.descriptor)
    (sym (ap (option_map (typed_call c.args.constants.now.types.names)) c.in_err-types.was) ∙ c.method_type.ensures) in
    subst (FindsCalledTypes c.args.constants.now.types.names (method_named_by env c.args.index)) (sym c.from_residual-in_err-types.ensures)
    (subst (λ o. FindsCalledTypes c.args.constants.now.types.names o None)
    (sym (named_at env pool c.pool.result.now c.args.index i has c.pool.ensures (sym c.method_indices.ensures ∙ c.in_ok-indices.was) ∙ none)) tt)

pub returns-then-can_be_of : goal.returns-then-can_be_of
returns-then-can_be_of c = λ env has.
    let pool = c.args.constants.now.pool in
    let names = c.args.constants.now.types.names in
    let i = c.in_ok-indices.indices in
    let to : CalledTypes = record {
      of_class = i.of_class;
      is_init = c.is_init.result;
      plain_name = c.is_plain_name.result;
      owner = c.in_ok-owner.owner;
      arguments = c.in_ok-types.types.arguments;
      result = c.result_given.result;
    } in
    subst (λ o. FindsCalledTypes names o (Some to))
    (sym (named_at env pool c.pool.result.now c.args.index i has c.pool.ensures (sym c.method_indices.ensures ∙ c.in_ok-indices.was)))
    (names_method names i.of_class (class_name_at pool i.member.class) (utf8_at pool i.member.name) (utf8_at pool i.member.descriptor) c.in_ok-name.name.now c.in_ok-owner.owner c.in_ok-types.types to
    (ap (λ p. utf8_at p i.member.name) (sym c.pool-2.ensures) ∙ (sym c.text_at.ensures ∙ ap option_copied c.in_ok-name.was))
    (sym (ap (option_map (typed names)) c.in_ok-owner.was) ∙ c.class_type.ensures)
    (sym (ap (option_map (typed_call names)) c.in_ok-types.was) ∙ c.method_type.ensures)
    (sym c.can_be_of.ensures ∙ c.if-can_be_of.true) refl c.is_init.ensures c.is_plain_name.ensures refl refl (c.result_given.ensures names))
