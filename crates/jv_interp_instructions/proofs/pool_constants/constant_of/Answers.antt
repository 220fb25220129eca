use Rattle.std.specs.Int.{w32, cast_signed, cast_unsigned}
use Rattle.std.specs.Option.{option_map}
use Rattle.std.proofs.lemmas.Int.{to_z-of_z}
use Rattle.std.proofs.Common.{◌∙◌, ℕ, ℤ, List, Some, None, sym, ap, subst, slice_get}
use Rattle.jv_pool.specs.Constants.{Entry, at_index, string_at, integer_at}
use Rattle.jv_meaning_world.specs.World.{Loaded, World}
use Rattle.jv_meaning_machine.specs.Literals.{pushed_constant}
use Rattle.jv_interp_objects.proofs.InTexts.{pool_of}
use Rattle.jv_interp_instructions.specs.declared.pool_constants.PoolConstant.TheVariants as pushed
use Rattle.jv_interp_instructions.specs.PoolConstants.{IsPushed}
use Rattle.jv_interp_instructions.proofs.Constants.{string_pushed, int_pushed, none_pushed}
use Rattle.jv_interp_instructions.proofs.pool_constants.constant_of.Goals as goal

pub returns-in-Some-string_index : goal.returns-in-Some-string_index
returns-in-Some-string_index c l at =
    let class = c.class_at.ensures l (ap (λ (w : World). slice_get w c.args.class) c.table.ensures ∙ at) in
    let pool_is = c.pool-pool.ensures ∙ pool_of c.in-Some.file.now c.class_at.result.now.class c.in-Some.ensures.file ∙ ap (λ (m : Loaded). m.class.constant_pool) class in
    let index = c.args.index in
    subst (λ (p : List Entry). IsPushed p index (pushed_constant p (at_index p index)) (Some (pushed.String c.string.result))) pool_is
    (string_pushed c.pool-pool.result.now index c.string.result (ap (string_at c.pool-pool.result.now) (sym c.in-Some-string_index.ensures.same) ∙ c.string.ensures))

pub returns-in-Some-integer_index : goal.returns-in-Some-integer_index
returns-in-Some-integer_index c l at =
    let class = c.class_at.ensures l (ap (λ (w : World). slice_get w c.args.class) c.table.ensures ∙ at) in
    let pool_is = c.pool-pool.ensures ∙ pool_of c.in-Some.file.now c.class_at.result.now.class c.in-Some.ensures.file ∙ ap (λ (m : Loaded). m.class.constant_pool) class in
    let index = c.args.index in
    let again = to_z-of_z w32 c.integer.result (record { sfits = c.integer.type_inv }) in
    subst (λ (p : List Entry). IsPushed p index (pushed_constant p (at_index p index)) (Some (pushed.Int c.cast_unsigned.result))) pool_is
    (int_pushed c.pool-pool.result.now index c.integer.result c.cast_unsigned.result
    (ap (λ (n : ℕ). option_map (cast_signed w32) (integer_at c.pool-pool.result.now n)) (sym c.in-Some-integer_index.ensures.same) ∙ c.integer.ensures)
    (ap (cast_signed w32) c.cast_unsigned.ensures ∙ ap (λ (z : ℤ). cast_signed w32 (cast_unsigned w32 z)) again ∙ again))

pub returns-in-None : goal.returns-in-None
returns-in-None c l at =
    let class = c.class_at.ensures l (ap (λ (w : World). slice_get w c.args.class) c.table.ensures ∙ at) in
    let pool_is = c.pool-pool.ensures ∙ pool_of c.in-Some.file.now c.class_at.result.now.class c.in-Some.ensures.file ∙ ap (λ (m : Loaded). m.class.constant_pool) class in
    let index = c.args.index in
    subst (λ (p : List Entry). IsPushed p index (pushed_constant p (at_index p index)) None) pool_is
    (none_pushed c.pool-pool.result.now index c.in-None.ensures.none c.in_default-integer_index.ensures.none)
