use Rattle.std.specs.Int.{w64, cast_signed}
use Rattle.std.specs.Option.{option_map}
use Rattle.std.proofs.Common.{rules, ◌≡◌, ◌∙◌, List, Some, None, ap, subst, slice_get}
use Rattle.jv_pool.specs.Constants.{Entry, long_at}
use Rattle.jv_interp_words.specs.ValuesInWords.{long_of}
use Rattle.jv_meaning_world.specs.World.{Loaded, World}
use Rattle.jv_interp_objects.proofs.InTexts.{pool_of}
use Rattle.jv_interp_instructions.proofs.long_constants.long_constant.Goals as goal

pub returns-in-Some-Long : goal.returns-in-Some-Long
returns-in-Some-Long c l at =
    let class = c.class_at.ensures l (ap (λ (w : World). slice_get w c.args.class) c.table.ensures ∙ at) in
    let pool_is = c.pool.ensures ∙ pool_of c.in-Some.file.now c.class_at.result.now.class c.in-Some.ensures.file ∙ ap (λ (m : Loaded). m.class.constant_pool) class in
    let there : option_map (cast_signed w64) (long_at c.pool.result.now c.args.index) ≡ Some (long_of c.in-Some-Long.low c.in-Some-Long.high) = search rules in
    subst (λ (p : List Entry). option_map (cast_signed w64) (long_at p c.args.index) ≡ Some (long_of c.in-Some-Long.low c.in-Some-Long.high)) pool_is there

pub returns-in_default-constant : goal.returns-in_default-constant
returns-in_default-constant c l at =
    let class = c.class_at.ensures l (ap (λ (w : World). slice_get w c.args.class) c.table.ensures ∙ at) in
    let pool_is = c.pool.ensures ∙ pool_of c.in-Some.file.now c.class_at.result.now.class c.in-Some.ensures.file ∙ ap (λ (m : Loaded). m.class.constant_pool) class in
    let none : option_map (cast_signed w64) (long_at c.pool.result.now c.args.index) ≡ None = search rules in
    subst (λ (p : List Entry). option_map (cast_signed w64) (long_at p c.args.index) ≡ None) pool_is none
