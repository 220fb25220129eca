use Rattle.std.proofs.Common.{Some, sym, subst, refl}
use Rattle.jv_pool.specs.declared.constant.Constant.TheVariants.{Utf8}
use Rattle.jv_asm_builder.specs.Added.{IsAdded, HasRoom}
use Rattle.jv_asm_builder.specs.Built.{IsStackMapAdded, HasStackMapRoom}
use Rattle.jv_asm_builder.specs.Inside.Kept.{contents_kept}
use Rattle.jv_asm_builder.specs.Inside.Methods.{built_maps}
use Rattle.jv_asm_builder.proofs.Joined.{stack_map_none, too_large_before}
use Rattle.jv_asm_builder.proofs.class_builder.ClassBuilder.stack_map.Goals as goal

pub returns-clause-ok : goal.returns-clause-ok
returns-clause-ok c =
    let index = c.in_ok-name_index.name_index in
    let pool = c.utf8-2.new.self.constant_pool in
    subst (λ contents. IsStackMapAdded c.args.self.now.constant_pool (contents_kept contents) pool
    (built_maps (Some (record { name_index = index; contents = c.in-Some.contents }))))
    (sym c.in-Some.is)
    (index, subst (λ t. IsAdded c.args.self.now.constant_pool (Utf8 t) pool index) c.as_slice.ensures (c.in_ok-name_index.ensures {u = tt}).ok, refl)

pub returns-in_err-name_index-clause-too_large : goal.returns-in_err-name_index-clause-too_large
returns-in_err-name_index-clause-too_large c = λ e.
    let pool = c.args.self.now.constant_pool in
    subst (λ contents. HasStackMapRoom pool (contents_kept contents) → ⊥) (sym c.in-Some.is)
    (stack_map_none pool _
    (subst (λ t. HasRoom (IsAdded pool (Utf8 t)) → ⊥) c.as_slice.ensures
    ((c.in_err-name_index.ensures {u = tt}).too_large.0 (too_large_before c.from_residual.result c.in_err-name_index.field-0.0 c.from_residual.ensures.1 e))))
