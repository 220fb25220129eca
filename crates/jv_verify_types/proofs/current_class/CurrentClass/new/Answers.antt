use Rattle.std.proofs.Common.{◌≡◌, ◌∙◌, Some, sym, ap, subst}
use Rattle.std.specs.Prelude.{IsSome, List, slice_get}
use Rattle.std.specs.Option.{option_map}
use Rattle.jv_pool.specs.Named.{NamesByKind}
use Rattle.jv_pool.specs.Constants.{Entry, class_name_at}
use Rattle.jv_class_structure.specs.Structure.{ClassStructure}
use Rattle.jv_class.specs.ClassFile.{super_index}
use Rattle.jv_meaning_world.specs.World.{Loaded, World}
use Rattle.jv_meaning_world.specs.Numbers.{HoldsAtNumber}
use Rattle.jv_classes.proofs.Followed.{some_class}
use Rattle.jv_verify_types.specs.Typed.{name_at}
use Rattle.jv_verify_types.specs.PoolTypes.{PoolTypes}
use Rattle.jv_verify_types.specs.Inside.Named.{class_of_constant, class_of_constant_at}
use Rattle.jv_verify_types.specs.Inside.Marked.{AreMarkedAt}
use Rattle.jv_verify_types.specs.Inside.KeptClass.{AreGuards, IsKept}
use Rattle.jv_verify_types.proofs.OfClass.{known, there}
use Rattle.jv_verify_types.proofs.current_class.CurrentClass.new.Goals as goal

pub known_number-name-requires : goal.known_number-name-requires
known_number-name-requires c =
    let kinds : NamesByKind c.args.file.now.constant_pool = subst NamesByKind (c.pool.ensures ∙ c.requires.pool) (c.kinds_name.ensures c.pool.result.now c.keeps_rules.ensures) in
    there c.args.file.now kinds c.is_well_formed.ensures c.args.constants.now.pool c.this_class.result.0 c.requires.pool c.this_class.ensures.same
    (subst (λ (p : List Entry). IsSome (class_name_at p c.this_class.result.0)) (sym c.requires.pool) c.this_class.ensures.named)

pub invariant_of-result : goal.invariant_of-result
invariant_of-result c =
    let constants : PoolTypes = c.args.constants.now in
    let file : ClassStructure = c.args.file.now in
    let world : World = c.args.classes.now.world in
    let direct = c.in_ok-direct.direct.items in
    let guarded = c.in_ok-guarded.guarded.items in
    let name = c.known_number-name.result in
    let superclass = c.number_by-superclass.result in
    let kinds : NamesByKind file.constant_pool = subst NamesByKind (c.pool.ensures ∙ c.requires.pool) (c.kinds_name.ensures c.pool.result.now c.keeps_rules.ensures) in
    let there = some_class world c.args.class c.requires.class in
    let l : Loaded = there.0 in
    let at : slice_get world c.args.class ≡ Some l = there.1 in
    let is : c.class_at.result.now ≡ l = subst (λ (w : World). HoldsAtNumber w c.args.class (λ m. c.class_at.result.now ≡ m)) c.table.ensures c.class_at.ensures l at in
    let named : class_of_constant constants.pool file.this_class ≡ Some (name_at constants.types.names name) = ap (class_of_constant constants.pool)
    (sym c.this_class.ensures.same) ∙ c.known_number-name.ensures in
    let above : option_map (name_at constants.types.names) superclass ≡ class_of_constant_at constants.pool (super_index file) =
    c.number_by-superclass.ensures ∙ ap (class_of_constant_at constants.pool) c.super_class.ensures.same in
    let marked : AreMarkedAt constants.types.names constants.pool file.interfaces direct =
    subst (λ is. AreMarkedAt constants.types.names constants.pool is direct) c.interfaces.ensures.same c.in_ok-direct.ensures in
    let guards : AreGuards constants.types.world l constants.pool guarded = subst (λ (w : World). AreGuards w l constants.pool guarded) (sym c.requires.world) (c.in_ok-guarded.ensures l at) in
    subst (λ (m : Loaded). IsKept constants m name superclass direct guarded) (sym is)
    (known file kinds c.is_well_formed.ensures constants l name superclass direct guarded c.requires.pool (c.requires.file l at) named above marked guards)
