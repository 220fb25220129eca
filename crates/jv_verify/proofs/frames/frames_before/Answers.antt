use Rattle.std.specs.Prelude.{slice_get}
use Rattle.std.proofs.Common.{rules, ◌≡◌, Some, true, false, sym, ap, subst, ◌∙◌}
use Rattle.jv_class_structure.specs.Parts.{methods_of}
use Rattle.jv_meaning_world.specs.World.{Loaded, World}
use Rattle.jv_classes.proofs.Followed.{some_class}
use Rattle.jv_verify.specs.Frames.{IsTypedIn}
use Rattle.jv_verify.specs.Inside.Shown.{AreMethodsOf}
use Rattle.jv_verify.proofs.Shown.{of_file}
use Rattle.jv_verify.proofs.frames.frames_before.Goals as goal

pub unreachable-requires : goal.unreachable-requires
unreachable-requires c =
    let there = some_class c.args.classes.now.world c.args.class c.requires.class in
    let at = subst (λ w. slice_get w c.args.class ≡ Some there.0) (sym c.table.ensures) there.1 in
    let none = (c.in_default.ensures {u = tt}).none in
    clash (sym (ap (λ (l : Loaded). l.by_system) (sym (c.class_at.ensures there.0 at) ∙ none)) ∙ c.requires.guest there.0 there.1)
  where
    clash : true ≡ false → ⊥
    clash e = cc

pub frames_in_class-requires-clause-methods : goal.frames_in_class-requires-clause-methods
frames_in_class-requires-clause-methods c =
    let there = some_class c.args.classes.now.world c.args.class c.requires.class in
    let l : Loaded = there.0 in
    let at : c.class_at.result.now ≡ l = c.class_at.ensures l (subst (λ w. slice_get w c.args.class ≡ Some l) (sym c.table.ensures) there.1) in
    subst (λ (m : Loaded). AreMethodsOf m (methods_of c.in-Some.file.now)) (sym (c.in_ok-current.ensures.class l there.1))
    (of_file c.in-Some.file.now l (c.in-Some.ensures.file ∙ ap (λ (m : Loaded). Some m.class) at))

pub frames_in_class-requires-clause-typed : goal.frames_in_class-requires-clause-typed
frames_in_class-requires-clause-typed c =
    let there = some_class c.args.classes.now.world c.args.class c.requires.class in
    let l : Loaded = there.0 in
    let world : c.in_ok-current.current.types.world ≡ c.args.classes.now.world = search rules in
    subst (λ (w : World). IsTypedIn w c.in_ok-current.current.by c.args.method c.args.offset) (sym world)
    (subst (λ (m : Loaded). IsTypedIn c.args.classes.now.world m c.args.method c.args.offset) (sym (c.in_ok-current.ensures.class l there.1)) (c.requires.typed l there.1))
