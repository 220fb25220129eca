use Rattle.std.proofs.Common.{rules, ◌≡◌, ◌<◌, Some, length, sym, ap, subst, ◌∙◌, arith}
use Rattle.std.specs.Prelude.{slice_get, string_bytes}
use Rattle.std.proofs.lemmas.Result.{IfOk-weaker}
use Rattle.jv_class.specs.Class.{class_of}
use Rattle.jv_lines.specs.Lines.{line_at}
use Rattle.jv_meaning_typing.specs.Judgement.{AreTyped}
use Rattle.jv_meaning_world.specs.World.{Loaded, World}
use Rattle.jv_program_explain.specs.Listing.{AreMethodsListed}
use Rattle.jv_program_explain.proofs.BelowFaults.{class_there}
use Rattle.jv_program_explain.proofs.Classes.{all_listed, few_methods}
use Rattle.jv_program_explain.proofs.class.class_listed.Goals as goal

pub overflow_cast-count : goal.overflow_cast-count
overflow_cast-count c =
    let (l, at) = class_there c.args.classes.now.world c.args.class c.requires.class in
    let less = few_methods c.args.file.now l (c.requires.file l at) c.is_well_formed.ensures.fits in
    let many : c.method_count-count.result ≡ length l.class.methods =
    c.method_count-count.ensures ∙ ap (λ (x : Loaded). length x.class.methods) (c.class_at.ensures l (ap (λ (w : World). slice_get w c.args.class) c.table.ensures ∙ at)) in
    let few : c.method_count-count.result < 65536 = omega (arith, less, many) in
    search rules

pub methods_listed-requires-clause-count : goal.methods_listed-requires-clause-count
methods_listed-requires-clause-count c =
    let (l, at) = class_there c.args.classes.now.world c.args.class c.requires.class in
    c.method_count-count.ensures
    ∙ (ap (λ (x : Loaded). length x.class.methods) (c.class_at.ensures l (ap (λ (w : World). slice_get w c.args.class) c.table.ensures ∙ at))
    ∙ ap (λ (x : Loaded). length x.class.methods) (sym (c.in_ok-current.ensures.class l at)))

pub methods_listed-requires-clause-file : goal.methods_listed-requires-clause-file
methods_listed-requires-clause-file c =
    let (l, at) = class_there c.args.classes.now.world c.args.class c.requires.class in
    subst (λ (x : Loaded). class_of c.args.file.now ≡ Some x.class) (sym (c.in_ok-current.ensures.class l at)) (c.requires.file l at)

pub methods_listed-requires-clause-typed : goal.methods_listed-requires-clause-typed
methods_listed-requires-clause-typed c =
    let (l, at) = class_there c.args.classes.now.world c.args.class c.requires.class in
    let world : c.in_ok-current.current.types.world ≡ c.args.classes.now.world = search rules in
    subst (λ (w : World). AreTyped w c.in_ok-current.current.by c.in_ok-current.current.by.class.methods) (sym world)
    (subst (λ (x : Loaded). AreTyped c.args.classes.now.world x x.class.methods) (sym (c.in_ok-current.ensures.class l at)) (c.requires.typed l at))

pub returns : goal.returns
returns c =
    let world : c.in_ok-current.current.types.world ≡ c.args.classes.now.world = search rules in
    let by = c.in_ok-current.current.by in
    let line = line_at c.read-lines.result in
    IfOk-weaker c.methods_listed.result _ _
    (λ text h l at.
    let count : c.method_count-count.result ≡ length by.class.methods =
    c.method_count-count.ensures
    ∙ (ap (λ (x : Loaded). length x.class.methods) (c.class_at.ensures l (ap (λ (w : World). slice_get w c.args.class) c.table.ensures ∙ at))
    ∙ ap (λ (x : Loaded). length x.class.methods) (sym (c.in_ok-current.ensures.class l at))) in
    subst (λ (w : World). AreMethodsListed w l (string_bytes text)) world
    (subst (λ (x : Loaded). AreMethodsListed c.in_ok-current.current.types.world x (string_bytes text)) (c.in_ok-current.ensures.class l at)
    (all_listed c.in_ok-current.current.types.world by line c.method_count-count.result (string_bytes text) h count)))
    c.methods_listed.ensures
