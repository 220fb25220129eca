use Rattle.std.proofs.Common.{◌≡◌, Some, sym, ap, subst, ◌∙◌}
use Rattle.std.specs.Prelude.{slice_get}
use Rattle.std.specs.Option.{option_map}
use Rattle.std.proofs.lemmas.Result.{IfOk-weaker}
use Rattle.jv_class_structure.specs.Parts.{methods_of}
use Rattle.jv_class_structure.specs.Seen.{seen_code, seen_method}
use Rattle.jv_code.specs.Insns.{instruction_of}
use Rattle.jv_code.specs.Places.{IsStart}
use Rattle.jv_meaning_world.specs.World.{Loaded, World}
use Rattle.jv_meaning_typing.specs.Environment.{Environment}
use Rattle.jv_operands.specs.Seen.{seen_unmet}
use Rattle.jv_operands.specs.Unmet.{first_unmet}
use Rattle.jv_verify.specs.Before.{seen_frame}
use Rattle.jv_program_explain.specs.Inside.Wanting.{IsEnvironmentOf}
use Rattle.jv_program_explain.proofs.BelowFaults.{class_there}
use Rattle.jv_program_explain.proofs.FaultsShown.{code_read, code_shown, method_shown, starts_there}
use Rattle.jv_program_explain.proofs.UnmetWants.{shown_so, swapped, wanted_there}
use Rattle.jv_program_explain.proofs.wanting.want_in.Goals as goal

pub unreachable-requires : goal.unreachable-requires
unreachable-requires c =
    let world = c.args.classes.now.world in
    let file = c.args.file.now in
    let (l, at) = class_there world c.args.class c.requires.class in
    method_shown world l c.args.fault (c.requires.judged l at) file (c.requires.file l at)
    (sym (ap (option_map seen_method) c.in_default.is) ∙ (c.method.ensures.shown ∙ ap (slice_get (methods_of file)) c.from-number.ensures))

pub unreachable-requires-in_default-code : goal.unreachable-requires-in_default-code
unreachable-requires-in_default-code c =
    let world = c.args.classes.now.world in
    let file = c.args.file.now in
    let (l, at) = class_there world c.args.class c.requires.class in
    code_shown world l c.args.fault (c.requires.judged l at) file (c.requires.file l at) (seen_method c.in-Some.method)
    (sym (ap (option_map seen_method) c.in-Some.is) ∙ (c.method.ensures.shown ∙ ap (slice_get (methods_of file)) c.from-number.ensures))
    (sym c.code.ensures ∙ ap (option_map seen_code) c.in_default-code.is)

pub unreachable-requires-in_default-read : goal.unreachable-requires-in_default-read
unreachable-requires-in_default-read c =
    let world = c.args.classes.now.world in
    let file = c.args.file.now in
    let (l, at) = class_there world c.args.class c.requires.class in
    let (insns, is) = code_read world l c.args.fault (c.requires.judged l at) file (c.requires.file l at) (seen_method c.in-Some.method)
    (sym (ap (option_map seen_method) c.in-Some.is) ∙ (c.method.ensures.shown ∙ ap (slice_get (methods_of file)) c.from-number.ensures))
    (seen_code c.in-Some-code.body) (sym c.code.ensures ∙ ap (option_map seen_code) c.in-Some-code.is) c.requires.instruction in
    c.in_default-read.ensures.bad insns is

pub insn_at-next-requires : goal.insn_at-next-requires
insn_at-next-requires c =
    let world = c.args.classes.now.world in
    let file = c.args.file.now in
    let (l, at) = class_there world c.args.class c.requires.class in
    subst (λ code. IsStart code c.args.fault.offset) (sym c.in-Ok.ensures.same)
    (starts_there world l c.args.fault (c.requires.judged l at) file (c.requires.file l at) (seen_method c.in-Some.method)
    (sym (ap (option_map seen_method) c.in-Some.is) ∙ (c.method.ensures.shown ∙ ap (slice_get (methods_of file)) c.from-number.ensures))
    (seen_code c.in-Some-code.body) (sym c.code.ensures ∙ ap (option_map seen_code) c.in-Some-code.is) c.requires.instruction c.stands_in_list.ensures)

pub returns : goal.returns
returns c =
    let world = c.args.classes.now.world in
    let file = c.args.file.now in
    let shown = seen_method c.in-Some.method in
    let insn = instruction_of c.insn_at-next.result.0 in
    IfOk-weaker c.want_of.result _ _
    (λ want h l at m has env here site right.
    let same_world : env.world ≡ c.table-table.result.now = here ∙ sym c.table-table.ensures in
    let loaded_is : c.class_at.result.now ≡ l = c.class_at.ensures l (subst (λ (w : World). slice_get w c.args.class ≡ Some l) (sym c.table-table.ensures) at) in
    let of = c.requires.file l at in
    let is = sym (ap (option_map seen_method) c.in-Some.is) ∙ (c.method.ensures.shown ∙ ap (slice_get (methods_of file)) c.from-number.ensures) in
    let named = c.name-name.ensures ∙ ap (λ (x : Loaded). x.class.name) loaded_is in
    wanted_there file l of m c.args.fault.method has shown is env site right c.stands_in_list.ensures (seen_code c.in-Some-code.body)
    (sym c.code.ensures ∙ ap (option_map seen_code) c.in-Some-code.is) c.in-Ok.code.bytes.now c.in-Ok.ensures.same c.args.fault.offset insn c.insn_at-next.ensures.insn
    (seen_frame c.args.frame.now) (option_map seen_unmet want)
    (h env (same_world, shown_so file l of m c.args.fault.method has shown is env site right c.name-name.result.now named)))
    (swapped c.want_of.result
    (λ (env : Environment). (env.world ≡ c.table-table.result.now) × IsEnvironmentOf file c.name-name.result.now shown env)
    (λ (env : Environment) want. option_map seen_unmet want ≡ first_unmet env insn (seen_frame c.args.frame.now))
    (λ env a. c.want_of.ensures env a.0 a.1))
