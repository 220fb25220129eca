use Rattle.std.proofs.Common.{◌≡◌, Some, None, sym, ap, ◌∙◌}
use Rattle.std.specs.Prelude.{slice_get}
use Rattle.std.specs.Option.{option_and_then}
use Rattle.jv_lines.specs.Lines.{line_at, line_in}
use Rattle.jv_lines.proofs.Found.{item_at, none_behind}
use Rattle.jv_lines.proofs.lines.Lines.at.Goals as goal

pub returns-in-Some : goal.returns-in-Some
unfolding line_at
returns-in-Some c =
    let methods = c.args.self.now.methods.items in
    let at = c.in-Some.ensures.lookup.3 in
    let found : slice_get methods c.args.method ≡ Some c.in-Some.lines.now =
    sym (ap (λ xs. slice_get xs c.args.method) c.deref.ensures.value) ∙ item_at c.deref.result.now c.args.method c.in-Some.lines.now at.0 (at.1 c.in-Some.lines.now) in
    c.line_in.ensures ∙ (ap (λ xs. line_in xs c.args.offset) c.as_slice.ensures.value ∙ ap (option_and_then (λ m. line_in m.items c.args.offset)) (sym found))

pub returns-in-None : goal.returns-in-None
unfolding line_at
returns-in-None c =
    let methods = c.args.self.now.methods.items in
    let past : slice_get c.deref.result.now c.args.method ≡ None = none_behind c.deref.result.now c.args.method c.in-None.ensures.lookup.3 in
    let found : slice_get methods c.args.method ≡ None = sym (ap (λ xs. slice_get xs c.args.method) c.deref.ensures.value) ∙ past in
    ap (option_and_then (λ m. line_in m.items c.args.offset)) (sym found)
