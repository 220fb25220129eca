use Rattle.std.proofs.Common.{rules, ◌≡◌, ◌<◌, ◌++◌, ap, ◌∙◌, arith}
use Rattle.std.specs.Prelude.{string_bytes}
use Rattle.jv_lines.specs.Lines.{line_at}
use Rattle.jv_program_explain.proofs.Classes.{method_at, none_listed, one_more}
use Rattle.jv_program_explain.proofs.class.methods_listed.Goals as goal

pub loop-number-init : goal.loop-number-init
loop-number-init c = none_listed c.args.class.now.types.world c.args.class.now.by (line_at c.args.lines.now) (string_bytes c.new-text.result) c.new-text.ensures.bytes

pub loop-number-preserved : goal.loop-number-preserved
loop-number-preserved c =
    let class = c.args.class.now in
    let less : c.loop-number.number < c.args.count = search rules in
    let many = c.requires.count in
    let (m, at) = method_at class.by.class.methods c.loop-number.number (omega (arith, less, many)) in
    let appended : string_bytes c.append.new.text ≡ string_bytes c.loop-number.text ++ string_bytes c.in_ok-one.one =
    c.in_ok-append.ensures ∙ ap (λ t. string_bytes c.loop-number.text ++ t) c.deref.ensures in
    one_more class.types.world class.by (line_at c.args.lines.now) c.loop-number.number m (string_bytes c.loop-number.text) (string_bytes c.in_ok-one.one) (string_bytes c.append.new.text)
    c.loop-number.invariant at (c.in_ok-one.ensures m at) appended
