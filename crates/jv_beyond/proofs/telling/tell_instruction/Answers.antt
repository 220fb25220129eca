use Rattle.std.proofs.Common.{◌≡◌, ◌++◌, List, ℕ, ap, drop, sym, ◌∙◌}
use Rattle.std.specs.Option.{option_map}
use Rattle.std.proofs.lemmas.List.{drop_min}
use Rattle.std.proofs.lemmas.Result.{IfOk-weaker}
use Rattle.jv_class_structure.specs.Seen.{seen_code, seen_method}
use Rattle.jv_pool.specs.Constants.{Entry}
use Rattle.jv_beyond.specs.Text.{method_text, place_text}
use Rattle.jv_beyond.proofs.telling.tell_instruction.Goals as goal

pub returns : goal.returns
returns c =
    let m = seen_method c.in-Some.method in
    let place = c.args.place in
    let line = c.line_at.result in
    let code = (seen_code c.in-Some-code.body).code in
    let rest = c.split_at.result.1.now in
    let behind : rest ≡ drop c.args.offset code = c.split_at.ensures.back ∙ (ap (λ (n : ℕ). drop n code) c.min.ensures ∙ drop_min c.args.offset code) in
    let own = c.args.parts.now.constant_pool in
    IfOk-weaker c.to_string.result _ _
    (λ text h. (
      line,
      (
        m,
        sym c.method.ensures ∙ ap (option_map seen_method) c.in-Some.is,
        (
          seen_code c.in-Some-code.body,
          sym c.code.ensures ∙ ap (option_map seen_code) c.in-Some-code.is,
          h
              ∙ (ap (λ (t : List ℕ). t ++ place_text c.args.offset line rest) c.shown_method.ensures
              ∙ (ap (λ (pool : List Entry). method_text pool place m ++ place_text c.args.offset line rest) c.pool.ensures
              ∙ ap (λ (r : List ℕ). method_text own place m ++ place_text c.args.offset line r) behind)),
        ),
      ),
    ))
    c.to_string.ensures.ok
