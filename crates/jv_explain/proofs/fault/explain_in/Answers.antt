use Rattle.std.proofs.Common.{◌≡◌, ℕ, List, ◌++◌, Some, None, ap, sym, subst, ◌∙◌}
use Rattle.std.specs.Option.{option_map}
use Rattle.std.specs.Prelude.{slice_get, string_bytes}
use Rattle.std.proofs.lemmas.Result.{IfOk-weaker}
use Rattle.jv_class_structure.specs.Parts.{MethodSeen, methods_of}
use Rattle.jv_class_structure.specs.Seen.{seen_method}
use Rattle.jv_pool.specs.Constants.{Entry, utf8_at}
use Rattle.jv_explain.specs.Inside.Said.{ShowsFaultIn, named_text}
use Rattle.jv_explain.specs.Text.{broken_text}
use Rattle.jv_explain.proofs.Explaining.{explained}
use Rattle.jv_explain.proofs.Named.{shown_at}
use Rattle.jv_explain.proofs.fault.explain_in.Goals as goal

pub returns-in_default : goal.returns-in_default
returns-in_default c = λ world l of first.
    let (x, there, as_shown) = shown_at c.args.file.now l.class of c.args.fault.method first.method first.at in
    absurd (nothing x (sym there ∙ (ap (slice_get (methods_of c.args.file.now)) (sym c.from.ensures) ∙ (sym c.method.ensures.shown ∙ ap (option_map seen_method) c.in_default.is))))
  where
    nothing : (x : MethodSeen) → Some x ≡ None → ⊥
    nothing x e = cc

pub returns : goal.returns
returns c =
    let file = c.args.file.now in
    let method = c.in-Some.method in
    IfOk-weaker c.told.result _ _
    (λ text h. explained c.stands_in_list.ensures file c.args.fault (seen_method method) c.line_at-line.result c.from.result c.utf8-2.result.now c.utf8-2-2.result.now
    c.args.above.now (string_bytes c.in_ok-place.place) c.args.frames.now (string_bytes text)
    (sym (ap (option_map seen_method) c.in-Some.is) ∙ c.method.ensures.shown) c.from.ensures
    (ap (λ (p : List Entry). utf8_at p method.name.0) (sym c.pool-2.ensures) ∙ c.utf8-2.ensures)
    (ap (λ (p : List Entry). utf8_at p method.descriptor.0) (sym c.pool-3.ensures) ∙ c.utf8-2-2.ensures)
    (subst (λ (p : List Entry). ShowsFaultIn p (seen_method method) c.args.fault c.line_at-line.result (string_bytes c.in_ok-place.place)) c.pool.ensures c.in_ok-place.ensures)
    (h ∙ ap (λ (t : List ℕ). named_text c.args.fault.method c.utf8-2.result.now c.utf8-2-2.result.now ++ c.args.above.now ++ t ++ c.args.frames.now ++ broken_text c.args.fault.rule) c.deref.ensures))
    c.told.ensures
