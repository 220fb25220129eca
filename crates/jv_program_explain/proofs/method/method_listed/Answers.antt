use Rattle.std.proofs.Common.{◌≡◌, List, ℕ, ◌++◌, length, refl, ap, sym, subst, ◌∙◌, Option, Some, None}
use Rattle.std.specs.Prelude.{IsSome, slice_get, string_bytes}
use Rattle.std.specs.Option.{option_map}
use Rattle.std.proofs.lemmas.Result.{IfOk-weaker}
use Rattle.jv_class_structure.specs.Parts.{CodeSeen, methods_of}
use Rattle.jv_class_structure.specs.Seen.{seen_code, seen_method}
use Rattle.jv_explain.specs.Inside.Said.{named_text}
use Rattle.jv_lines.specs.Lines.{line_at}
use Rattle.jv_links.proofs.Blocked.{not_lacking}
use Rattle.jv_meaning_world.specs.Verdicts.{declared_by}
use Rattle.jv_pool.specs.Constants.{Entry, utf8_at}
use Rattle.jv_program_explain.specs.Listing.{IsListedTo}
use Rattle.jv_program_explain.proofs.Methods.{method_told, none_told, shown_code, there}
use Rattle.jv_program_explain.proofs.Typed.{code_typed, typed_method, typed_whole}
use Rattle.jv_program_explain.proofs.method.method_listed.Goals as goal

pub returns-in_default : goal.returns-in_default
returns-in_default c = λ m at.
    let by = c.args.class.now.by in
    absurd (not_lacking c.args.file.now (declared_by by m) c.args.number c.requires.file at
    (sym (ap (option_map seen_method) c.in_default.is) ∙ (c.method.ensures.shown ∙ ap (slice_get (methods_of c.args.file.now)) c.from.ensures)))

pub returns-in_default-code : goal.returns-in_default-code
returns-in_default-code c = λ m at.
    let class = c.args.class.now in
    let s = declared_by class.by m in
    let mine = shown_code c.args.file.now s c.args.number (seen_method c.in-Some.method) c.requires.file at
    (sym (ap (option_map seen_method) c.in-Some.is) ∙ (c.method.ensures.shown ∙ ap (slice_get (methods_of c.args.file.now)) c.from.ensures)) in
    let none : (seen_method c.in-Some.method).code ≡ None = sym c.code.ensures ∙ ap (option_map seen_code) c.in_default-code.is in
    none_told class.types.world s (line_at c.args.lines.now c.args.number) c.args.number (string_bytes c.new-in_default-code.result) (mine.code ∙ none) c.new-in_default-code.ensures.bytes

pub returns-in_default-read : goal.returns-in_default-read
returns-in_default-read c = λ m at.
    let class = c.args.class.now in
    let s = declared_by class.by m in
    let body = seen_code c.in-Some-code.body in
    let mine = shown_code c.args.file.now s c.args.number (seen_method c.in-Some.method) c.requires.file at
    (sym (ap (option_map seen_method) c.in-Some.is) ∙ (c.method.ensures.shown ∙ ap (slice_get (methods_of c.args.file.now)) c.from.ensures)) in
    let has : m.code ≡ Some body = mine.code ∙ (sym c.code.ensures ∙ ap (option_map seen_code) c.in-Some-code.is) in
    let typing = typed_method class.types.world class.by c.args.number m c.requires.typed at (subst (λ (o : Option CodeSeen). IsSome o) (sym has) refl) in
    let (insns, is) = code_typed class.types.world s body has typing in
    absurd (c.in_default-read.ensures.bad insns is)

pub list_to-requires-clause-typed : goal.list_to-requires-clause-typed
list_to-requires-clause-typed c =
    let class = c.args.class.now in
    let body = seen_code c.in-Some-code.body in
    let shown = sym (ap (option_map seen_method) c.in-Some.is) ∙ (c.method.ensures.shown ∙ ap (slice_get (methods_of c.args.file.now)) c.from.ensures) in
    let (m, at) = there c.args.file.now class.by.class c.args.number (seen_method c.in-Some.method) c.requires.file shown in
    let mine = shown_code c.args.file.now (declared_by class.by m) c.args.number (seen_method c.in-Some.method) c.requires.file at shown in
    let has : m.code ≡ Some body = mine.code ∙ (sym c.code.ensures ∙ ap (option_map seen_code) c.in-Some-code.is) in
    typed_whole class.types.world class.by c.args.number m body at has
    (typed_method class.types.world class.by c.args.number m c.requires.typed at (subst (λ (o : Option CodeSeen). IsSome o) (sym has) refl)) c.size-size.result
    (c.size-size.ensures.bytes ∙ ap length c.in-Ok.ensures.same)

pub returns : goal.returns
returns c =
    let class = c.args.class.now in
    let file = c.args.file.now in
    let number = c.args.number in
    let method = c.in-Some.method in
    let body = seen_code c.in-Some-code.body in
    let name = c.utf8-2.result.now in
    let descriptor = c.utf8-2-2.result.now in
    let line = line_at c.args.lines.now number in
    let listing = string_bytes c.in_ok-listing.listing in
    IfOk-weaker c.headed.result _ _
    (λ text h m at.
    let s = declared_by class.by m in
    let mine = shown_code file s number (seen_method method) c.requires.file at
    (sym (ap (option_map seen_method) c.in-Some.is) ∙ (c.method.ensures.shown ∙ ap (slice_get (methods_of file)) c.from.ensures)) in
    let code_is = sym c.code.ensures ∙ ap (option_map seen_code) c.in-Some-code.is in
    method_told class.types.world s line file number (seen_method method) body name descriptor listing (string_bytes text) mine code_is
    (ap (λ (p : List Entry). utf8_at p method.name.0) (sym c.pool-pool.ensures) ∙ c.utf8-2.ensures)
    (ap (λ (p : List Entry). utf8_at p method.descriptor.0) (sym c.pool-pool.ensures) ∙ c.utf8-2-2.ensures)
    (subst (λ (n : ℕ). IsListedTo class.types.world s line body.code n listing) (c.size-size.ensures.bytes ∙ ap length c.in-Ok.ensures.same)
    (c.in_ok-listing.ensures m body at (mine.code ∙ code_is)))
    (h ∙ ap (λ (t : List ℕ). named_text number name descriptor ++ t) c.deref.ensures))
    c.headed.ensures
