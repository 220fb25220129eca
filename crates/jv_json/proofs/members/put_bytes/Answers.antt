use Rattle.std.proofs.Common.{◌≡◌, ℕ, Bool, true, false, List, IsUtf8, cond, refl, sym, ap, ◌∙◌}
use Rattle.std.specs.Prelude.{OnOk, Result, Ok, Err}
use Rattle.std.specs.Str.{is_utf8}
use Rattle.std.proofs.lemmas.Str.{IsUtf8-from_is_utf8, is_utf8-from_IsUtf8}
use Rattle.serde_json.specs.Data.{Members}
use Rattle.serde_json.specs.View.{members_view}
use Rattle.jv_json.specs.Members.{with_bytes, with_escaped, with_text}
use Rattle.jv_json.proofs.members.put_bytes.Goals as goal

no_text : (bytes : List ℕ) (b : Bool) → is_utf8 bytes ≡ b → (IsUtf8 bytes → ⊥) → b ≡ false
no_text bytes false e refused = refl
no_text bytes true e refused = absurd (refused (IsUtf8-from_is_utf8 bytes e))

on_ok : {E : Type 0} (result : Result Unit E) (new one other : Members) → one ≡ other → OnOk result (new ≡ one) → OnOk result (new ≡ other)
on_ok (Ok x) new one other same h = h ∙ same
on_ok (Err e) new one other same h = h

pub returns-in-Ok : goal.returns-in-Ok
returns-in-Ok c =
    let bytes = c.args.bytes.now in
    let name = c.args.name.now in
    let before = members_view c.args.members.now.entries in
    let text : is_utf8 bytes ≡ true = is_utf8-from_IsUtf8 bytes c.in-Ok.ensures.cases.1 in
    let same : with_text name c.in-Ok.text.now before ≡ with_bytes name bytes before =
    ap (λ (x : List ℕ). with_text name x before) c.in-Ok.ensures.cases.0
    ∙ sym (ap (λ (b : Bool). cond b (with_text name bytes before) (with_escaped name bytes before)) text) in
    on_ok c.put_text.result (members_view c.put_text.new.members.entries) (with_text name c.in-Ok.text.now before) (with_bytes name bytes before) same c.put_text.ensures

pub returns-in-Err : goal.returns-in-Err
returns-in-Err c =
    let bytes = c.args.bytes.now in
    let name = c.args.name.now in
    let before = members_view c.args.members.now.entries in
    let text : is_utf8 bytes ≡ false = no_text bytes (is_utf8 bytes) refl c.in-Err.ensures.cases.0 in
    let same : with_escaped name bytes before ≡ with_bytes name bytes before =
    sym (ap (λ (b : Bool). cond b (with_text name bytes before) (with_escaped name bytes before)) text) in
    on_ok c.put_escaped.result (members_view c.put_escaped.new.members.entries) (with_escaped name bytes before) (with_bytes name bytes before) same c.put_escaped.ensures
