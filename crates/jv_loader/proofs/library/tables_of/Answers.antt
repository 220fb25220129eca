use Rattle.std.proofs.Common.{◌≡◌, ◌∙◌, ◌<◌, ap, subst, sym}
use Rattle.std.proofs.lemmas.List.{length-map}
use Rattle.jv_classes.specs.Inside.KeptNames.{text_of, texts_of}
use Rattle.jv_loader.specs.Inside.Headers.{AllLend, headers_in}
use Rattle.jv_loader.specs.Inside.Tables.{AreTables, IsFaultTogether}
use Rattle.jv_loader.proofs.Giving.{is_host, rows}
use Rattle.jv_loader.proofs.Refusing.{fault_together}
use Rattle.jv_loader.proofs.library.tables_of.Goals as goal

pub returns-in-Some-clause-fault : goal.returns-in-Some-clause-fault
returns-in-Some-clause-fault c =
    let files = texts_of c.args.files.now in
    let some = subst (λ n. 0 < n) (sym (length-map c.args.files.now text_of)) c.requires in
    let all : headers_in c.deref.result.now ≡ rows = ap headers_in c.deref.ensures.value ∙ c.in_ok-headers.ensures in
    fault_together c.one_content.ensures files c.in-Ok.list c.in-Ok.ensures.ok some c.in-Some.fault
    (subst (λ hs. IsFaultTogether c.in-Ok.list hs c.in-Some.fault) all c.in-Some.ensures.fault)

pub returns-clause-ok : goal.returns-clause-ok
returns-clause-ok c =
    let files = texts_of c.args.files.now in
    let some = subst (λ n. 0 < n) (sym (length-map c.args.files.now text_of)) c.requires in
    let all : headers_in c.deref.result.now ≡ rows = ap headers_in c.deref.ensures.value ∙ c.in_ok-headers.ensures in
    let again : headers_in c.deref-2.result.now ≡ rows = ap headers_in c.deref-2.ensures.value ∙ c.in_ok-headers.ensures in
    let tables = c.in_ok-tables_in.field-0 in
    is_host files c.in-Ok.list c.in-Ok.ensures.ok c.is_numbered.ensures (subst (AllLend c.in-Ok.list) all c.in_default.ensures.lend) c.in_default.ensures.three
    tables.lenders.items tables.front.items (subst (λ hs. AreTables c.in-Ok.list hs tables.lenders.items tables.front.items) again c.in_ok-tables_in.ensures)
    c.system_holds.ensures some
