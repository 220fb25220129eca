use Rattle.std.proofs.Common.{◌≡◌, ◌∙◌, sym, ap, subst}
use Rattle.jv_classes.specs.Inside.KeptNames.{texts_of}
use Rattle.jv_meaning_world.specs.Library.{IsLibrary}
use Rattle.jv_meaning_world.specs.World.{World}
use Rattle.jv_loader.specs.Inside.Library.{AreHostFiles, IsHostList, bytes_of, files_at, files_from}
use Rattle.jv_loader.specs.Inside.System.{host_world}
use Rattle.jv_loader.proofs.Hosting.{if_ok}
use Rattle.jv_loader.proofs.files.SystemFiles.list.Goals as goal

pub host_list-requires : goal.host_list-requires
host_list-requires c =
    let host = c.self.inside in
    let given = c.self.invariant.given in
    let lent : texts_of c.deref-6.result.now ≡ files_from (bytes_of host.own.items) (bytes_of host.library.items) 0 host.lenders.items =
    ap texts_of c.deref-6.ensures.value ∙ (c.in_ok-lent.ensures
    ∙ (ap (λ o. files_from (bytes_of o) (bytes_of c.deref-2.result.now) 0 c.deref-3.result.now) c.deref.ensures.value
    ∙ (ap (λ l. files_from (bytes_of host.own.items) (bytes_of l) 0 c.deref-3.result.now) c.deref-2.ensures.value
    ∙ ap (files_from (bytes_of host.own.items) (bytes_of host.library.items) 0) c.deref-3.ensures.value))) in
    let front : texts_of c.deref-7.result.now ≡ files_at (bytes_of host.library.items) host.front.items =
    ap texts_of c.deref-7.ensures.value ∙ (c.in_ok-front.ensures
    ∙ (ap (λ l. files_at (bytes_of l) c.deref-5.result.now) c.deref-4.ensures.value ∙ ap (files_at (bytes_of host.library.items)) c.deref-5.ensures.value)) in (
      given,
      subst (λ fs. AreHostFiles fs (texts_of c.deref-7.result.now) given) (sym lent)
          (subst (λ fs. AreHostFiles (files_from (bytes_of host.own.items) (bytes_of host.library.items) 0 host.lenders.items) fs given) (sym front) c.self.invariant.files),
    )

pub returns : goal.returns
returns c =
    let host = c.self.inside in
    let given = c.self.invariant.given in
    let lent : texts_of c.deref-6.result.now ≡ files_from (bytes_of host.own.items) (bytes_of host.library.items) 0 host.lenders.items =
    ap texts_of c.deref-6.ensures.value ∙ (c.in_ok-lent.ensures
    ∙ (ap (λ o. files_from (bytes_of o) (bytes_of c.deref-2.result.now) 0 c.deref-3.result.now) c.deref.ensures.value
    ∙ (ap (λ l. files_from (bytes_of host.own.items) (bytes_of l) 0 c.deref-3.result.now) c.deref-2.ensures.value
    ∙ ap (files_from (bytes_of host.own.items) (bytes_of host.library.items) 0) c.deref-3.ensures.value))) in
    let front : texts_of c.deref-7.result.now ≡ files_at (bytes_of host.library.items) host.front.items =
    ap texts_of c.deref-7.ensures.value ∙ (c.in_ok-front.ensures
    ∙ (ap (λ l. files_at (bytes_of l) c.deref-5.result.now) c.deref-4.ensures.value ∙ ap (files_at (bytes_of host.library.items)) c.deref-5.ensures.value)) in
    let files =
    subst (λ fs. AreHostFiles fs (texts_of c.deref-7.result.now) given) (sym lent)
    (subst (λ fs. AreHostFiles (files_from (bytes_of host.own.items) (bytes_of host.library.items) 0 host.lenders.items) fs given) (sym front) c.self.invariant.files) in
    if_ok (λ (list : World). list ≡ host_world given) (IsHostList c.args.self.now)
    (λ list is. record { given = given; gives = subst (λ fs. IsLibrary fs given) c.self.view_is c.self.invariant.gives; list_is = is }) c.host_list.result
    (c.host_list.ensures given files)
