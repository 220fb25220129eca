use Rattle.std.proofs.Common.{◌≡◌, ◌∙◌, ◌≤◌, Some, ap, get_or, length, map, sym, subst}
use Rattle.std.specs.List.{list_any}
use Rattle.std.specs.Str.{bytes_eq}
use Rattle.std.proofs.lemmas.Option.{slice_get_read}
use Rattle.jv_loader.specs.declared.header.Header.{Header}
use Rattle.jv_loader.specs.Inside.Headers.{headers_in, is_lent}
use Rattle.jv_loader.specs.Inside.Tables.{in_front}
use Rattle.jv_loader.proofs.Comparing.{joins_front, lent_rows, stays_behind, take_whole}
use Rattle.jv_loader.proofs.lending.front_of.Goals as goal
use Rattle.jv_loader.proofs.lending.front_of.Goals.{then-not-is_lent+in_ok-push, else-not-is_lent}

pub loop-place-preserved : goal.loop-place-preserved
loop-place-preserved c =
    let rows = c.args.headers.now in
    let world = c.args.list.now in
    let place = c.loop-place.place in
    let l = c.class-item.result in
    let all = c.classes-class-items.ensures in
    let there = slice_get_read world (length c.classes-class-items.result.now) place l (ap length all) c.loop-place-test.true (c.class-item.is ∙ ap (λ w. get_or w place l) all) in
    let told : is_lent (headers_in rows) l.class.name ≡ c.is_lent.result =
    sym (lent_rows rows l.class.name) ∙ (ap (λ n. list_any (λ (h : Header). bytes_eq h.name.now n) rows) (sym c.name.ensures) ∙ sym c.is_lent.ensures) in
    elim c.if-not-is_lent.branch [
      | then-not-is_lent+in_ok-push w ↦
          joins_front (headers_in rows) world place l there c.loop-place.front.items c.loop-place.invariant c.if-not-is_lent.front.items (told ∙ w.if-not-is_lent.true)
          (ap (λ v. v.items) w.front-is ∙ w.in_ok-push.ensures.items)
      | else-not-is_lent w ↦
          stays_behind (headers_in rows) world place l there c.loop-place.front.items c.loop-place.invariant c.if-not-is_lent.front.items (told ∙ w.if-not-is_lent.false)
          (ap (λ v. v.items) w.front-is)
    ]

pub returns : goal.returns
returns c =
    let all = c.classes-class-items.ensures in
    c.loop-place.invariant
    ∙ ap (λ w. map Some (in_front (headers_in c.args.headers.now) w))
    (take_whole c.args.list.now c.loop-place.place (subst (λ w. length w ≤ c.loop-place.place) all c.loop-place-test.false))
