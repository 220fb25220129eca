use Rattle.std.proofs.Common.{◌≡◌, ◌∙◌, ◌++◌, ap, sym, subst, length, take, drop, get_or, [], None}
use Rattle.std.proofs.Math.Seq.{take-append_seam}
use Rattle.jv_classes.specs.Once.{joined_once}
use Rattle.jv_classes.specs.Inside.Known.{IsKnown, class_number}
use Rattle.jv_classes.specs.Inside.Once.{NumbersOnce, numbers_once}
use Rattle.jv_classes.proofs.OnceEach.{once_more}
use Rattle.jv_classes.proofs.supers.numbers_in.Goals as goal

pub loop-index-init : goal.loop-index-init
loop-index-init c = (c.in_ok-once.ensures ∙ ap (λ n. numbers_once n []) c.count.ensures, c.in_ok-known.ensures c.args.list.now c.args.pool.now)

pub loop-index-preserved : goal.loop-index-preserved
loop-index-preserved c =
    let world = c.args.list.now in
    let pool = c.args.pool.now in
    let indices = c.args.indices.now in
    let old = c.loop-index.known.items in
    let new = c.find_once.new.known in
    let same : c.loop-index.known.len ≡ length new = c.loop-index.known.ok.0 ∙ sym (c.find_once.auto.known ∙ ap length c.deref_mut.ensures.value) in
    let back = ap (λ n. take n (new ++ drop (length new) old)) same ∙ take-append_seam new (drop (length new) old) in (
      c.in_ok-add.ensures.ok
          ∙ (ap (λ (o : NumbersOnce). numbers_once o.size (joined_once o.numbers c.find_once.result)) c.loop-index.invariant.0
          ∙ ap (numbers_once (length world))
          (ap (joined_once _) c.find_once.ensures.found ∙ sym (once_more (class_number world pool) indices c.loop-index.index-index _ c.loop-index-test.true))),
      λ i. subst (λ xs. IsKnown world pool i (get_or xs i None)) (sym back) (c.find_once.ensures.known i),
    )
