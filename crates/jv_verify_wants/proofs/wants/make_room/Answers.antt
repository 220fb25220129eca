use Rattle.std.proofs.Common.{◌∙◌, ap, map, sym, subst}
use Rattle.jv_verify_wants.specs.Wanted.{wanted_at}
use Rattle.jv_verify_wants.specs.Inside.Allowed.{kept_of, AreAllowed}
use Rattle.jv_verify_wants.proofs.Places.{room_allowed, room_at}
use Rattle.jv_verify_wants.proofs.wants.make_room.Goals as goal

pub loop-alloc-preserved : goal.loop-alloc-preserved
loop-alloc-preserved c =
    let items = c.in_ok-push.ensures.items in
    let old = c.loop-alloc.variables.items in record {
      same = λ p. ap (λ vs. wanted_at (map kept_of vs) p) items ∙ room_at old c.new.result p c.new.ensures.wants ∙ c.loop-alloc.invariant.same p;
      allowed = λ types offset are.
          subst (λ vs. AreAllowed types offset (map kept_of vs)) (sym items)
          (room_allowed types offset old c.new.result (c.new.ensures.allowed types offset) (c.loop-alloc.invariant.allowed types offset are));
    }

pub returns-in_err-push-clause-allowed : goal.returns-in_err-push-clause-allowed
returns-in_err-push-clause-allowed c types offset are =
    subst (λ vs. AreAllowed types offset (map kept_of vs)) (sym c.in_err-push.ensures.items) (c.loop-alloc.invariant.allowed types offset are)
