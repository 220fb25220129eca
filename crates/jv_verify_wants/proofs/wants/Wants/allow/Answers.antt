use Rattle.std.proofs.Common.{◌<◌, ap, arith, length, map, sym, subst}
use Rattle.std.proofs.lemmas.List.{length-map, map-set}
use Rattle.jv_verify_wants.specs.Wanted.{wanted_at}
use Rattle.jv_verify_wants.specs.Inside.Allowed.{kept_of, AreAllowed}
use Rattle.jv_verify_wants.proofs.Places.{allowed_at, allowed_set, read_at, unchanged}
use Rattle.jv_verify_wants.proofs.wants.Wants.allow.Goals as goal

pub allow-requires : goal.allow-requires
allow-requires c =
    let vs = c.self.inside.variables.items in
    let at = c.from-at.result in
    let v = c.index_mut.result.now in
    let lt : at < length vs = omega (arith, c.self.inside.variables.ok.0) in
    allowed_at c.args.names.now c.args.offset (map kept_of vs) at (kept_of v) (omega (arith, length-map vs kept_of)) (read_at vs at v lt c.index_mut.ensures.value)
    (subst (AreAllowed c.args.names.now c.args.offset) (sym c.self.view_is) c.requires)

pub returns-clause-same : goal.returns-clause-same
returns-clause-same c =
    let vs = c.self.inside.variables.items in
    let at = c.from-at.result in
    let v = c.index_mut.result.now in
    let lt : at < length vs = omega (arith, c.self.inside.variables.ok.0) in
    unchanged c.args.self.now (map kept_of vs) _ at (kept_of v) (kept_of c.allow.new.self) (λ p. ap (λ ks. wanted_at ks p) c.self.view_is)
    (omega (arith, length-map vs kept_of)) (read_at vs at v lt c.index_mut.ensures.value) (map-set kept_of vs at c.allow.new.self) c.allow.ensures.wants

pub returns-clause-allowed : goal.returns-clause-allowed
returns-clause-allowed c =
    let vs = c.self.inside.variables.items in
    allowed_set c.args.names.now c.args.offset (map kept_of vs) _ c.from-at.result (kept_of c.allow.new.self) (map-set kept_of vs c.from-at.result c.allow.new.self)
    (subst (AreAllowed c.args.names.now c.args.offset) (sym c.self.view_is) c.requires) c.allow.ensures.allowed
