use Rattle.std.proofs.Common.{sym, ap, subst, ◌∙◌}
use Rattle.std.specs.Prelude.{IfOk, IfSome}
use Rattle.jv_class_structure.specs.Seen.{seen_code}
use Rattle.jv_meaning_typing.specs.Environment.{Environment}
use Rattle.jv_verify_pass.specs.Tables.{MapsTo}
use Rattle.jv_verify.specs.Inside.Read.{ReadMethod, IsOfRead, HaveRoom, types_of}
use Rattle.jv_verify.proofs.Parts.{same_constants, maps_told, rooms_told}
use Rattle.jv_verify.proofs.read.ReadMethod.map_frames.Goals as goal

pub read_map-requires : goal.read_map-requires
read_map-requires c = c.requires ∙ (sym (ap (λ (m : ReadMethod). m.body.code) c.self.view_is) ∙ c.self.invariant.code)

pub returns-clause-map : goal.returns-clause-map
returns-clause-map c =
    let inside : ReadMethod =
    record { class = c.self.inside.class.now; body = seen_code c.self.inside.body.now; initial = c.self.inside.initial.now; is_init = c.self.inside.is_init; result = c.self.inside.result } in
    subst (λ (m : ReadMethod). IfOk c.read_map.result (λ found. (env : Environment) → IsOfRead m env → MapsTo (types_of m) m.body.max_locals env found)) c.self.view_is
    (maps_told inside c.constants.result.now c.self.inside.code.now.bytes.now c.read_map.result
    (same_constants inside c.constants.result.now c.constants.ensures.types c.constants.ensures.pool) c.self.invariant.code
    c.read_map.ensures.map)

pub returns-clause-room : goal.returns-clause-room
returns-clause-room c =
    let inside : ReadMethod =
    record { class = c.self.inside.class.now; body = seen_code c.self.inside.body.now; initial = c.self.inside.initial.now; is_init = c.self.inside.is_init; result = c.self.inside.result } in
    subst (λ (m : ReadMethod). IfOk c.read_map.result (λ found. IfSome found (HaveRoom m))) c.self.view_is
    (rooms_told inside c.constants.result.now c.read_map.result
    (same_constants inside c.constants.result.now c.constants.ensures.types c.constants.ensures.pool) c.read_map.ensures.words
    c.read_map.ensures.room)
