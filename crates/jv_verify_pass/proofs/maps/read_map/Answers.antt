use Rattle.std.proofs.Common.{ℕ, List, Option, sym, ap, subst, ◌∙◌}
use Rattle.std.specs.Option.{option_map}
use Rattle.jv_class_structure.specs.Seen.{seen_bytes}
use Rattle.jv_verify_pass.specs.Tables.{entry_types, HasMap}
use Rattle.jv_verify_pass.specs.Inside.Parts.{IsSpelled}
use Rattle.jv_verify_pass.proofs.FramesAtInstructions.{with_code, maps_bad, maps_to, maps_not}
use Rattle.jv_verify_pass.proofs.maps.read_map.Goals as goal

pub returns-in_default-2-clause-map : goal.returns-in_default-2-clause-map
returns-in_default-2-clause-map c = λ env has.
    let types = entry_types c.args.constants.now c.args.initial.now in
    let code = c.args.code.now.bytes.now in
    let bytes = c.in-Some.bytes.now in
    maps_bad types code c.args.limits bytes env
    (subst (λ (o : Option (List ℕ)). HasMap types code c.args.limits o env) (ap (option_map seen_bytes) c.in-Some.is) has)
    (subst (IsSpelled types c.args.limits bytes) c.in_default-2.is c.in_ok-frames.ensures.spelled)

pub returns-then-frames_stand-clause-map : goal.returns-then-frames_stand-clause-map
returns-then-frames_stand-clause-map c = λ env has.
    let types = entry_types c.args.constants.now c.args.initial.now in
    let code = c.args.code.now.bytes.now in
    let bytes = c.in-Some.bytes.now in
    let mapped = subst (λ (o : Option (List ℕ)). HasMap types code c.args.limits o env) (ap (option_map seen_bytes) c.in-Some.is) has in
    maps_to types code c.args.limits bytes env mapped c.in-Some-2.frames
    (subst (IsSpelled types c.args.limits bytes) c.in-Some-2.is c.in_ok-frames.ensures.spelled)
    (sym (c.frames_stand.ensures env (with_code types code c.args.limits bytes env mapped)) ∙ c.if-frames_stand.true)

pub returns-else-frames_stand-clause-map : goal.returns-else-frames_stand-clause-map
returns-else-frames_stand-clause-map c = λ env has.
    let types = entry_types c.args.constants.now c.args.initial.now in
    let code = c.args.code.now.bytes.now in
    let bytes = c.in-Some.bytes.now in
    let mapped = subst (λ (o : Option (List ℕ)). HasMap types code c.args.limits o env) (ap (option_map seen_bytes) c.in-Some.is) has in
    maps_not types code c.args.limits bytes env mapped c.one_maps.ensures c.in-Some-2.frames
    (subst (IsSpelled types c.args.limits bytes) c.in-Some-2.is c.in_ok-frames.ensures.spelled)
    (sym (c.frames_stand.ensures env (with_code types code c.args.limits bytes env mapped)) ∙ c.if-frames_stand.false)
