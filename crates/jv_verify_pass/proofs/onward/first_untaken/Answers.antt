use Rattle.std.proofs.Common.{◌≡◌, ◌≤◌, ℕ, Bool, not, Option, Some, length, sym, ap, ◌∙◌, arith, w32}
use Rattle.std.proofs.lemmas.Int.{to_z-of_z}
use Rattle.std.specs.Prelude.{slice_get}
use Rattle.std.specs.Option.{option_map}
use Rattle.std.proofs.lemmas.List.{length-map}
use Rattle.std.proofs.lemmas.Option.{slice_get-map}
use Rattle.jv_code.specs.Insns.{instruction_of}
use Rattle.jv_code.specs.Successors.{jump_distances, jump_targets}
use Rattle.jv_code.specs.Targets.{target_of}
use Rattle.jv_meaning_typing.specs.Typing.{target_holds}
use Rattle.jv_verify_types.specs.Numbered.{frame_of}
use Rattle.jv_verify_pass.specs.Pass.{maps_of, names_in}
use Rattle.jv_verify_pass.proofs.FirstFound.{found_there, none_at_first, none_found, none_more}
use Rattle.jv_verify_pass.proofs.onward.first_untaken.Goals as goal

pub loop-place-init : goal.loop-place-init
loop-place-init c = λ env is.
    let pass = c.args.pass.now in
    none_at_first (λ t. not (target_holds env (maps_of pass) (frame_of (names_in pass) c.args.left.now) t)) (jump_targets c.args.offset (instruction_of c.args.insn.now))

pub distance_at-distance-requires : goal.distance_at-distance-requires
distance_at-distance-requires c =
    let lt = c.loop-place-test.true in
    omega (arith, lt, c.jump_count-place-end.ensures)

pub returns-then-not-target_holds : goal.returns-then-not-target_holds
returns-then-not-target_holds c = λ env is.
    let pass = c.args.pass.now in
    let targets = jump_targets c.args.offset (instruction_of c.args.insn.now) in
    let same = to_z-of_z w32 c.distance_at-distance.result (record { sfits = c.distance_at-distance.type_inv }) in
    let at : slice_get targets c.loop-place.place ≡ Some c.target_of-target.result =
    slice_get-map (target_of c.args.offset) (jump_distances (instruction_of c.args.insn.now)) c.loop-place.place
    ∙ (ap (option_map (target_of c.args.offset)) c.distance_at-distance.ensures ∙ ap (λ (t : Option ℕ). Some t) (sym (c.target_of-target.ensures ∙ ap (target_of c.args.offset) same))) in
    let test : Option ℕ → Bool = λ (t : Option ℕ). not (target_holds env (maps_of pass) (frame_of (names_in pass) c.args.left.now) t) in
    sym (found_there test targets c.loop-place.place c.target_of-target.result (c.loop-place.invariant env is) at (ap (λ b. not b) (sym (c.if-not-target_holds.ensures env is))))

pub loop-place-preserved : goal.loop-place-preserved
loop-place-preserved c = λ env is.
    let pass = c.args.pass.now in
    let targets = jump_targets c.args.offset (instruction_of c.args.insn.now) in
    let same = to_z-of_z w32 c.distance_at-distance.result (record { sfits = c.distance_at-distance.type_inv }) in
    let at : slice_get targets c.loop-place.place ≡ Some c.target_of-target.result =
    slice_get-map (target_of c.args.offset) (jump_distances (instruction_of c.args.insn.now)) c.loop-place.place
    ∙ (ap (option_map (target_of c.args.offset)) c.distance_at-distance.ensures ∙ ap (λ (t : Option ℕ). Some t) (sym (c.target_of-target.ensures ∙ ap (target_of c.args.offset) same))) in
    let test : Option ℕ → Bool = λ (t : Option ℕ). not (target_holds env (maps_of pass) (frame_of (names_in pass) c.args.left.now) t) in
    none_more test targets c.loop-place.place c.target_of-target.result (c.loop-place.invariant env is) at
    (ap (λ b. not b) (sym (c.target_holds.ensures env is) ∙ c.if-not-target_holds.false))

pub returns : goal.returns
returns c = λ env is.
    let pass = c.args.pass.now in
    let past = c.loop-place-test.false in
    let targets = jump_targets c.args.offset (instruction_of c.args.insn.now) in
    let many : length targets ≤ c.loop-place.place = omega (arith, past, c.jump_count-place-end.ensures, length-map (jump_distances (instruction_of c.args.insn.now)) (target_of c.args.offset)) in
    sym (none_found (λ t. not (target_holds env (maps_of pass) (frame_of (names_in pass) c.args.left.now) t)) targets c.loop-place.place (c.loop-place.invariant env is) many)
