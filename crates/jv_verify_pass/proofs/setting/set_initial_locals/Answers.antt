use Rattle.std.proofs.Common.{◌≡◌, ℕ, ◌-◌, List, [], length, take, refl, sym, ap, subst, get_or, ◌∙◌, arith}
use Rattle.std.proofs.Math.Seq.{take-length}
use Rattle.jv_stackmap.specs.declared.verification.VerificationTypeOf.TheVariants as variants
use Rattle.jv_stackmap.specs.Frames.{expanded}
use Rattle.jv_verify_types.specs.Typed.{typed, typed_all}
use Rattle.jv_verify_types.specs.Numbered.{NumberFrame, with_locals}
use Rattle.jv_verify_pass.specs.Inside.Locals.{SetBehind}
use Rattle.jv_verify_pass.proofs.Settings.{set_one, set_room, set_end, set_start, filled, taken_typed}
use Rattle.jv_verify_pass.proofs.setting.set_initial_locals.Goals as goal

pub loop-left-init : goal.loop-left-init
loop-left-init c =
    let entries = c.args.entries.now in
    let old = c.args.frame.now.locals in (
      λ names. subst (λ es. SetBehind (typed_all names old) (expanded (length old) (typed_all names entries)) (typed_all names es) c.args.count) (sym (take-length entries))
          (set_start names old (length old) (typed_all names entries) c.args.count (ap (λ (f : NumberFrame). f.locals) c.requires.blank) (c.requires.words names) c.requires.room),
      refl,
      omega arith,
    )

pub overflow_sub-at : goal.overflow_sub-at
overflow_sub-at c =
    let names : List (List ℕ) = [] in
    let entries = c.args.entries.now in
    let item = get_or entries (c.loop-left.left - 1) variants.Top in
    omega (
      arith,
      c.words_of-at.ensures.of_type names,
      set_room _ _ (typed_all names (take (c.loop-left.left - 1) entries)) c.loop-left.at (typed names item) _ (c.loop-left.invariant.0 names)
          (taken_typed names entries c.loop-left.left variants.Top c.loop-left-test.true c.loop-left.invariant.2),
    )

pub loop-left-preserved : goal.loop-left-preserved
loop-left-preserved c =
    let entries = c.args.entries.now in
    let item = get_or entries (c.loop-left.left - 1) variants.Top in (
      λ names.
          let is = taken_typed names entries c.loop-left.left variants.Top c.loop-left-test.true c.loop-left.invariant.2 in
          let room = set_room _ _ (typed_all names (take (c.loop-left.left - 1) entries)) c.loop-left.at (typed names item) _ (c.loop-left.invariant.0 names) is in
          set_one _ _ (typed_all names (take (c.loop-left.left - 1) entries)) c.loop-left.at (c.loop-left.at - c.words_of-at.result) (typed names item) _ c.store-has_room.result _
          (c.loop-left.invariant.0 names) is (omega (arith, c.words_of-at.ensures.of_type names, room)) (c.store-has_room.ensures.stored names),
      c.store-has_room.ensures.same ∙ ap (with_locals c.store-has_room.new.self.locals) c.loop-left.invariant.1,
      omega (arith, c.loop-left.invariant.2),
    )

pub returns-clause-locals : goal.returns-clause-locals
returns-clause-locals c = λ names. set_end _ _ c.loop-left.at (typed_all names (take c.loop-left.left c.args.entries.now)) (c.loop-left.invariant.0 names)
    (let none : c.loop-left.left ≡ 0 = omega (arith, c.loop-left-test.false) in ap (λ n. typed_all names (take n c.args.entries.now)) none)

pub returns-clause-count : goal.returns-clause-count
returns-clause-count c =
    let names : List (List ℕ) = [] in
    let none : c.loop-left.left ≡ 0 = omega (arith, c.loop-left-test.false) in
    filled names c.loop-left.frame.locals (length c.args.frame.now.locals) (typed_all names c.args.entries.now)
    (set_end _ _ c.loop-left.at (typed_all names (take c.loop-left.left c.args.entries.now)) (c.loop-left.invariant.0 names) (ap (λ n. typed_all names (take n c.args.entries.now)) none))
    (omega (arith, c.requires.words names, c.requires.room))
