-- A method that is entered (JVMS 2.6).
use Rattle.std.proofs.Common.{◌≡◌, ℕ, ◌+◌, ◌-◌, ◌≤◌, nat_le, List, [], ◌∷◌, ◌++◌, Option, Some, Ok, length, reverse, replicate, slice_get, refl, sym, ap, subst, ◌∙◌, arith, length-append}
use Rattle.std.proofs.lemmas.List.{length-replicate}
use Rattle.std.proofs.lemmas.List.Sums.{sum_by-cons}
use Rattle.std.proofs.lemmas.Grind.{common_steps}
use Rattle.std.specs.Prelude.{vec_capacity}
use Rattle.std.specs.List.{flat_map}
use Rattle.jv_text.specs.Descriptor.{MethodDescriptor}
use Rattle.jv_text.specs.Types.{method_type_of}
use Rattle.jv_class_structure.specs.Parts.{CodeSeen}
use Rattle.jv_code.specs.Insns.{Instruction}
use Rattle.jv_meaning_world.specs.Overriding.{Declared}
use Rattle.jv_meaning_typing.specs.Environment.{Environment}
use Rattle.jv_meaning_machine.specs.Faults.{OrFault, found, tested, ◌>>=◌}
use Rattle.jv_meaning_machine.specs.Faults.Fault.{UnverifiedFault, OffsetFault, LocalFault}
use Rattle.jv_meaning_machine.specs.Values.{Value}
use Rattle.jv_meaning_machine.specs.Values.Value.{Unset}
use Rattle.jv_meaning_machine.specs.Frames.{local_words, filled, MethodFrame, Frame}
use Rattle.jv_meaning_machine.specs.Frames.Frame.{Runs}
use Rattle.jv_meaning_machine.specs.State.{Program, is_class_accepted, entered_method}
use Rattle.jv_meaning_machine.specs.Costs.{code_words}
use Rattle.jv_meaning_machine.specs.Entering.{passed_values, entered_frame, method_frame}
use Rattle.jv_meaning_machine.specs.Laws.Shapes.{frame_words, used_words}
use Rattle.jv_interp_words.specs.declared.records.MethodRecord.{MethodRecord}
use Rattle.jv_interp_words.specs.declared.records.FrameRecord.{FrameRecord}
use Rattle.jv_interp_words.specs.declared.records.FrameRecord.TheVariants as records
use Rattle.jv_interp_words.specs.ValuesInWords.{AreOnTop}
use Rattle.jv_interp_words.specs.FramesInWords.{in_use, FrameStands, methods_of, MethodStands, AreFrames}
use Rattle.jv_interp_words.specs.Inside.Calls.{Passes}
use Rattle.jv_interp_words.proofs.Gave.{bound_gave, found_gave, tested_gave}
use Rattle.jv_interp_words.proofs.InUse.{length-in_use}
use Rattle.jv_interp_words.proofs.Tops.{rises}
use Rattle.jv_interp_words.proofs.Passed.{passed_count, entered_stands}
use Rattle.jv_interp_control.specs.declared.frames.Frames.{Frames}
use Rattle.jv_interp_control.specs.FramesStand.{FramesStand}
use Rattle.jv_interp_control.proofs.Counted.{top_bound, reversed_push}

-- what is entered is the method, and its code is the method's
pub record IsEntered (d : Declared) (env : Environment) : Type 0 where
  pub site_is : env.site ≡ d
  pub has_code : d.method.code ≡ Some env.code

pub is_entered : (program : Program) (d : Declared) (env : Environment) → entered_method program d ≡ Ok env → IsEntered d env
is_entered program d env e =
    let site =
    bound_gave (tested UnverifiedFault (is_class_accepted program d.by) d)
    (λ (d : Declared). found OffsetFault d.method.code >>= λ code. found OffsetFault (method_type_of d.method.descriptor) >>= λ descriptor.
    found OffsetFault (program.instructions code.code) >>= λ instructions.
    Ok (record { world = program.world; site = d; descriptor = descriptor; code = code; instructions = instructions })) env e in
    let same = (tested_gave UnverifiedFault (is_class_accepted program d.by) d site.0 site.1).1 in
    let code =
    bound_gave (found OffsetFault site.0.method.code)
    (λ (code : CodeSeen). found OffsetFault (method_type_of site.0.method.descriptor) >>= λ descriptor.
    found OffsetFault (program.instructions code.code) >>= λ instructions.
    Ok (record { world = program.world; site = site.0; descriptor = descriptor; code = code; instructions = instructions })) env site.2 in
    let descriptor =
    bound_gave (found OffsetFault (method_type_of site.0.method.descriptor))
    (λ (descriptor : MethodDescriptor). found OffsetFault (program.instructions code.0.code) >>= λ instructions.
    Ok (record { world = program.world; site = site.0; descriptor = descriptor; code = code.0; instructions = instructions })) env code.2 in
    let all =
    bound_gave (found OffsetFault (program.instructions code.0.code))
    (λ (instructions : List Instruction). Ok (record { world = program.world; site = site.0; descriptor = descriptor.0; code = code.0; instructions = instructions }))
    env descriptor.2 in
    let is = same_env (record { world = program.world; site = site.0; descriptor = descriptor.0; code = code.0; instructions = all.0 }) env all.2 in
    record {
      site_is = sym (same ∙ ap (λ (v : Environment). v.site) is);
      has_code =
          ap (λ (d : Declared). d.method.code) same ∙ found_gave OffsetFault site.0.method.code code.0 code.1
          ∙ ap (λ (v : Environment). Some v.code) is;
    }
  where
    same_env : (a b : Environment) → ◌≡◌ {A = OrFault Environment} (Ok a) (Ok b) → a ≡ b
    same_env a b e = cc

-- ---- the frame

pub record Entered (program : Program) (d : Declared) (passed : List Value) (frame : MethodFrame) : Type 0 where
  pub entered : entered_method program d ≡ Ok frame.method
  pub fills : filled frame.method.code.max_locals (flat_map local_words passed) ≡ Ok frame.locals
  pub starts : frame.offset ≡ 0
  pub empty : frame.stack ≡ []

pub frame_entered :
    (program : Program) (d : Declared) (receiver : Option ℕ) (arguments : List Value) (frame : MethodFrame)
    → method_frame program d receiver arguments ≡ Ok frame → Entered program d (passed_values receiver arguments) frame
frame_entered program d receiver arguments frame e =
    let passed = flat_map local_words (passed_values receiver arguments) in
    let method =
    bound_gave (entered_method program d)
    (λ (method : Environment). filled method.code.max_locals passed >>= λ locals. Ok (entered_frame method receiver locals [])) frame e in
    let locals =
    bound_gave (filled method.0.code.max_locals passed) (λ (locals : List Value). Ok (entered_frame method.0 receiver locals [])) frame method.2 in
    let is = same_frame (entered_frame method.0 receiver locals.0 []) frame locals.2 in
    subst (λ (f : MethodFrame). Entered program d (passed_values receiver arguments) f) is
    (record { entered = method.1; fills = locals.1; starts = refl; empty = refl })
  where
    same_frame : (a b : MethodFrame) → ◌≡◌ {A = OrFault MethodFrame} (Ok a) (Ok b) → a ≡ b
    same_frame a b e = cc

pub filled_count : (max_locals : ℕ) (words locals : List Value) → filled max_locals words ≡ Ok locals → length locals ≡ max_locals
filled_count max_locals words locals e =
    let parts = tested_gave LocalFault (nat_le (length words) max_locals) (words ++ replicate (max_locals - length words) Unset) locals e in
    let fits : length words ≤ max_locals = let t = parts.0 in grind (arith, common_steps) in
    let size = ap length parts.1 in
    omega (
      arith,
      size,
      fits,
      length-append words (replicate (max_locals - length words) Unset),
      length-replicate (max_locals - length words) Unset,
    )

-- ---- and where it stands

module _ (program : Program) (addresses : List ℕ) (frames : List Frame) (kept : Frames) (left : ℕ) (h : FramesStand program addresses frames kept left) where
  pub method_entered :
      (d : Declared) (passed : List Value) (frame : MethodFrame) (number count : ℕ) (after : Frames)
      → slice_get (methods_of program.world) number ≡ Some d → Entered program d passed frame
      → AreOnTop addresses (reverse passed) (in_use kept.words.items (kept.top + count)) (in_use kept.words.items kept.top)
      → count ≡ length (flat_map local_words passed) → kept.top + count ≤ length kept.words.items → code_words frame.method.code ≤ left
      → after.words ≡ kept.words
      → after.records.items ≡ kept.records.items ++ records.Runs (record { method = number; pc = 0; base = kept.top }) ∷ []
      → vec_capacity after.records ≡ vec_capacity kept.records → after.top ≡ kept.top + frame.method.code.max_locals
      → after.left + code_words frame.method.code ≡ kept.left
      → FramesStand program addresses (Runs frame ∷ frames) after (left - code_words frame.method.code)
  method_entered d passed frame number count after at e on_top count_is within fits words_are records_are capacity top_is left_is =
      let words = kept.words.items in
      let code = frame.method.code in
      let used = in_use words (kept.top + count) in
      let under = in_use words kept.top in
      let passes : Passes code.max_locals count used addresses frame.locals under =
      record { arguments = passed; on_top = on_top; count_is = count_is; fills = e.fills } in
      let counts = passed_count code.max_locals count used addresses frame.locals under passes in
      let bound = top_bound program addresses frames kept left h in
      let room : kept.top + count + (code.max_locals - count) ≤ length words = let a = h.room in omega (arith, a, bound, fits, counts.0) in
      let risen = rises words used (kept.top + count) (code.max_locals - count) room refl in
      let sums : kept.top + count + (code.max_locals - count) ≡ after.top = omega (arith, top_is, counts.0) in
      let stands : FrameStands addresses frame.locals [] (in_use words after.top) under =
      subst (λ (n : ℕ). FrameStands addresses frame.locals [] (in_use words n) under) sums
      (entered_stands code.max_locals count used addresses frame.locals under risen.front
      (in_use words (kept.top + count + (code.max_locals - count))) passes risen.place risen.size) in
      let record_kept : MethodRecord = record { method = number; pc = 0; base = kept.top } in
      let method : MethodStands program addresses frame record_kept (in_use words after.top) under =
      record {
        declared = d;
        has_number = at;
        entered = e.entered;
        words = subst (λ (stack : List Value). FrameStands addresses frame.locals stack (in_use words after.top) under) (sym e.empty) stands;
        base_is = sym (length-in_use words kept.top h.top_within);
        pc_is = sym e.starts;
        locals_count = filled_count code.max_locals (flat_map local_words passed) frame.locals e.fills;
        stack_fits = subst (λ (stack : List Value). Rattle.jv_meaning_machine.specs.Values.words_of_values stack ≤ code.max_stack) (sym e.empty) (omega arith);
      } in
      let turned : reverse after.records.items ≡ records.Runs record_kept ∷ reverse kept.records.items =
      ap (λ (l : List FrameRecord). reverse l) records_are ∙ reversed_push kept.records.items (records.Runs record_kept) in
      let all : used_words (Runs frame ∷ frames) ≡ code_words code + used_words frames = sum_by-cons frame_words (Runs frame) frames in
      record {
        stand =
            subst (λ (ws : List ℕ). AreFrames program addresses (Runs frame ∷ frames) (reverse after.records.items) (in_use ws after.top))
            (sym (ap (λ v. v.items) words_are))
            (subst (λ (l : List FrameRecord). AreFrames program addresses (Runs frame ∷ frames) l (in_use words after.top)) (sym turned)
            (under, method, h.stand));
        top_within = let size = ap (λ v. length v.items) words_are in let a = h.room in omega (arith, size, a, bound, fits, top_is);
        left_is = let a = h.left_is in omega (arith, a, left_is);
        room = let size = ap (λ v. length v.items) words_are in let a = h.room in omega (arith, size, a, all, fits);
        few = let size = ap (λ v. length v.items) words_are in let a = h.few in omega (arith, size, a);
        records_fit = let size = ap (λ v. length v.items) words_are in let a = h.records_fit in omega (arith, size, a, capacity);
      }
