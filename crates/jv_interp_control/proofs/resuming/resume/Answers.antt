use Rattle.std.proofs.Common.{ap, ◌++◌, ◌∷◌, [], ◌≡◌, refl, ◌∙◌}
use Rattle.jv_class_structure.specs.Parts.{CodeSeen}
use Rattle.jv_interp_words.specs.declared.records.FrameRecord.{FrameRecord}
use Rattle.jv_interp_words.specs.declared.records.FrameRecord.TheVariants as records
use Rattle.jv_interp_control.proofs.Resumes.{newest, code_now, resumed}
use Rattle.jv_interp_control.proofs.resuming.resume.Goals as goal

pub code_of-requires : goal.code_of-requires
code_of-requires c =
    let w = c.requires in
    let own = c.in-Some-Runs.own in
    let rest = c.pop.new.self.items in
    let there : c.args.frames.now.records.items ≡ rest ++ records.Runs own ∷ [] =
    c.in-Some-Runs.ensures.items ∙ ap (λ (r : FrameRecord). rest ++ r ∷ []) c.in-Some-Runs.field-0-is in
    record {
      program = w.program;
      d = _;
      code = _;
      is = code_now c.args.methods.now c.args.frames.now w.program w.addresses w.all w.left w.resuming rest own there;
    }

pub returns-in-Some-Runs-clause-resumes : goal.returns-in-Some-Runs-clause-resumes
returns-in-Some-Runs-clause-resumes c = λ program addresses all left h.
    let own = c.in-Some-Runs.own in
    let rest = c.pop.new.self.items in
    let frames = c.args.frames.now in
    let there : frames.records.items ≡ rest ++ records.Runs own ∷ [] =
    c.in-Some-Runs.ensures.items ∙ ap (λ (r : FrameRecord). rest ++ r ∷ []) c.in-Some-Runs.field-0-is in
    let n = newest c.args.methods.now frames program addresses all left h rest own there in
    let code = c.code_of.ensures program _ _ (code_now c.args.methods.now frames program addresses all left h rest own there) in
    resumed c.args.methods.now frames program addresses all left h rest own there _ (record frames { records = c.pop.new.self }) refl refl
    (ap (λ (x : CodeSeen). x.code) code) refl refl c.in-Some-Runs.ensures.capacity

pub returns-in-Some-Runs-clause-taken_out : goal.returns-in-Some-Runs-clause-taken_out
returns-in-Some-Runs-clause-taken_out c = record {
  record_is = c.in-Some-Runs.ensures.items ∙ ap (λ (r : FrameRecord). c.pop.new.self.items ++ r ∷ []) c.in-Some-Runs.field-0-is;
  capacity = c.in-Some-Runs.ensures.capacity;
  top_is = refl;
  others = refl;
}
