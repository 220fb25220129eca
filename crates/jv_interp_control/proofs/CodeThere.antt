-- The code of a method that stands in a frame.
use Rattle.std.proofs.Common.{◌≡◌, ℕ, List, subst, sym}
use Rattle.jv_meaning_world.specs.World.{World}
use Rattle.jv_meaning_machine.specs.Frames.{MethodFrame}
use Rattle.jv_meaning_machine.specs.State.{Program}
use Rattle.jv_interp_words.specs.declared.records.MethodRecord.{MethodRecord}
use Rattle.jv_interp_words.specs.FramesInWords.{MethodStands}
use Rattle.jv_interp_members.specs.declared.methods.Methods.{Methods}
use Rattle.jv_interp_members.specs.Methods.{AreMethods}
use Rattle.jv_interp_control.specs.Inside.Codes.{IsCodeOf, CanFind}
use Rattle.jv_interp_control.proofs.Entered.{is_entered}

module _ (program : Program) (addresses : List ℕ) (frame : MethodFrame) (r : MethodRecord) (used below : List ℕ) (methods : Methods) (world : World)
    (world_is : program.world ≡ world) (are : AreMethods world methods) (h : MethodStands program addresses frame r used below) where
  pub code_there : IsCodeOf methods r.method program h.declared frame.method.code
  code_there = record {
    are = subst (λ (w : World). AreMethods w methods) (sym world_is) are;
    at = h.has_number;
    has_code = (is_entered program h.declared frame.method h.entered).has_code;
  }

  pub can_find : CanFind methods r.method
  can_find = record { program = program; d = h.declared; code = frame.method.code; is = code_there }
