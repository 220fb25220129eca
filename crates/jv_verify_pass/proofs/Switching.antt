-- Targets of switches.
use Rattle.std.proofs.Common.{◌≡◌, ℕ, ℤ, Bool, true, List, map, sym, ap, ◌∙◌}
use Rattle.std.specs.Prelude.{◌&&◌}
use Rattle.std.specs.List.{list_all}
use Rattle.std.proofs.lemmas.List.Folds.{list_all-map}
use Rattle.jv_stackmap.specs.Frames.{Frame, PlacedFrame}
use Rattle.jv_code.specs.Switches.{pair_distance}
use Rattle.jv_code.specs.Targets.{target_of}
use Rattle.jv_meaning_typing.specs.Environment.{Environment}
use Rattle.jv_meaning_typing.specs.Typing.{target_holds}
use Rattle.jv_verify_pass.specs.Inside.Walk.{distance_holds, pair_holds}

module _ (env : Environment) (maps : List PlacedFrame) (left : Frame) (pc : ℕ) where
  pub distances : (default : ℤ) (ds : List ℤ) (a b : Bool) → a ≡ distance_holds env maps left pc default → a ≡ true
      → b ≡ list_all (distance_holds env maps left pc) ds
      → b ≡ (distance_holds env maps left pc default && list_all (target_holds env maps left) (map (target_of pc) ds))
  distances default ds a b e t h =
      h ∙ (sym (list_all-map (target_holds env maps left) (target_of pc) ds)
      ∙ ap (λ (c : Bool). c && list_all (target_holds env maps left) (map (target_of pc) ds)) (sym t ∙ e))

  pub pairs : (default : ℤ) (ps : List (ℤ × ℤ)) (a b : Bool) → a ≡ distance_holds env maps left pc default → a ≡ true
      → b ≡ list_all (pair_holds env maps left pc) ps
      → b ≡ (distance_holds env maps left pc default && list_all (target_holds env maps left) (map (target_of pc) (map pair_distance ps)))
  pairs default ps a b e t h =
      h ∙ (sym (list_all-map (λ (z : ℤ). target_holds env maps left (target_of pc z)) pair_distance ps)
      ∙ (sym (list_all-map (target_holds env maps left) (target_of pc) (map pair_distance ps))
      ∙ ap (λ (c : Bool). c && list_all (target_holds env maps left) (map (target_of pc) (map pair_distance ps))) (sym t ∙ e)))
