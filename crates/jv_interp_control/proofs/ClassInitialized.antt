-- A class is initialized, and its initialization's words are given back (JVMS 5.5, step 10).
use Rattle.std.proofs.Common.{◌≡◌, ℕ, ◌+◌, ◌<◌, List, [], ◌∷◌, Some, suc, zero, length, slice_get, slice_index_or, slice_set, sym, ap, subst, arith}
use Rattle.std.proofs.lemmas.Option.{slice_get_within}
use Rattle.jv_meaning_world.specs.World.{Loaded, World}
use Rattle.jv_meaning_machine.specs.Frames.{Frame}
use Rattle.jv_meaning_machine.specs.State.{Program, Control as ControlOfNames}
use Rattle.jv_meaning_machine.specs.State.ClassState.{Initialized}
use Rattle.jv_meaning_machine.specs.Initialization.{finished}
use Rattle.jv_interp_held.specs.ClassStates.{AreClassStates}
use Rattle.jv_interp_control.specs.declared.frames.Frames.{Frames}
use Rattle.jv_interp_control.specs.declared.control.Control.{Control}
use Rattle.jv_interp_control.specs.ControlStands.{ControlStands}
use Rattle.jv_interp_control.specs.Inside.Finishing.{Marking, Marked}

-- what was at a place is put back
pub set_back :
    {A : Type 0} (xs : List A) (n : ℕ) (new old : A) → slice_get xs n ≡ Some old → slice_set (slice_set xs n new) n old ≡ xs
set_back [] n new old e = absurd cc
set_back (x ∷ xs) zero new old e = cc
set_back {A = A} (x ∷ xs) (suc n) new old e = ap (λ (l : List A). x ∷ l) (set_back xs n new old e)

pub set_same : {A : Type 0} (xs : List A) (n : ℕ) (old : A) → slice_get xs n ≡ Some old → slice_set xs n old ≡ xs
set_same [] n old e = absurd cc
set_same (x ∷ xs) zero old e = cc
set_same {A = A} (x ∷ xs) (suc n) old e = ap (λ (l : List A). x ∷ l) (set_same xs n old e)

-- what is there where a default is never taken
pub there_of : {A : Type 0} (xs : List A) (n : ℕ) (a d : A) → n < length xs → a ≡ slice_index_or xs n d → slice_get xs n ≡ Some a
there_of [] n a d within e = absurd (omega (arith, within))
there_of (x ∷ xs) zero a d within e = ap Some (sym e)
there_of (x ∷ xs) (suc n) a d within e = there_of xs n a d (omega (arith, within)) e

module _ (world : World) (class : ℕ) (frames : Frames) (kept : Control) (program : Program) (addresses : List ℕ) (all : List Frame) (control : ControlOfNames) (l : Loaded)
    (h : Marking world class frames kept program addresses all control l) where
  pub class_within : class < length kept.states.items
  class_within = slice_get_within kept.states.items class _ (h.control_stands.states class l h.class_is)

  pub marked :
      (after : Frames) (kept_after : Control) → after ≡ record frames { left = frames.left + 4 } → kept_after ≡ record kept { states = kept_after.states }
      → AreClassStates program.world ((l.class.name, Initialized) ∷ control.states) kept_after.states.items
      → Marked program addresses all control l after kept_after
  marked after kept_after same same_control states =
      let left_is = ap (λ (f : Frames). f.left) same in
      subst (λ (f : Frames). Marked program addresses all control l f kept_after) (sym same)
      (record {
        stand = record {
          stand = h.stand.stand;
          top_within = h.stand.top_within;
          left_is = ap (λ (n : ℕ). n + 4) h.stand.left_is;
          room = let a = h.room in omega (arith, a);
          few = h.stand.few;
          records_fit = h.stand.records_fit;
        };
        control_stands = subst (λ (k : Control). ControlStands program.world (finished l control) k) (sym same_control)
            (record {
              states = states;
              throws = h.control_stands.throws;
              last = h.control_stands.last;
              place = h.control_stands.place;
              main = h.control_stands.main;
              end = h.control_stands.end;
            });
      })
