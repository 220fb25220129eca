-- A guest that took steps stands for the state after them.
use Rattle.std.proofs.Common.{◌≡◌, ℕ, ◌+◌, ◌≤◌, List, [], ◌∷◌, ◌++◌, reverse, refl, sym, ap, subst, ◌∙◌, arith}
use Rattle.jv_meaning_machine.specs.Frames.{Frame}
use Rattle.jv_meaning_machine.specs.Frames.Frame.{Runs, Initializes}
use Rattle.jv_meaning_machine.specs.Start.{Budget}
use Rattle.jv_meaning_machine.specs.Alone.{GuestFiles, Feed}
use Rattle.jv_meaning_machine.specs.Laws.Feeds.{NothingComes}
use Rattle.jv_meaning_machine.specs.Laws.Runs.{AloneStepsOn}
use Rattle.jv_meaning_machine.specs.Laws.Ends.{EndFitsAlone}
use Rattle.jv_link_cache.specs.Linked.{IsLinked}
use Rattle.jv_interp_words.specs.declared.records.FrameRecord.{FrameRecord}
use Rattle.jv_interp_words.specs.FramesInWords.{in_use, AreFrames}
use Rattle.jv_interp_heap.specs.ObjectsInBlocks.{Blocks}
use Rattle.jv_interp_steps.specs.Running.{Ran}
use Rattle.jv_interp_steps.proofs.Runs.{after_them}
use Rattle.jv_interp.specs.declared.guest.Guest.{Guest}
use Rattle.jv_interp.specs.Standing.{kept_of, GuestStands, Went}
use Rattle.jv_interp.specs.Showing.{HasEnded}

nothing_later : (n k : ℕ) (feeds : List Feed) → ((more : ℕ) → NothingComes n more feeds) → (more : ℕ) → NothingComes (n + k) more feeds
nothing_later n k feeds came more j above below =
    came (k + more) j (omega (arith, above)) (omega (arith, below))

pub went :
    AloneStepsOn → (g : GuestFiles) (b : Budget) (feeds : List Feed) (n k : ℕ) (addresses : List ℕ) (before after : Guest) (blocks blocks_after : Blocks)
    (h : GuestStands g b feeds n addresses before blocks)
    → Ran k h.judged.program before.texts.names h.state addresses (kept_of before blocks) (kept_of after blocks_after)
    → after ≡ record before { linked = after.linked; frames = after.frames; control = after.control; held = after.held; steps = after.steps }
    → IsLinked before.judged.world after.linked → after.steps ≡ before.steps + k → after.held.cells ≤ before.held.cells
    → Went k g b feeds n addresses before after blocks blocks_after
went on g b feeds n k addresses before after blocks blocks_after h r same linked steps fewer =
    record {
      more = r.reaches.more;
      stands = record {
        judged = h.judged;
        right = h.right;
        library_stands = h.library_stands;
        world_is = h.world_is ∙ sym (ap (λ (x : Guest). x.judged.world) same);
        verdicts_are = h.verdicts_are ∙ sym (ap (λ (x : Guest). x.judged.verdicts) same);
        verified_are =
            subst (λ v. Rattle.jv_interp_control.specs.Moves.AreVerified h.judged.program v) (sym (ap (λ (x : Guest). x.verified.items) same)) h.verified_are;
        tables = record {
          linked = subst (λ w. IsLinked w after.linked) (sym (ap (λ (x : Guest). x.judged.world) same)) linked;
          methods =
              subst (λ (x : Guest). Rattle.jv_interp_members.specs.Methods.AreMethods x.judged.world x.methods) (sym same) h.tables.methods;
          texts = subst (λ (x : Guest). Rattle.jv_interp_objects.specs.Texts.AreTexts x.judged.world x.texts) (sym same) h.tables.texts;
          few = subst (λ (x : Guest). Rattle.std.specs.Prelude.length x.judged.world ≤ 2083) (sym same) h.tables.few;
        };
        came = nothing_later n k feeds h.came;
        state = r.t;
        ran = on h.judged g b feeds n k h.state h.ran (h.came k) ∙ after_them h.judged.program k h.state r.t r.does;
        stands =
            subst (λ names. Rattle.jv_interp_control.specs.Standing.StateStands h.judged.program names r.t (addresses ++ r.reaches.more) (kept_of after blocks_after))
            (sym (ap (λ (x : Guest). x.texts.names) same)) r.reaches.stands;
        steps_are = let first = h.steps_are in omega (arith, steps, first);
        few_cells = let first = h.few_cells in omega (arith, first, fewer);
      };
      grows = r.reaches.grows;
    }

-- where no frame is left the guest has ended
pub ended_there :
    EndFitsAlone → (guest : Guest) (blocks : Blocks) → guest.frames.records.items ≡ [] → HasEnded guest blocks
ended_there fits guest blocks none g b feeds n addresses h =
    (fits h.judged g b feeds n h.state h.right h.ran).0
    (no_frames h.state.frames (in_use guest.frames.words.items guest.frames.top)
    (subst (λ (rs : List FrameRecord). AreFrames h.judged.program addresses h.state.frames (reverse rs) (in_use guest.frames.words.items guest.frames.top)) none
    h.stands.frames.stand))
  where
    no_frames : (fs : List Frame) (used : List ℕ) → AreFrames h.judged.program addresses fs [] used → fs ≡ []
    no_frames [] used a = refl
    no_frames (Runs f ∷ fs) used a = absurd a
    no_frames (Initializes f ∷ fs) used a = absurd a
