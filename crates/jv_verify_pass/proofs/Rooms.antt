-- No frame of the map has more words than there are local variables.
use Rattle.std.proofs.Common.{◌≡◌, inl, inr, ℕ, ◌<◌, ◌≤◌, Bool, true, false, List, [], length, get_or, Some, None, refl, ap, subst, ◌∙◌, arith}
use Rattle.std.specs.Prelude.{slice_get}
use Rattle.std.proofs.lemmas.List.{get_or_past, length-map}
use Rattle.std.proofs.lemmas.List.Elements.{All-get_or}
use Rattle.std.proofs.lemmas.Option.{slice_get_cases, slice_get_within}
use Rattle.jv_stackmap.specs.Entries.{ReadFrame}
use Rattle.jv_stackmap.specs.declared.verification.VerificationTypeOf.TheVariants as variants
use Rattle.jv_meaning_world.specs.Flow.{flows}
use Rattle.jv_verify_types.specs.Numbered.{Item, NumberFrame}
use Rattle.jv_verify_types.specs.Typed.{typed_all}
use Rattle.jv_verify_types.specs.Mapped.{expanded_entries, locals_flow_to, world_of_types}
use Rattle.jv_verify_maps.specs.Words.{MapWords, frame_by_words, words_at}
use Rattle.jv_verify_maps.proofs.Laying.{words_counted}
use Rattle.jv_verify_known.specs.Known as known
use Rattle.jv_verify_known.specs.Known.{local_at, word_at}
use Rattle.jv_verify_known.proofs.Words.{local_is, not_at, word_is, words_are}
use Rattle.jv_verify_open.specs.Open.{HaveRoom}
use Rattle.jv_verify_pass.specs.Pass.{Pass, HasRoom, names_in}
use Rattle.jv_verify_pass.specs.Inside.Kept.{IsPass}
use Rattle.jv_verify_pass.specs.Inside.Opening.{IsByWords}

module _ (pass : Pass) (words : MapWords) (by : IsByWords pass words) where
  pub frame_at : (place : ℕ) (f : ReadFrame) → slice_get pass.frames place ≡ Some f → known.IsFrameAt pass.types words place f
  frame_at place f there = record { frames = pass.frames; by_words = by; there = there }

  pub many_frames : length words.frames ≡ length pass.frames
  many_frames = ap (λ (ws : MapWords). length ws.frames) by ∙ length-map pass.frames (frame_by_words pass.types)

  pub room_at : (place : ℕ) (f : ReadFrame) → slice_get pass.frames place ≡ Some f → HasRoom pass.types pass.max_locals f → length (words_at words place) ≤ pass.max_locals
  room_at place f there room =
      let is = ap length (words_are pass.types words place f (frame_at place f there)) in
      let counted = words_counted pass.types f.locals in
      let many = room.words in
      let within = room.room in omega (arith, is, counted, many, within)

  pub have_room : (entries : List Item) (count : ℕ) → IsPass pass entries count → HaveRoom words pass.max_locals
  have_room entries count kept place =
      elim (slice_get_cases pass.frames place).1 [
        | inl at ↦
            let less = at.1 in
            room_at place at.0 at.2
            (subst (HasRoom pass.types pass.max_locals) at.3 (All-get_or (HasRoom pass.types pass.max_locals) pass.frames place at.0 less kept.frames))
        | inr past ↦
            let behind = past.0 in
            let none = ap length (get_or_past words.frames place [] (omega (arith, behind, many_frames))) in omega (arith, none)
      ]

  pub place_within : (place : ℕ) (f : ReadFrame) → slice_get pass.frames place ≡ Some f → place < length words.frames
  place_within place f there = let within = slice_get_within pass.frames place f there in omega (arith, within, many_frames)

  pub locals_each : (place : ℕ) (m : ReadFrame) → slice_get pass.frames place ≡ Some m → (f : NumberFrame) → true ≡ locals_flow_to pass.types f None m → (k : ℕ)
      → flows (world_of_types pass.types) (local_at pass.types f.locals k) (word_at pass.types words place k) ≡ true
  locals_each place m there f all k =
      by_test (flows (world_of_types pass.types) (local_at pass.types f.locals k) (word_at pass.types words place k)) refl
    where
      clash : true ≡ false → ⊥
      clash e = cc

      by_test : (b : Bool) → flows (world_of_types pass.types) (local_at pass.types f.locals k) (word_at pass.types words place k) ≡ b → b ≡ true
      by_test true e = refl
      by_test false e =
          absurd (clash (all ∙ not_at (world_of_types pass.types) (typed_all (names_in pass) f.locals) (expanded_entries pass.types (length f.locals) m.locals) k
          (ap (λ t. flows (world_of_types pass.types) t (get_or (expanded_entries pass.types (length f.locals) m.locals) k variants.Top)) (local_is pass.types f.locals k)
          ∙ (ap (flows (world_of_types pass.types) (local_at pass.types f.locals k)) (word_is pass.types words place m (frame_at place m there) (length f.locals) k) ∙ e))))
