-- A walk down the wants and the stack.
use Rattle.std.proofs.Common.{◌≡◌, ◌≤◌, ◌<◌, get_or, true, false, List, [], ◌∷◌, Option, Some, None, ℕ, zero, suc, ◌+◌, length, drop, refl, sym, ap, subst, ◌∙◌, arith}
use Rattle.std.specs.Prelude.{map, slice_get}
use Rattle.std.specs.Borrow.{Bor}
use Rattle.std.specs.Option.{option_map}
use Rattle.std.proofs.lemmas.Option.{slice_get-get_or, slice_get-map}
use Rattle.std.proofs.Math.Seq.{drop-nil}
use Rattle.std.proofs.lemmas.List.{drop_all}
use Rattle.jv_stackmap.specs.Types.{FrameType}
use Rattle.jv_meaning_world.specs.World.{World}
use Rattle.jv_operands.specs.declared.unmet.Place.TheVariants.{Item}
use Rattle.jv_operands.specs.declared.want.Want.{Want}
use Rattle.jv_operands.specs.Seen.{seen_want}
use Rattle.jv_operands.specs.Unmet.{first_unmet_item, is_met, unmet}
use Rattle.jv_operands.specs.Wants.{FrameWant}
use Rattle.jv_operands.specs.Inside.Met.{is_met_by}

module _ (world : World) where
  stepped_from : (depth : ℕ) (wanted : List FrameWant) (stack : List FrameType) (k : ℕ) (want : FrameWant) → slice_get wanted k ≡ Some want
      → is_met_by world want (slice_get stack k) ≡ true
      → first_unmet_item world depth (drop k wanted) (drop k stack) ≡ first_unmet_item world (suc depth) (drop (suc k) wanted) (drop (suc k) stack)
  stepped_from depth [] stack zero want at e = absurd cc
  stepped_from depth [] stack (suc k) want at e = absurd cc
  stepped_from depth (w ∷ ws) [] zero want at e = absurd cc
  stepped_from depth (w ∷ ws) [] (suc k) want at e = absurd cc
  stepped_from depth (w ∷ ws) (s ∷ ss) zero want at e =
      let same : w ≡ want = cc in
      let met : is_met world w s ≡ true = subst (λ (x : FrameWant). is_met world x s ≡ true) (sym same) e in
      rw met refl
  stepped_from depth (w ∷ ws) (s ∷ ss) (suc k) want at e = stepped_from depth ws ss k want at e

  stopped_from : (depth : ℕ) (wanted : List FrameWant) (stack : List FrameType) (k : ℕ) (want : FrameWant) → slice_get wanted k ≡ Some want
      → is_met_by world want (slice_get stack k) ≡ false
      → first_unmet_item world depth (drop k wanted) (drop k stack) ≡ Some (unmet (Item depth) want (slice_get stack k))
  stopped_from depth [] stack zero want at e = absurd cc
  stopped_from depth [] stack (suc k) want at e = absurd cc
  stopped_from depth (w ∷ ws) [] zero want at e =
      let same : w ≡ want = cc in
      ap (λ (x : FrameWant). Some (unmet (Item depth) x None)) same
  stopped_from depth (w ∷ ws) [] (suc k) want at e =
      subst (λ (s : List FrameType). first_unmet_item world depth (drop k ws) s ≡ Some (unmet (Item depth) want None)) (drop-nil k)
      (past depth ws k want at)
    where
      past : (depth : ℕ) (wanted : List FrameWant) (k : ℕ) (want : FrameWant) → slice_get wanted k ≡ Some want
          → first_unmet_item world depth (drop k wanted) (drop k []) ≡ Some (unmet (Item depth) want None)
      past depth [] zero want at = absurd cc
      past depth [] (suc k) want at = absurd cc
      past depth (w ∷ ws) zero want at =
          let same : w ≡ want = cc in
          ap (λ (x : FrameWant). Some (unmet (Item depth) x None)) same
      past depth (w ∷ ws) (suc k) want at =
          subst (λ (s : List FrameType). first_unmet_item world depth (drop k ws) s ≡ Some (unmet (Item depth) want None)) (drop-nil k) (past depth ws k want at)
  stopped_from depth (w ∷ ws) (s ∷ ss) zero want at e =
      let same : w ≡ want = cc in
      let missed : is_met world w s ≡ false = subst (λ (x : FrameWant). is_met world x s ≡ false) (sym same) e in
      rw missed (ap (λ (x : FrameWant). Some (unmet (Item depth) x (Some s))) same)
  stopped_from depth (w ∷ ws) (s ∷ ss) (suc k) want at e = stopped_from depth ws ss k want at e

  pub stepped : (wanted : List FrameWant) (stack : List FrameType) (k : ℕ) (want : FrameWant) (found : Option FrameType) → slice_get wanted k ≡ Some want
      → found ≡ slice_get stack k → is_met_by world want found ≡ true
      → first_unmet_item world k (drop k wanted) (drop k stack) ≡ first_unmet_item world (k + 1) (drop (k + 1) wanted) (drop (k + 1) stack)
  stepped wanted stack k want found at is met =
      let more : suc k ≡ k + 1 = omega arith in
      subst (λ (n : ℕ). first_unmet_item world k (drop k wanted) (drop k stack) ≡ first_unmet_item world n (drop n wanted) (drop n stack)) more
      (stepped_from k wanted stack k want at (subst (λ (o : Option FrameType). is_met_by world want o ≡ true) is met))

  pub stopped : (wanted : List FrameWant) (stack : List FrameType) (k : ℕ) (want : FrameWant) (found : Option FrameType) → slice_get wanted k ≡ Some want
      → found ≡ slice_get stack k → is_met_by world want found ≡ false
      → Some (unmet (Item k) want found) ≡ first_unmet_item world k (drop k wanted) (drop k stack)
  stopped wanted stack k want found at is missed =
      ap (λ (o : Option FrameType). Some (unmet (Item k) want o)) is
      ∙ sym (stopped_from k wanted stack k want at (subst (λ (o : Option FrameType). is_met_by world want o ≡ false) is missed))

  pub ended : (wanted : List FrameWant) (stack : List FrameType) (k : ℕ) → length wanted ≤ k → None ≡ first_unmet_item world k (drop k wanted) (drop k stack)
  ended wanted stack k past = subst (λ (ws : List FrameWant). None ≡ first_unmet_item world k ws (drop k stack)) (sym (drop_all k wanted past)) refl

pub wanted_at : (wanted : List (Want (Bor (List ℕ)))) (k : ℕ) (other : Want (Bor (List ℕ))) → k < length wanted
    → slice_get (map seen_want wanted) k ≡ Some (seen_want (get_or wanted k other))
wanted_at wanted k other less = slice_get-map seen_want wanted k ∙ ap (option_map seen_want) (slice_get-get_or wanted k other less)
