-- Frames of the map that have, below some of their local entries, those of one before.
use Rattle.std.proofs.Common.{◌≡◌, ℕ, zero, suc, ◌<◌, Bool, true, false, ◌&&◌, List, [], ◌∷◌, take, drop, Option, Some, None, refl, sym, ap, ◌∙◌, arith, is_some}
use Rattle.std.specs.Prelude.{slice_get}
use Rattle.std.specs.List.{list_all}
use Rattle.std.specs.Option.{option_map}
use Rattle.std.proofs.lemmas.List.{take-append-drop}
use Rattle.std.proofs.lemmas.List.Folds.{list_all-append}
use Rattle.jv_stackmap.specs.declared.entry.FrameEntry.{FrameEntry}
use Rattle.jv_stackmap.specs.Entries.{ReadFrame}
use Rattle.jv_meaning_typing.specs.Environment.{Environment, instruction_at}
use Rattle.jv_verify_pass.specs.Inside.Parts.{SharesBelowBefore, is_made_by_new, frame_stands}
use Rattle.jv_verify_pass.proofs.Tests.{both}

-- each of those before a place passes
passes_before : {X : Type 0} (p : X → Bool) (xs : List X) (n k : ℕ) (x : X) → list_all p (take n xs) ≡ true → k < n → slice_get xs k ≡ Some x → p x ≡ true
passes_before p [] n zero x all lt at = absurd cc
passes_before p [] n (suc k) x all lt at = absurd cc
passes_before p (y ∷ xs) zero k x all lt at = absurd (omega (arith, lt))
passes_before p (y ∷ xs) (suc n) zero x all lt at =
    let same : y ≡ x = cc in
    ap p (sym same) ∙ (both (p y) (list_all p (take n xs)) all).0
passes_before p (y ∷ xs) (suc n) (suc k) x all lt at = passes_before p xs n k x (both (p y) (list_all p (take n xs)) all).1 (omega (arith, lt)) at

pub one_there : {X : Type 0} (xs : List X) (k : ℕ) (x y : X) → slice_get xs k ≡ Some x → slice_get xs k ≡ Some y → x ≡ y
one_there xs k x y e f = of_some (sym e ∙ f)
  where
    of_some : Some x ≡ Some y → x ≡ y
    of_some e = cc

-- entries of which the last were made, where those below are below some of a frame before it
pub made_below : (env : Environment) (frames : List ReadFrame) (place count : ℕ) (f : ReadFrame) → list_all (frame_stands env) (take place frames) ≡ true
    → SharesBelowBefore frames place count → slice_get frames place ≡ Some f
    → list_all (is_made_by_new env) (take count f.locals) ≡ list_all (is_made_by_new env) f.locals
made_below env frames place count f before shares at = by_frame (slice_get frames shares.0) refl
  where
    p : FrameEntry → Bool
    p = is_made_by_new env

    of_some : (a b : List FrameEntry) → Some a ≡ Some b → a ≡ b
    of_some a b e = cc

    some_none : (a : List FrameEntry) → Some a ≡ None → ⊥
    some_none a e = cc

    there : Some (drop count f.locals) ≡ option_map (λ (g : ReadFrame). drop shares.1 g.locals) (slice_get frames shares.0)
    there = sym (ap (option_map (λ (g : ReadFrame). drop count g.locals)) at) ∙ shares.3

    with_true : (b c : Bool) → c ≡ true → b ≡ (b && c)
    with_true true true e = refl
    with_true false true e = refl
    with_true true false e = absurd cc
    with_true false false e = refl

    halves : (n : ℕ) (xs : List FrameEntry) → list_all p xs ≡ (list_all p (take n xs) && list_all p (drop n xs))
    halves n xs = ap (list_all p) (sym (take-append-drop n xs)) ∙ list_all-append p (take n xs) (drop n xs)

    by_frame : (o : Option ReadFrame) → slice_get frames shares.0 ≡ o → list_all p (take count f.locals) ≡ list_all p f.locals
    by_frame None e = absurd (some_none (drop count f.locals) (there ∙ ap (option_map (λ (g : ReadFrame). drop shares.1 g.locals)) e))
    by_frame (Some g) e =
        let stands : frame_stands env g ≡ true = passes_before (frame_stands env) frames place shares.0 g before shares.2 e in
        let parts = both (is_some (instruction_at env g.offset)) (list_all p g.locals && list_all p g.stack) stands in
        let made = (both (list_all p g.locals) (list_all p g.stack) parts.1).0 in
        let below : list_all p (drop shares.1 g.locals) ≡ true =
        (both (list_all p (take shares.1 g.locals)) (list_all p (drop shares.1 g.locals)) (sym (halves shares.1 g.locals) ∙ made)).1 in
        let same : drop count f.locals ≡ drop shares.1 g.locals = of_some _ _ (there ∙ ap (option_map (λ (h : ReadFrame). drop shares.1 h.locals)) e) in
        with_true (list_all p (take count f.locals)) (list_all p (drop count f.locals)) (ap (list_all p) same ∙ below) ∙ sym (halves count f.locals)
