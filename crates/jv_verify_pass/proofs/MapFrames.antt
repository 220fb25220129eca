-- Frames of the stack map at their offsets.
use Rattle.std.proofs.Common.{◌≡◌, ℕ, zero, suc, ◌+◌, ◌<◌, ◌≤◌, Bool, true, false, List, [], ◌∷◌, length, Option, Some, None, refl, sym, ap, subst, ◌∙◌, arith}
use Rattle.std.specs.Prelude.{slice_get, get_or, ◌==◌, ◌≢◌, if◌then◌else◌}
use Rattle.std.specs.List.{All, find}
use Rattle.std.specs.Option.{option_map}
use Rattle.std.proofs.lemmas.Bool.Decides.{Decides-eqb}
use Rattle.std.proofs.lemmas.Option.{slice_get_within, slice_get-get_or}
use Rattle.jv_pool.specs.Constants.{Entry}
use Rattle.jv_stackmap.specs.Types.{FrameType}
use Rattle.jv_stackmap.specs.Frames.{PlacedFrame, RiseFrom, OffsetsRise}
use Rattle.jv_stackmap.specs.Entries.{ReadFrame, frame_placed, frames_placed}
use Rattle.jv_verify_types.specs.Mapped.{frame_by_types, initial_types}
use Rattle.jv_verify_pass.specs.Pass.{Pass, IsOfPass, maps_of}
use Rattle.jv_verify_pass.specs.Inside.Walk.{AreBare}
use Rattle.jv_meaning_typing.specs.Environment.{Environment, current_class}
use Rattle.jv_meaning_typing.specs.Typing.{HasFrames, frame_at, limits_of, entries_before}

-- the offsets of a map's frames rise
pub rises : OffsetsRise → (env : Environment) (frames : List PlacedFrame) → HasFrames env env.code.stack_map_table frames → RiseFrom 0 frames
rises law env frames h = by_table env.code.stack_map_table h
  where
    by_table : (o : Option (List ℕ)) → HasFrames env o frames → RiseFrom 0 frames
    by_table None e = subst (λ (fs : List PlacedFrame). RiseFrom 0 fs) (sym e) tt
    by_table (Some bytes) m = law (current_class env).constant_pool (limits_of env) (entries_before env) bytes frames m

module _ (pool : List Entry) (initial : List FrameType) (max_locals : ℕ) where
  abbrev placed_all : List ReadFrame → List PlacedFrame
  placed_all frames = frames_placed pool initial max_locals frames

  above : (base place : ℕ) (frames : List ReadFrame) (f : ReadFrame) → RiseFrom base (placed_all frames) → slice_get frames place ≡ Some f → base ≤ f.offset
  above base place [] f r e = absurd cc
  above base zero (g ∷ more) f r e = subst (λ (h : ReadFrame). base ≤ h.offset) (unsome g f e) r.0
    where
      unsome : (x y : ReadFrame) → Some x ≡ Some y → x ≡ y
      unsome x y h = cc
  above base (suc n) (g ∷ more) f r e = omega (arith, r.0, above (g.offset + 1) n more f r.1 e)

  chosen : (b : Bool) (x : PlacedFrame) (o : Option PlacedFrame) → b ≡ true → option_map (λ (p : PlacedFrame). p.frame) (if b then Some x else o) ≡ Some x.frame
  chosen true x o e = refl
  chosen false x o e = absurd cc

  passed : (b : Bool) (x : PlacedFrame) (o : Option PlacedFrame) → (b ≡ true → ⊥) → option_map (λ (p : PlacedFrame). p.frame) (if b then Some x else o) ≡ option_map (λ (p : PlacedFrame). p.frame) o
  passed true x o n = absurd (n refl)
  passed false x o n = refl

  pub found : (base place offset : ℕ) (frames : List ReadFrame) (f : ReadFrame) → RiseFrom base (placed_all frames) → slice_get frames place ≡ Some f → f.offset ≡ offset
      → frame_at (placed_all frames) offset ≡ Some (frame_placed pool initial max_locals f).frame
  found base place offset [] f r e o = absurd cc
  found base zero offset (g ∷ more) f r e o =
      let same : g ≡ f = unsome g f e in
      chosen (g.offset == offset) (frame_placed pool initial max_locals g) (find (λ (p : PlacedFrame). p.offset == offset) (placed_all more))
      ((Decides-eqb g.offset offset).1 (ap (λ (h : ReadFrame). h.offset) same ∙ o))
      ∙ ap (λ (h : ReadFrame). Some (frame_placed pool initial max_locals h).frame) same
    where
      unsome : (x y : ReadFrame) → Some x ≡ Some y → x ≡ y
      unsome x y h = cc
  found base (suc n) offset (g ∷ more) f r e o =
      passed (g.offset == offset) (frame_placed pool initial max_locals g) (find (λ (p : PlacedFrame). p.offset == offset) (placed_all more))
      (λ h. omega (arith, above (g.offset + 1) n more f r.1 e, o, (Decides-eqb g.offset offset).0 h))
      ∙ found (g.offset + 1) n offset more f r.1 e o

  pub none : (offset : ℕ) (frames : List ReadFrame) → All (λ (f : ReadFrame). f.offset ≢ offset) frames → frame_at (placed_all frames) offset ≡ None
  none offset [] h = refl
  none offset (g ∷ more) h =
      passed (g.offset == offset) (frame_placed pool initial max_locals g) (find (λ (p : PlacedFrame). p.offset == offset) (placed_all more))
      (λ e. h 0 g (omega arith) ((Decides-eqb g.offset offset).0 e))
      ∙ none offset more (λ (k : ℕ) (d : ReadFrame) (lt : k < length more). h (suc k) d (omega (arith, lt)))

  -- below all frames, and between two
  below : (base offset : ℕ) (frames : List ReadFrame) → RiseFrom base (placed_all frames) → offset < base → frame_at (placed_all frames) offset ≡ None
  below base offset [] r lt = refl
  below base offset (g ∷ more) r lt =
      passed (g.offset == offset) (frame_placed pool initial max_locals g) (find (λ (p : PlacedFrame). p.offset == offset) (placed_all more))
      (λ e. omega (arith, r.0, lt, (Decides-eqb g.offset offset).0 e))
      ∙ below (g.offset + 1) offset more r.1 (omega (arith, r.0, lt))

  pub before_first : (base offset : ℕ) (frames : List ReadFrame) → RiseFrom base (placed_all frames)
      → ((g : ReadFrame) → slice_get frames 0 ≡ Some g → offset < g.offset) → frame_at (placed_all frames) offset ≡ None
  before_first base offset [] r first = refl
  before_first base offset (g ∷ more) r first = below g.offset offset (g ∷ more) (omega arith, r.1) (first g refl)

  pub between : (base place from offset : ℕ) (frames : List ReadFrame) → RiseFrom base (placed_all frames)
      → option_map (λ (g : ReadFrame). g.offset) (slice_get frames place) ≡ Some from
      → ((g : ReadFrame) → slice_get frames (suc place) ≡ Some g → offset < g.offset) → from < offset → frame_at (placed_all frames) offset ≡ None
  between base place from offset [] r at next low = absurd cc
  between base zero from offset (g ∷ more) r at next low =
      let same : g.offset ≡ from = cc in
      passed (g.offset == offset) (frame_placed pool initial max_locals g) (find (λ (p : PlacedFrame). p.offset == offset) (placed_all more))
      (λ e. omega (arith, same, low, (Decides-eqb g.offset offset).0 e))
      ∙ before_first (g.offset + 1) offset more r.1 next
  between base (suc n) from offset (g ∷ more) r at next low =
      passed (g.offset == offset) (frame_placed pool initial max_locals g) (find (λ (p : PlacedFrame). p.offset == offset) (placed_all more))
      (λ e. omega (arith, under (slice_get more n) refl at, low, (Decides-eqb g.offset offset).0 e))
      ∙ between (g.offset + 1) n from offset more r.1 at next low
    where
      under : (o : Option ReadFrame) → slice_get more n ≡ o → option_map (λ (h : ReadFrame). h.offset) o ≡ Some from → g.offset < from
      under None e h = absurd cc
      under (Some f) e h =
          let same : f.offset ≡ from = cc in
          omega (arith, same, above (g.offset + 1) n more f r.1 e)

-- ---- in a pass

pub none_at : (pass : Pass) (frames : List ReadFrame) (offset : ℕ) → pass.frames ≡ frames → All (λ (f : ReadFrame). f.offset ≢ offset) frames
    → frame_at (maps_of pass) offset ≡ None
none_at pass frames offset e h =
    none pass.types.constants.pool (initial_types pass.types) pass.max_locals offset pass.frames
    (subst (λ (fs : List ReadFrame). All (λ (f : ReadFrame). f.offset ≢ offset) fs) (sym e) h)

offset_there : (o : Option ReadFrame) (f : ReadFrame) (offset : ℕ) → o ≡ Some f → option_map (λ (g : ReadFrame). g.offset) o ≡ Some offset → f.offset ≡ offset
offset_there None f offset e h = absurd cc
offset_there (Some g) f offset e h = cc

pub found_at : OffsetsRise → (pass : Pass) (env : Environment) (frames : List ReadFrame) (place offset : ℕ) (f : ReadFrame) → IsOfPass pass env → pass.frames ≡ frames
    → slice_get frames place ≡ Some f → option_map (λ (g : ReadFrame). g.offset) (slice_get frames place) ≡ Some offset
    → frame_at (maps_of pass) offset ≡ Some (frame_by_types pass.types pass.max_locals f)
found_at law pass env frames place offset f is e at o =
    found pass.types.constants.pool (initial_types pass.types) pass.max_locals 0 place offset pass.frames f (rises law env (maps_of pass) is.maps.spelled)
    (ap (λ (fs : List ReadFrame). slice_get fs place) e ∙ at) (offset_there (slice_get frames place) f offset at o)

pub all_at : {A : Type 0} (P : A → Type 0) (xs : List A) (k : ℕ) (x : A) → slice_get xs k ≡ Some x → All P xs → P x
all_at {A} P xs k x e h =
    let lt : k < length xs = slice_get_within xs k x e in
    subst P (unsome (get_or xs k x) x (sym (slice_get-get_or xs k x lt) ∙ e)) (h k x lt)
  where
    unsome : (a b : A) → Some a ≡ Some b → a ≡ b
    unsome a b i = cc

pub within : (frames : List ReadFrame) (place offset : ℕ) → option_map (λ (g : ReadFrame). g.offset) (slice_get frames place) ≡ Some offset → place < length frames
within frames place offset e = by_found (slice_get frames place) refl e
  where
    by_found : (o : Option ReadFrame) → slice_get frames place ≡ o → option_map (λ (g : ReadFrame). g.offset) o ≡ Some offset → place < length frames
    by_found None i h = absurd cc
    by_found (Some f) i h = slice_get_within frames place f i

-- ---- where there is none

no_frame : (pass : Pass) (offset : ℕ) → frame_at (maps_of pass) offset ≡ None → option_map (frame_by_types pass.types pass.max_locals) None ≡ frame_at (maps_of pass) offset
no_frame pass offset e = sym e

pub bare_from_start : OffsetsRise → (pass : Pass) (until : ℕ) → ((g : ReadFrame) → slice_get pass.frames 0 ≡ Some g → g.offset ≡ until) → AreBare pass 0 until
bare_from_start law pass until first offset least less env is =
    no_frame pass offset (before_first pass.types.constants.pool (initial_types pass.types) pass.max_locals 0 offset pass.frames
    (rises law env (maps_of pass) is.maps.spelled) (λ g e. omega (arith, less, first g e)))

pub bare_behind : OffsetsRise → (pass : Pass) (place from until : ℕ) → option_map (λ (g : ReadFrame). g.offset) (slice_get pass.frames place) ≡ Some from
    → ((g : ReadFrame) → slice_get pass.frames (place + 1) ≡ Some g → g.offset ≡ until) → AreBare pass (from + 1) until
bare_behind law pass place from until at next offset least less env is =
    let one : suc place ≡ place + 1 = omega arith in
    no_frame pass offset (between pass.types.constants.pool (initial_types pass.types) pass.max_locals 0 place from offset pass.frames
    (rises law env (maps_of pass) is.maps.spelled) at (λ g e. omega (arith, less, next g (subst (λ k. slice_get pass.frames k ≡ Some g) one e))) (omega (arith, least)))

-- ---- the offset of the next one

same_offset : (g f : ReadFrame) → Some g ≡ Some f → g.offset ≡ f.offset
same_offset g f e = cc

pub offset_is : (pass : Pass) (frames : List ReadFrame) (place : ℕ) (f : ReadFrame) (until : ℕ) → pass.frames ≡ frames → slice_get frames place ≡ Some f → until ≡ f.offset
    → (g : ReadFrame) → slice_get pass.frames place ≡ Some g → g.offset ≡ until
offset_is pass frames place f until same at is g e =
    same_offset g f (sym e ∙ (ap (λ (fs : List ReadFrame). slice_get fs place) same ∙ at)) ∙ sym is

pub offset_past : (pass : Pass) (frames : List ReadFrame) (place until : ℕ) → pass.frames ≡ frames → length frames ≤ place
    → (g : ReadFrame) → slice_get pass.frames place ≡ Some g → g.offset ≡ until
offset_past pass frames place until same past g e =
    let within : place < length pass.frames = slice_get_within pass.frames place g e in
    absurd (omega (arith, within, ap length same, past))
