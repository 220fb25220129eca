-- What is known beside a frame, where an instruction goes over it, and where it is made one of the map.
use Rattle.std.proofs.Common.{◌≡◌, inl, inr, ℕ, zero, suc, ◌-◌, ◌*◌, ◌<◌, ◌≤◌, Bool, true, false, ◌&&◌, List, [], ◌∷◌, length, get_or, refl, sym, ap, subst, ◌∙◌, arith}
use Rattle.std.specs.Prelude.{slice_get, Result, Ok, Err, OnOk}
use Rattle.std.specs.List.{flat_map}
use Rattle.std.proofs.lemmas.List.{get_or_past}
use Rattle.jv_stackmap.specs.Frames.{Frame, type_by_words}
use Rattle.std.proofs.lemmas.Bool.{cases_lt}
use Rattle.jv_stackmap.specs.declared.verification.VerificationTypeOf.TheVariants as variants
use Rattle.jv_stackmap.specs.Types.{FrameType, words}
use Rattle.jv_verify_types.specs.Mapped.{initial_types}
use Rattle.jv_verify_types.specs.Typed.{typed_all}
use Rattle.jv_verify_types.specs.Numbered.{Item, NumberFrame}
use Rattle.jv_verify_maps.specs.Words.{MapWords}
use Rattle.jv_verify_known.specs.Known.{local_at, number_at, with_next, AreNoted, AreTopsFrom, DifferAtWrites, KnownLocals, StaysBesideWrites, Writes}
use Rattle.jv_verify_known.proofs.Words.{local_is, local_past, padded, widths}
use Rattle.jv_verify_open.specs.Open.{FlowsToOpen, HaveFlowed, OpenFrames}
use Rattle.jv_verify_open.proofs.Later.{later_wanting}
use Rattle.jv_verify_pass.specs.Pass.{Pass, names_in}
use Rattle.jv_verify_pass.specs.Inside.Opening.{Openings, AreHandled, AreOpenings}
use Rattle.jv_verify_pass.specs.Inside.Kept.{IsPass}
use Rattle.jv_verify_pass.specs.Inside.Seen.{BeginsWith, IsSeen, NotesWrites}
use Rattle.jv_verify_pass.specs.Inside.Stacks.{AreFlowed}
use Rattle.jv_verify_pass.specs.declared.seen.Seen.{Seen}
use Rattle.jv_verify_pass.specs.declared.stacks.FlowedStacks.{FlowedStacks}

-- ---- a frame flows where its stack, its flag and its local variables do

pub none_flow : (flag locals : Bool) → false ≡ (locals && false && flag)
none_flow flag true = refl
none_flow flag false = refl

pub flag_not : (stack locals : Bool) → false ≡ (locals && stack && false)
flag_not true true = refl
flag_not false true = refl
flag_not stack false = refl

pub last_flow : (locals : Bool) → locals ≡ (locals && true && true)
last_flow true = refl
last_flow false = refl

pub on_ok_by : {A E X Y : Type 0} (r : Result A E) → (X → Y) → OnOk r X → OnOk r Y
on_ok_by (Ok a) f x = f x
on_ok_by (Err e) f x = tt

abbrev pub frame_with : List FrameType → List FrameType → Bool → Frame
frame_with ls ss flag = record { locals = ls; stack = ss; flag_this_uninit = flag }

pub same_frame : (ls ks ss ts : List FrameType) (f g : Bool) → ls ≡ ks → ss ≡ ts → f ≡ g → frame_with ls ss f ≡ frame_with ks ts g
same_frame ls ks ss ts f g e h i = ap (λ xs. frame_with xs ss f) e ∙ (ap (λ xs. frame_with ks xs f) h ∙ ap (frame_with ks ts) i)

-- ---- the first frame

pub initial_tops : (pass : Pass) (entries : List Item) (count : ℕ) (frame : NumberFrame) → IsPass pass entries count → BeginsWith pass frame
    → AreTopsFrom pass.types count frame.locals
initial_tops pass entries count frame kept begins k past =
    let ts = initial_types pass.types in
    let many = widths ts in
    let words_are = kept.words (names_in pass) ∙ ap (λ is. words (typed_all (names_in pass) is)) (sym kept.initial) in
    sym (local_is pass.types frame.locals k)
    ∙ (ap (λ (f : Frame). get_or f.locals k variants.Top) begins.1
    ∙ (padded (flat_map type_by_words ts) (pass.max_locals - words ts) k variants.Top
    ∙ get_or_past (flat_map type_by_words ts) k variants.Top (omega (arith, many, words_are, past))))

-- ---- other local variables are noted

module _ (pass : Pass) where
  -- what flowed and was not written is as it was
  pub noted_flow : (old new : KnownLocals) (frames : OpenFrames) (offset : ℕ) (before behind : List Item) → new.words ≡ old.words
      → AreNoted pass.types old.writes new.writes before behind → frames.handled < old.writes.next → HaveFlowed pass.types old frames offset before
      → HaveFlowed pass.types new frames offset behind
  noted_flow old new frames offset before behind words noted settled flowed k low place lt =
      let same = noted k (omega (arith, low, settled)) in
      let was = same.0 in
      let number : number_at old.writes k ≤ frames.handled = omega (arith, was, low) in
      subst (λ (ws : MapWords). FlowsToOpen pass.types ws frames offset k (local_at pass.types behind k)) (sym words)
      (subst (λ (t : FrameType). FlowsToOpen pass.types old.words frames offset k t) (sym same.1) (flowed k number)) place lt

  pub noted_handled : (old new : KnownLocals) (openings : Openings) (offset : ℕ) (before behind : List Item) → new.words ≡ old.words
      → AreNoted pass.types old.writes new.writes before behind → old.writes.next ≤ new.writes.next → AreHandled pass old openings offset before
      → AreHandled pass new openings offset behind
  noted_handled old new openings offset before behind words noted more handled = record {
    openings = subst (λ (ws : MapWords). AreOpenings pass ws offset openings) (sym words) handled.openings;
    flowed = noted_flow old new openings.frames offset before behind words noted handled.settled handled.flowed;
    settled = let settled = handled.settled in omega (arith, settled, more);
  }

  -- the same local variables, of which the same is known of writes
  pub same_handled : (old new : KnownLocals) (openings : Openings) (offset : ℕ) (locals : List Item) → new.words ≡ old.words
      → new.writes ≡ with_next new.writes.next old.writes → old.writes.next ≤ new.writes.next → AreHandled pass old openings offset locals
      → AreHandled pass new openings offset locals
  same_handled old new openings offset locals words writes more handled =
      noted_handled old new openings offset locals locals words (λ k low. (ap (λ (w : Writes). number_at w k) writes, refl)) more handled

  -- ---- an instruction changes local variables where it was noted

  pub same_local : (old new : List Item) (k : ℕ) → slice_get (typed_all (names_in pass) new) k ≡ slice_get (typed_all (names_in pass) old) k
      → local_at pass.types new k ≡ local_at pass.types old k
  same_local old new k e =
      sym (local_is pass.types new k)
      ∙ (by_slice (typed_all (names_in pass) new) (typed_all (names_in pass) old) k e ∙ local_is pass.types old k)
    where
      by_slice : (xs ys : List FrameType) (k : ℕ) → slice_get xs k ≡ slice_get ys k → get_or xs k variants.Top ≡ get_or ys k variants.Top
      by_slice [] [] k e = refl
      by_slice [] (y ∷ ys) zero e = absurd cc
      by_slice [] (y ∷ ys) (suc k) e = by_slice [] ys k e
      by_slice (x ∷ xs) [] zero e = absurd cc
      by_slice (x ∷ xs) [] (suc k) e = by_slice xs [] k e
      by_slice (x ∷ xs) (y ∷ ys) zero e = cc
      by_slice (x ∷ xs) (y ∷ ys) (suc k) e = by_slice xs ys k e

  module _ (may : ℕ → Bool) (old new : KnownLocals) (before behind : List Item) (notes : NotesWrites may old new) (many : length behind ≡ length before)
      (few : length before ≤ 65535) (blocks : length before ≤ length old.writes.numbers * 16)
      (stay : (k : ℕ) → may k ≡ false → slice_get (typed_all (names_in pass) behind) k ≡ slice_get (typed_all (names_in pass) before) k) where
    stays_at : (k : ℕ) → number_at new.writes k < old.writes.next → local_at pass.types behind k ≡ local_at pass.types before k
    stays_at k low =
        elim (cases_lt k (length before)) [
          | inl less ↦ same_local before behind k (stay k (notes.covers k (omega (arith, less, few)) (omega (arith, less, blocks)) low))
          | inr past ↦ local_past pass.types behind k (omega (arith, past, many)) ∙ sym (local_past pass.types before k past)
        ]

    pub differ : DifferAtWrites pass.types new.writes before behind
    differ = (many, λ k low. let next = notes.next in stays_at k (omega (arith, low, next)))

    pub are_noted : AreNoted pass.types old.writes new.writes before behind
    are_noted k low = (notes.same k low, stays_at k low)

  -- ---- offsets rise

  pub later_openings : (words : MapWords) (openings : Openings) (offset later : ℕ) → offset ≤ later → AreOpenings pass words offset openings → AreOpenings pass words later openings
  later_openings words openings offset later le ok = record {
    handlers = ok.handlers;
    order = ok.order;
    few = ok.few;
    within = ok.within;
    opens = ok.opens;
    many = ok.many;
    wanting = later_wanting pass.types words openings.frames offset later le ok.wanting;
    begun = λ k h before at covers. ok.begun k h before at (omega (arith, le, covers));
    opened = λ place before.
        let o = ok.opened place (omega (arith, le, before)) in
        record { at = o.at; handler = o.handler; begun = o.begun; there = o.there; leads = o.leads; start = (let start = o.start in omega (arith, start, le)); end = o.end };
    last = ok.last;
    without_this = ok.without_this;
    one_without = ok.one_without;
  }

  pub later_handled : (known : KnownLocals) (openings : Openings) (offset later : ℕ) (locals : List Item) → offset ≤ later → AreHandled pass known openings offset locals
      → AreHandled pass known openings later locals
  later_handled known openings offset later locals le handled = record {
    openings = later_openings known.words openings offset later le handled.openings;
    flowed = λ k low place lt. handled.flowed k low place (omega (arith, le, lt));
    settled = handled.settled;
  }

  pub later_seen : (seen : Seen) (offset later : ℕ) (frame : NumberFrame) → offset ≤ later → IsSeen pass seen offset frame → IsSeen pass seen later frame
  later_seen seen offset later frame le is = record {
    locals = is.locals;
    few = is.few;
    words = is.words;
    known = is.known;
    handled = later_handled seen.known seen.openings offset later frame.locals le is.handled;
    stacks = is.stacks;
  }

  -- behind an instruction, which was noted
  pub seen_behind : (may : ℕ → Bool) (old : Seen) (known : KnownLocals) (stacks : FlowedStacks) (offset : ℕ) (f g : NumberFrame) → IsSeen pass old offset f
      → NotesWrites may old.known known → StaysBesideWrites known → length g.locals ≡ length f.locals
      → ((k : ℕ) → may k ≡ false → slice_get (typed_all (names_in pass) g.locals) k ≡ slice_get (typed_all (names_in pass) f.locals) k)
      → AreFlowed pass stacks.stacks.items g → IsSeen pass (record { known = known; openings = old.openings; stacks = stacks }) offset g
  seen_behind may old known stacks offset f g is notes law many stay flowed =
      let small = is.few in
      let next = notes.next in
      let blocks = is.known.blocks in
      record {
        locals = many ∙ is.locals;
        few = omega (arith, many, small);
        words = notes.words ∙ is.words;
        known = law pass.types f.locals g.locals (differ may old.known known f.locals g.locals notes many small blocks stay) (notes.known pass.types f.locals is.known);
        handled =
            noted_handled old.known known old.openings offset f.locals g.locals notes.words (are_noted may old.known known f.locals g.locals notes many small blocks stay)
            (omega (arith, next)) is.handled;
        stacks = flowed;
      }
