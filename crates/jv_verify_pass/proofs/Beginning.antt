-- Handlers that begin to cover.
use Rattle.std.proofs.Common.{◌≡◌, ◌≢◌, ◌⊎◌, inl, inr, ℕ, ◌+◌, ◌<◌, ◌≤◌, Bool, true, false, List, length, get_or, max, replicate, set, Some, refl, sym, ap, subst, ◌∙◌, arith, if◌then◌else◌}
use Rattle.std.specs.Prelude.{slice_get, Result, Ok, Err, IfOk, OnOk}
use Rattle.std.proofs.lemmas.Bool.{cases_lt}
use Rattle.std.proofs.lemmas.Grind.{get_or-set_at}
use Rattle.std.proofs.lemmas.List.{get_or_past, get_or-replicate, get_or-set_other, length-replicate, length-set}
use Rattle.std.proofs.lemmas.Option.{get_or_from_slice_get, slice_get-get_or, slice_get_within}
use Rattle.jv_format.specs.declared.handlers.Handler.{Handler}
use Rattle.jv_meaning_world.specs.Flow.{flows}
use Rattle.jv_verify_types.specs.Numbered.{Item}
use Rattle.jv_verify_types.specs.Mapped.{world_of_types}
use Rattle.jv_verify_maps.specs.Words.{MapWords}
use Rattle.jv_verify_known.specs.Known.{local_at, word_at}
use Rattle.jv_verify_open.specs.Open.{end_of, AllFlow, AreWanting, OpenFrames}
use Rattle.jv_verify_open.proofs.Words.{same_or}
use Rattle.jv_verify_pass.specs.Pass.{Pass}
use Rattle.std.specs.List.{list_all}
use Rattle.jv_verify_pass.specs.Inside.Opening.{Openings, has_this_at, passes_at, start_of, AllBegun, AreAsGood, AreInOrder, AreOpenings, Begins, HasBegun, IsBegun, IsOpenBy, LeadsTo}

-- the one with a number, or one before it
last_or : (k next : ℕ) → k < next + 1 → (k ≡ next) ⊎ (k < next)
last_or k next lt = elim (cases_lt k next) [ inl less ↦ inr less | inr past ↦ inl (omega (arith, lt, past)) ]

module _ (pass : Pass) (words : MapWords) (offset : ℕ) (locals : List Item) (old : Openings) (ok : AreOpenings pass words offset old) (h : Handler)
    (lt : old.next < length old.sorted) (there : slice_get old.sorted old.next ≡ Some h) where
  same_handler : (k : ℕ) (x : Handler) → k ≡ old.next → slice_get old.sorted k ≡ Some x → h ≡ x
  same_handler k x e at =
      let one : Some h ≡ Some x = sym there ∙ (ap (slice_get old.sorted) (sym e) ∙ at) in cc

  -- it has ended, or begins at a frame that is open as long
  pub begun_same : (new : Openings) → AllFlow pass.types words old.frames offset locals → new.sorted ≡ old.sorted → new.next ≡ old.next + 1 → new.frames ≡ old.frames
      → new.last_end ≡ old.last_end → new.end_without_this ≡ old.end_without_this → (offset < h.end_pc → IsBegun pass old.frames h)
      → HasBegun pass words offset locals old new
  begun_same new flow sorted next frames last without begun = record {
    openings = record {
      handlers = λ at test. ap (λ hs. list_all (passes_at at test) hs) sorted ∙ ok.handlers at test;
      order = subst AreInOrder (sym sorted) ok.order;
      few = subst (λ hs. length hs < 4294967295) (sym sorted) ok.few;
      within = let many = ap length sorted in omega (arith, next, lt, many);
      opens = let few = ok.opens in let same = ap (λ (fs : OpenFrames). fs.opens) frames in omega (arith, next, few, same);
      many = λ some. ap (λ (fs : OpenFrames). length fs.ends) frames ∙ ok.many (let many = ap length sorted in omega (arith, some, many));
      wanting = subst (λ (fs : OpenFrames). AreWanting pass.types words fs offset) (sym frames) ok.wanting;
      begun = λ k x before at covers.
          subst (λ (fs : OpenFrames). IsBegun pass fs x) (sym frames)
          (elim (last_or k old.next (omega (arith, before, next))) [
            | inl here ↦
                let one = same_handler k x here (ap (λ hs. slice_get hs k) (sym sorted) ∙ at) in
                subst (λ (y : Handler). IsBegun pass old.frames y) one (begun (let end = ap (λ (y : Handler). y.end_pc) one in omega (arith, covers, end)))
            | inr less ↦ ok.begun k x less (ap (λ hs. slice_get hs k) (sym sorted) ∙ at) covers
          ]);
      opened = λ place within.
          let o = ok.opened place (let same = ap (λ (fs : OpenFrames). end_of fs place) frames in omega (arith, within, same)) in
          record {
            at = o.at;
            handler = o.handler;
            begun = let before = o.begun in omega (arith, before, next);
            there = ap (λ hs. slice_get hs o.at) sorted ∙ o.there;
            leads = o.leads;
            start = o.start;
            end = o.end ∙ ap (λ (fs : OpenFrames). end_of fs place) (sym frames);
          };
      last = λ place. let most = ok.last place in let same = ap (λ (fs : OpenFrames). end_of fs place) frames in omega (arith, most, same, last);
      without_this = λ place none.
          let most = ok.without_this place none in let same = ap (λ (fs : OpenFrames). end_of fs place) frames in omega (arith, most, same, without);
      one_without = λ some.
          let w = ok.one_without (omega (arith, some, without)) in
          let end = w.2 in
          let same = ap (λ (fs : OpenFrames). end_of fs w.0) frames in (w.0, w.1, omega (arith, end, same, without));
    };
    flow = λ k place within. flow k place (let same = ap (λ (fs : OpenFrames). end_of fs place) frames in omega (arith, within, same));
    sorted = sorted;
    next = next;
  }

  -- it opens the frame at which it begins, or opens it for longer
  module _ (place : ℕ) (leads : LeadsTo pass h place) (start : h.start_pc ≤ offset) (longer : end_of old.frames place < h.end_pc) (new : Openings)
      (within : place < length old.frames.ends) (ends : new.frames.ends ≡ set old.frames.ends place h.end_pc) where
    end_here : (at : ℕ) → at ≡ place → end_of new.frames at ≡ h.end_pc
    end_here at e = ap (λ es. get_or es at 0) ends ∙ get_or-set_at old.frames.ends place at h.end_pc 0 e within

    end_other : (at : ℕ) → at ≢ place → end_of new.frames at ≡ end_of old.frames at
    end_other at e = ap (λ es. get_or es at 0) ends ∙ get_or-set_other old.frames.ends place at h.end_pc 0 e

    ends_later : (at : ℕ) → end_of old.frames at ≤ end_of new.frames at
    ends_later at =
        elim (same_or at place) [
          | inl e ↦ let here = end_here at e in let same = ap (end_of old.frames) e in omega (arith, here, same, longer)
          | inr e ↦ let other = end_other at e in omega (arith, other)
        ]

    begun_at : (x : Handler) → IsBegun pass old.frames x → IsBegun pass new.frames x
    begun_at x b = let le = b.2 in let more = ends_later b.0 in (b.0, b.1, omega (arith, le, more))

    pub begun_more : AllFlow pass.types words old.frames offset locals
        → ((k : ℕ) → flows (world_of_types pass.types) (local_at pass.types locals k) (word_at pass.types words place k) ≡ true)
        → new.sorted ≡ old.sorted → new.next ≡ old.next + 1 → new.frames.opens ≡ old.frames.opens + 1 → AreWanting pass.types words new.frames offset
        → new.last_end ≡ max old.last_end h.end_pc
        → new.end_without_this ≡ (if has_this_at words place then old.end_without_this else max old.end_without_this h.end_pc)
        → HasBegun pass words offset locals old new
    begun_more flow here sorted next opens wanting last without = record {
      openings = record {
        handlers = λ at test. ap (λ hs. list_all (passes_at at test) hs) sorted ∙ ok.handlers at test;
        order = subst AreInOrder (sym sorted) ok.order;
        few = subst (λ hs. length hs < 4294967295) (sym sorted) ok.few;
        within = let many = ap length sorted in omega (arith, next, lt, many);
        opens = let few = ok.opens in omega (arith, next, few, opens);
        many = λ some. ap length ends ∙ (length-set old.frames.ends place h.end_pc ∙ ok.many (let many = ap length sorted in omega (arith, some, many)));
        wanting = wanting;
        begun = λ k x before at covers.
            elim (last_or k old.next (omega (arith, before, next))) [
              | inl e ↦
                  let one = same_handler k x e (ap (λ hs. slice_get hs k) (sym sorted) ∙ at) in
                  let end = end_here place refl in
                  subst (λ (y : Handler). IsBegun pass new.frames y) one (place, leads, omega (arith, end))
              | inr less ↦ begun_at x (ok.begun k x less (ap (λ hs. slice_get hs k) (sym sorted) ∙ at) covers)
            ];
        opened = open_by;
        last = λ at.
            elim (same_or at place) [
              | inl e ↦ let end = end_here at e in omega (arith, end, last)
              | inr e ↦ let end = end_other at e in let most = ok.last at in omega (arith, end, most, last)
            ];
        without_this = without_at;
        one_without = one_without;
      };
      flow = λ k at within.
          elim (same_or at place) [
            | inl e ↦ subst (λ p. flows (world_of_types pass.types) (local_at pass.types locals k) (word_at pass.types words p k) ≡ true) (sym e) (here k)
            | inr e ↦ flow k at (let end = end_other at e in omega (arith, end, within))
          ];
      sorted = sorted;
      next = next;
    }
      where
        open_by : (at : ℕ) → offset < end_of new.frames at → IsOpenBy pass new offset at
        open_by at within =
            elim (same_or at place) [
              | inl e ↦ record {
                at = old.next;
                handler = h;
                begun = omega (arith, next);
                there = ap (λ hs. slice_get hs old.next) sorted ∙ there;
                leads = subst (LeadsTo pass h) (sym e) leads;
                start = start;
                end = sym (end_here at e);
              }
              | inr e ↦
                  let end = end_other at e in
                  let o = ok.opened at (omega (arith, end, within)) in
                  record {
                    at = o.at;
                    handler = o.handler;
                    begun = let before = o.begun in omega (arith, before, next);
                    there = ap (λ hs. slice_get hs o.at) sorted ∙ o.there;
                    leads = o.leads;
                    start = o.start;
                    end = o.end ∙ sym end;
                  }
            ]

        by_this : (b : Bool) → has_this_at words place ≡ b → new.end_without_this ≡ (if b then old.end_without_this else max old.end_without_this h.end_pc)
        by_this b e = without ∙ ap (λ c. if c then old.end_without_this else max old.end_without_this h.end_pc) e

        grown : (b : Bool) → has_this_at words place ≡ b → old.end_without_this ≤ new.end_without_this
        grown true e = let is = by_this true e in omega (arith, is)
        grown false e = let is = by_this false e in omega (arith, is)

        without_at : (at : ℕ) → has_this_at words at ≡ false → end_of new.frames at ≤ new.end_without_this
        without_at at none =
            elim (same_or at place) [
              | inl e ↦
                  let is = by_this false (ap (has_this_at words) (sym e) ∙ none) in
                  let end = end_here at e in omega (arith, is, end)
              | inr e ↦
                  let end = end_other at e in
                  let most = ok.without_this at none in
                  let more = grown (has_this_at words place) refl in omega (arith, end, most, more)
            ]

        old_one : old.end_without_this ≡ new.end_without_this → 0 < new.end_without_this
            → (at : ℕ) × (has_this_at words at ≡ false) × (new.end_without_this ≤ end_of new.frames at)
        old_one same some =
            let w = ok.one_without (omega (arith, same, some)) in
            let end = w.2 in
            let later = ends_later w.0 in (w.0, w.1, omega (arith, end, later, same))

        one_without : 0 < new.end_without_this → (at : ℕ) × (has_this_at words at ≡ false) × (new.end_without_this ≤ end_of new.frames at)
        one_without some = of_this (has_this_at words place) refl
          where
            of_this : (b : Bool) → has_this_at words place ≡ b → (at : ℕ) × (has_this_at words at ≡ false) × (new.end_without_this ≤ end_of new.frames at)
            of_this true e = old_one (sym (by_this true e)) some
            of_this false e =
                elim (cases_lt old.end_without_this h.end_pc) [
                  | inl more ↦ let is = by_this false e in let end = end_here place refl in (place, e, omega (arith, is, end, more))
                  | inr less ↦ let is = by_this false e in old_one (omega (arith, is, less)) some
                ]

  pub has_begun : (mid new : Openings) → h.start_pc ≤ offset → AllFlow pass.types words old.frames offset locals → Begins pass words offset locals h old mid
      → new.sorted ≡ mid.sorted → new.next ≡ mid.next + 1 → new.frames ≡ mid.frames → new.last_end ≡ mid.last_end → new.end_without_this ≡ mid.end_without_this
      → HasBegun pass words offset locals old new
  has_begun mid new start flow (inl kept) sorted next frames last without =
      begun_same new flow (sorted ∙ ap (λ (o : Openings). o.sorted) kept.0) (next ∙ ap (λ (o : Openings). o.next + 1) kept.0) (frames ∙ ap (λ (o : Openings). o.frames) kept.0)
      (last ∙ ap (λ (o : Openings). o.last_end) kept.0) (without ∙ ap (λ (o : Openings). o.end_without_this) kept.0) kept.1
  has_begun mid new start flow (inr more) sorted next frames last without =
      begun_more more.place more.leads start more.longer new more.within (ap (λ (o : OpenFrames). o.ends) frames ∙ more.ends) flow more.here (sorted ∙ more.sorted)
      (next ∙ ap (λ n. n + 1) more.next) (ap (λ (o : OpenFrames). o.opens) frames ∙ more.opens)
      (subst (λ (o : OpenFrames). AreWanting pass.types words o offset) (sym frames) more.wanting) (last ∙ more.last) (without ∙ more.without)

-- ---- handlers that begin behind an instruction

pub at_next : (view now : Openings) (h d : Handler) → view ≡ now → h ≡ get_or view.sorted view.next d → view.next < length view.sorted
    → slice_get now.sorted now.next ≡ Some h
at_next view now h d e is lt = subst (λ (o : Openings). slice_get o.sorted o.next ≡ Some h) e (slice_get-get_or view.sorted view.next d lt ∙ ap Some (sym is))

pub rest_begun : (openings : Openings) (offset : ℕ) (h : Handler) → AreInOrder openings.sorted → slice_get openings.sorted openings.next ≡ Some h → offset < h.start_pc
    → AllBegun openings offset
rest_begun openings offset h order there late k x from at =
    let within = slice_get_within openings.sorted k x at in
    let rising = order openings.next k h from within in
    let here = ap start_of (get_or_from_slice_get openings.sorted openings.next h h there) in
    let other = ap start_of (get_or_from_slice_get openings.sorted k x h at) in omega (arith, rising, here, other, late)

-- the same handlers have begun, and the same frames are open
pub moved : (pass : Pass) (words : MapWords) (offset : ℕ) (old new : Openings) → AreOpenings pass words offset old → new.sorted ≡ old.sorted → new.next ≡ old.next
    → new.frames.ends ≡ old.frames.ends → new.frames.opens ≡ old.frames.opens → new.last_end ≡ old.last_end → new.end_without_this ≡ old.end_without_this
    → AreWanting pass.types words new.frames offset → AreOpenings pass words offset new
moved pass words offset old new ok sorted next ends opens last without wanting = record {
  handlers = λ at test. ap (λ hs. list_all (passes_at at test) hs) sorted ∙ ok.handlers at test;
  order = subst AreInOrder (sym sorted) ok.order;
  few = subst (λ hs. length hs < 4294967295) (sym sorted) ok.few;
  within = let many = ap length sorted in let within = ok.within in omega (arith, next, many, within);
  opens = let few = ok.opens in omega (arith, next, few, opens);
  many = λ some. ap length ends ∙ ok.many (let many = ap length sorted in omega (arith, some, many));
  wanting = wanting;
  begun = λ k x before at covers.
      let b = ok.begun k x (omega (arith, before, next)) (ap (λ hs. slice_get hs k) (sym sorted) ∙ at) covers in
      let end = b.2 in
      let same = end_same b.0 in (b.0, b.1, omega (arith, end, same));
  opened = λ place within.
      let same = end_same place in
      let o = ok.opened place (omega (arith, within, same)) in
      record {
        at = o.at;
        handler = o.handler;
        begun = let before = o.begun in omega (arith, before, next);
        there = ap (λ hs. slice_get hs o.at) sorted ∙ o.there;
        leads = o.leads;
        start = o.start;
        end = o.end ∙ sym same;
      };
  last = λ place. let most = ok.last place in let same = end_same place in omega (arith, most, same, last);
  without_this = λ place none. let most = ok.without_this place none in let same = end_same place in omega (arith, most, same, without);
  one_without = λ some.
      let w = ok.one_without (omega (arith, some, without)) in
      let end = w.2 in
      let same = end_same w.0 in (w.0, w.1, omega (arith, end, same, without));
}
  where
    end_same : (place : ℕ) → end_of new.frames place ≡ end_of old.frames place
    end_same place = ap (λ es. get_or es place 0) ends

pub if_ok_both : {A E X : Type 0} {P Q : A → Type 0} (r : Result A E) → (X → (a : A) → P a → Q a) → OnOk r X → IfOk r P → IfOk r Q
if_ok_both (Ok a) f x h = f x a h
if_ok_both (Err e) f x h = tt

pub past_begun : (openings : Openings) (offset : ℕ) → length openings.sorted ≤ openings.next → AllBegun openings offset
past_begun openings offset past k x from at = let within = slice_get_within openings.sorted k x at in absurd (omega (arith, within, from, past))

-- ---- none has begun

pub none_begun : (pass : Pass) (words : MapWords) (sorted : List Handler) (n : ℕ) (frames : OpenFrames) → ((at : ℕ) → AreAsGood at sorted pass.handlers) → AreInOrder sorted
    → length sorted < 4294967295 → frames.ends ≡ replicate n 0 → frames.opens ≡ 0 → (0 < length sorted → n ≡ length words.frames) → AreWanting pass.types words frames 0
    → AreOpenings pass words 0 (record { sorted = sorted; next = 0; frames = frames; last_end = 0; end_without_this = 0 })
none_begun pass words sorted n frames handlers order few ends opens many wanting = record {
  handlers = handlers;
  order = order;
  few = few;
  within = omega arith;
  opens = omega (arith, opens);
  many = λ some. ap length ends ∙ (length-replicate {A = ℕ} n 0 ∙ many some);
  wanting = wanting;
  begun = λ k h before. absurd (omega (arith, before));
  opened = λ place before. absurd (let none = end_none place in omega (arith, none, before));
  last = λ place. let none = end_none place in omega (arith, none);
  without_this = λ place not. let none = end_none place in omega (arith, none);
  one_without = λ some. absurd (omega (arith, some));
}
  where
    end_none : (place : ℕ) → end_of frames place ≡ 0
    end_none place =
        ap (λ es. get_or es place 0) ends
        ∙ elim (cases_lt place n) [
          | inl within ↦ get_or-replicate {A = ℕ} n place 0 0 within
          | inr past ↦ get_or_past {X = ℕ} (replicate n 0) place 0 (let size = length-replicate {A = ℕ} n 0 in omega (arith, size, past))
        ]
