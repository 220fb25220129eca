-- The handlers that cover an instruction against the frames that are open.
use Rattle.std.proofs.Common.{◌≡◌, inl, inr, ℕ, zero, suc, ◌<◌, ◌≤◌, Bool, true, false, not, ◌&&◌, ◌||◌, List, [], ◌∷◌, length, map, get_or, Option, Some, None, refl, sym, ap, subst, ◌∙◌, arith, if◌then◌else◌}
use Rattle.std.specs.Prelude.{◌↔◌, IsTrue, nat_le, nat_lt, slice_get, unwrap_or}
use Rattle.std.specs.List.{list_all}
use Rattle.std.specs.Option.{option_map}
use Rattle.std.proofs.lemmas.Bool.{cases_lt, ltb-true, ltb-false, leb-true, leb-false}
use Rattle.std.proofs.lemmas.List.{length-map}
use Rattle.std.proofs.lemmas.Option.{get_or_from_slice_get, slice_get_within}
use Rattle.jv_format.specs.declared.handlers.Handler.{Handler}
use Rattle.jv_stackmap.specs.declared.verification.VerificationTypeOf.TheVariants as variants
use Rattle.jv_stackmap.specs.Types.{FrameType}
use Rattle.jv_stackmap.specs.Entries.{ReadFrame}
use Rattle.jv_code.specs.Insns.{Instruction}
use Rattle.jv_meaning_world.specs.Flow.{flows}
use Rattle.jv_meaning_world.specs.FrameFlow.{all_flow, frame_flows}
use Rattle.jv_meaning_world.specs.World.{World}
use Rattle.jv_meaning_typing.specs.Environment.{Environment}
use Rattle.jv_stackmap.specs.Frames.{Frame}
use Rattle.jv_meaning_typing.specs.FrameChanges.{is_same_object, with_stack}
use Rattle.jv_meaning_typing.specs.Rule.{handler_frame}
use Rattle.jv_meaning_typing.specs.Typing.{catch_type, covers, flows_into, frame_at, handles, handlers_hold}
use Rattle.jv_verify_types.specs.Typed.{typed, typed_all}
use Rattle.jv_verify_types.specs.Numbered.{Item, NumberFrame, frame_of}
use Rattle.jv_verify_types.specs.Mapped.{EntryTypes, expanded_entries, frame_by_types, has_uninitialized_this, locals_flow_to, locals_without, names_of_types, stack_flows_to, thrown_flows_to_map, world_of_types}
use Rattle.jv_verify_maps.specs.Words.{MapWords, words_at}
use Rattle.jv_verify_known.specs.Known.{local_at, word_at}
use Rattle.jv_verify_known.specs.Known as known
use Rattle.jv_verify_known.proofs.Words.{all_at, local_is, many, map_at, not_at, this_is, word_is}
use Rattle.jv_verify_open.specs.Open.{end_of, holds, AllFlow, HaveRoom}
use Rattle.jv_verify_pass.specs.Pass.{Pass, IsOfPass, maps_of, names_in}
use Rattle.jv_verify_pass.specs.Inside.Kept.{IsPass}
use Rattle.jv_verify_pass.specs.Inside.Opening.{Openings, passes_at, has_this_at, AllBegun, AreOpenings, HoldsNot, IsByWords, IsListed, LeadsTo, ObjectFlows, RestFlows}
use Rattle.jv_verify_pass.specs.Inside.Settled.{IsLeft}
use Rattle.jv_verify_pass.proofs.FlowsInto.{handles_is, handles_there, world_is}

-- ---- booleans, and lists of handlers

clash : true ≡ false → ⊥
clash e = cc

both : (a b : Bool) → a ≡ true → b ≡ true → (a && b) ≡ true
both true true e f = refl
both true false e f = f
both false b e f = absurd (clash (sym e))

first_is : (a b : Bool) → (a && b) ≡ true → a ≡ true
first_is true b e = refl
first_is false b e = e

second_is : (a b : Bool) → (a && b) ≡ true → b ≡ true
second_is true b e = e
second_is false b e = absurd (clash (sym e))

all_by : (p : Handler → Bool) (hs : List Handler) → ((k : ℕ) (h : Handler) → slice_get hs k ≡ Some h → p h ≡ true) → list_all p hs ≡ true
all_by p [] each = refl
all_by p (h ∷ hs) each = both (p h) (list_all p hs) (each 0 h refl) (all_by p hs (λ k x e. each (suc k) x e))

each_of : (p : Handler → Bool) (hs : List Handler) (k : ℕ) (h : Handler) → list_all p hs ≡ true → slice_get hs k ≡ Some h → p h ≡ true
each_of p [] k h all e = absurd cc
each_of p (x ∷ hs) zero h all e = let same : x ≡ h = cc in subst (λ y. p y ≡ true) same (first_is (p x) (list_all p hs) all)
each_of p (x ∷ hs) (suc k) h all e = each_of p hs k h (second_is (p x) (list_all p hs) all) e

pub cover : (h : Handler) (offset : ℕ) → h.start_pc ≤ offset → offset < h.end_pc → covers h offset ≡ true
cover h offset start end = both (nat_le h.start_pc offset) (nat_lt offset h.end_pc) (of_le (nat_le h.start_pc offset) refl) (of_lt (nat_lt offset h.end_pc) refl)
  where
    of_le : (b : Bool) → nat_le h.start_pc offset ≡ b → b ≡ true
    of_le true e = refl
    of_le false e = absurd (let not = leb-false h.start_pc offset e in omega (arith, not, start))

    of_lt : (b : Bool) → nat_lt offset h.end_pc ≡ b → b ≡ true
    of_lt true e = refl
    of_lt false e = absurd (let not = ltb-false offset h.end_pc e in omega (arith, not, end))

covers_from : (h : Handler) (offset : ℕ) → covers h offset ≡ true → (h.start_pc ≤ offset) × (offset < h.end_pc)
covers_from h offset e = (
  leb-true h.start_pc offset (first_is (nat_le h.start_pc offset) (nat_lt offset h.end_pc) e),
  ltb-true offset h.end_pc (second_is (nat_le h.start_pc offset) (nat_lt offset h.end_pc) e),
)

-- one that covers passes where the test does
pass_by : (offset : ℕ) (test : Handler → Bool) (h : Handler) → (covers h offset ≡ true → test h ≡ true) → passes_at offset test h ≡ true
pass_by offset test h e = by_cover (covers h offset) refl
  where
    by_cover : (b : Bool) → covers h offset ≡ b → (not b || test h) ≡ true
    by_cover true c = e c
    by_cover false c = refl

passed : (offset : ℕ) (test : Handler → Bool) (h : Handler) → covers h offset ≡ true → passes_at offset test h ≡ true → test h ≡ true
passed offset test h c e = sym (ap (λ b. not b || test h) c) ∙ e

-- ---- top flows to top alone

top_alone : (world : World) (s t : FrameType) → flows world variants.Top t ≡ true → flows world s t ≡ true
top_alone world s variants.Top e = refl
top_alone world s variants.Int e = absurd cc
top_alone world s variants.Long e = absurd cc
top_alone world s variants.Null e = absurd cc
top_alone world s variants.UninitializedThis e = absurd cc
top_alone world s (variants.Class name) e = absurd cc
top_alone world s (variants.Array type) e = absurd cc
top_alone world s (variants.Uninitialized offset) e = absurd cc

get_or_none : (xs : List Item) (k : ℕ) (d : Item) → slice_get xs k ≡ None → get_or xs k d ≡ d
get_or_none [] k d e = refl
get_or_none (x ∷ xs) zero d e = absurd cc
get_or_none (x ∷ xs) (suc k) d e = get_or_none xs k d e

-- ---- an object that can't be used any more is top where a local variable holds it

replaced_at : (entry_types : EntryTypes) (locals : List Item) (object : Item) (k : ℕ)
    → get_or (map (λ t. if is_same_object (typed (names_of_types entry_types) object) t then variants.Top else t) (typed_all (names_of_types entry_types) locals)) k variants.Top
    ≡ (if is_same_object (typed (names_of_types entry_types) object) (local_at entry_types locals k) then variants.Top else local_at entry_types locals k)
replaced_at entry_types locals object k =
    ap (λ d. get_or (map g (typed_all (names_of_types entry_types) locals)) k d) (sym (top_stays (is_same_object (typed (names_of_types entry_types) object) variants.Top) variants.Top))
    ∙ (map_at g (typed_all (names_of_types entry_types) locals) k variants.Top ∙ ap g (local_is entry_types locals k))
  where
    g : FrameType → FrameType
    g t = if is_same_object (typed (names_of_types entry_types) object) t then variants.Top else t

    top_stays : (b : Bool) (t : FrameType) → (if b then t else t) ≡ t
    top_stays true t = refl
    top_stays false t = refl

-- ---- what a handler begins with

module _ (pass : Pass) (entries : List Item) (count : ℕ) (kept : IsPass pass entries count) (env : Environment) (is : IsOfPass pass env)
    (words : MapWords) (by : IsByWords pass words) (f : NumberFrame) (many_locals : length f.locals ≡ pass.max_locals) where
  abbrev pub world : World
  world = world_of_types pass.types

  frame_at_place : (h : Handler) (place : ℕ) (l : LeadsTo pass h place) → known.IsFrameAt pass.types words place l.map
  frame_at_place h place l = record { frames = pass.frames; by_words = by; there = l.there }

  module _ (insn : Instruction) (object : Option Item) (left : IsLeft env insn (names_in pass) f object) where
    abbrev pub test : Handler → Bool
    test h = handles env (maps_of pass) (handler_frame env insn (frame_of (names_in pass) f)) h

    -- a local variable once the object can't be used any more
    abbrev pub left_at : ℕ → FrameType
    left_at k = get_or (locals_without pass.types f object) k variants.Top

    test_is : (h : Handler) (place : ℕ) (l : LeadsTo pass h place) → thrown_flows_to_map pass.types f object l.thrown l.map ≡ test h
    test_is h place l =
        handles_there pass entries count kept env is pass.types insn f object l.thrown h l.map (thrown_flows_to_map pass.types f object l.thrown l.map) refl many_locals refl
        left (l.catches env is) (l.is env is)

    left_many : length (locals_without pass.types f object) ≡ length f.locals
    left_many = of_object object
      where
        of_object : (o : Option Item) → length (locals_without pass.types f o) ≡ length f.locals
        of_object None = length-map f.locals (typed (names_in pass))
        of_object (Some o) =
            length-map (typed_all (names_in pass) f.locals) (λ t. if is_same_object (typed (names_in pass) o) t then variants.Top else t)
            ∙ length-map f.locals (typed (names_in pass))

    -- it flows as far as the local variable does, and where that holds the object, top flows
    pub to_local : (k : ℕ) (t : FrameType) → flows world (left_at k) t ≡ true → flows world (local_at pass.types f.locals k) t ≡ true
    to_local k t e = of_object object e
      where
        of_object : (o : Option Item) → flows world (get_or (locals_without pass.types f o) k variants.Top) t ≡ true → flows world (local_at pass.types f.locals k) t ≡ true
        of_object None e = subst (λ s. flows world s t ≡ true) (local_is pass.types f.locals k) e
        of_object (Some o) e =
            by_test (is_same_object (typed (names_in pass) o) (local_at pass.types f.locals k)) (subst (λ s. flows world s t ≡ true) (replaced_at pass.types f.locals o k) e)
          where
            by_test : (b : Bool) → flows world (if b then variants.Top else local_at pass.types f.locals k) t ≡ true → flows world (local_at pass.types f.locals k) t ≡ true
            by_test true e = top_alone world (local_at pass.types f.locals k) t e
            by_test false e = e

    held_is : (o : Item) (k : ℕ) → holds (names_in pass) o f.locals k ≡ true → is_same_object (typed (names_in pass) o) (local_at pass.types f.locals k) ≡ true
    held_is o k e = by_local (slice_get f.locals k) refl
      where
        by_local : (x : Option Item) → slice_get f.locals k ≡ x → is_same_object (typed (names_in pass) o) (local_at pass.types f.locals k) ≡ true
        by_local (Some local) there =
            ap (λ x. is_same_object (typed (names_in pass) o) (typed (names_in pass) x)) (get_or_from_slice_get f.locals k local variants.Top there)
            ∙ (sym (ap (λ x. unwrap_or (option_map (λ y. is_same_object (typed (names_in pass) o) (typed (names_in pass) y)) x) false) there) ∙ e)
        by_local None there =
            absurd (clash (sym e ∙ ap (λ x. unwrap_or (option_map (λ y. is_same_object (typed (names_in pass) o) (typed (names_in pass) y)) x) false) there))

    -- top flows where a local variable holds the object
    abbrev pub Asked : ℕ → FrameType → Type 0
    Asked k t = (o : Item) → object ≡ Some o → holds (names_in pass) o f.locals k ≡ true → flows world variants.Top t ≡ true

    to_left : (k : ℕ) (t : FrameType) → flows world (local_at pass.types f.locals k) t ≡ true → Asked k t → flows world (left_at k) t ≡ true
    to_left k t e asked = of_object object asked
      where
        of_object : (o : Option Item) → ((x : Item) → o ≡ Some x → holds (names_in pass) x f.locals k ≡ true → flows world variants.Top t ≡ true)
            → flows world (get_or (locals_without pass.types f o) k variants.Top) t ≡ true
        of_object None h = subst (λ s. flows world s t ≡ true) (sym (local_is pass.types f.locals k)) e
        of_object (Some o) h = subst (λ s. flows world s t ≡ true) (sym (replaced_at pass.types f.locals o k)) (by_local (slice_get f.locals k) refl)
          where
            by_test : (b : Bool) (local : Item) → is_same_object (typed (names_in pass) o) (typed (names_in pass) local) ≡ b → slice_get f.locals k ≡ Some local
                → flows world (if b then variants.Top else local_at pass.types f.locals k) t ≡ true
            by_test true local same there =
                h o refl (ap (λ x. unwrap_or (option_map (λ y. is_same_object (typed (names_in pass) o) (typed (names_in pass) y)) x) false) there ∙ same)
            by_test false local same there = e

            by_none : (b : Bool) → flows world variants.Top t ≡ true → flows world (if b then variants.Top else variants.Top) t ≡ true
            by_none true h = h
            by_none false h = h

            by_local : (x : Option Item) → slice_get f.locals k ≡ x
                → flows world (if is_same_object (typed (names_in pass) o) (local_at pass.types f.locals k) then variants.Top else local_at pass.types f.locals k) t ≡ true
            by_local (Some local) there =
                let is_local : local_at pass.types f.locals k ≡ typed (names_in pass) local =
                ap (typed (names_in pass)) (get_or_from_slice_get f.locals k local variants.Top there) in
                subst (λ s. flows world (if is_same_object (typed (names_in pass) o) s then variants.Top else local_at pass.types f.locals k) t ≡ true) (sym is_local)
                (by_test (is_same_object (typed (names_in pass) o) (typed (names_in pass) local)) local refl there)
            by_local None there =
                let is_top : local_at pass.types f.locals k ≡ variants.Top = ap (typed (names_in pass)) (get_or_none f.locals k variants.Top there) in
                subst (λ s. flows world (if is_same_object (typed (names_in pass) o) (local_at pass.types f.locals k) then variants.Top else s) t ≡ true) (sym is_top)
                (by_none (is_same_object (typed (names_in pass) o) (local_at pass.types f.locals k)) (subst (λ s. flows world s t ≡ true) is_top e))

    -- ---- one handler

    parts : (h : Handler) (place : ℕ) → LeadsTo pass h place → length (words_at words place) ≤ length f.locals → test h ≡ true
        → ((k : ℕ) → flows world (left_at k) (word_at pass.types words place k) ≡ true) × (f.flag_this_uninit ≡ true → has_this_at words place ≡ true)
    parts h place l room e =
        let all = test_is h place l ∙ e in
        let locals_flow = all_flow (flows world) (locals_without pass.types f object) (expanded_entries pass.types (length f.locals) l.map.locals) in
        let stack_flows = stack_flows_to pass.types (typed (names_in pass) l.thrown ∷ []) l.map in
        let flag_flows = not f.flag_this_uninit || has_uninitialized_this pass.types l.map in
        let both_flow = first_is (locals_flow && stack_flows) flag_flows all in
        let locals = first_is locals_flow stack_flows both_flow in
        let flags = second_is (locals_flow && stack_flows) flag_flows all in (
          λ k. by_flow k locals (flows world (get_or (locals_without pass.types f object) k variants.Top) (word_at pass.types words place k)) refl,
          λ flag. this_is pass.types words place l.map (frame_at_place h place l) ∙ (sym (ap (λ b. not b || has_uninitialized_this pass.types l.map) flag) ∙ flags),
        )
      where
        by_flow : (k : ℕ) → all_flow (flows world) (locals_without pass.types f object) (expanded_entries pass.types (length f.locals) l.map.locals) ≡ true
            → (b : Bool) → flows world (get_or (locals_without pass.types f object) k variants.Top) (word_at pass.types words place k) ≡ b → b ≡ true
        by_flow k all true off = refl
        by_flow k all false off =
            absurd (clash (sym all ∙ not_at world (locals_without pass.types f object) (expanded_entries pass.types (length f.locals) l.map.locals) k
            (ap (flows world (get_or (locals_without pass.types f object) k variants.Top)) (word_is pass.types words place l.map (frame_at_place h place l) (length f.locals) k) ∙ off)))

    whole : (h : Handler) (place : ℕ) → LeadsTo pass h place → length (words_at words place) ≤ length f.locals
        → ((k : ℕ) → flows world (left_at k) (word_at pass.types words place k) ≡ true) → (f.flag_this_uninit ≡ true → has_this_at words place ≡ true) → test h ≡ true
    whole h place l room each flag =
        let locals_flow = all_flow (flows world) (locals_without pass.types f object) (expanded_entries pass.types (length f.locals) l.map.locals) in
        let stack_flows = stack_flows_to pass.types (typed (names_in pass) l.thrown ∷ []) l.map in
        sym (test_is h place l)
        ∙ both (locals_flow && stack_flows) (not f.flag_this_uninit || has_uninitialized_this pass.types l.map)
        (both locals_flow stack_flows
        (all_at world (locals_without pass.types f object) (expanded_entries pass.types (length f.locals) l.map.locals)
        (left_many ∙ sym (many pass.types words place l.map (frame_at_place h place l) (length f.locals) room))
        (λ k. ap (flows world (get_or (locals_without pass.types f object) k variants.Top))
        (word_is pass.types words place l.map (frame_at_place h place l) (length f.locals) k) ∙ each k)) l.stack) (by_flag f.flag_this_uninit refl)
      where
        by_flag : (b : Bool) → f.flag_this_uninit ≡ b → (not b || has_uninitialized_this pass.types l.map) ≡ true
        by_flag true e = sym (this_is pass.types words place l.map (frame_at_place h place l)) ∙ flag e
        by_flag false e = refl

    -- ---- all of them

    module _ (openings : Openings) (offset : ℕ) (ok : AreOpenings pass words offset openings) (room : HaveRoom words (length f.locals)) where
      listed_is : list_all (passes_at offset test) openings.sorted ≡ handlers_hold env (maps_of pass) offset insn (frame_of (names_in pass) f)
      listed_is = ok.handlers offset test ∙ ap (list_all (passes_at offset test)) (sym is.handlers)

      one_holds : handlers_hold env (maps_of pass) offset insn (frame_of (names_in pass) f) ≡ true → (place : ℕ) → offset < end_of openings.frames place
          → (h : Handler) × LeadsTo pass h place × (test h ≡ true)
      one_holds all place lt =
          let o = ok.opened place lt in (
            o.handler,
            o.leads,
            passed offset test o.handler (cover o.handler offset o.start (let end = o.end in omega (arith, lt, end)))
                (each_of (passes_at offset test) openings.sorted o.at o.handler (listed_is ∙ all) o.there),
          )

      pub hold_flow : handlers_hold env (maps_of pass) offset insn (frame_of (names_in pass) f) ≡ true → AllFlow pass.types words openings.frames offset f.locals
      hold_flow all k place lt =
          let one = one_holds all place lt in
          to_local k (word_at pass.types words place k) ((parts one.0 place one.1 (room place) one.2).0 k)

      pub flow_not : (AllFlow pass.types words openings.frames offset f.locals → ⊥)
          → false ≡ handlers_hold env (maps_of pass) offset insn (frame_of (names_in pass) f)
      flow_not cannot = by_hold (handlers_hold env (maps_of pass) offset insn (frame_of (names_in pass) f)) refl
        where
          by_hold : (b : Bool) → handlers_hold env (maps_of pass) offset insn (frame_of (names_in pass) f) ≡ b → false ≡ b
          by_hold false e = refl
          by_hold true e = absurd (cannot (hold_flow e))

      pub none_hold : length openings.sorted ≡ 0 → true ≡ handlers_hold env (maps_of pass) offset insn (frame_of (names_in pass) f)
      none_hold none =
          sym (sym listed_is ∙ all_by (passes_at offset test) openings.sorted
          (λ k h at. let within = slice_get_within openings.sorted k h at in absurd (omega (arith, within, none))))

      pub one_not : (h : Handler) → IsListed openings.sorted h → covers h offset ≡ true → HoldsNot pass f h
          → false ≡ handlers_hold env (maps_of pass) offset insn (frame_of (names_in pass) f)
      one_not h at covering refused = by_hold (handlers_hold env (maps_of pass) offset insn (frame_of (names_in pass) f)) refl
        where
          by_hold : (b : Bool) → handlers_hold env (maps_of pass) offset insn (frame_of (names_in pass) f) ≡ b → false ≡ b
          by_hold false e = refl
          by_hold true e =
              absurd (clash (sym (passed offset test h covering (each_of (passes_at offset test) openings.sorted at.0 h (listed_is ∙ e) at.1)) ∙ refused env insn object is left))

      rest_of : handlers_hold env (maps_of pass) offset insn (frame_of (names_in pass) f) ≡ true → RestFlows pass.types words openings offset f object
      rest_of all = record { flag = flag_of; object = object_of object refl }
        where
          flag_of : f.flag_this_uninit ≡ true → openings.end_without_this ≤ offset
          flag_of flag =
              elim (cases_lt offset openings.end_without_this) [
                | inr done ↦ done
                | inl within ↦
                    let w = ok.one_without (omega (arith, within)) in
                    let end = w.2 in
                    let one = one_holds all w.0 (omega (arith, within, end)) in
                    absurd (clash (sym ((parts one.0 w.0 one.1 (room w.0) one.2).1 flag) ∙ w.1))
              ]

          object_of : (o : Option Item) → object ≡ o → ObjectFlows pass.types words openings offset f o
          object_of None e = tt
          object_of (Some o) e = λ k held place lt.
              let one = one_holds all place lt in
              let at = (parts one.0 place one.1 (room place) one.2).0 k in
              let there = subst (λ x. flows world (get_or (locals_without pass.types f x) k variants.Top) (word_at pass.types words place k) ≡ true) e at in
              subst (λ (b : Bool). flows world (if b then variants.Top else local_at pass.types f.locals k) (word_at pass.types words place k) ≡ true)
              (held_is o k held) (subst (λ s. flows world s (word_at pass.types words place k) ≡ true) (replaced_at pass.types f.locals o k) there)

      pub hold_all : AllBegun openings offset → AllFlow pass.types words openings.frames offset f.locals → RestFlows pass.types words openings offset f object
          → handlers_hold env (maps_of pass) offset insn (frame_of (names_in pass) f) ≡ true
      hold_all begun flow rest =
          sym listed_is ∙ all_by (passes_at offset test) openings.sorted (λ k h at. pass_by offset test h (λ c. holds_at k h at (covers_from h offset c)))
        where
          holds_at : (k : ℕ) (h : Handler) → slice_get openings.sorted k ≡ Some h → (h.start_pc ≤ offset) × (offset < h.end_pc) → test h ≡ true
          holds_at k h at within =
              elim (cases_lt k openings.next) [
                | inr behind ↦ let late = begun k h behind at in let early = within.0 in absurd (omega (arith, late, early))
                | inl before ↦
                    let one = ok.begun k h before at within.1 in
                    let end = one.2 in
                    let covered = within.1 in
                    let lt : offset < end_of openings.frames one.0 = omega (arith, end, covered) in
                    whole h one.0 one.1 (room one.0)
                    (λ j. to_left j (word_at pass.types words one.0 j) (flow j one.0 lt) (asked j one.0 lt))
                    (λ flag. with_this one.0 lt (rest.flag flag) (has_this_at words one.0) refl)
              ]
            where
              asked : (j place : ℕ) → offset < end_of openings.frames place → Asked j (word_at pass.types words place j)
              asked j place lt o e held = (subst (λ x. ObjectFlows pass.types words openings offset f x) e rest.object) j held place lt

              with_this : (place : ℕ) → offset < end_of openings.frames place → openings.end_without_this ≤ offset → (b : Bool) → has_this_at words place ≡ b → b ≡ true
              with_this place lt done true e = refl
              with_this place lt done false e = absurd (let end = ok.without_this place e in omega (arith, end, lt, done))

      pub rest_is : (flow : Bool) → AllBegun openings offset → AllFlow pass.types words openings.frames offset f.locals
          → IsTrue flow ↔ RestFlows pass.types words openings offset f object → flow ≡ handlers_hold env (maps_of pass) offset insn (frame_of (names_in pass) f)
      rest_is true begun all is_rest = sym (hold_all begun all (is_rest.0 refl))
      rest_is false begun all is_rest = by_hold (handlers_hold env (maps_of pass) offset insn (frame_of (names_in pass) f)) refl
        where
          by_hold : (b : Bool) → handlers_hold env (maps_of pass) offset insn (frame_of (names_in pass) f) ≡ b → false ≡ b
          by_hold false e = refl
          by_hold true e = absurd (clash (sym (is_rest.1 (rest_of e))))

    -- where all local variables don't flow to the frame at which a handler begins, what it begins with doesn't
    pub locals_not : (h : Handler) (place : ℕ) (l : LeadsTo pass h place) → length (words_at words place) ≤ length f.locals
        → false ≡ locals_flow_to pass.types f None l.map → handles env (maps_of pass) (handler_frame env insn (frame_of (names_in pass) f)) h ≡ false
    locals_not h place l room refused = by_test (test h) refl
      where
        by_test : (b : Bool) → test h ≡ b → b ≡ false
        by_test false e = refl
        by_test true e =
            absurd (clash (sym (all_at world (typed_all (names_in pass) f.locals) (expanded_entries pass.types (length f.locals) l.map.locals)
            (length-map f.locals (typed (names_in pass)) ∙ sym (many pass.types words place l.map (frame_at_place h place l) (length f.locals) room))
            (λ k. ap (λ s. flows world s (get_or (expanded_entries pass.types (length f.locals) l.map.locals) k variants.Top)) (local_is pass.types f.locals k)
            ∙ (ap (flows world (local_at pass.types f.locals k)) (word_is pass.types words place l.map (frame_at_place h place l) (length f.locals) k)
            ∙ to_local k (word_at pass.types words place k) ((parts h place l room e).0 k)))) ∙ sym refused))

-- what a handler catches doesn't flow to the stack there
module _ (pass : Pass) (entries : List Item) (count : ℕ) (kept : IsPass pass entries count) (env : Environment) (is : IsOfPass pass env) where
  pub stack_not : (insn : Instruction) (frame : Frame) (h : Handler) (m : ReadFrame) (thrown : Item) → Some (typed (names_in pass) thrown) ≡ catch_type env h.catch_type
      → Some (frame_by_types pass.types pass.max_locals m) ≡ frame_at (maps_of pass) h.handler_pc
      → false ≡ stack_flows_to pass.types (typed (names_in pass) thrown ∷ []) m → handles env (maps_of pass) (handler_frame env insn frame) h ≡ false
  stack_not insn frame h m thrown catches at refused =
      sym (handles_is pass entries count kept env is insn frame h (typed (names_in pass) thrown) catches)
      ∙ (sym (ap (flows_into env (with_stack (handler_frame env insn frame) (typed (names_in pass) thrown ∷ []))) at)
      ∙ (ap (λ (w : World). frame_flows w (with_stack (handler_frame env insn frame) (typed (names_in pass) thrown ∷ [])) (frame_by_types pass.types pass.max_locals m))
      (world_is pass entries count kept env is)
      ∙ (ap (λ b. all_flow (flows (world_of_types pass.types)) (handler_frame env insn frame).locals (expanded_entries pass.types pass.max_locals m.locals)
      && b && (not frame.flag_this_uninit || has_uninitialized_this pass.types m)) (sym refused)
      ∙ middle (all_flow (flows (world_of_types pass.types)) (handler_frame env insn frame).locals (expanded_entries pass.types pass.max_locals m.locals))
      (not frame.flag_this_uninit || has_uninitialized_this pass.types m))))
    where
      middle : (a b : Bool) → (a && false && b) ≡ false
      middle true b = refl
      middle false b = refl
