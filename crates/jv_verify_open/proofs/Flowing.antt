-- Local variables against what is wanted of them, and against the frames that are open.
use Rattle.std.proofs.Common.{◌≡◌, inl, inr, ℕ, ◌+◌, ◌*◌, ◌/◌, ◌<◌, ◌≤◌, Bool, true, false, List, length, get_or, max, replicate, set, refl, sym, ap, subst, ◌∙◌, arith}
use Rattle.std.proofs.Common.{suc, ◌||◌, ◌==◌, [], ◌∷◌}
use Rattle.std.specs.Prelude.{◌↔◌, IsTrue, slice_get, Option, Some, None, Result, Ok, Err, IfOk, OnOk, unwrap_or}
use Rattle.std.specs.List.{list_any}
use Rattle.std.specs.Option.{option_map}
use Rattle.std.proofs.lemmas.Bool.{cases_lt, eqb-true}
use Rattle.std.proofs.lemmas.Grind.{get_or-set_at}
use Rattle.std.proofs.lemmas.List.{get_or_past, get_or-set_other, get_or-replicate, length-replicate}
use Rattle.std.proofs.lemmas.Option.{get_or_from_slice_get, slice_get-get_or, slice_get-map, slice_get_past, slice_get_within}
use Rattle.jv_stackmap.specs.declared.verification.VerificationTypeOf.TheVariants as variants
use Rattle.jv_stackmap.specs.Types.{FrameType}
use Rattle.jv_meaning_world.specs.Flow.{flows}
use Rattle.jv_meaning_typing.specs.FrameChanges.{is_same_object}
use Rattle.jv_verify_types.specs.Typed.{typed, typed_all}
use Rattle.jv_verify_types.specs.Numbered.{Item}
use Rattle.jv_verify_types.specs.Mapped.{EntryTypes, names_of_types, world_of_types}
use Rattle.jv_verify_frame.specs.Inside.Noted.{is_among, is_in_local}
use Rattle.jv_verify_peaks.specs.Stretches.{AreAtMost}
use Rattle.jv_verify_maps.specs.Words.{MapWords}
use Rattle.jv_verify_known.specs.Known.{KnownLocals, local_at, number_at, word_at}
use Rattle.jv_verify_wants.specs.Wanted.{FlowsToWanted, IsAmong, IsWanted, wanted_at}
use Rattle.jv_verify_wants.specs.Inside.Allowed.{AreAllowed}
use Rattle.jv_verify_open.specs.Open.{end_of, holds, AllFlow, AreOpenAsBefore, AreWanting, FlowsToOpen, HaveFlowed, HaveRoom, IsTopOrWanted, OpenFrames}
use Rattle.jv_verify_open.specs.Inside.Finding.{BlockFlows}
use Rattle.jv_verify_open.proofs.Words.{same_or, word_behind}

module _ (types : EntryTypes) (map : MapWords) (offset : ℕ) where
  -- ---- what is wanted of a local variable whose block was found

  module _ (frames : OpenFrames) (wanting : AreWanting types map frames offset) (k : ℕ) (item : Item) where
    flows_at : (place : ℕ) → FlowsToWanted types.constants.types item frames.wants k offset
        → IsTopOrWanted types frames.wants k (word_at types map place k) offset
        → flows (world_of_types types) (typed (names_of_types types) item) (word_at types map place k) ≡ true
    flows_at place flow (inl top) = subst (λ t. flows (world_of_types types) (typed (names_of_types types) item) t ≡ true) (sym top) refl
    flows_at place flow (inr one) = subst (λ t. flows (world_of_types types) (typed (names_of_types types) item) t ≡ true) one.1 (flow one.0 one.2)

    pub to_open : k < 65535 → get_or frames.found (k / 16) 0 ≡ frames.opens → ((place : ℕ) → get_or frames.opened place 0 ≤ frames.opens)
        → FlowsToWanted types.constants.types item frames.wants k offset → FlowsToOpen types map frames offset k (typed (names_of_types types) item)
    to_open small found before flow place lt =
        flows_at place flow
        (wanting.wanted place k offset small (subst (λ n. get_or frames.opened place 0 ≤ n) (sym found) (before place)) (omega arith) lt)

    pub to_wanted : FlowsToOpen types map frames offset k (typed (names_of_types types) item) → FlowsToWanted types.constants.types item frames.wants k offset
    to_wanted flow other wanted =
        let there = wanting.only k offset other (omega arith) wanted in
        subst (λ t. flows (world_of_types types) (typed (names_of_types types) item) t ≡ true) there.2 (flow there.0 there.1)

  -- ---- the same frames are open

  pub still_flows : (old new : OpenFrames) (k : ℕ) (t : FrameType) → AreOpenAsBefore old new → FlowsToOpen types map old offset k t → FlowsToOpen types map new offset k t
  still_flows old new k t same flow place lt = flow place (subst (λ es. offset < get_or es place 0) same.ends lt)

  pub flowed_before : (old new : OpenFrames) (k : ℕ) (t : FrameType) → AreOpenAsBefore old new → FlowsToOpen types map new offset k t → FlowsToOpen types map old offset k t
  flowed_before old new k t same flow place lt = flow place (subst (λ es. offset < get_or es place 0) (sym same.ends) lt)

  -- ---- local variables

  pub local_is : (locals : List Item) (k : ℕ) (item : Item) → slice_get locals k ≡ Some item → typed (names_of_types types) item ≡ local_at types locals k
  local_is locals k item e = sym (ap (typed (names_of_types types)) (get_or_from_slice_get locals k item variants.Top e))

  module _ (frames : OpenFrames) (locals : List Item) where
    -- behind the last there are tops, and no frame has words there
    behind : (k : ℕ) → HaveRoom map (length locals) → length locals ≤ k → FlowsToOpen types map frames offset k (local_at types locals k)
    behind k room past place lt =
        subst (λ t. flows (world_of_types types) (local_at types locals k) t ≡ true)
        (sym (word_behind types map place k (let few = room place in omega (arith, few, past)))) refl

    pub all_blocks : (known : KnownLocals) (from : ℕ) → HaveRoom map (length locals) → known.words ≡ map → HaveFlowed types known frames offset locals
        → ((block : ℕ) → block < from → frames.handled < get_or known.writes.numbers block 0 → BlockFlows types map frames offset locals block)
        → ((block : ℕ) → from ≤ block → get_or known.writes.numbers block 0 ≤ frames.handled) → AllFlow types map frames offset locals
    all_blocks known from room words flowed asked rest k =
        elim (cases_lt k (length locals)) [
          | inr past ↦ behind k room past
          | inl within ↦
              elim (cases_lt frames.handled (number_at known.writes k)) [
                | inr low ↦ subst (λ m. FlowsToOpen types m frames offset k (local_at types locals k)) words (flowed k low)
                | inl above ↦
                    elim (cases_lt (k / 16) from) [
                      | inl before ↦ asked (k / 16) before above k refl within
                      | inr after ↦ let most = rest (k / 16) after in absurd (omega (arith, most, above))
                    ]
              ]
        ]

  -- ---- a frame is opened

  module _ (old new : OpenFrames) (place end : ℕ) (lt : place < length old.ends) (many : length old.opened ≡ length old.ends)
      (ends : new.ends ≡ set old.ends place (max (end_of old place) end)) (opened : new.opened ≡ set old.opened place (max (get_or old.opened place 0) (old.opens + 1)))
      (found : new.found ≡ old.found) (wants : new.wants ≡ old.wants) where
    ends_later : (at : ℕ) → end_of old at ≤ end_of new at
    ends_later at =
        elim (same_or at place) [
          | inl here ↦
              let is = ap (λ es. get_or es at 0) ends in
              let there = get_or-set_at old.ends place at (max (end_of old place) end) 0 here lt in
              let same : end_of old at ≡ end_of old place = ap (end_of old) here in omega (arith, is, there, same)
          | inr other ↦
              let is = ap (λ es. get_or es at 0) ends in
              let there = get_or-set_other old.ends place at (max (end_of old place) end) 0 other in omega (arith, is, there)
        ]

    pub opened_more : ((k : ℕ) → get_or old.found k 0 ≤ old.opens) → AreWanting types map old offset → AreWanting types map new offset
    opened_more few wanting = record {
      wanted = λ at k later small low after before.
          elim (same_or at place) [
            | inl here ↦
                let is = ap (λ os. get_or os at 0) opened in
                let there = get_or-set_at old.opened place at (max (get_or old.opened place 0) (old.opens + 1)) 0 here (omega (arith, many, lt)) in
                let bound = subst (λ fs. get_or new.opened at 0 ≤ get_or fs (k / 16) 0) found low in
                let most = few (k / 16) in absurd (omega (arith, is, there, bound, most))
            | inr other ↦
                let is = ap (λ os. get_or os at 0) opened ∙ get_or-set_other old.opened place at (max (get_or old.opened place 0) (old.opens + 1)) 0 other in
                let end_is = ap (λ es. get_or es at 0) ends ∙ get_or-set_other old.ends place at (max (end_of old place) end) 0 other in
                subst (λ ws. IsTopOrWanted types ws k (word_at types map at k) later) (sym wants)
                (wanting.wanted at k later small
                (subst (λ fs. get_or old.opened at 0 ≤ get_or fs (k / 16) 0) found (subst (λ n. n ≤ get_or new.found (k / 16) 0) is low)) after
                (omega (arith, end_is, before)))
          ];
      only = λ k later item after wanted.
          let there = wanting.only k later item after (subst (λ ws. IsWanted ws k item later) wants wanted) in
          let before = there.1 in
          let more = ends_later there.0 in (there.0, omega (arith, before, more), there.2);
      allowed = subst (λ ws. AreAllowed types.constants.types offset ws) (sym wants) wanting.allowed;
    }

  pub none_wanting : (frames : OpenFrames) (n : ℕ) → frames.ends ≡ replicate n 0 → ((k : ℕ) (item : Item) (later : ℕ) → ¬ IsWanted frames.wants k item later)
      → AreAllowed types.constants.types offset frames.wants → AreWanting types map frames offset
  none_wanting frames n ends none allowed = record {
    wanted = λ at k later small low after before. absurd (none_before at later (subst (λ es. later < get_or es at 0) ends before));
    only = λ k later item after wanted. absurd (none k item later wanted);
    allowed = allowed;
  }
    where
      none_before : (at later : ℕ) → later < get_or (replicate n 0) at 0 → ⊥
      none_before at later lt =
          elim (cases_lt at n) [
            | inl within ↦ let is = get_or-replicate {A = ℕ} n at 0 0 within in omega (arith, lt, is)
            | inr past ↦ let is = get_or_past {X = ℕ} (replicate n 0) at 0 (let many = length-replicate {A = ℕ} n 0 in omega (arith, many, past)) in omega (arith, lt, is)
          ]

  -- what is asked is remembered, and nothing else is wanted
  pub asked_wanting : (old new : OpenFrames) → AreWanting types map old offset → new.ends ≡ old.ends → new.opened ≡ old.opened → new.found ≡ old.found
      → ((k : ℕ) → wanted_at new.wants k ≡ wanted_at old.wants k) → AreAllowed types.constants.types offset new.wants → AreWanting types map new offset
  asked_wanting old new wanting ends opened found wants allowed = record {
    wanted = λ at k later small low after before.
        let numbers = ap (λ fs. get_or fs (k / 16) 0) found in
        let openings = ap (λ os. get_or os at 0) opened in
        elim (wanting.wanted at k later small (omega (arith, low, numbers, openings)) after (subst (λ es. later < get_or es at 0) ends before)) [
          | inl top ↦ inl top
          | inr one ↦ inr (one.0, one.1, subst (λ ws. IsAmong ws one.0 later) (sym (wants k)) one.2)
        ];
    only = λ k later item after h.
        let there = wanting.only k later item after (subst (λ ws. IsAmong ws item later) (wants k) h) in
        (there.0, subst (λ es. later < get_or es there.0 0) (sym ends) there.1, there.2);
    allowed = allowed;
  }

pub on_ok : {A E : Type 0} {X : Type 0} (r : Result A E) → X → OnOk r X
on_ok (Ok a) x = x
on_ok (Err e) x = tt

pub if_ok : {A E : Type 0} {P Q : A → Type 0} (r : Result A E) → ((a : A) → P a → Q a) → IfOk r P → IfOk r Q
if_ok (Ok a) f h = f a h
if_ok (Err e) f h = tt

-- the same frames are open
pub same_again : (one two three : OpenFrames) → AreOpenAsBefore one two → AreOpenAsBefore two three → AreOpenAsBefore one three
same_again one two three e f = record {
  ends = f.ends ∙ e.ends;
  opened = f.opened ∙ e.opened;
  opens = f.opens ∙ e.opens;
  handled = f.handled ∙ e.handled;
}

pub same_view : (view now : OpenFrames) → view ≡ now → AreOpenAsBefore now view
same_view view now e = record {
  ends = ap (λ (o : OpenFrames). o.ends) e;
  opened = ap (λ (o : OpenFrames). o.opened) e;
  opens = ap (λ (o : OpenFrames). o.opens) e;
  handled = ap (λ (o : OpenFrames). o.handled) e;
}

-- a local variable that is there, or not
module _ (types : EntryTypes) (map : MapWords) (offset : ℕ) (now : OpenFrames) (locals : List Item) where
  pub some_flows : (k : ℕ) (item : Item) (b : Bool) → slice_get locals k ≡ Some item → IsTrue b ↔ FlowsToOpen types map now offset k (typed (names_of_types types) item)
      → IsTrue b ↔ (k < length locals → FlowsToOpen types map now offset k (local_at types locals k))
  some_flows k item b at h =
      let is = local_is types map offset locals k item at in (
        λ t within. subst (λ x. FlowsToOpen types map now offset k x) is (h.0 t),
        λ f. h.1 (subst (λ x. FlowsToOpen types map now offset k x) (sym is) (f (slice_get_within locals k item at))),
      )

  pub none_flows : (k : ℕ) → slice_get locals k ≡ None → IsTrue true ↔ (k < length locals → FlowsToOpen types map now offset k (local_at types locals k))
  none_flows k at = (λ t within. absurd (none_some (sym at ∙ slice_get-get_or locals k variants.Top within)), λ f. refl)
    where
      none_some : {x : Item} → None ≡ Some x → ⊥
      none_some e = cc

  pub one_more_flows : (block local k : ℕ) (other : OpenFrames) (b : Bool) → AreOpenAsBefore now other
      → ((j : ℕ) → block * 16 ≤ j → j < local → j < length locals → FlowsToOpen types map now offset j (local_at types locals j)) → b ≡ true
      → IsTrue b ↔ (local < length locals → FlowsToOpen types map other offset local (local_at types locals local)) → block * 16 ≤ k → k < local + 1 → k < length locals
      → FlowsToOpen types map now offset k (local_at types locals k)
  one_more_flows block local k other b same so_far holding here low high within =
      elim (cases_lt k local) [
        | inl before ↦ so_far k low before within
        | inr past ↦
            let at : local ≡ k = omega (arith, high, past) in
            subst (λ j. FlowsToOpen types map now offset j (local_at types locals j)) at
            (flowed_before types map offset now other local (local_at types locals local) same (here.0 holding (omega (arith, at, within))))
      ]

  pub one_more_block : (numbers : List ℕ) (handled from written k : ℕ) (other : OpenFrames) (b : Bool) → AreOpenAsBefore now other
      → ((j : ℕ) → j < from → handled < get_or numbers j 0 → BlockFlows types map now offset locals j) → AreAtMost handled from written numbers
      → BlockFlows types map other offset locals written → k < written + 1 → handled < get_or numbers k 0 → BlockFlows types map now offset locals k
  one_more_block numbers handled from written k other b same so_far between here before above =
      elim (cases_lt k from) [
        | inl less ↦ so_far k less above
        | inr past ↦
            elim (cases_lt k written) [
              | inl less ↦ let low = between k past less in absurd (omega (arith, low, above))
              | inr at ↦
                  let is : written ≡ k = omega (arith, at, before) in
                  subst (λ j. BlockFlows types map now offset locals j) is
                  (λ j in_block within. flowed_before types map offset now other j (local_at types locals j) same (here j in_block within))
            ]
      ]

-- ---- an object

pub holds_is : (names : List (List ℕ)) (object : Item) (locals : List Item) (k : ℕ)
    → is_in_local (typed names object) (typed_all names locals) k ≡ holds names object locals k
holds_is names object locals k =
    ap (λ o. unwrap_or (option_map (is_same_object (typed names object)) o) false) (slice_get-map (typed names) locals k) ∙ by_item (slice_get locals k)
  where
    by_item : (o : Option Item) → unwrap_or (option_map (is_same_object (typed names object)) (option_map (typed names) o)) false
        ≡ unwrap_or (option_map (λ local. is_same_object (typed names object) (typed names local)) o) false
    by_item None = refl
    by_item (Some item) = refl

pub holds_within : (names : List (List ℕ)) (object : Item) (locals : List Item) (k : ℕ) → holds names object locals k ≡ true → k < length locals
holds_within names object locals k e =
    elim (cases_lt k (length locals)) [
      | inl less ↦ less
      | inr past ↦
          absurd (clash (sym (ap (λ o. unwrap_or (option_map (λ local. is_same_object (typed names object) (typed names local)) o) false) (slice_get_past locals k past)) ∙ e))
    ]
  where
    clash : false ≡ true → ⊥
    clash x = cc

abbrev IsAt : List ℕ → ℕ → Type 0
IsAt places k = (j : ℕ) × (j < length places) × (get_or places j 0 ≡ k)

among : (places : List ℕ) (k : ℕ) → is_among places k ≡ true → IsAt places k
among [] k e = absurd cc
among (place ∷ places) k e = by_first (place == k) refl e (among places k)
  where
    by_first : (b : Bool) → (place == k) ≡ b → (b || list_any (λ p. p == k) places) ≡ true → (is_among places k ≡ true → IsAt places k) → IsAt (place ∷ places) k
    by_first true f h more = (0, omega arith, eqb-true place k f)
    by_first false f h more = let rest = more h in let less = rest.1 in (suc rest.0, omega (arith, less), rest.2)

module _ (types : EntryTypes) (map : MapWords) (offset : ℕ) (now : OpenFrames) (object : Item) (locals : List Item) (places : List ℕ) where
  pub all_copies : ((names : List (List ℕ)) (k : ℕ) → is_among places k ≡ false → is_in_local (typed names object) (typed_all names locals) k ≡ false)
      → ((j : ℕ) → j < length places → holds (names_of_types types) object locals (get_or places j 0) ≡ true
      → FlowsToOpen types map now offset (get_or places j 0) variants.Top)
      → (k : ℕ) → holds (names_of_types types) object locals k ≡ true → FlowsToOpen types map now offset k variants.Top
  all_copies none each k held = by_among (is_among places k) refl
    where
      clash : false ≡ true → ⊥
      clash x = cc

      by_among : (b : Bool) → is_among places k ≡ b → FlowsToOpen types map now offset k variants.Top
      by_among true e =
          let at = among places k e in
          subst (λ j. FlowsToOpen types map now offset j variants.Top) at.2 (each at.0 at.1 (ap (holds (names_of_types types) object locals) at.2 ∙ held))
      by_among false e = absurd (clash (sym (none (names_of_types types) k e) ∙ (holds_is (names_of_types types) object locals k ∙ held)))

  pub one_more_copy : (n place : ℕ) (other : OpenFrames) (b : Bool) → AreOpenAsBefore now other → place ≡ get_or places n 0
      → ((j : ℕ) → j < n → holds (names_of_types types) object locals (get_or places j 0) ≡ true → FlowsToOpen types map now offset (get_or places j 0) variants.Top)
      → b ≡ true → IsTrue b ↔ (holds (names_of_types types) object locals place ≡ true → FlowsToOpen types map other offset place variants.Top) → (j : ℕ) → j < n + 1
      → holds (names_of_types types) object locals (get_or places j 0) ≡ true → FlowsToOpen types map now offset (get_or places j 0) variants.Top
  one_more_copy n place other b same at so_far holding here j before held =
      elim (cases_lt j n) [
        | inl less ↦ so_far j less held
        | inr past ↦
            let is : j ≡ n = omega (arith, before, past) in
            let there : place ≡ get_or places j 0 = at ∙ ap (λ i. get_or places i 0) (sym is) in
            subst (λ p. FlowsToOpen types map now offset p variants.Top) there
            (flowed_before types map offset now other place variants.Top same (here.0 holding (ap (holds (names_of_types types) object locals) there ∙ held)))
      ]
