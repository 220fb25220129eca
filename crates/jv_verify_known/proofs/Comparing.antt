-- Local variables that are compared with words of a frame of the stack map, one stretch after another.
use Rattle.std.proofs.Common.{◌≡◌, inl, inr, ℕ, ◌+◌, ◌-◌, ◌*◌, ◌/◌, ◌<◌, ◌≤◌, max, min, Bool, true, false, List, drop, take, reverse, length, get_or, set, Some, sym, ap, ◌∙◌, subst, arith}
use Rattle.std.specs.Prelude.{IsTrue, slice_get}
use Rattle.std.proofs.lemmas.Bool.{cases_lt}
use Rattle.std.proofs.lemmas.List.{get_or-take}
use Rattle.std.proofs.lemmas.Option.{get_or_from_slice_get}
use Rattle.jv_stackmap.specs.declared.entry.FrameEntry.{FrameEntry}
use Rattle.jv_stackmap.specs.declared.entry.FrameEntry.TheVariants as entries
use Rattle.jv_stackmap.specs.declared.verification.VerificationTypeOf.TheVariants as variants
use Rattle.jv_meaning_world.specs.Flow.{flows}
use Rattle.jv_meaning_world.specs.FrameFlow.{all_flow}
use Rattle.jv_stackmap.specs.Entries.{ReadFrame}
use Rattle.jv_verify_types.specs.Typed.{typed, typed_all}
use Rattle.jv_verify_types.specs.Numbered.{Item}
use Rattle.jv_verify_types.specs.Mapped.{EntryTypes, expanded_entries, names_of_types, type_of_entry, world_of_types}
use Rattle.jv_verify_peaks.specs.Stretches.{AreAtMost, IsGreatest}
use Rattle.jv_verify_maps.specs.Words.{MapWords, Agree, words_at}
use Rattle.jv_verify_known.specs.Known.{Writes, KnownLocals, number_at, local_at, word_at, with_next, with_writes, FlowsAt, IsFrameAt, IsKnown}
use Rattle.jv_verify_known.specs.Inside.Flowing.{FlowBetween, FlowToStretch, FlowWhereWritten, OneFlowsNot, OneFlowsNotToStretch}
use Rattle.jv_verify_known.proofs.Beside.{known_stamped, stays_asked}
use Rattle.jv_verify_known.proofs.Making.{word_in}
use Rattle.jv_verify_known.proofs.Words.{all_flow_is, no_room, word_past}

-- ---- a stretch

module _ (types : EntryTypes) (locals : List Item) (stretch : List FrameEntry) where
  flow_at : (k to : ℕ) (local : Item) (flow : Bool) → slice_get locals k ≡ Some local
      → flow ≡ flows (world_of_types types) (typed (names_of_types types) local) (type_of_entry types (get_or stretch (to - 1 - k) entries.Top))
      → flows (world_of_types types) (local_at types locals k) (type_of_entry types (get_or stretch (to - 1 - k) entries.Top)) ≡ flow
  flow_at k to local flow there found =
      ap (λ t. flows (world_of_types types) (typed (names_of_types types) t) (type_of_entry types (get_or stretch (to - 1 - k) entries.Top)))
      (get_or_from_slice_get locals k local variants.Top there)
      ∙ sym found

  pub stretch_more : (below at to : ℕ) (local : Item) (flow : Bool) → at ≡ below + 1 → slice_get locals below ≡ Some local
      → flow ≡ flows (world_of_types types) (typed (names_of_types types) local) (type_of_entry types (get_or stretch (to - 1 - below) entries.Top))
      → flow ≡ true → FlowToStretch types locals stretch at to → FlowToStretch types locals stretch below to
  stretch_more below at to local flow next there found flow_is all k least less = elim (cases_lt k at) [
    | inr more ↦ all k more less
    | inl low ↦
        let same : below ≡ k = omega (arith, next, least, low) in
        subst (λ n. flows (world_of_types types) (local_at types locals n) (type_of_entry types (get_or stretch (to - 1 - n) entries.Top)) ≡ true) same
        (flow_at below to local flow there found ∙ flow_is)
  ]

  pub stretch_not : (below to : ℕ) (local : Item) (flow : Bool) (from : ℕ) → from ≤ below → below < to → slice_get locals below ≡ Some local
      → flow ≡ flows (world_of_types types) (typed (names_of_types types) local) (type_of_entry types (get_or stretch (to - 1 - below) entries.Top))
      → flow ≡ false → OneFlowsNotToStretch types locals stretch from to
  stretch_not below to local flow from least less there found flow_is = (below, least, less, flow_at below to local flow there found ∙ flow_is)

-- ---- words of a frame

module _ (types : EntryTypes) (words : MapWords) (locals : List Item) (place : ℕ) where
  module _ (stretch : List FrameEntry) (first end at : ℕ) (is : reverse stretch ≡ drop first (take at (words_at words place))) (many : at ≤ length (words_at words place))
      (low : first ≤ end) where
    word_of : (k : ℕ) → end ≤ k → k < at → type_of_entry types (get_or stretch (at - 1 - k) entries.Top) ≡ word_at types words place k
    word_of k least less = ap (type_of_entry types) (word_in stretch (words_at words place) first at k is many (omega (arith, low, least)) less)

    pub words_more : (to : ℕ) → FlowToStretch types locals stretch end at → FlowBetween types words locals place at to → FlowBetween types words locals place end to
    words_more to flow all k least less = elim (cases_lt k at) [
      | inl under ↦ sym (ap (flows (world_of_types types) (local_at types locals k)) (word_of k least under)) ∙ flow k least under
      | inr over ↦ all k over less
    ]

    pub words_not : OneFlowsNotToStretch types locals stretch end at → OneFlowsNot types words locals place
    words_not one = (one.0, sym (ap (flows (world_of_types types) (local_at types locals one.0)) (word_of one.0 one.1 one.2)) ∙ one.3)

  -- ---- where they were written

  module _ (writes : Writes) (since from to : ℕ) where
    pub written_none : (block end : ℕ)
        → ((k : ℕ) → from ≤ k → k < to → k < block * 16 → since < number_at writes k → FlowsAt types words locals place k)
        → AreAtMost since block end writes.numbers → to ≤ end * 16 → FlowWhereWritten types words writes locals place since from to
    written_none block end done rest enough = λ k least less above. elim (cases_lt k (block * 16)) [
      | inl low ↦ done k least less low above
      | inr high ↦ let most = rest (k / 16) (omega (arith, high)) (omega (arith, less, enough)) in absurd (omega (arith, most, above))
    ]

    pub written_more : (block found first last : ℕ)
        → ((k : ℕ) → from ≤ k → k < to → k < block * 16 → since < number_at writes k → FlowsAt types words locals place k)
        → AreAtMost since block found writes.numbers → first ≡ max (found * 16) from → last ≡ min (found * 16 + 16) to
        → FlowBetween types words locals place first last
        → (k : ℕ) → from ≤ k → k < to → k < (found + 1) * 16 → since < number_at writes k → FlowsAt types words locals place k
    written_more block found first last done rest first_is last_is all k least less low above = elim (cases_lt k (block * 16)) [
      | inl early ↦ done k least less early above
      | inr late ↦ elim (cases_lt k (found * 16)) [
        | inl under ↦ let most = rest (k / 16) (omega (arith, late)) (omega (arith, under)) in absurd (omega (arith, most, above))
        | inr over ↦ all k (omega (arith, first_is, over, least)) (omega (arith, last_is, low, less))
      ]
    ]

-- ---- what flowed before

pub flows_as_agreed : (types : EntryTypes) (words : MapWords) (locals : List Item) (place other to k : ℕ) → Agree words other place to → k < to
    → FlowsAt types words locals other k → FlowsAt types words locals place k
flows_as_agreed types words locals place other to k agree less flow =
    sym (ap (λ e. flows (world_of_types types) (local_at types locals k) (type_of_entry types e)) (sym (get_or-take to (words_at words other) k entries.Top less)
    ∙ (ap (λ ws. get_or ws k entries.Top) agree ∙ get_or-take to (words_at words place) k entries.Top less)))
    ∙ flow

piece_flowed : (known : KnownLocals) (place first last to since : ℕ) → ((k : ℕ) → first ≤ k → k ≤ last → Agree known.words k place to)
    → IsGreatest first (last + 1) known.stamps since → ((block : ℕ) → block < length known.writes.numbers → 0 < get_or known.writes.numbers block 0)
    → to ≤ length known.writes.numbers * 16
    → (types : EntryTypes) (locals : List Item) → IsKnown types known locals
    → (k : ℕ) → k < to → number_at known.writes k ≤ since → FlowsAt types known.words locals place k
piece_flowed known place first last to since agree greatest some blocks types locals is k less least = elim greatest.reached [
  | inl never ↦ let number = some (k / 16) (omega (arith, less, blocks)) in absurd (omega (arith, number, never, least))
  | inr h ↦
      let stamp : get_or known.stamps h.0 0 ≡ since = h.3 in
      let number = some (k / 16) (omega (arith, less, blocks)) in
      let before = h.2 in
      flows_as_agreed types known.words locals place h.0 to k (agree h.0 h.1 (omega (arith, before))) less
      (is.flowed h.0 (omega (arith, stamp, number, least)) k (omega (arith, stamp, least)))
]

pub piece_shown : (known now : KnownLocals) → known ≡ now → (place first last to since : ℕ) → ((k : ℕ) → first ≤ k → k ≤ last → Agree known.words k place to)
    → IsGreatest first (last + 1) known.stamps since → ((block : ℕ) → block < length known.writes.numbers → 0 < get_or known.writes.numbers block 0)
    → to ≤ length now.writes.numbers * 16
    → (types : EntryTypes) (locals : List Item) → IsKnown types now locals
    → (k : ℕ) → k < to → number_at now.writes k ≤ since → FlowsAt types now.words locals place k
piece_shown known now view place first last to since agree greatest some blocks =
    subst (λ (n : KnownLocals). (types : EntryTypes) (locals : List Item) → IsKnown types n locals
    → (k : ℕ) → k < to → number_at n.writes k ≤ since → FlowsAt types n.words locals place k) view
    (piece_flowed known place first last to since agree greatest some
    (subst (λ (n : KnownLocals). to ≤ length n.writes.numbers * 16) (sym view) blocks))

-- pieces, one below the other
pub pieces_more : (types : EntryTypes) (words : MapWords) (writes : Writes) (locals : List Item) (place since from to count : ℕ)
    → ((k : ℕ) → k < to → number_at writes k ≤ since → FlowsAt types words locals place k)
    → FlowWhereWritten types words writes locals place since from to → FlowBetween types words locals place to count → FlowBetween types words locals place from count
pieces_more types words writes locals place since from to count flowed written all k least less = elim (cases_lt k to) [
  | inr high ↦ all k high less
  | inl low ↦ elim (cases_lt since (number_at writes k)) [
    | inl above ↦ written k least low above
    | inr kept ↦ flowed k low kept
  ]
]

-- all flow where the words of the frame do
pub all_flow_at : (types : EntryTypes) (words : MapWords) (locals : List Item) (place count : ℕ) → count ≡ length (words_at words place)
    → FlowBetween types words locals place 0 count → (k : ℕ) → FlowsAt types words locals place k
all_flow_at types words locals place count is all k = elim (cases_lt k count) [
  | inl less ↦ all k (omega arith) less
  | inr past ↦ ap (flows (world_of_types types) (local_at types locals k)) (word_past types words place k (omega (arith, is, past)))
]

-- ---- as methods show it: what is inside is what is known

module _ (known now : KnownLocals) (view : known ≡ now) (types : EntryTypes) (locals : List Item) (place : ℕ) where
  pub pieces_again : (since from to count : ℕ) → ((k : ℕ) → k < to → number_at now.writes k ≤ since → FlowsAt types now.words locals place k)
      → FlowWhereWritten types known.words known.writes locals place since from to → FlowBetween types now.words locals place to count
      → FlowBetween types now.words locals place from count
  pieces_again since from to count flowed written all =
      pieces_more types now.words now.writes locals place since from to count flowed
      (subst (λ (k : KnownLocals). FlowWhereWritten types k.words k.writes locals place since from to) view written) all

  pub flows_none : length locals < length (words_at known.words place) → (map : ReadFrame) → IsFrameAt types now.words place map
      → false ≡ all_flow (flows (world_of_types types)) (typed_all (names_of_types types) locals) (expanded_entries types (length locals) map.locals)
  flows_none few map at = no_room types now.words place map at locals (subst (λ (k : KnownLocals). length locals < length (words_at k.words place)) view few)

  pub flows_all : (flow : Bool) (count : ℕ) → count ≡ length (words_at known.words place) → count ≤ length locals
      → (IsTrue flow → FlowBetween types known.words locals place 0 count) → (flow ≡ false → OneFlowsNot types known.words locals place)
      → (map : ReadFrame) → IsFrameAt types now.words place map
      → flow ≡ all_flow (flows (world_of_types types)) (typed_all (names_of_types types) locals) (expanded_entries types (length locals) map.locals)
  flows_all flow count is room all one =
      subst (λ (n : KnownLocals). (map : ReadFrame) → IsFrameAt types n.words place map
      → flow ≡ all_flow (flows (world_of_types types)) (typed_all (names_of_types types) locals) (expanded_entries types (length locals) map.locals)) view
      (λ map at. all_flow_is types known.words place map at locals flow (omega (arith, is, room))
      (λ yes_it. subst (λ n. FlowBetween types known.words locals place 0 n) is (all yes_it)) one)

pub all_flow_now : (known now : KnownLocals) → known ≡ now → (types : EntryTypes) (locals : List Item) (place count : ℕ) → count ≡ length (words_at known.words place)
    → FlowBetween types known.words locals place 0 count → (k : ℕ) → FlowsAt types now.words locals place k
all_flow_now known now view types locals place count is all k =
    subst (λ (n : KnownLocals). FlowsAt types n.words locals place k) view (all_flow_at types known.words locals place count is all k)

-- where all flow, the frame is asked from then on
pub stamped_again : (known asked other : KnownLocals) (types : EntryTypes) (locals : List Item) (place stamp count : ℕ) (stamps : List ℕ)
    → asked ≡ with_writes (with_next asked.writes.next known.writes) known → other ≡ asked → IsKnown types known locals
    → count ≡ length (words_at known.words place) → FlowBetween types known.words locals place 0 count → stamps ≡ set other.stamps place stamp
    → IsKnown types (record other { stamps = stamps }) locals
stamped_again known asked other types locals place stamp count stamps next_is same is count_is all stamps_are =
    subst (λ (ss : List ℕ). IsKnown types (record other { stamps = ss }) locals) (sym stamps_are)
    (known_stamped types other locals place stamp
    (subst (λ (k : KnownLocals). IsKnown types k locals) (sym (same ∙ next_is)) (stays_asked known asked.writes.next types locals is))
    (λ k. subst (λ (n : KnownLocals). FlowsAt types n.words locals place k) (sym (same ∙ next_is)) (all_flow_at types known.words locals place count count_is all k)))
