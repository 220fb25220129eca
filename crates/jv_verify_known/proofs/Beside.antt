-- What is known of local variables stays known beside writes.
use Rattle.std.proofs.Common.{◌≡◌, ◌⊎◌, inl, inr, ℕ, ◌/◌, ◌<◌, ◌≤◌, List, length, get_or, set, sym, ap, ◌∙◌, subst, arith}
use Rattle.std.proofs.lemmas.Bool.{cases_lt, cases_eq}
use Rattle.std.proofs.lemmas.List.{get_or_past, length-set, get_or-set_same, get_or-set_other}
use Rattle.jv_meaning_world.specs.Flow.{flows}
use Rattle.jv_verify_types.specs.Numbered.{Item}
use Rattle.jv_verify_types.specs.Mapped.{EntryTypes, world_of_types}
use Rattle.jv_verify_maps.specs.Words.{MapWords}
use Rattle.jv_verify_known.specs.Known.{Writes, KnownLocals, number_at, local_at, word_at, block_written, with_next, with_writes, AreNoted, FlowsAt, HoldsSince, IsKnown, IsMade, StaysKnown}

-- ---- what is read after a write

pub set_read : {X : Type 0} (xs : List X) (i j : ℕ) (v d : X)
    → ((j ≡ i) × (i < length xs) × (get_or (set xs i v) j d ≡ v)) ⊎ ((j ≡ i → length xs ≤ i) × (get_or (set xs i v) j d ≡ get_or xs j d))
set_read xs i j v d = elim (cases_eq j i) [
  | inl is ↦ elim (cases_lt i (length xs)) [
    | inl less ↦ inl (is, less, ap (λ n. get_or (set xs i v) n d) is ∙ get_or-set_same xs i v d less)
    | inr past ↦ inr (
      (λ e. past),
      get_or_past (set xs i v) j d (omega (arith, length-set xs i v, past, is)) ∙ sym (get_or_past xs j d (omega (arith, past, is))),
    )
  ]
  | inr other ↦ inr ((λ e. absurd (other e)), get_or-set_other xs i j v d other)
]

-- ---- what holds since a number

module _ (P Q : ℕ → Type 0) (since : ℕ) where
  pub holds_written : (writes : Writes) (block : ℕ) → since < writes.next → HoldsSince writes since P → HoldsSince (block_written block writes) since P
  holds_written writes block less holds k least = elim (set_read writes.numbers block (k / 16) writes.next 0) [
    | inl h ↦ let is = h.2 in absurd (omega (arith, is, least, less))
    | inr h ↦ let is = h.1 in holds k (omega (arith, is, least))
  ]

  pub holds_beside : (writes : Writes) → since < writes.next → ((k : ℕ) → number_at writes k < writes.next → P k → Q k)
      → HoldsSince writes since P → HoldsSince writes since Q
  holds_beside writes less same holds k least = same k (omega (arith, least, less)) (holds k least)

  pub holds_noted : (types : EntryTypes) (old new : Writes) (before behind : List Item) → since < old.next → AreNoted types old new before behind
      → ((k : ℕ) → local_at types behind k ≡ local_at types before k → P k → Q k) → HoldsSince old since P → HoldsSince new since Q
  holds_noted types old new before behind less noted same holds k least =
      let n = noted k (omega (arith, least, less)) in
      let number = n.0 in
      same k n.1 (holds k (omega (arith, number, least)))

-- ---- of other local variables

pub flows_again : (types : EntryTypes) (words : MapWords) (old new : List Item) (place k : ℕ) → local_at types new k ≡ local_at types old k
    → FlowsAt types words old place k → FlowsAt types words new place k
flows_again types words old new place k same flow = ap (λ t. flows (world_of_types types) t (word_at types words place k)) same ∙ flow

-- ---- of the same ones

pub stays_written : (known : KnownLocals) (block : ℕ) → ((place : ℕ) → get_or known.stamps place 0 < known.writes.next) → known.merged < known.writes.next
    → StaysKnown known (with_writes (block_written block known.writes) known)
stays_written known block asked made = λ types locals is. record {
  blocks = omega (arith, length-set known.writes.numbers block known.writes.next, is.blocks);
  flowed = λ place some.
      holds_written (FlowsAt types known.words locals place) (FlowsAt types known.words locals place) (get_or known.stamps place 0) known.writes block (asked place) (is.flowed place some);
  origin =
      holds_written (IsMade types known.words locals known.origin) (IsMade types known.words locals known.origin) known.merged known.writes block made is.origin;
}

pub stays_asked : (known : KnownLocals) (next : ℕ) → StaysKnown known (with_writes (with_next next known.writes) known)
stays_asked known next = λ types locals is. record { blocks = is.blocks; flowed = is.flowed; origin = is.origin }

-- a frame into which all flow
pub known_stamped : (types : EntryTypes) (known : KnownLocals) (locals : List Item) (place stamp : ℕ) → IsKnown types known locals
    → ((k : ℕ) → FlowsAt types known.words locals place k)
    → IsKnown types (record known { stamps = set known.stamps place stamp }) locals
known_stamped types known locals place stamp is all = record {
  blocks = is.blocks;
  flowed = λ other some. elim (set_read known.stamps place other stamp 0) [
    | inl h ↦ λ k least. subst (λ p. FlowsAt types known.words locals p k) (sym h.0) (all k)
    | inr h ↦
        let same = h.1 in
        λ k least. is.flowed other (omega (arith, same, some)) k (omega (arith, same, least))
  ];
  origin = is.origin;
}

-- ---- as methods show it: what is inside is what is known

module _ (known now : KnownLocals) (view : known ≡ now) where
  inside : (types : EntryTypes) (locals : List Item) → IsKnown types now locals → IsKnown types known locals
  inside types locals is = subst (λ (k : KnownLocals). IsKnown types k locals) (sym view) is

  pub asked_again : (writes : Writes) → writes ≡ with_next writes.next known.writes → StaysKnown now (with_writes writes known)
  asked_again writes same = λ types locals is.
      subst (λ (w : Writes). IsKnown types (with_writes w known) locals) (sym same) (stays_asked known writes.next types locals (inside types locals is))

  pub written_again : (writes : Writes) (block : ℕ) → ((place : ℕ) → get_or known.stamps place 0 < known.writes.next) → known.merged < known.writes.next
      → writes ≡ block_written block known.writes → StaysKnown now (with_writes writes known)
  written_again writes block asked made same = λ types locals is.
      subst (λ (w : Writes). IsKnown types (with_writes w known) locals) (sym same) (stays_written known block asked made types locals (inside types locals is))
