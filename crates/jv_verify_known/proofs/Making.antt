-- Local variables that are set, one stretch after another.
use Rattle.std.proofs.Common.{◌≡◌, ◌⊎◌, inl, inr, ℕ, ◌+◌, ◌-◌, ◌*◌, ◌/◌, ◌<◌, ◌≤◌, min, List, drop, take, reverse, length, get_or, set, Some, refl, sym, ap, ◌∙◌, subst, arith, length-drop}
use Rattle.std.proofs.lemmas.Bool.{cases_lt}
use Rattle.std.proofs.lemmas.List.{get_or-drop, get_or-reverse, get_or-take, length-reverse, length-set, length-take, reverse-reverse}
use Rattle.jv_stackmap.specs.declared.entry.FrameEntry.{FrameEntry}
use Rattle.jv_stackmap.specs.declared.entry.FrameEntry.TheVariants as entries
use Rattle.jv_stackmap.specs.declared.verification.VerificationTypeOf.TheVariants as variants
use Rattle.jv_stackmap.specs.Types.{FrameType}
use Rattle.jv_verify_types.specs.Typed.{typed}
use Rattle.jv_verify_types.specs.Numbered.{Item, NumberFrame, with_locals}
use Rattle.jv_verify_types.specs.Mapped.{EntryTypes, names_of_types, type_of_entry}
use Rattle.jv_verify_maps.specs.Words.{MapWords, Agree, words_at}
use Rattle.jv_verify_known.specs.Known.{Writes, KnownLocals, number_at, local_at, word_at, with_next, with_writes, written_at, FlowsAt, IsKnown, IsMade}
use Rattle.jv_verify_known.specs.Inside.Setting.{type_in, AreSet, AreSetWhereWritten, Stay}
use Rattle.jv_verify_known.proofs.Beside.{set_read, flows_again, holds_noted}
use Rattle.jv_verify_known.proofs.Words.{local_past, word_past}

-- ---- what stays

pub stay_both : (types : EntryTypes) (old mid new : Writes) (before between behind : List Item) → Stay types old mid before between
    → Stay types mid new between behind → Stay types old new before behind
stay_both types old mid new before between behind one other = record {
  next = other.next ∙ one.next;
  blocks = other.blocks ∙ one.blocks;
  many = other.many ∙ one.many;
  noted = λ k less.
      let second = other.noted k (omega (arith, one.next, less)) in
      let number = second.0 in
      let first = one.noted k (omega (arith, number, less)) in
      (number ∙ first.0, second.1 ∙ first.1);
}

-- ---- one local variable

pub set_one : (types : EntryTypes) (writes : Writes) (locals : List Item) (at : ℕ) (item : Item) → length locals ≤ length writes.numbers * 16
    → AreSet types writes (written_at at writes) locals (set locals at item) (λ k. typed (names_of_types types) item) at (at + 1)
set_one types writes locals at item blocks = record {
  stay = record {
    next = refl;
    blocks = length-set writes.numbers (at / 16) writes.next;
    many = length-set locals at item;
    noted = λ k less. elim (set_read writes.numbers (at / 16) (k / 16) writes.next 0) [
      | inl h ↦ let is = h.2 in absurd (omega (arith, is, less))
      | inr h ↦ (
        h.1,
        elim (set_read locals at k item variants.Top) [
          | inl there ↦
              let past : length writes.numbers ≤ at / 16 = h.0 (ap (λ n. n / 16) there.0) in
              let within = there.1 in
              absurd (omega (arith, past, within, blocks))
          | inr other ↦ ap (typed (names_of_types types)) other.1
        ],
      )
    ];
  };
  set = λ k least less within. elim (set_read locals at k item variants.Top) [
    | inl there ↦ ap (typed (names_of_types types)) there.2
    | inr other ↦ let past = other.0 (omega (arith, least, less)) in absurd (omega (arith, past, within, least))
  ];
  kept = λ k apart. elim (set_read locals at k item variants.Top) [
    | inl there ↦ let is = there.0 in absurd (elim apart [ inl less ↦ omega (arith, is, less) | inr more ↦ omega (arith, is, more) ])
    | inr other ↦ ap (typed (names_of_types types)) other.1
  ];
}

pub set_at_place : (types : EntryTypes) (writes new : Writes) (locals behind : List Item) (at : ℕ) (item : Item) → length locals ≤ length writes.numbers * 16
    → new ≡ written_at at writes → behind ≡ set locals at item
    → AreSet types writes new locals behind (λ k. typed (names_of_types types) item) at (at + 1)
set_at_place types writes new locals behind at item blocks new_is behind_is =
    subst (λ (w : Writes). AreSet types writes w locals behind (λ k. typed (names_of_types types) item) at (at + 1)) (sym new_is)
    (subst (λ (ls : List Item). AreSet types writes (written_at at writes) locals ls (λ k. typed (names_of_types types) item) at (at + 1)) (sym behind_is)
    (set_one types writes locals at item blocks))

-- ---- stretches

module _ (types : EntryTypes) (type_at : ℕ → FrameType) where
  module _ (old mid new : Writes) (before between behind : List Item) where
    -- two stretches, of which a third consists
    pub set_both : (from to first last start end : ℕ) → AreSet types old mid before between type_at from to → AreSet types mid new between behind type_at first last
        → ((k : ℕ) → start ≤ k → k < end → ((from ≤ k) × (k < to)) ⊎ ((first ≤ k) × (k < last)))
        → ((k : ℕ) → (k < start) ⊎ (end ≤ k) → ((k < from) ⊎ (to ≤ k)) × ((k < first) ⊎ (last ≤ k)))
        → AreSet types old new before behind type_at start end
    set_both from to first last start end one other covers apart_of = record {
      stay = stay_both types old mid new before between behind one.stay other.stay;
      set = λ k least less within. elim (covers k least less) [
        | inr h ↦ second k h.0 h.1 within
        | inl h ↦ elim (cases_lt k first) [
          | inl low ↦ other.kept k (inl low) ∙ one.set k h.0 h.1 within
          | inr high ↦ elim (cases_lt k last) [
            | inl in_it ↦ second k high in_it within
            | inr past ↦ other.kept k (inr past) ∙ one.set k h.0 h.1 within
          ]
        ]
      ];
      kept = λ k apart. let both = apart_of k apart in other.kept k both.1 ∙ one.kept k both.0;
    }
      where
        second : (k : ℕ) → first ≤ k → k < last → k < length before → local_at types behind k ≡ type_at k
        second k least less within = other.set k least less (omega (arith, one.stay.many, within))

    -- one more at the lower end
    pub set_below : (at from to : ℕ) → AreSet types old mid before between type_at from to → AreSet types mid new between behind type_at at from → at ≤ from → from ≤ to
        → AreSet types old new before behind type_at at to
    set_below at from to one other less within =
        set_both from to at from at to one other (λ k least last. elim (cases_lt k from) [ inl low ↦ inr (least, low) | inr high ↦ inl (high, last) ])
        (λ k apart. elim apart [
          | inl low ↦ (inl (omega (arith, low, less)), inl low)
          | inr high ↦ (inr high, inr (omega (arith, high, within)))
        ])

  -- a stretch by other bounds, and other names for the types
  pub set_same : (old new : Writes) (before behind : List Item) (other : ℕ → FrameType) (from to start end : ℕ) → AreSet types old new before behind other from to
      → ((k : ℕ) → start ≤ k → k < end → (from ≤ k) × (k < to) × (other k ≡ type_at k))
      → ((k : ℕ) → (k < start) ⊎ (end ≤ k) → (k < from) ⊎ (to ≤ k))
      → AreSet types old new before behind type_at start end
  set_same old new before behind other from to start end set covers apart_of = record {
    stay = set.stay;
    set = λ k least less within. let h = covers k least less in set.set k h.0 h.1 within ∙ h.2;
    kept = λ k apart. set.kept k (apart_of k apart);
  }

-- one local variable more at the lower end
pub set_one_more : (types : EntryTypes) (type_at : ℕ → FrameType) (old mid new : Writes) (before between behind : List Item) (below at to : ℕ) (type : FrameType)
    → AreSet types old mid before between type_at at to → AreSet types mid new between behind (λ k. type) below (below + 1) → at ≡ below + 1 → at ≤ to → type ≡ type_at below
    → AreSet types old new before behind type_at below to
set_one_more types type_at old mid new before between behind below at to type set one next within is =
    set_below types type_at old mid new before between behind below at to set
    (set_same types type_at mid new between behind (λ k. type) below (below + 1) below at one
    (λ k least less. (least, omega (arith, less, next), is ∙ ap type_at (the_one k least less)))
    (λ k apart. elim apart [ inl low ↦ inl low | inr high ↦ inr (omega (arith, high, next)) ]))
    (omega (arith, next)) within
  where
    the_one : (k : ℕ) → below ≤ k → k < at → below ≡ k
    the_one k least less = omega (arith, least, less, next)

-- frames of which local variables alone are others
pub same_both : (f g h : NumberFrame) → g ≡ with_locals g.locals f → h ≡ with_locals h.locals g → h ≡ with_locals h.locals f
same_both f g h one other = other ∙ ap (with_locals h.locals) one

-- a loop that is done from the last one down
pub set_down : (types : EntryTypes) (type_at : ℕ → FrameType) (old new : Writes) (before behind : List Item) (at from to : ℕ) → at ≤ from → at ≤ to → min from to ≤ at
    → AreSet types old new before behind type_at at to → AreSet types old new before behind type_at from to
set_down types type_at old new before behind at from to low below least set =
    set_same types type_at old new before behind type_at at to from to set (λ k more less. (omega (arith, more, low), less, refl))
    (λ k apart. elim apart [
      | inr high ↦ inr high
      | inl few ↦ elim (cases_lt k at) [ inl less ↦ inl less | inr more ↦ inr (omega (arith, least, below, low, few, more)) ]
    ])

-- ---- a stretch of words

pub word_in : (stretch words : List FrameEntry) (first to k : ℕ) → reverse stretch ≡ drop first (take to words) → to ≤ length words → first ≤ k → k < to
    → get_or stretch (to - 1 - k) entries.Top ≡ get_or words k entries.Top
word_in stretch words first to k is within least less =
    let many : length (drop first (take to words)) ≡ to - first = omega (arith, length-drop first (take to words), length-take to words, within) in
    let length_is : length stretch ≡ to - first = omega (arith, length-reverse stretch, ap length is, many) in
    ap (λ ws. get_or ws (to - 1 - k) entries.Top) (sym (reverse-reverse stretch) ∙ ap reverse is)
    ∙ (get_or-reverse (drop first (take to words)) (to - 1 - k) entries.Top (omega (arith, many, least, less))
    ∙ (ap (λ n. get_or (drop first (take to words)) n entries.Top) (the_place many)
    ∙ (get_or-drop first (take to words) (k - first) entries.Top
    ∙ (ap (λ n. get_or (take to words) n entries.Top) (back least) ∙ get_or-take to words k entries.Top less))))
  where
    the_place : length (drop first (take to words)) ≡ to - first → length (drop first (take to words)) - 1 - (to - 1 - k) ≡ k - first
    the_place many = omega (arith, many, least, less)

    back : first ≤ k → first + (k - first) ≡ k
    back least = omega (arith, least)

pub type_in_is : (types : EntryTypes) (stretch : List FrameEntry) (words : MapWords) (place first to k : ℕ) → reverse stretch ≡ drop first (take to (words_at words place))
    → to ≤ length (words_at words place) → first ≤ k → k < to → type_in types stretch to k ≡ word_at types words place k
type_in_is types stretch words place first to k is within least less = ap (type_of_entry types) (word_in stretch (words_at words place) first to k is within least less)

-- a stretch more
pub set_stretch_more : (types : EntryTypes) (words : MapWords) (place : ℕ) (old mid new : Writes) (before between behind : List Item) (stretch : List FrameEntry) (first end at to : ℕ)
    → AreSet types old mid before between (word_at types words place) at to → at ≤ to
    → reverse stretch ≡ drop first (take at (words_at words place)) → at ≤ length (words_at words place) → first ≤ end → end ≤ at
    → AreSet types mid new between behind (type_in types stretch at) end at → AreSet types old new before behind (word_at types words place) end to
set_stretch_more types words place old mid new before between behind stretch first end at to set within is many low high more =
    set_below types (word_at types words place) old mid new before between behind end at to set
    (set_same types (word_at types words place) mid new between behind (type_in types stretch at) end at end at more
    (λ k least less. (least, less, type_in_is types stretch words place first at k is many (omega (arith, low, least)) less)) (λ k apart. apart))
    high within

-- tops above, and words below
pub set_top_and_words : (types : EntryTypes) (words : MapWords) (place : ℕ) (old mid new : Writes) (before between behind : List Item) (count from to above below : ℕ)
    → count ≡ length (words_at words place) → (count ≤ above) × (from ≤ above) × ((k : ℕ) → from ≤ k → count ≤ k → above ≤ k) → below ≡ min to count
    → AreSet types old mid before between (λ k. variants.Top) above to → AreSet types mid new between behind (word_at types words place) from below
    → AreSet types old new before behind (word_at types words place) from to
set_top_and_words types words place old mid new before between behind count from to above below is bounds below_is tops rest =
    set_both types (word_at types words place) old mid new before between behind above to from below from to
    (set_same types (word_at types words place) old mid before between (λ k. variants.Top) above to above to tops
    (λ k least less. (least, less, sym (word_past types words place k (omega (arith, is, bounds.0, least))))) (λ k apart. apart)) rest
    (λ k least less. elim (cases_lt k count) [
      | inl low ↦ inr (least, omega (arith, below_is, low, less))
      | inr high ↦ inl (bounds.2 k least high, less)
    ])
    (λ k apart. elim apart [
      | inl low ↦ (inl (omega (arith, low, bounds.1)), inl low)
      | inr high ↦ (inr high, inr (omega (arith, high, below_is)))
    ])

-- ---- where they were written since

module _ (types : EntryTypes) (words : MapWords) (place since to : ℕ) (old : Writes) (before : List Item) where
  pub written_none : (new : Writes) (behind : List Item) (block : ℕ) → Stay types old new before behind → since < old.next
      → ((k : ℕ) → k < to → k < block * 16 → (local_at types behind k ≡ word_at types words place k)
      ⊎ ((number_at old k ≤ since) × (local_at types behind k ≡ local_at types before k)))
      → ((k : ℕ) → block ≤ k → k < length new.numbers → get_or new.numbers k 0 ≤ since) → to ≤ length old.numbers * 16
      → AreSetWhereWritten types old new before behind words place since to
  written_none new behind block stay asked done rest blocks = record {
    stay = stay;
    set = λ k less. elim (cases_lt k (block * 16)) [
      | inl low ↦ done k less low
      | inr high ↦
          let number : number_at new k ≤ since = rest (k / 16) (omega (arith, high)) (omega (arith, stay.blocks, blocks, less)) in
          let n = stay.noted k (omega (arith, number, asked)) in
          let same = n.0 in
          inr (omega (arith, number, same), n.1)
    ];
  }

  pub written_more : (mid new : Writes) (between behind : List Item) (block found from last : ℕ) → Stay types old mid before between → since < old.next
      → ((k : ℕ) → k < to → k < block * 16 → (local_at types between k ≡ word_at types words place k)
      ⊎ ((number_at old k ≤ since) × (local_at types between k ≡ local_at types before k)))
      → ((k : ℕ) → block ≤ k → k < found → get_or mid.numbers k 0 ≤ since)
      → AreSet types mid new between behind (word_at types words place) from last
      → ((k : ℕ) → found * 16 ≤ k → k < found * 16 + 16 → k < to → (from ≤ k) × (k < last)) → to ≤ length before
      → (k : ℕ) → k < to → k < (found + 1) * 16 → (local_at types behind k ≡ word_at types words place k)
      ⊎ ((number_at old k ≤ since) × (local_at types behind k ≡ local_at types before k))
  written_more mid new between behind block found from last stay asked done rest set covers within k less low =
      elim (cases_lt k from) [
        | inl below ↦ outside (set.kept k (inl below)) (λ h. let g = (covers k h (omega (arith, low)) less).0 in omega (arith, g, below))
        | inr more ↦ elim (cases_lt k last) [
          | inl fits ↦ inl (set.set k more fits (omega (arith, stay.many, within, less)))
          | inr past ↦ outside (set.kept k (inr past)) (λ h. let g = (covers k h (omega (arith, low)) less).1 in omega (arith, g, past))
        ]
      ]
    where
      before_found : local_at types behind k ≡ local_at types between k → k < found * 16
          → (local_at types behind k ≡ word_at types words place k) ⊎ ((number_at old k ≤ since) × (local_at types behind k ≡ local_at types before k))
      before_found same under = elim (cases_lt k (block * 16)) [
        | inl early ↦ elim (done k less early) [ inl is ↦ inl (same ∙ is) | inr h ↦ inr (h.0, same ∙ h.1) ]
        | inr late ↦
            let number : number_at mid k ≤ since = rest (k / 16) (omega (arith, late)) (omega (arith, under)) in
            let n = stay.noted k (omega (arith, number, asked)) in
            let is = n.0 in
            inr (omega (arith, number, is), same ∙ n.1)
      ]

      outside : local_at types behind k ≡ local_at types between k → (found * 16 ≤ k → ⊥)
          → (local_at types behind k ≡ word_at types words place k) ⊎ ((number_at old k ≤ since) × (local_at types behind k ≡ local_at types before k))
      outside same not = elim (cases_lt k (found * 16)) [ inl under ↦ before_found same under | inr over ↦ absurd (not over) ]

-- ---- all

pub apart_some : (types : EntryTypes) (words : MapWords) (locals : List Item) (origin place agree to k : ℕ) → Agree words origin place agree
    → length (words_at words place) ≤ to → length (words_at words origin) ≤ to → local_at types locals k ≡ word_at types words origin k → (k < agree) ⊎ (to ≤ k)
    → local_at types locals k ≡ word_at types words place k
apart_some types words locals origin place agree to k agrees few few_too made apart = made ∙ elim apart [
  | inl low ↦
      ap (type_of_entry types) (sym (get_or-take agree (words_at words origin) k entries.Top low)
      ∙ (ap (λ ws. get_or ws k entries.Top) agrees ∙ get_or-take agree (words_at words place) k entries.Top low))
  | inr high ↦
      word_past types words origin k (omega (arith, few_too, high)) ∙ sym (word_past types words place k (omega (arith, few, high)))
]

pub made_apart_some : (known now : KnownLocals) → known ≡ now → (origin place agree to : ℕ) → known.origin ≡ Some origin → Agree known.words origin place agree
    → length (words_at known.words place) ≤ to → length (words_at known.words origin) ≤ to
    → (types : EntryTypes) (locals : List Item) (k : ℕ) → IsMade types now.words locals now.origin k → (k < agree) ⊎ (to ≤ k)
    → local_at types locals k ≡ word_at types now.words place k
made_apart_some known now view origin place agree to is agrees few few_too =
    subst (λ (n : KnownLocals). (types : EntryTypes) (locals : List Item) (k : ℕ) → IsMade types n.words locals n.origin k → (k < agree) ⊎ (to ≤ k)
    → local_at types locals k ≡ word_at types n.words place k) view
    (λ types locals k made apart.
    apart_some types known.words locals origin place agree to k agrees few few_too (subst (λ o. IsMade types known.words locals o k) is made) apart)

module _ (types : EntryTypes) (known now : KnownLocals) (view : known ≡ now) (place max : ℕ) (mid new : Writes) (before between behind : List Item) (from to : ℕ)
    (is_now : IsKnown types now before) (asked : (place : ℕ) → get_or known.stamps place 0 < known.writes.next) (many : length before ≡ max)
    (room_now : length (words_at now.words place) ≤ max)
    (apart_now : (types : EntryTypes) (locals : List Item) (k : ℕ) → IsMade types now.words locals now.origin k → (k < from) ⊎ (to ≤ k)
    → local_at types locals k ≡ word_at types now.words place k)
    (written : AreSetWhereWritten types known.writes mid before between known.words place known.merged max)
    (rest : AreSet types mid new between behind (word_at types known.words place) from to) where
  is : IsKnown types known before
  is = subst (λ (k : KnownLocals). IsKnown types k before) (sym view) is_now

  room : length (words_at known.words place) ≤ max
  room = subst (λ (k : KnownLocals). length (words_at k.words place) ≤ max) (sym view) room_now

  apart_of : (k : ℕ) → IsMade types known.words before known.origin k → (k < from) ⊎ (to ≤ k) → local_at types before k ≡ word_at types known.words place k
  apart_of =
      subst (λ (n : KnownLocals). (k : ℕ) → IsMade types n.words before n.origin k → (k < from) ⊎ (to ≤ k) → local_at types before k ≡ word_at types n.words place k)
      (sym view) (apart_now types before)

  stay : Stay types known.writes new before behind
  stay = stay_both types known.writes mid new before between behind written.stay rest.stay

  within_all : (k : ℕ) → k < max → local_at types behind k ≡ word_at types known.words place k
  within_all k less = elim (cases_lt k from) [
    | inl low ↦ by_written (inl low)
    | inr more ↦ elim (cases_lt k to) [
      | inl fits ↦ rest.set k more fits (omega (arith, written.stay.many, many, less))
      | inr high ↦ by_written (inr high)
    ]
  ]
    where
      by_written : (k < from) ⊎ (to ≤ k) → local_at types behind k ≡ word_at types known.words place k
      by_written apart = rest.kept k apart ∙ elim (written.set k less) [
        | inl set ↦ set
        | inr kept ↦ kept.1 ∙ apart_of k (is.origin k kept.0) apart
      ]

  all_set : (k : ℕ) → local_at types behind k ≡ word_at types known.words place k
  all_set k = elim (cases_lt k max) [
    | inl less ↦ within_all k less
    | inr past ↦ local_past types behind k (omega (arith, stay.many, many, past)) ∙ sym (word_past types known.words place k (omega (arith, room, past)))
  ]

  known_set : (next merged : ℕ) → IsKnown types (record known { writes = with_next next new; origin = Some place; merged = merged }) behind
  known_set next merged = record {
    blocks = omega (arith, stay.blocks, stay.many, is.blocks);
    flowed = λ other some.
        holds_noted (FlowsAt types known.words before other) (FlowsAt types known.words behind other) (get_or known.stamps other 0) types known.writes new before behind
        (asked other) stay.noted (λ k same flow. flows_again types known.words before behind other k same flow) (is.flowed other some);
    origin = λ k least. all_set k;
  }

  pub many_set : length behind ≡ max
  many_set = stay.many ∙ many

  pub all_set_now : (k : ℕ) → local_at types behind k ≡ word_at types now.words place k
  all_set_now k = subst (λ (n : KnownLocals). local_at types behind k ≡ word_at types n.words place k) view (all_set k)

  pub known_set_now : (other asked_now : KnownLocals) (merged : ℕ) → other ≡ asked_now
      → asked_now ≡ with_writes (with_next asked_now.writes.next new) (record known { writes = new })
      → IsKnown types (record other { origin = Some place; merged = merged }) behind
  known_set_now other asked_now merged same next_is =
      subst (λ (k : KnownLocals). IsKnown types (record k { origin = Some place; merged = merged }) behind) (sym (same ∙ next_is))
      (known_set asked_now.writes.next merged)
