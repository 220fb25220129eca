-- What holds of a table, as entries are laid and frames join.
use Rattle.std.proofs.Common.{◌≡◌, ℕ, ◌+◌, ◌*◌, ◌-◌, ◌<◌, ◌≤◌, List, [], ◌∷◌, ◌++◌, length, true, Some, refl, sym, ap, ◌∙◌, arith}
use Rattle.std.specs.Prelude.{map}
use Rattle.std.proofs.lemmas.List.{length-append, map-append}
use Rattle.std.proofs.lemmas.List.Sums.{sum_by-cons}
use Rattle.jv_stackmap.specs.declared.entry.FrameEntry.{FrameEntry}
use Rattle.jv_stackmap.specs.declared.nodes.KeptFrame.{KeptFrame}
use Rattle.jv_stackmap.specs.declared.nodes.Pile.{Pile}
use Rattle.jv_stackmap.specs.declared.width.Width.{Width}
use Rattle.jv_stackmap.specs.declared.width.Width.TheVariants.{One, Two}
use Rattle.jv_stackmap.specs.declared.entry.FrameEntry.TheVariants as entries
use Rattle.jv_stackmap.specs.Entries.{word_count, entry_words, words_in}
use Rattle.jv_stackmap.specs.Inside.Nodes.{chain, frame_in, IsPile, kept_offset}
use Rattle.jv_stackmap.specs.declared.limits.Limits.{Limits}
use Rattle.jv_stackmap.specs.Inside.Steps.{Built, with_pile, settled, is_within_in, with_frame, finished}
use Rattle.jv_stackmap.specs.Inside.Table.{built, Holds}
use Rattle.jv_stackmap.proofs.Chains.{chain_kept, chain_new, frames_kept, all_kept, kept_more}
use Rattle.jv_stackmap.proofs.Rises.{rise_more}

-- ---- words of entries

count_most : (w : Width) → word_count w ≤ 2
count_most One = omega arith
count_most Two = omega arith

pub entry_most : (widths : List Width) (e : FrameEntry) → entry_words widths e ≤ 2
entry_most widths entries.Top = omega arith
entry_most widths entries.Int = omega arith
entry_most widths entries.Long = omega arith
entry_most widths entries.Null = omega arith
entry_most widths entries.UninitializedThis = omega arith
entry_most widths (entries.Object class) = omega arith
entry_most widths (entries.Uninitialized offset) = omega arith
entry_most widths (entries.Initial place) = count_most _

-- ---- piles

abbrev Chains : Type 0
Chains = List (List FrameEntry)

pub no_pile : (widths : List Width) (cs : Chains) → 0 < length cs → chain cs 0 ≡ [] → IsPile widths cs (record { top = 0; words = 0 })
no_pile widths cs lt first = record { there = lt; counted = ap (words_in widths) (sym first); few = omega arith }

pile_kept : (widths : List Width) (cs : Chains) (c : List FrameEntry) (p : Pile) → IsPile widths cs p → IsPile widths (cs ++ c ∷ []) p
pile_kept widths cs c p h = record {
  there = omega (arith, h.there, length-append cs (c ∷ []));
  counted = h.counted ∙ ap (words_in widths) (sym (chain_kept cs c p.top h.there));
  few = omega (arith, h.few, length-append cs (c ∷ []));
}

pile_more : (widths : List Width) (cs : Chains) (e : FrameEntry) (p : Pile) → IsPile widths cs p → IsPile widths (cs ++ (e ∷ chain cs p.top) ∷ [])
    (record { top = length cs; words = p.words + entry_words widths e })
pile_more widths cs e p h = record {
  there = omega (arith, length-append cs ((e ∷ chain cs p.top) ∷ []));
  counted = omega (arith, h.counted, sum_by-cons (entry_words widths) e (chain cs p.top)) ∙ ap (words_in widths) (sym (chain_new cs (e ∷ chain cs p.top)));
  few = omega (arith, h.few, entry_most widths e, length-append cs ((e ∷ chain cs p.top) ∷ []));
}

pub pile_below : (widths : List Width) (cs : Chains) (e : FrameEntry) (below : ℕ) (p : Pile) → IsPile widths cs p → chain cs p.top ≡ e ∷ chain cs below → below < length cs
    → (entry_words widths e ≤ p.words) × IsPile widths cs (record { top = below; words = p.words - entry_words widths e })
pile_below widths cs e below p h is lt =
    let all : p.words ≡ entry_words widths e + words_in widths (chain cs below) = h.counted ∙ ap (words_in widths) is ∙ sum_by-cons (entry_words widths) e (chain cs below) in
    (omega (arith, all), record { there = lt; counted = omega (arith, all); few = omega (arith, h.few) })

-- ---- a table

pub holds_laid : (widths : List Width) (cs : Chains) (frames : List KeptFrame) (base : ℕ) (locals pile : Pile) (e : FrameEntry) → Holds widths cs frames base locals pile
    → Holds widths (cs ++ (e ∷ chain cs pile.top) ∷ []) frames base locals (record { top = length cs; words = pile.words + entry_words widths e })
holds_laid widths cs frames base locals pile e h = record {
  bottom = chain_kept cs (e ∷ chain cs pile.top) 0 (omega (arith, h.laid.there)) ∙ h.bottom;
  kept = all_kept (length cs) (length (cs ++ (e ∷ chain cs pile.top) ∷ [])) frames (omega (arith, length-append cs ((e ∷ chain cs pile.top) ∷ []))) h.kept;
  rising = h.rising;
  low = h.low;
  settled = pile_kept widths cs (e ∷ chain cs pile.top) locals h.settled;
  laid = pile_more widths cs e pile h.laid;
}

pub built_laid : (widths : List Width) (cs : Chains) (frames : List KeptFrame) (base : ℕ) (locals pile : Pile) (e : FrameEntry) → Holds widths cs frames base locals pile
    → built widths (cs ++ (e ∷ chain cs pile.top) ∷ []) frames base locals.top (length cs)
    ≡ with_pile (e ∷ chain cs pile.top) (built widths cs frames base locals.top pile.top)
built_laid widths cs frames base locals pile e h =
    let one = frames_kept cs (e ∷ chain cs pile.top) frames h.kept in
    let two = chain_kept cs (e ∷ chain cs pile.top) locals.top h.settled.there in
    let three = chain_new cs (e ∷ chain cs pile.top) in
    rw (one, two, three) refl

pub words_most : (widths : List Width) (list : List FrameEntry) → words_in widths list ≤ 2 * length list
words_most widths [] = omega arith
words_most widths (e ∷ more) = omega (arith, sum_by-cons (entry_words widths) e more, entry_most widths e, words_most widths more)

-- an entry that is there already, on what is laid
pub holds_shared : (widths : List Width) (cs : Chains) (frames : List KeptFrame) (base : ℕ) (locals pile : Pile) (e : FrameEntry) (top : ℕ) → Holds widths cs frames base locals pile
    → chain cs top ≡ e ∷ chain cs pile.top → top < length cs → ((n : ℕ) → length (chain cs n) ≤ n)
    → Holds widths cs frames base locals (record { top = top; words = pile.words + entry_words widths e })
holds_shared widths cs frames base locals pile e top h is lt short =
    let all : words_in widths (chain cs top) ≡ entry_words widths e + words_in widths (chain cs pile.top) = ap (words_in widths) is ∙ sum_by-cons (entry_words widths) e (chain cs pile.top) in
    record {
      bottom = h.bottom;
      kept = h.kept;
      rising = h.rising;
      low = h.low;
      settled = h.settled;
      laid = record { there = lt; counted = omega (arith, all, h.laid.counted); few = omega (arith, all, h.laid.counted, words_most widths (chain cs top), short top, lt) };
    }

pub built_shared : (widths : List Width) (cs : Chains) (frames : List KeptFrame) (base locals pile top : ℕ) (e : FrameEntry) → chain cs top ≡ e ∷ chain cs pile
    → built widths cs frames base locals top ≡ with_pile (e ∷ chain cs pile) (built widths cs frames base locals pile)
built_shared widths cs frames base locals pile top e is = ap (λ (p : List FrameEntry). with_pile p (built widths cs frames base locals pile)) is

-- the locals take the words of others
pub holds_chopped : (widths : List Width) (cs : Chains) (frames : List KeptFrame) (base : ℕ) (locals pile other : Pile) → Holds widths cs frames base
    locals pile → IsPile widths cs other → Holds widths cs frames base other pile
holds_chopped widths cs frames base locals pile other h new = record { bottom = h.bottom; kept = h.kept; rising = h.rising; low = h.low; settled = new; laid = h.laid }

abbrev pub none : Pile
none = record { top = 0; words = 0 }

pub holds_settled : (widths : List Width) (cs : Chains) (frames : List KeptFrame) (base : ℕ) (locals pile : Pile) → Holds widths cs frames base locals pile → Holds widths cs frames base pile none
holds_settled widths cs frames base locals pile h = record {
  bottom = h.bottom;
  kept = h.kept;
  rising = h.rising;
  low = h.low;
  settled = h.laid;
  laid = no_pile widths cs (omega (arith, h.laid.there)) h.bottom;
}

pub built_settled : (widths : List Width) (cs : Chains) (frames : List KeptFrame) (base : ℕ) (locals pile : Pile) → Holds widths cs frames base locals pile
    → built widths cs frames base pile.top 0 ≡ settled (built widths cs frames base locals.top pile.top)
built_settled widths cs frames base locals pile h = ap (λ (p : List FrameEntry). with_pile p (built widths cs frames base pile.top 0)) h.bottom

-- a frame as it is kept
abbrev pub kept_frame : ℕ → Pile → Pile → KeptFrame
kept_frame offset locals pile = record { offset = offset; locals = locals.top; stack = pile.top; local_words = locals.words }

pub holds_joined : (widths : List Width) (cs : Chains) (frames : List KeptFrame) (base : ℕ) (locals pile : Pile) (offset : ℕ) →
    Holds widths cs frames base locals pile → base ≤ offset → offset ≤ base + 65535
    → Holds widths cs (frames ++ kept_frame offset locals pile ∷ []) (offset + 1) locals none
holds_joined widths cs frames base locals pile offset h low high = record {
  bottom = h.bottom;
  kept = kept_more (length cs) frames (kept_frame offset locals pile) h.kept (h.settled.there, h.laid.there);
  rising = rise_more kept_offset 0 base frames (kept_frame offset locals pile) h.rising low;
  low = omega (arith, high, h.low, length-append frames (kept_frame offset locals pile ∷ []));
  settled = h.settled;
  laid = no_pile widths cs (omega (arith, h.laid.there)) h.bottom;
}

pub built_joined : (widths : List Width) (cs : Chains) (frames : List KeptFrame) (base : ℕ) (locals pile : Pile) (offset : ℕ) → Holds widths cs frames base locals pile
    → built widths cs (frames ++ kept_frame offset locals pile ∷ []) (offset + 1) locals.top 0 ≡ with_frame offset (built widths cs frames base locals.top pile.top)
built_joined widths cs frames base locals pile offset h =
    let all : map (frame_in cs) (frames ++ kept_frame offset locals pile ∷ []) ≡ map (frame_in cs) frames ++ frame_in cs (kept_frame offset locals pile) ∷ [] =
    map-append (frame_in cs) frames (kept_frame offset locals pile ∷ []) in
    let words = h.settled.counted in
    let first = h.bottom in
    rw (all, words, first) refl

pub finished_as : (limits : Limits) (delta : ℕ) (b t : Built) (offset : ℕ) → is_within_in limits b ≡ true → offset ≡ b.base + delta → t ≡ with_frame offset b → finished limits delta b ≡ Some t
finished_as limits delta b t offset within is e = rw (within, e, is) refl
