-- What frames of a stack map want of a block of local variables, found of one frame after another.
use Rattle.std.proofs.Common.{◌≡◌, ◌≢◌, ◌⊎◌, inl, inr, ℕ, ◌+◌, ◌*◌, ◌/◌, ◌<◌, ◌≤◌, min, List, length, get_or, sym, ap, subst, ◌∙◌, arith}
use Rattle.std.proofs.lemmas.Bool.{cases_lt}
use Rattle.std.proofs.lemmas.List.{get_or_past}
use Rattle.jv_stackmap.specs.declared.verification.VerificationTypeOf.TheVariants as variants
use Rattle.jv_stackmap.specs.Types.{FrameType}
use Rattle.jv_verify_types.specs.Typed.{typed}
use Rattle.jv_verify_types.specs.Numbered.{Item}
use Rattle.jv_verify_types.specs.Mapped.{EntryTypes, names_of_types}
use Rattle.jv_verify_peaks.specs.Stretches.{AreAtMost, IsFirstAbove, IsGreatest}
use Rattle.jv_verify_maps.specs.Words.{MapWords, Agree, words_at}
use Rattle.jv_verify_known.specs.Known.{word_at}
use Rattle.jv_verify_wants.specs.Wanted.{IsWanted, Wants}
use Rattle.jv_verify_wants.specs.Inside.Allowed.{AreAllowed}
use Rattle.jv_verify_open.specs.declared.wanting.Stretch.{Stretch}
use Rattle.jv_verify_open.specs.Open.{end_of, AreOpenAsBefore, AreWanting, IsTopOrWanted, OpenFrames}
use Rattle.jv_verify_open.specs.Inside.Finding.{AreFoundBelow, AreFoundOf, AreMoreWanted}
use Rattle.jv_verify_open.proofs.Words.{block_from, block_to, same_or, same_word, word_behind}

module _ (types : EntryTypes) (map : MapWords) (offset : ℕ) where
  -- the words of one frame are wanted as long as the last of those around it is open
  module _ (place block first last until : ℕ) (old : OpenFrames) (low : first ≤ place) (high : place ≤ last) (within : last < length map.frames)
      (greatest : IsGreatest first (last + 1) old.ends until) where
    ends_at_most : (at : ℕ) → place ≤ at → at < last + 1 → end_of old at ≤ until
    ends_at_most at above below = greatest.bounds at (omega (arith, low, above)) below

    module _ (to count : ℕ) (agree : (at : ℕ) → first ≤ at → at ≤ last → Agree map at place to) (wide : min (block * 16 + 16) 65535 ≤ to)
        (many : length (words_at map place) ≡ count) where
      there_at : (at k : ℕ) → first ≤ at → at ≤ last → k / 16 ≡ block → k < 65535 → word_at types map at k ≡ word_at types map place k
      there_at at k above below in_block small =
          let least = block_to k block in_block in same_word types map at place to k (agree at above below) (omega (arith, wide, least, small))

      wanted_at : (words : Stretch) (new : Wants) → words.place ≡ place → words.to ≡ min to count → words.until ≡ until
          → AreMoreWanted types map offset words (block * 16) old.wants new
          → (at k later : ℕ) → place ≤ at → at < last + 1 → k / 16 ≡ block → k < 65535 → offset ≤ later → later < end_of old at
          → IsTopOrWanted types new k (word_at types map at k) later
      wanted_at words new place_is to_is until_is more at k later above below in_block small after before =
          subst (λ t. IsTopOrWanted types new k t later) (sym (there_at at k (omega (arith, low, above)) (omega (arith, below)) in_block small))
          (elim (cases_lt k count) [
            | inl less ↦
                let low_k = block_from k block in_block in
                let high_k = block_to k block in_block in
                let most = ends_at_most at above below in
                subst (λ p. IsTopOrWanted types new k (word_at types map p k) later) place_is
                (more.there k later low_k (omega (arith, to_is, wide, high_k, small, less)) after (omega (arith, until_is, most, before)))
            | inr past ↦ inl (word_behind types map place k (omega (arith, many, past)))
          ])

      one_open : (words : Stretch) (new : Wants) → words.place ≡ place → words.to ≡ min to count → words.until ≡ until
          → AreMoreWanted types map offset words (block * 16) old.wants new → (k later : ℕ) (item : Item) → offset ≤ later → IsWanted new k item later
          → IsWanted old.wants k item later
          ⊎ ((at : ℕ) × (later < end_of old at) × (word_at types map at k ≡ typed (names_of_types types) item))
      one_open words new place_is to_is until_is more k later item after h =
          elim (more.only k later item after h) [
            | inl was ↦ inl was
            | inr comes ↦
                let less = comes.0 in
                let before = comes.1 in
                inr (elim greatest.reached [
                  | inl none ↦ absurd (omega (arith, none, until_is, before))
                  | inr at ↦
                      let above = at.1 in
                      let below = at.2 in
                      let reached = at.3 in (
                        at.0,
                        omega (arith, reached, until_is, before),
                        same_word types map at.0 place to k (agree at.0 above (omega (arith, below))) (omega (arith, to_is, less))
                            ∙ subst (λ p. word_at types map p k ≡ typed (names_of_types types) item) place_is comes.2,
                      )
                ])
          ]

      pub some_open : (words : Stretch) (new : Wants) → words.place ≡ place → words.to ≡ min to count → words.until ≡ until
          → AreMoreWanted types map offset words (block * 16) old.wants new → AreFoundOf types map offset place (last + 1) block old new
      some_open words new place_is to_is until_is more = record {
        more = omega (arith, high);
        within = omega (arith, within);
        kept = more.kept;
        there = wanted_at words new place_is to_is until_is more;
        only = one_open words new place_is to_is until_is more;
        allowed = more.allowed;
      }

  -- ---- frame after frame

  pub none_below : (block since : ℕ) (old : OpenFrames) → AreFoundBelow types map offset 0 block since old old.wants
  none_below block since old = record {
    kept = λ k later item after h. h;
    there = λ at k later below. absurd (omega (arith, below));
    only = λ k later item after h. inl h;
    allowed = λ h. h;
  }

  module _ (place next to block since : ℕ) (old : OpenFrames) (now : Wants) (found : AreFoundBelow types map offset place block since old now)
      (first : IsFirstAbove since place to next old.opened) where
    -- those before the next one that was opened since
    before_next : (at : ℕ) → at < next → since < get_or old.opened at 0 → at < place
    before_next at below above =
        elim (cases_lt at place) [
          | inl less ↦ less
          | inr past ↦ let most = first.first at (omega (arith, past)) below in absurd (omega (arith, most, above))
        ]

    pub found_more : (behind : ℕ) (mid : OpenFrames) (new : Wants) → mid.ends ≡ old.ends → mid.wants ≡ now
        → AreFoundOf types map offset next behind block mid new → AreFoundBelow types map offset behind block since old new
    found_more behind mid new ends wants more = record {
      kept = λ k later item after h. more.kept k later item after (subst (λ ws. IsWanted ws k item later) (sym wants) (found.kept k later item after h));
      there = λ at k later below above in_block small after before.
          elim (cases_lt at next) [
            | inl less ↦
                elim (found.there at k later (before_next at less above) above in_block small after before) [
                  | inl top ↦ inl top
                  | inr one ↦ inr (one.0, one.1, more.kept k later one.0 after (subst (λ ws. IsWanted ws k one.0 later) (sym wants) one.2))
                ]
            | inr past ↦ more.there at k later past below in_block small after (subst (λ es. later < get_or es at 0) (sym ends) before)
          ];
      only = λ k later item after h.
          elim (more.only k later item after h) [
            | inl was ↦ found.only k later item after (subst (λ ws. IsWanted ws k item later) wants was)
            | inr one ↦ inr (one.0, subst (λ es. later < get_or es one.0 0) ends one.1, one.2)
          ];
      allowed = λ h. more.allowed (subst (λ ws. AreAllowed types.constants.types offset ws) (sym wants) (found.allowed h));
    }

    pub found_none : (behind : ℕ) → next ≤ behind → ((at : ℕ) → next ≤ at → at < behind → length (words_at map at) ≤ block * 16)
        → AreFoundBelow types map offset behind block since old now
    found_none behind more few = record {
      kept = found.kept;
      there = λ at k later below above in_block small after before.
          elim (cases_lt at next) [
            | inl less ↦ found.there at k later (before_next at less above) above in_block small after before
            | inr past ↦
                let least = block_from k block in_block in
                let short = few at past below in
                inl (word_behind types map at k (omega (arith, least, short)))
          ];
      only = found.only;
      allowed = found.allowed;
    }

  -- where none behind was opened since, what was found is all
  pub all_found : (place block since : ℕ) (old new : OpenFrames) → AreWanting types map old offset → AreFoundBelow types map offset place block since old new.wants
      → AreAtMost since place (length map.frames) old.opened → length old.opened ≤ length map.frames → AreOpenAsBefore old new
      → get_or old.found block 0 ≡ since
      → ((k : ℕ) → k / 16 ≢ block → get_or new.found (k / 16) 0 ≡ get_or old.found (k / 16) 0)
      → AreWanting types map new offset
  all_found place block since old new wanting found rest many same was others = record {
    wanted = λ at k later small opened after below.
        let less : later < end_of old at = subst (λ es. later < get_or es at 0) same.ends below in
        elim (same_or (k / 16) block) [
          | inl here ↦
              elim (cases_lt since (get_or old.opened at 0)) [
                | inl above ↦ found.there at k later (opened_below at above) above here small after less
                | inr low ↦
                    still k later after (wanting.wanted at k later small
                    (subst (λ n. get_or old.opened at 0 ≤ n) (sym was ∙ ap (λ b. get_or old.found b 0) (sym here)) low) after less)
              ]
          | inr other ↦
              still k later after (wanting.wanted at k later small
              (subst (λ n. get_or old.opened at 0 ≤ n) (others k other) (subst (λ os. get_or os at 0 ≤ get_or new.found (k / 16) 0) same.opened opened)) after less)
        ];
    only = λ k later item after h.
        elim (found.only k later item after h) [
          | inl one ↦
              let there = wanting.only k later item after one in (there.0, subst (λ es. later < get_or es there.0 0) (sym same.ends) there.1, there.2)
          | inr one ↦ (one.0, subst (λ es. later < get_or es one.0 0) (sym same.ends) one.1, one.2)
        ];
    allowed = found.allowed wanting.allowed;
  }
    where
      opened_below : (at : ℕ) → since < get_or old.opened at 0 → at < place
      opened_below at above =
          elim (cases_lt at place) [
            | inl less ↦ less
            | inr past ↦
                elim (cases_lt at (length map.frames)) [
                  | inl within ↦ let most = rest at past within in absurd (omega (arith, most, above))
                  | inr behind ↦ let none = get_or_past old.opened at 0 (omega (arith, many, behind)) in absurd (omega (arith, none, above))
                ]
          ]

      still : (k later : ℕ) {t : FrameType} → offset ≤ later → IsTopOrWanted types old.wants k t later → IsTopOrWanted types new.wants k t later
      still k later after (inl top) = inl top
      still k later after (inr one) = inr (one.0, one.1, found.kept k later one.0 after one.2)

  -- the same where there are more numbers of blocks
  pub same_found : (old new : OpenFrames) → AreWanting types map old offset → new.ends ≡ old.ends → new.opened ≡ old.opened → new.wants ≡ old.wants
      → ((k : ℕ) → get_or new.found k 0 ≡ get_or old.found k 0) → AreWanting types map new offset
  same_found old new wanting ends opened wants found = record {
    wanted = λ at k later small low after before.
        let numbers = found (k / 16) in
        let openings = ap (λ os. get_or os at 0) opened in
        subst (λ ws. IsTopOrWanted types ws k (word_at types map at k) later) (sym wants)
        (wanting.wanted at k later small (omega (arith, low, numbers, openings)) after (subst (λ es. later < get_or es at 0) ends before));
    only = λ k later item after h.
        let there = wanting.only k later item after (subst (λ ws. IsWanted ws k item later) wants h) in
        (there.0, subst (λ es. later < get_or es there.0 0) (sym ends) there.1, there.2);
    allowed = subst (λ ws. AreAllowed types.constants.types offset ws) (sym wants) wanting.allowed;
  }

pub first_of : (since place next : ℕ) (n m : ℕ) (xs ys : List ℕ) → xs ≡ ys → n ≡ m → IsFirstAbove since place n next xs → IsFirstAbove since place m next ys
first_of since place next n m xs ys e f h = subst (λ k. IsFirstAbove since place k next ys) f (subst (λ zs. IsFirstAbove since place n next zs) e h)

pub most_of : (since place : ℕ) (n m : ℕ) (xs ys : List ℕ) → xs ≡ ys → n ≡ m → AreAtMost since place n xs → AreAtMost since place m ys
most_of since place n m xs ys e f h = subst (λ k. AreAtMost since place k ys) f (subst (λ zs. AreAtMost since place n zs) e h)
