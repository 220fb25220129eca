-- Arrays in an array are taken back, the newest first.
use Rattle.std.proofs.Common.{◌≡◌, ℕ, suc, ◌+◌, ◌-◌, ◌*◌, ◌<◌, ◌≤◌, List, [], ◌∷◌, ◌++◌, length, get_or, drop, sym, ap, subst, ◌∙◌, arith, append-nil, append_assoc, length-append}
use Rattle.std.proofs.Math.Seq.{get_or-append_seam}
use Rattle.std.proofs.lemmas.List.{nil_from_length}
use Rattle.jv_store.specs.Content.{words_at}
use Rattle.jv_interp_heap.specs.ObjectsInBlocks.{Blocks}
use Rattle.jv_interp_heap.specs.NewBlocks.{Joins}
use Rattle.jv_interp_objects.specs.NestedBlocks.{outer_slots, inner_size, Follow, AreNested, EachAbove, HasInner, CanTakeInner, TakesInner}
use Rattle.jv_interp_objects.proofs.Behind.{above_front, above_behind, own_words}
use Rattle.jv_interp_objects.proofs.Following.{first_of, LastOf, follow_split, LastAt, last_at, Opened, opened}

module _ (slots : ℕ) (counts : List ℕ) (word size outer : ℕ) (start : Blocks) (h : HasInner slots counts word size outer start) where
  abbrev words : List ℕ
  words = h.first ∷ h.second ∷ (h.inner ++ h.others)

  abbrev base : Blocks
  base = h.earlier ++ (outer, words) ∷ []

  -- so many are left
  pub record Taking (left : ℕ) (now : Blocks) : Type 0 where
    pub front : List ℕ
    pub behind : List ℕ
    pub inner_is : h.inner ≡ front ++ behind
    pub size_is : length front ≡ left
    pub made : Blocks
    pub follow : Follow (AreNested slots counts word) front made
    pub each_above : EachAbove base made
    pub are : now ≡ base ++ made

  pub taking_begins : Taking size start
  taking_begins = record {
    front = h.inner;
    behind = [];
    inner_is = sym (append-nil h.inner);
    size_is = h.size_is;
    made = h.made;
    follow = h.follow;
    each_above = h.each_above;
    are = h.are;
  }

  pub taking_ends : (now : Blocks) → Taking 0 now → now ≡ base
  taking_ends now t =
      let none : t.front ≡ [] = nil_from_length t.front t.size_is in
      let gone : t.made ≡ [] = subst (λ (f : List ℕ). Follow (AreNested slots counts word) f t.made) none t.follow in
      t.are ∙ ap (λ (b : Blocks). base ++ b) gone ∙ append-nil base

  module _ (left : ℕ) (now : Blocks) (some : 1 ≤ left) (t : Taking left now) where
    pub l : LastAt (left - 1) t.front
    l = last_at (left - 1) t.front (let n = t.size_is in omega (arith, n, some))

    pub s : LastOf (AreNested slots counts word) l.front l.last t.made
    s =
        follow_split (AreNested slots counts word) l.front l.last t.made
        (subst (λ (f : List ℕ). Follow (AreNested slots counts word) f t.made) l.are t.follow)

    pub o : Opened slots counts word s.own l.last
    o = opened slots counts word s.own l.last s.kind

    abbrev own_words_are : List ℕ
    own_words_are = o.first ∷ o.second ∷ (o.inner ++ o.others)

    -- its address stands in the outer array
    inner_all : h.inner ≡ l.front ++ l.last ∷ t.behind
    inner_all = t.inner_is ∙ ap (λ (f : List ℕ). f ++ t.behind) l.are ∙ append_assoc l.front (l.last ∷ []) t.behind

    outer_words : words_at now outer ≡ h.first ∷ h.second ∷ (l.front ++ l.last ∷ (t.behind ++ h.others))
    outer_words =
        ap (λ (b : Blocks). words_at b outer) t.are ∙ own_words h.earlier outer words t.made h.above t.each_above
        ∙ ap (λ (i : List ℕ). h.first ∷ h.second ∷ (i ++ h.others)) inner_all
        ∙ ap (λ (i : List ℕ). h.first ∷ h.second ∷ i) (append_assoc l.front (l.last ∷ t.behind) h.others)

    pub last_word : get_or (words_at now outer) (left - 1 + 2) 0 ≡ l.last
    last_word =
        let place : left - 1 + 2 ≡ suc (suc (length l.front)) = let n = l.size in omega (arith, n) in
        ap (λ (w : List ℕ). get_or w (left - 1 + 2) 0) outer_words
        ∙ ap (λ (n : ℕ). get_or ((h.first ∷ h.second ∷ l.front) ++ l.last ∷ (t.behind ++ h.others)) n 0) place
        ∙ get_or-append_seam (h.first ∷ h.second ∷ l.front) l.last (t.behind ++ h.others) 0

    pub has_place : left - 1 + 2 < length (words_at now outer)
    has_place =
        let all = ap (λ (w : List ℕ). length w) outer_words in
        let n = l.size in
        omega (arith, all, n, length-append l.front (l.last ∷ (t.behind ++ h.others)))

    -- it and what is in it
    pub above_own : EachAbove (base ++ s.rest) ((l.last, own_words_are) ∷ o.made)
    above_own =
        subst (λ (b : Blocks). EachAbove (base ++ s.rest) b) o.are
        (above_behind base s.rest s.own (subst (λ (b : Blocks). EachAbove base b) s.are t.each_above))

    pub now_is : now ≡ ((base ++ s.rest) ++ (l.last, own_words_are) ∷ []) ++ o.made
    now_is =
        t.are ∙ ap (λ (b : Blocks). base ++ b) (s.are ∙ ap (λ (b : Blocks). s.rest ++ b) o.are)
        ∙ sym (append_assoc base s.rest ((l.last, own_words_are) ∷ o.made))
        ∙ sym (append_assoc (base ++ s.rest) ((l.last, own_words_are) ∷ []) o.made)

    abbrev pub inner_has : HasInner slots (drop 1 counts) (word - 65536) (inner_size counts) l.last now
    inner_has = record {
      earlier = base ++ s.rest;
      first = o.first;
      second = o.second;
      inner = o.inner;
      others = o.others;
      made = o.made;
      above = above_own.0;
      size_is = o.size_is;
      follow = o.follow;
      each_above = above_own.1;
      are = now_is;
    }

    -- those are taken back, by what is known of them
    pub inner_can :
        (known : List ℕ) (size address : ℕ) → known ≡ drop 1 counts → size ≡ inner_size counts → address ≡ l.last
        → CanTakeInner slots known size address now
    inner_can known size address a b e =
        record {
          word = word - 65536;
          has =
              subst (λ (k : List ℕ). HasInner slots k (word - 65536) size address now) (sym a)
              (subst (λ (k : ℕ). HasInner slots (drop 1 counts) (word - 65536) k address now) (sym b)
              (subst (λ (k : ℕ). HasInner slots (drop 1 counts) (word - 65536) (inner_size counts) k now) (sym e) inner_has));
        }

    pub left_joins :
        (known : List ℕ) (size address : ℕ) (between : Blocks) → known ≡ drop 1 counts → size ≡ inner_size counts → address ≡ l.last
        → TakesInner slots known size address now between → Joins own_words_are (base ++ s.rest) between l.last
    left_joins known size address between a b e takes =
        let one = subst (λ (k : List ℕ). TakesInner slots k size address now between) a takes in
        let two = subst (λ (k : ℕ). TakesInner slots (drop 1 counts) k address now between) b one in
        let three = subst (λ (k : ℕ). TakesInner slots (drop 1 counts) (inner_size counts) k now between) e two in
        record { above = above_own.0; joins = three (word - 65536) inner_has }

    pub left_length : length own_words_are ≡ 2 + first_of counts * outer_slots slots counts
    left_length = let n = o.words_are in omega (arith, n)

    -- and it itself
    pub taking_goes_on : (after : Blocks) → after ≡ base ++ s.rest → Taking (left - 1) after
    taking_goes_on after e = record {
      front = l.front;
      behind = l.last ∷ t.behind;
      inner_is = inner_all;
      size_is = l.size;
      made = s.rest;
      follow = s.follow;
      each_above = above_front base s.rest s.own (subst (λ (b : Blocks). EachAbove base b) s.are t.each_above);
      are = e;
    }

-- whatever their first words
pub record IsTaking (slots : ℕ) (counts : List ℕ) (size outer : ℕ) (start : Blocks) (left : ℕ) (now : Blocks) : Type 0 where
  pub each : (word : ℕ) (h : HasInner slots counts word size outer start) → Taking slots counts word size outer start h left now
