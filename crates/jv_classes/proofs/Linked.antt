-- Members that are found slot by slot: the way through those of one slot, and one more behind the others.
use Rattle.std.proofs.Common.{◌≡◌, ◌≢◌, ℕ, zero, suc, ◌<◌, ◌≤◌, ◌+◌, ◌-◌, Bool, true, false, cond, List, [], ◌∷◌, ◌++◌, length, take, get_or, set, map, Option, Some, None, refl, inl, inr, sym, ap, subst, ◌∙◌, arith, get_or-set_same, get_or-set_other}
use Rattle.std.specs.Prelude.{◌⊎◌, position, is_some, nat_eq, slice_get, replicate}
use Rattle.std.specs.List.{All, list_any}
use Rattle.std.proofs.lemmas.Bool.{eqb-true, eqb-false}
use Rattle.std.proofs.lemmas.Nat.{and_le_r}
use Rattle.std.proofs.lemmas.List.{take_all, take_more, get_or_append_left, get_or-replicate, length-replicate, length-set, length-append, length-map, map-append, length-take-le}
use Rattle.std.proofs.lemmas.List.Elements.{All-get_or, All-push}
use Rattle.std.proofs.Math.Seq.{get_or-append_seam}
use Rattle.std.specs.Option.{option_map}
use Rattle.std.proofs.lemmas.Option.{slice_get-map, slice_get_within, slice_get-get_or, get_or_from_slice_get}
use Rattle.jv_classes.proofs.FirstPlace.{some_place, first_stays, last_place, same_place}
use Rattle.jv_classes.proofs.Pushed.{in_two_parts}
use Rattle.jv_classes.specs.Inside.Seen.{GatheredSeen, MemberSeen, IsHashed, IsWithin, gathered_seen, kept_key, kept_seen, kept_text, member_made, text_at, with_text}
use Rattle.jv_classes.specs.Texts.{key_of}
use Rattle.jv_classes.specs.Inside.Linked.{is_in_slot, seen_at, end_of, AreKept, AreLinked}
use Rattle.jv_classes.specs.Marks.{slot_of}
use Rattle.jv_classes.specs.declared.members.KeptMember.{KeptMember}
use Rattle.jv_classes.specs.declared.members.KeptText.{KeptText}

-- ---- the end of those that pass a test

module _ (test : MemberSeen → Bool) (members : List MemberSeen) where
  pub end_within : (count : ℕ) → end_of test members count ≤ count
  end_within zero = omega arith
  end_within (suc k) = by_test (test (seen_at members k)) (end_within k)
    where
      by_test : (b : Bool) → end_of test members k ≤ k → cond b (suc k) (end_of test members k) ≤ suc k
      by_test true h = omega arith
      by_test false h = omega (arith, h)

  pub end_passes : (count place : ℕ) → end_of test members count ≡ suc place → test (seen_at members place) ≡ true
  end_passes zero place e = absurd (omega (arith, e))
  end_passes (suc k) place e = by_test (test (seen_at members k)) refl (end_passes k place) e
    where
      by_test : (b : Bool) → test (seen_at members k) ≡ b → (end_of test members k ≡ suc place → test (seen_at members place) ≡ true)
          → cond b (suc k) (end_of test members k) ≡ suc place → test (seen_at members place) ≡ true
      by_test true t before e =
          let same : k ≡ place = omega (arith, e) in
          subst (λ n. test (seen_at members n) ≡ true) same t
      by_test false t before e = before e

  pub end_left : (more : List MemberSeen) (count : ℕ) → count ≤ length members → end_of test (members ++ more) count ≡ end_of test members count
  end_left more zero h = refl
  end_left more (suc k) h =
      let within : k < length members = omega (arith, h) in
      ap (λ m. cond (test m) (suc k) (end_of test (members ++ more) k)) (get_or_append_left members more (member_made 0 [] []) k within)
      ∙ ap (λ n. cond (test (seen_at members k)) (suc k) n) (end_left more k (omega (arith, h)))

  pub end_right : (m : MemberSeen) → end_of test (members ++ m ∷ []) (suc (length members)) ≡ cond (test m) (suc (length members)) (end_of test members (length members))
  end_right m =
      ap (λ x. cond (test x) (suc (length members)) (end_of test (members ++ m ∷ []) (length members))) (get_or-append_seam members m [] (member_made 0 [] []))
      ∙ ap (λ n. cond (test m) (suc (length members)) n) (end_left (m ∷ []) (length members) (omega arith))

-- ---- from the last one to the first

-- the first place below an end that passes, where it is there, and else what was found
abbrev pub lowest : (MemberSeen → Bool) → List MemberSeen → ℕ → Option ℕ → Option ℕ
lowest test members zero found = found
lowest test members (suc k) found = lowest test members k (cond (test (seen_at members k)) (Some k) found)

first_or : Option ℕ → Option ℕ → Option ℕ
first_or (Some k) found = Some k
first_or None found = found

none_is : (o : Option ℕ) → is_some o ≡ false → o ≡ None
none_is None e = refl
none_is (Some k) e = absurd cc

first_or-some : (o : Option ℕ) (f g : Option ℕ) → is_some o ≡ true → first_or o f ≡ first_or o g
unfolding first_or
first_or-some (Some k) f g e = refl
first_or-some None f g e = absurd cc

first_or-none : (o : Option ℕ) → first_or o None ≡ o
unfolding first_or
first_or-none (Some k) = refl
first_or-none None = refl

module _ (test : MemberSeen → Bool) (members : List MemberSeen) where
  lowest_is : (k : ℕ) (found : Option ℕ) → k ≤ length members → lowest test members k found ≡ first_or (position test (take k members)) found
  unfolding first_or
  lowest_is zero found h = refl
  lowest_is (suc k) found h =
      let within : k < length members = omega (arith, h) in
      let next : suc k ≡ k + 1 = omega arith in
      let grown : take (suc k) members ≡ take k members ++ seen_at members k ∷ [] = ap (λ n. take n members) next ∙ take_more members k (member_made 0 [] []) within in
      let count : length (take k members) ≡ k = length-take-le k members (omega (arith, h)) in
      lowest_is k (cond (test (seen_at members k)) (Some k) found) (omega (arith, h))
      ∙ (by_tests (list_any test (take k members)) refl (test (seen_at members k)) refl count
      ∙ ap (λ xs. first_or (position test xs) found) (sym grown))
    where
      by_tests : (any : Bool) → list_any test (take k members) ≡ any → (b : Bool) → test (seen_at members k) ≡ b → length (take k members) ≡ k
          → first_or (position test (take k members)) (cond b (Some k) found) ≡ first_or (position test (take k members ++ seen_at members k ∷ [])) found
      by_tests true a b e count =
          first_or-some (position test (take k members)) (cond b (Some k) found) found (some_place test (take k members) ∙ a)
          ∙ ap (λ o. first_or o found) (sym (first_stays test (take k members) (seen_at members k ∷ []) a))
      by_tests false a true e count =
          ap (λ o. first_or o (Some k)) (none_is (position test (take k members)) (some_place test (take k members) ∙ a))
          ∙ (ap (λ n. Some n) (sym count) ∙ ap (λ o. first_or o found) (sym (last_place test (take k members) (seen_at members k) a e)))
      by_tests false a false e count = ap (λ o. first_or o found) (sym (same_place test (take k members) (seen_at members k) e))

  pub lowest_all : lowest test members (length members) None ≡ position test members
  lowest_all =
      lowest_is (length members) None (omega arith)
      ∙ (first_or-none (position test (take (length members) members)) ∙ ap (position test) (take_all (length members) members (omega arith)))

module _ (strong weak : MemberSeen → Bool) (implied : (m : MemberSeen) → strong m ≡ true → weak m ≡ true) (members : List MemberSeen) where
  -- those that do not pass the weaker test are passed over
  pub passed_over : (k : ℕ) (found : Option ℕ) → lowest strong members k found ≡ lowest strong members (end_of weak members k) found
  passed_over zero found = refl
  passed_over (suc k) found = by_tests (weak (seen_at members k)) refl (strong (seen_at members k)) refl (passed_over k found)
    where
      by_tests : (w : Bool) → weak (seen_at members k) ≡ w → (s : Bool) → strong (seen_at members k) ≡ s
          → lowest strong members k found ≡ lowest strong members (end_of weak members k) found
          → lowest strong members (suc k) found ≡ lowest strong members (cond w (suc k) (end_of weak members k)) found
      by_tests true w s e rest = refl
      by_tests false w true e rest = absurd (clash (weak (seen_at members k)) (implied (seen_at members k) e) w)
        where
          clash : (b : Bool) → b ≡ true → b ≡ false → ⊥
          clash true e f = cc
          clash false e f = cc
      by_tests false w false e rest = ap (λ b. lowest strong members k (cond b (Some k) found)) e ∙ rest

-- what is left of the way, where so many members are before it
pub record IsOnWay (seed size : ℕ) (strong : MemberSeen → Bool) (texts : List (List ℕ)) (members : List KeptMember) (slot end : ℕ) (found : Option ℕ) : Type 0 where
  pub within : end ≤ length members
  pub in_slot : (place : ℕ) → end ≡ suc place → is_in_slot seed size slot (seen_at (map (kept_seen texts) members) place) ≡ true
  pub left : lowest strong (map (kept_seen texts) members) end found ≡ position strong (map (kept_seen texts) members)

seen_there : (texts : List (List ℕ)) (members : List KeptMember) (place : ℕ) (m : KeptMember) → slice_get members place ≡ Some m → seen_at (map (kept_seen texts) members) place ≡ kept_seen texts m
seen_there texts members place m there =
    get_or_from_slice_get (map (kept_seen texts) members) place (kept_seen texts m) (member_made 0 [] []) (slice_get-map (kept_seen texts) members place ∙ ap (option_map (kept_seen texts)) there)

module _ (seed size : ℕ) (strong : MemberSeen → Bool) (texts : List (List ℕ)) (members : List KeptMember) (table : List ℕ) (slot : ℕ) (linked : AreLinked seed size texts members table)
    (implied : (m : MemberSeen) → strong m ≡ true → is_in_slot seed size slot m ≡ true) where
  -- those in a slot, from the end that the table has
  pub way_begins : (end : ℕ) → slot < size → end ≡ get_or table slot 0 → IsOnWay seed size strong texts members slot end None
  way_begins end within e =
      let seen = map (kept_seen texts) members in
      let test = is_in_slot seed size slot in
      let is : end ≡ end_of test seen (length members) = e ∙ linked.ends slot within in
      record {
        within = subst (λ n. n ≤ length members) (sym is) (end_within test seen (length members));
        in_slot = λ place p. end_passes test seen (length members) place (sym is ∙ p);
        left =
            ap (λ n. lowest strong seen n None) is
            ∙ (sym (passed_over strong test implied seen (length members) None)
            ∙ (ap (λ n. lowest strong seen n None) (sym (length-map members (kept_seen texts))) ∙ lowest_all strong seen));
      }

  -- past the last of those that are left
  pub way_goes_on : (end : ℕ) (found : Option ℕ) → IsOnWay seed size strong texts members slot end found → (place : ℕ) → end ≡ suc place → (m : KeptMember)
      → slice_get members place ≡ Some m → (next : ℕ) → next ≡ m.end_before → (now : Option ℕ) → now ≡ cond (strong (kept_seen texts m)) (Some place) found
      → IsOnWay seed size strong texts members slot next now
  way_goes_on end found way place last m there next n now f =
      let seen = map (kept_seen texts) members in
      let test = is_in_slot seed size slot in
      let shown : seen_at seen place ≡ kept_seen texts m = seen_there texts members place m there in
      let here : slot_of size (kept_key seed texts m) ≡ slot = eqb-true (slot_of size (kept_key seed texts m)) slot (ap test (sym shown) ∙ way.in_slot place last) in
      let is : next ≡ end_of test seen place = n ∙ (linked.before place m there ∙ ap (λ s. end_of (is_in_slot seed size s) seen place) here) in
      let below : place < length members = slice_get_within members place m there in
      let low : end_of test seen place ≤ place = end_within test seen place in
      record {
        within = omega (arith, is, low, below);
        in_slot = λ p e. end_passes test seen place p (sym is ∙ e);
        left =
            ap (λ k. lowest strong seen k now) is
            ∙ (sym (passed_over strong test implied seen place now)
            ∙ (ap (lowest strong seen place) (f ∙ ap (λ x. cond (strong x) (Some place) found) (sym shown))
            ∙ (ap (λ k. lowest strong seen k found) (sym last) ∙ way.left)));
      }

  pub way_is_shorter : (place : ℕ) (m : KeptMember) → slice_get members place ≡ Some m → m.end_before ≤ place
  way_is_shorter place m there =
      let low = end_within (is_in_slot seed size (slot_of size (kept_key seed texts m))) (map (kept_seen texts) members) place in
      subst (λ n. n ≤ place) (sym (linked.before place m there)) low

  module _ (d : KeptMember) (end : ℕ) (found : Option ℕ) (way : IsOnWay seed size strong texts members slot end found) (left : 0 < end) (next : ℕ)
      (told : next ≡ (get_or members (end - 1) d).end_before) where
    last_there : slice_get members (end - 1) ≡ Some (get_or members (end - 1) d)
    last_there = slice_get-get_or members (end - 1) d (omega (arith, left, way.within))

    pub next_on_way : (passes : Bool) → passes ≡ strong (kept_seen texts (get_or members (end - 1) d)) → (now : Option ℕ) → now ≡ cond passes (Some (end - 1)) found
        → IsOnWay seed size strong texts members slot next now
    next_on_way passes p now f =
        let last : end ≡ suc (end - 1) = omega (arith, left) in
        way_goes_on end found way (end - 1) last (get_or members (end - 1) d) last_there next told now (f ∙ ap (λ b. cond b (Some (end - 1)) found) p)

    pub next_below : next < end
    next_below =
        let shorter = way_is_shorter (end - 1) (get_or members (end - 1) d) last_there in
        omega (arith, shorter, told, left)

pub way_ends : (seed size : ℕ) (strong : MemberSeen → Bool) (texts : List (List ℕ)) (members : List KeptMember) (slot end : ℕ) (found : Option ℕ)
    → IsOnWay seed size strong texts members slot end found → end ≤ 0 → found ≡ position strong (map (kept_seen texts) members)
way_ends seed size strong texts members slot end found way past =
    let none : end ≡ 0 = omega (arith, past) in
    ap (λ n. lowest strong (map (kept_seen texts) members) n found) (sym none) ∙ way.left

-- ---- one more

-- no members, and an empty table
pub none_linked : (seed size : ℕ) (texts : List (List ℕ)) → 0 < size → AreLinked seed size texts [] (replicate size 0)
none_linked seed size texts some = record {
  long = length-replicate size 0;
  some_slot = some;
  ends = λ slot within. get_or-replicate size slot 0 0 within;
  before = λ place m there. absurd (past place m there);
}
  where
    past : (place : ℕ) (m : KeptMember) → slice_get [] place ≡ Some m → ⊥
    past zero m e = cc
    past (suc k) m e = cc

module _ (seed size : ℕ) (texts : List (List ℕ)) (members : List KeptMember) (table : List ℕ) (linked : AreLinked seed size texts members table) (m : KeptMember) where
  abbrev own : ℕ
  own = slot_of size (kept_key seed texts m)

  abbrev grown : List KeptMember
  grown = members ++ m ∷ []

  seen_grown : map (kept_seen texts) grown ≡ map (kept_seen texts) members ++ kept_seen texts m ∷ []
  seen_grown = map-append (kept_seen texts) members (m ∷ [])

  pub one_more_linked : m.end_before ≡ get_or table own 0 → own < size → AreLinked seed size texts grown (set table own (suc (length members)))
  one_more_linked e inside = record {
    long = length-set table own (suc (length members)) ∙ linked.long;
    some_slot = linked.some_slot;
    ends = ends_grown;
    before = before_grown;
  }
    where
      count : length (map (kept_seen texts) members) ≡ length members
      count = length-map members (kept_seen texts)

      ends_grown : (slot : ℕ) → slot < size → get_or (set table own (suc (length members))) slot 0 ≡ end_of (is_in_slot seed size slot) (map (kept_seen texts) grown) (length grown)
      ends_grown slot within =
          by_test (nat_eq own slot) refl
          ∙ (ap (λ n. cond (nat_eq own slot) (suc n) (end_of (is_in_slot seed size slot) (map (kept_seen texts) members) n)) (sym count)
          ∙ (sym (end_right (is_in_slot seed size slot) (map (kept_seen texts) members) (kept_seen texts m))
          ∙ (ap (λ ms. end_of (is_in_slot seed size slot) ms (suc (length (map (kept_seen texts) members)))) (sym seen_grown)
          ∙ ap (λ n. end_of (is_in_slot seed size slot) (map (kept_seen texts) grown) n) (ap suc count ∙ many))))
        where
          many : suc (length members) ≡ length grown
          many =
              let e : length grown ≡ length members + 1 = length-append members (m ∷ []) in
              omega (arith, e)

          by_test : (b : Bool) → nat_eq own slot ≡ b
              → get_or (set table own (suc (length members))) slot 0
              ≡ cond (nat_eq own slot) (suc (length members)) (end_of (is_in_slot seed size slot) (map (kept_seen texts) members) (length members))
          by_test true t =
              let same : own ≡ slot = eqb-true own slot t in
              let there : own < length table = subst (λ n. own < n) (sym linked.long) inside in
              ap (λ s. get_or (set table own (suc (length members))) s 0) (sym same)
              ∙ (get_or-set_same table own (suc (length members)) 0 there
              ∙ ap (λ b. cond b (suc (length members)) (end_of (is_in_slot seed size slot) (map (kept_seen texts) members) (length members))) (sym t))
          by_test false t =
              let other : slot ≢ own = λ e. eqb-false own slot t (sym e) in
              get_or-set_other table own slot (suc (length members)) 0 other
              ∙ (linked.ends slot within
              ∙ ap (λ b. cond b (suc (length members)) (end_of (is_in_slot seed size slot) (map (kept_seen texts) members) (length members))) (sym t))

      before_grown : (place : ℕ) (x : KeptMember) → slice_get grown place ≡ Some x
          → x.end_before ≡ end_of (is_in_slot seed size (slot_of size (kept_key seed texts x))) (map (kept_seen texts) grown) place
      before_grown place x there = by_part (in_two_parts members m x place there)
        where
          same_end : (test : MemberSeen → Bool) (k : ℕ) → k ≤ length members → end_of test (map (kept_seen texts) members) k ≡ end_of test (map (kept_seen texts) grown) k
          same_end test k h =
              sym (end_left test (map (kept_seen texts) members) (kept_seen texts m ∷ []) k (subst (λ n. k ≤ n) (sym count) h))
              ∙ ap (λ ms. end_of test ms k) (sym seen_grown)

          by_part : (slice_get members place ≡ Some x) ⊎ ((place ≡ length members) × (m ≡ x))
              → x.end_before ≡ end_of (is_in_slot seed size (slot_of size (kept_key seed texts x))) (map (kept_seen texts) grown) place
          by_part (inl old) =
              let below = slice_get_within members place x old in
              linked.before place x old ∙ same_end (is_in_slot seed size (slot_of size (kept_key seed texts x))) place (omega (arith, below))
          by_part (inr new) =
              subst (λ (y : KeptMember). y.end_before ≡ end_of (is_in_slot seed size (slot_of size (kept_key seed texts y))) (map (kept_seen texts) grown) place) new.1
              (e ∙ (linked.ends own inside ∙ (ap (λ n. end_of (is_in_slot seed size own) (map (kept_seen texts) members) n) (sym new.0)
              ∙ same_end (is_in_slot seed size own) place (omega (arith, new.0)))))

-- ---- one more text

abbrev seen_key : ℕ → MemberSeen → ℕ
seen_key seed s = key_of seed s.name s.descriptor

abbrev seen_among : List (List ℕ) → List MemberSeen → GatheredSeen
seen_among texts members = record { texts = texts; members = members }

-- what stands at places within is the same behind it
pub seen_still : (texts more : List (List ℕ)) (m : KeptMember) → IsWithin (length texts) m → kept_seen (texts ++ more) m ≡ kept_seen texts m
seen_still texts more m within =
    ap (λ n. member_made m.access_flags n (text_at (texts ++ more) m.descriptor)) (get_or_append_left texts more [] m.name within.0)
    ∙ ap (λ d. member_made m.access_flags (text_at texts m.name) d) (get_or_append_left texts more [] m.descriptor within.1)

pub all_seen_still : (texts more : List (List ℕ)) (members : List KeptMember) → All (IsWithin (length texts)) members
    → map (kept_seen (texts ++ more)) members ≡ map (kept_seen texts) members
all_seen_still texts more [] within = refl
all_seen_still texts more (m ∷ ms) within =
    ap (λ s. s ∷ map (kept_seen (texts ++ more)) ms) (seen_still texts more m (within zero m (omega arith)))
    ∙ ap (λ l. kept_seen texts m ∷ l) (all_seen_still texts more ms (λ k d h. within (suc k) d (omega (arith, h))))

pub texts_join : (seed size : ℕ) (texts more : List (List ℕ)) (members : List KeptMember) (table : List ℕ) → All (IsWithin (length texts)) members
    → AreLinked seed size texts members table → AreLinked seed size (texts ++ more) members table
texts_join seed size texts more members table within linked = record {
  long = linked.long;
  some_slot = linked.some_slot;
  ends = λ slot h. linked.ends slot h ∙ ap (λ l. end_of (is_in_slot seed size slot) l (length members)) (sym still);
  before = λ place m there.
      linked.before place m there
      ∙ (ap (λ l. end_of (is_in_slot seed size (slot_of size (kept_key seed texts m))) l place) (sym still)
      ∙ ap (λ s. end_of (is_in_slot seed size (slot_of size (seen_key seed s))) (map (kept_seen (texts ++ more)) members) place) (sym (one_still place m there)));
}
  where
    still : map (kept_seen (texts ++ more)) members ≡ map (kept_seen texts) members
    still = all_seen_still texts more members within

    one_still : (place : ℕ) (m : KeptMember) → slice_get members place ≡ Some m → kept_seen (texts ++ more) m ≡ kept_seen texts m
    one_still place m there =
        let here : get_or members place m ≡ m = get_or_from_slice_get members place m m there in
        let holds = All-get_or (IsWithin (length texts)) members place m (slice_get_within members place m there) within in
        seen_still texts more m (subst (IsWithin (length texts)) here holds)

module _ (seed : ℕ) (texts : List KeptText) (members : List KeptMember) (table : List ℕ) (kept : AreKept seed texts members table) (t : KeptText) where
  among_shown : All (IsWithin (length (map kept_text texts))) members
  among_shown = subst (λ n. All (IsWithin n) members) (sym (length-map texts kept_text)) kept.within

  shown_grown : map kept_text (texts ++ t ∷ []) ≡ map kept_text texts ++ kept_text t ∷ []
  shown_grown = map-append kept_text texts (t ∷ [])

  pub one_more_text : IsHashed seed t → AreKept seed (texts ++ t ∷ []) members table
  one_more_text hashed = record {
    linked =
        subst (λ (ts : List (List ℕ)). AreLinked seed (length table) ts members table) (sym shown_grown)
        (texts_join seed (length table) (map kept_text texts) (kept_text t ∷ []) members table among_shown kept.linked);
    hashed = All-push (IsHashed seed) texts t kept.hashed hashed;
    within = λ k d h.
        let before = kept.within k d h in
        let long : length (texts ++ t ∷ []) ≡ length texts + 1 = length-append texts (t ∷ []) in
        (omega (arith, before.0, long), omega (arith, before.1, long));
  }

  pub seen_with_text : gathered_seen (texts ++ t ∷ []) members ≡ with_text (gathered_seen texts members) (kept_text t)
  seen_with_text =
      ap (λ (ts : List (List ℕ)). seen_among ts (map (kept_seen ts) members)) shown_grown
      ∙ ap (seen_among (map kept_text texts ++ kept_text t ∷ [])) (all_seen_still (map kept_text texts) (kept_text t ∷ []) members among_shown)

module _ (seed : ℕ) (texts : List KeptText) (members : List KeptMember) (table : List ℕ) (kept : AreKept seed texts members table) (m : KeptMember) where
  abbrev its_slot : ℕ
  its_slot = slot_of (length table) (kept_key seed (map kept_text texts) m)

  pub one_more_member : IsWithin (length texts) m → m.end_before ≡ get_or table its_slot 0
      → AreKept seed texts (members ++ m ∷ []) (set table its_slot (suc (length members)))
  one_more_member within before =
      let low = and_le_r (kept_key seed (map kept_text texts) m) (length table - 1) in
      let inside : its_slot < length table = omega (arith, low, kept.linked.some_slot) in
      record {
        linked =
            subst (λ n. AreLinked seed n (map kept_text texts) (members ++ m ∷ []) (set table its_slot (suc (length members))))
            (sym (length-set table its_slot (suc (length members))))
            (one_more_linked seed (length table) (map kept_text texts) members table kept.linked m before inside);
        hashed = kept.hashed;
        within = All-push (IsWithin (length texts)) members m kept.within within;
      }
