-- Names that are found slot by slot: the way through those of one slot, links made anew, and one more behind the others.
use Rattle.std.proofs.Common.{◌≡◌, ◌≢◌, ℕ, zero, suc, ◌<◌, ◌≤◌, ◌+◌, ◌-◌, Bool, true, false, cond, List, [], ◌∷◌, ◌++◌, length, get_or, set, Option, Some, None, refl, inl, inr, sym, ap, subst, ◌∙◌, arith, get_or-set_same, get_or-set_other}
use Rattle.std.specs.Prelude.{◌⊎◌, position, is_some, nat_eq, replicate}
use Rattle.std.specs.List.{list_any}
use Rattle.std.specs.Borrow.{Bor}
use Rattle.std.specs.Str.{bytes_eq}
use Rattle.std.proofs.Math.Nat.{eq-or-lt_of_le}
use Rattle.std.proofs.Math.Seq.{get_or-append_seam}
use Rattle.std.proofs.lemmas.Bool.{cases_lt, eqb-true, eqb-false}
use Rattle.std.proofs.lemmas.List.{get_or_append_left, get_or-replicate, length-replicate, length-set, length-append, length-map, map-append}
use Rattle.std.proofs.lemmas.List.Folds.{list_any_at}
use Rattle.std.proofs.lemmas.Slice.Eq.{bytes_eq-Decides}
use Rattle.jv_classes.specs.Inside.KeptNames.{text_of, texts_of}
use Rattle.jv_classes.specs.Inside.NameLinks.{text_in, slot_of_text, end_in, AreLinkedTo, AreApart, AreNamesLinked}
use Rattle.jv_classes.specs.Marks.{slot_of}
use Rattle.jv_classes.specs.Names.{has_name, with_name}
use Rattle.jv_classes.specs.Texts.{text_hash}
use Rattle.jv_classes.proofs.FirstPlace.{some_place, first_stays, last_place}

-- ---- the end of those in a slot

module _ (seed size slot : ℕ) (texts : List (List ℕ)) where
  abbrev falls : ℕ → Bool
  falls place = nat_eq (slot_of_text seed size (text_in texts place)) slot

  pub end_within : (count : ℕ) → end_in seed size slot texts count ≤ count
  end_within zero = omega arith
  end_within (suc k) = by_test (falls k) (end_within k)
    where
      by_test : (b : Bool) → end_in seed size slot texts k ≤ k → cond b (suc k) (end_in seed size slot texts k) ≤ suc k
      by_test true h = omega arith
      by_test false h = omega (arith, h)

  -- the last one before an end is in the slot
  pub end_falls : (count place : ℕ) → end_in seed size slot texts count ≡ suc place → slot_of_text seed size (text_in texts place) ≡ slot
  end_falls zero place e = absurd (omega (arith, e))
  end_falls (suc k) place e = by_test (falls k) refl (end_falls k place) e
    where
      by_test : (b : Bool) → falls k ≡ b → (end_in seed size slot texts k ≡ suc place → slot_of_text seed size (text_in texts place) ≡ slot)
          → cond b (suc k) (end_in seed size slot texts k) ≡ suc place → slot_of_text seed size (text_in texts place) ≡ slot
      by_test true t before e =
          let same : k ≡ place = omega (arith, e) in
          subst (λ n. slot_of_text seed size (text_in texts n) ≡ slot) same (eqb-true (slot_of_text seed size (text_in texts k)) slot t)
      by_test false t before e = before e

  -- and none behind it is
  pub none_between : (count place : ℕ) → end_in seed size slot texts count ≤ place → place < count → slot_of_text seed size (text_in texts place) ≢ slot
  none_between zero place h less = absurd (omega (arith, less))
  none_between (suc k) place h less = by_test (falls k) refl (none_between k place) h
    where
      by_test : (b : Bool) → falls k ≡ b → (end_in seed size slot texts k ≤ place → place < k → slot_of_text seed size (text_in texts place) ≢ slot)
          → cond b (suc k) (end_in seed size slot texts k) ≤ place → slot_of_text seed size (text_in texts place) ≢ slot
      by_test true t before h = absurd (omega (arith, h, less))
      by_test false t before h = by_place (eq-or-lt_of_le (omega (arith, less)))
        where
          by_place : (place ≡ k) ⊎ (place < k) → slot_of_text seed size (text_in texts place) ≢ slot
          by_place (inl same) = λ e. eqb-false (slot_of_text seed size (text_in texts k)) slot t (ap (λ n. slot_of_text seed size (text_in texts n)) (sym same) ∙ e)
          by_place (inr below) = before h below

  pub end_left : (more : List (List ℕ)) (count : ℕ) → count ≤ length texts → end_in seed size slot (texts ++ more) count ≡ end_in seed size slot texts count
  end_left more zero h = refl
  end_left more (suc k) h =
      let within : k < length texts = omega (arith, h) in
      ap (λ t. cond (nat_eq (slot_of_text seed size t) slot) (suc k) (end_in seed size slot (texts ++ more) k)) (get_or_append_left texts more [] k within)
      ∙ ap (λ n. cond (falls k) (suc k) n) (end_left more k (omega (arith, h)))

-- ---- a look-up

-- what is left of the way, where so many are before it
pub record IsOnWay (seed size : ℕ) (texts : List (List ℕ)) (name : List ℕ) (slot end : ℕ) : Type 0 where
  pub within : end ≤ length texts
  pub last : (place : ℕ) → end ≡ suc place → slot_of_text seed size (text_in texts place) ≡ slot
  pub behind : (place : ℕ) → end ≤ place → place < length texts → bytes_eq name (text_in texts place) ≡ false

-- what is in another slot is another
other_slot : (seed size slot : ℕ) (name text : List ℕ) → slot_of_text seed size name ≡ slot → slot_of_text seed size text ≢ slot → bytes_eq name text ≡ false
other_slot seed size slot name text own other = by_test (bytes_eq name text) refl
  where
    by_test : (b : Bool) → bytes_eq name text ≡ b → bytes_eq name text ≡ false
    by_test true t = absurd (other (ap (slot_of_text seed size) (sym ((bytes_eq-Decides name text).0 t)) ∙ own))
    by_test false t = t

module _ (seed size : ℕ) (texts : List (List ℕ)) (before ends : List ℕ) (linked : AreLinkedTo seed size texts (length texts) before ends)
    (name : List ℕ) (slot : ℕ) (own : slot_of_text seed size name ≡ slot) where
  pub way_begins : (end : ℕ) → slot < size → end ≡ get_or ends slot 0 → IsOnWay seed size texts name slot end
  way_begins end within e =
      let is : end ≡ end_in seed size slot texts (length texts) = e ∙ linked.heads slot within in
      record {
        within = subst (λ n. n ≤ length texts) (sym is) (end_within seed size slot texts (length texts));
        last = λ place p. end_falls seed size slot texts (length texts) place (sym is ∙ p);
        behind = λ place h less.
            other_slot seed size slot name (text_in texts place) own
            (none_between seed size slot texts (length texts) place (subst (λ n. n ≤ place) is h) less);
      }

  module _ (end : ℕ) (way : IsOnWay seed size texts name slot end) (some : 0 < end) (next : ℕ) (e : next ≡ get_or before (end - 1) 0) where
    next_is : next ≡ end_in seed size slot texts (end - 1)
    next_is =
        let below : end - 1 < length texts = omega (arith, some, way.within) in
        let here = way.last (end - 1) (omega (arith, some)) in
        e ∙ (linked.links (end - 1) below ∙ ap (λ s. end_in seed size s texts (end - 1)) here)

    pub next_below : next < end
    next_below =
        let low = end_within seed size slot texts (end - 1) in
        omega (arith, low, next_is, some)

    pub way_goes_on : bytes_eq name (text_in texts (end - 1)) ≡ false → IsOnWay seed size texts name slot next
    way_goes_on unlike =
        let inside = way.within in
        record {
          within = omega (arith, next_below, inside);
          last = λ place p. end_falls seed size slot texts (end - 1) place (sym next_is ∙ p);
          behind = λ place h less. by_place place h less (cases_lt place (end - 1));
        }
      where
        at_end : (place : ℕ) → (end - 1 ≡ place) ⊎ (end - 1 < place) → place < length texts → bytes_eq name (text_in texts place) ≡ false
        at_end place (inl same) less = subst (λ n. bytes_eq name (text_in texts n) ≡ false) same unlike
        at_end place (inr above) less = way.behind place (omega (arith, above)) less

        by_place : (place : ℕ) → next ≤ place → place < length texts → (place < end - 1) ⊎ (end - 1 ≤ place) → bytes_eq name (text_in texts place) ≡ false
        by_place place h less (inl below) =
            other_slot seed size slot name (text_in texts place) own (none_between seed size slot texts (end - 1) place (subst (λ n. n ≤ place) next_is h) below)
        by_place place h less (inr above) = at_end place (eq-or-lt_of_le above) less

none_passes : (test : List ℕ → Bool) (texts : List (List ℕ)) → ((place : ℕ) → place < length texts → test (text_in texts place) ≡ false) → list_any test texts ≡ false
none_passes test [] h = refl
none_passes test (t ∷ ts) h =
    rw (h zero (omega arith)) (none_passes test ts (λ place less. h (suc place) (omega (arith, less))))

no_place : (o : Option ℕ) → is_some o ≡ false → None ≡ o
no_place None e = refl
no_place (Some k) e = absurd cc

pub way_ends : (seed size : ℕ) (texts : List (List ℕ)) (name : List ℕ) (slot end : ℕ) → IsOnWay seed size texts name slot end → end ≤ 0 → None ≡ position (bytes_eq name) texts
way_ends seed size texts name slot end way past =
    no_place (position (bytes_eq name) texts)
    (some_place (bytes_eq name) texts ∙ none_passes (bytes_eq name) texts (λ place less. way.behind place (omega (arith, past)) less))

pub no_texts : (texts : List (List ℕ)) (name : List ℕ) → length texts ≤ 0 → None ≡ position (bytes_eq name) texts
no_texts [] name h = refl
no_texts (t ∷ ts) name h = absurd (omega (arith, h))

pub its_place : (texts : List (List ℕ)) (name : List ℕ) (place : ℕ) → AreApart texts → place < length texts → bytes_eq name (text_in texts place) ≡ true
    → Some place ≡ position (bytes_eq name) texts
its_place texts name place apart less same =
    sym (apart place less) ∙ ap (λ text. position (bytes_eq text) texts) (sym ((bytes_eq-Decides name (text_in texts place)).0 same))

-- ---- one more link

pub none_linked : (seed size : ℕ) (texts : List (List ℕ)) (before : List ℕ) → AreLinkedTo seed size texts 0 before (replicate size 0)
none_linked seed size texts before = record {
  long = length-replicate size 0;
  heads = λ slot within. get_or-replicate size slot 0 0 within;
  links = λ place less. absurd (omega (arith, less));
}

module _ (seed size : ℕ) (texts : List (List ℕ)) (count : ℕ) (before ends : List ℕ) (linked : AreLinkedTo seed size texts count before ends) where
  pub one_more_link : (slot : ℕ) → slot ≡ slot_of_text seed size (text_in texts count) → slot < size → count < length before
      → AreLinkedTo seed size texts (count + 1) (set before count (get_or ends slot 0)) (set ends slot (count + 1))
  one_more_link slot own within there = record {
    long = length-set ends slot (count + 1) ∙ linked.long;
    heads = heads_grown;
    links = links_grown;
  }
    where
      more : count + 1 ≡ suc count
      more = omega arith

      heads_grown : (other : ℕ) → other < size → get_or (set ends slot (count + 1)) other 0 ≡ end_in seed size other texts (count + 1)
      heads_grown other inside = by_test (nat_eq (slot_of_text seed size (text_in texts count)) other) refl ∙ ap (end_in seed size other texts) (sym more)
        where
          by_test : (b : Bool) → nat_eq (slot_of_text seed size (text_in texts count)) other ≡ b
              → get_or (set ends slot (count + 1)) other 0 ≡ end_in seed size other texts (suc count)
          by_test true t =
              let same : slot ≡ other = own ∙ eqb-true (slot_of_text seed size (text_in texts count)) other t in
              let room : slot < length ends = subst (λ n. slot < n) (sym linked.long) within in
              ap (λ s. get_or (set ends slot (count + 1)) s 0) (sym same)
              ∙ (get_or-set_same ends slot (count + 1) 0 room
              ∙ (more ∙ ap (λ b. cond b (suc count) (end_in seed size other texts count)) (sym t)))
          by_test false t =
              let apart : other ≢ slot = λ e. eqb-false (slot_of_text seed size (text_in texts count)) other t (sym own ∙ sym e) in
              get_or-set_other ends slot other (count + 1) 0 apart
              ∙ (linked.heads other inside ∙ ap (λ b. cond b (suc count) (end_in seed size other texts count)) (sym t))

      links_grown : (place : ℕ) → place < count + 1
          → get_or (set before count (get_or ends slot 0)) place 0 ≡ end_in seed size (slot_of_text seed size (text_in texts place)) texts place
      links_grown place less = by_place (eq-or-lt_of_le (omega (arith, less)))
        where
          by_place : (place ≡ count) ⊎ (place < count)
              → get_or (set before count (get_or ends slot 0)) place 0 ≡ end_in seed size (slot_of_text seed size (text_in texts place)) texts place
          by_place (inl same) =
              ap (λ n. get_or (set before count (get_or ends slot 0)) n 0) same
              ∙ (get_or-set_same before count (get_or ends slot 0) 0 there
              ∙ (linked.heads slot within
              ∙ (ap (λ s. end_in seed size s texts count) own
              ∙ ap (λ n. end_in seed size (slot_of_text seed size (text_in texts n)) texts n) (sym same))))
          by_place (inr below) =
              let other : place ≢ count = λ e. absurd (omega (arith, below, e)) in
              get_or-set_other before count place (get_or ends slot 0) 0 other ∙ linked.links place below

  -- more texts behind those that are linked
  pub texts_join : (more : List (List ℕ)) (after : List ℕ) → count ≤ length texts → count ≤ length before → AreLinkedTo seed size (texts ++ more) count (before ++ after) ends
  texts_join more after few known = record {
    long = linked.long;
    heads = λ slot within. linked.heads slot within ∙ sym (end_left seed size slot texts more count few);
    links = λ place less.
        let among : place < length texts = omega (arith, less, few) in
        let there : place < length before = omega (arith, less, known) in
        get_or_append_left before after 0 place there
        ∙ (linked.links place less
        ∙ (sym (end_left seed size (slot_of_text seed size (text_in texts place)) texts more place (omega (arith, among)))
        ∙ ap (λ t. end_in seed size (slot_of_text seed size t) (texts ++ more) place) (sym (get_or_append_left texts more [] place among))));
  }

-- ---- one more name

pub apart_more : (texts : List (List ℕ)) (name : List ℕ) → AreApart texts → has_name texts name ≡ false → AreApart (texts ++ name ∷ [])
apart_more texts name apart absent place less =
    let long : length (texts ++ name ∷ []) ≡ length texts + 1 = length-append texts (name ∷ []) in
    by_place (eq-or-lt_of_le (omega (arith, less, long)))
  where
    same : (text : List ℕ) → bytes_eq text text ≡ true
    same text = (bytes_eq-Decides text text).1 refl

    by_place : (place ≡ length texts) ⊎ (place < length texts) → position (bytes_eq (text_in (texts ++ name ∷ []) place)) (texts ++ name ∷ []) ≡ Some place
    by_place (inl last) =
        ap (λ text. position (bytes_eq text) (texts ++ name ∷ [])) (ap (λ n. text_in (texts ++ name ∷ []) n) last ∙ get_or-append_seam texts name [] [])
        ∙ (last_place (bytes_eq name) texts name absent (same name) ∙ ap (λ n. Some n) (sym last))
    by_place (inr below) =
        ap (λ text. position (bytes_eq text) (texts ++ name ∷ [])) (get_or_append_left texts (name ∷ []) [] place below)
        ∙ (first_stays (bytes_eq (text_in texts place)) texts (name ∷ []) (list_any_at (bytes_eq (text_in texts place)) texts place [] below (same (text_in texts place)))
        ∙ apart place below)

-- ---- the same of names

text_there : (names : List (Bor (List ℕ))) (place : ℕ) (d : Bor (List ℕ)) → place < length names → text_in (texts_of names) place ≡ (get_or names place d).now
text_there [] place d less = absurd (omega (arith, less))
text_there (n ∷ ns) zero d less = refl
text_there (n ∷ ns) (suc place) d less = text_there ns place d (omega (arith, less))

pub all_linked : (seed : ℕ) (names : List (Bor (List ℕ))) (before ends : List ℕ) → AreNamesLinked seed names before ends
    → AreLinkedTo seed (length ends) (texts_of names) (length (texts_of names)) before ends
all_linked seed names before ends kept = subst (λ n. AreLinkedTo seed (length ends) (texts_of names) n before ends) (sym (length-map names text_of)) kept.linked

module _ (seed : ℕ) (names : List (Bor (List ℕ))) (before ends : List ℕ) (kept : AreNamesLinked seed names before ends)
    (name : List ℕ) (hash slot : ℕ) (h : hash ≡ text_hash seed name) (s : slot ≡ slot_of (length ends) hash) where
  own : slot_of_text seed (length ends) name ≡ slot
  own = sym (s ∙ ap (slot_of (length ends)) h)

  pub name_begins : slot < length ends → IsOnWay seed (length ends) (texts_of names) name slot (get_or ends slot 0)
  name_begins within = way_begins seed (length ends) (texts_of names) before ends (all_linked seed names before ends kept) name slot own (get_or ends slot 0) within refl

  module _ (end : ℕ) (way : IsOnWay seed (length ends) (texts_of names) name slot end) (some : 0 < end) (d : Bor (List ℕ)) (r : Bool)
      (e : r ≡ bytes_eq name (get_or names (end - 1) d).now) where
    among : end - 1 < length names
    among =
        let many = length-map names text_of in
        let within = way.within in
        omega (arith, some, many, within)

    told : bytes_eq name (text_in (texts_of names) (end - 1)) ≡ r
    told = ap (bytes_eq name) (text_there names (end - 1) d among) ∙ sym e

    pub name_found : r ≡ true → Some (end - 1) ≡ position (bytes_eq name) (texts_of names)
    name_found t =
        let many = length-map names text_of in
        let there = among in
        let less : end - 1 < length (texts_of names) = omega (arith, there, many) in
        its_place (texts_of names) name (end - 1) kept.apart less (told ∙ t)

    pub name_goes_on : r ≡ false → IsOnWay seed (length ends) (texts_of names) name slot (get_or before (end - 1) 0)
    name_goes_on t =
        way_goes_on seed (length ends) (texts_of names) before ends (all_linked seed names before ends kept) name slot own end way some (get_or before (end - 1) 0) refl (told ∙ t)

    pub name_below : get_or before (end - 1) 0 < end
    name_below = next_below seed (length ends) (texts_of names) before ends (all_linked seed names before ends kept) name slot own end way some (get_or before (end - 1) 0) refl

  pub name_ends : (end : ℕ) → IsOnWay seed (length ends) (texts_of names) name slot end → end ≤ 0 → None ≡ position (bytes_eq name) (texts_of names)
  name_ends end way past = way_ends seed (length ends) (texts_of names) name slot end way past

-- more slots, with all names linked in them
pub linked_anew : (seed : ℕ) (names : List (Bor (List ℕ))) (before ends : List ℕ) → AreNamesLinked seed names before ends → (size : ℕ) → length names ≤ size
    → (now new : List ℕ) → length now ≡ length names → AreLinkedTo seed size (texts_of names) (length names) now new → AreNamesLinked seed names now new
linked_anew seed names before ends kept size room now new many linked = record {
  many = many;
  room = subst (λ n. length names ≤ n) (sym linked.long) room;
  linked = subst (λ n. AreLinkedTo seed n (texts_of names) (length names) now new) (sym linked.long) linked;
  apart = kept.apart;
}

-- one name more, where there is a slot for it
pub one_more_name : (seed : ℕ) (names : List (Bor (List ℕ))) (before ends : List ℕ) → AreNamesLinked seed names before ends → length names < length ends
    → (name : Bor (List ℕ)) → has_name (texts_of names) name.now ≡ false → (slot : ℕ) → slot ≡ slot_of_text seed (length ends) name.now → slot < length ends
    → AreNamesLinked seed (names ++ name ∷ []) (set (before ++ 0 ∷ []) (length names) (get_or ends slot 0)) (set ends slot (length names + 1))
one_more_name seed names before ends kept room name absent slot own within =
    let long : length (names ++ name ∷ []) ≡ length names + 1 = length-append names (name ∷ []) in
    let wide : length (before ++ 0 ∷ []) ≡ length before + 1 = length-append before (0 ∷ []) in
    let same : length (set (before ++ 0 ∷ []) (length names) (get_or ends slot 0)) ≡ length (before ++ 0 ∷ []) = length-set (before ++ 0 ∷ []) (length names) (get_or ends slot 0) in
    let slots : length (set ends slot (length names + 1)) ≡ length ends = length-set ends slot (length names + 1) in
    let many = kept.many in
    let count : length (texts_of names) ≡ length names = length-map names text_of in
    let shown : texts_of (names ++ name ∷ []) ≡ texts_of names ++ name.now ∷ [] = map-append text_of names (name ∷ []) in
    let here : text_in (texts_of names ++ name.now ∷ []) (length names) ≡ name.now =
    ap (λ n. text_in (texts_of names ++ name.now ∷ []) n) (sym count) ∙ get_or-append_seam (texts_of names) name.now [] [] in
    let joined = texts_join seed (length ends) (texts_of names) (length names) before ends kept.linked (name.now ∷ []) (0 ∷ []) (omega (arith, count)) (omega (arith, many)) in
    let more = one_more_link seed (length ends) (texts_of names ++ name.now ∷ []) (length names) (before ++ 0 ∷ []) ends joined slot
    (own ∙ ap (slot_of_text seed (length ends)) (sym here)) within (omega (arith, wide, many)) in
    record {
      many = omega (arith, same, wide, many, long);
      room = omega (arith, slots, room, long);
      linked =
          subst (λ n. AreLinkedTo seed n (texts_of (names ++ name ∷ [])) (length (names ++ name ∷ []))
          (set (before ++ 0 ∷ []) (length names) (get_or ends slot 0)) (set ends slot (length names + 1))) (sym slots)
          (subst (λ n. AreLinkedTo seed (length ends) (texts_of (names ++ name ∷ [])) n (set (before ++ 0 ∷ []) (length names) (get_or ends slot 0)) (set ends slot (length names + 1))) (sym long)
          (subst (λ (ts : List (List ℕ)). AreLinkedTo seed (length ends) ts (length names + 1)
          (set (before ++ 0 ∷ []) (length names) (get_or ends slot 0)) (set ends slot (length names + 1))) (sym shown) more));
      apart = subst AreApart (sym shown) (apart_more (texts_of names) name.now kept.apart absent);
    }

-- ---- what a call answers

pub is_there : (names : List (List ℕ)) (name : List ℕ) (place : Option ℕ) → place ≡ position (bytes_eq name) names → is_some place ≡ has_name names name
is_there names name place e = ap is_some e ∙ some_place (bytes_eq name) names

pub stays : (names : List (List ℕ)) (name : List ℕ) → has_name names name ≡ true → names ≡ with_name names name
stays names name found = ap (λ b. cond b names (names ++ name ∷ [])) (sym found)

pub behind : (names : List (Bor (List ℕ))) (name : Bor (List ℕ)) → has_name (texts_of names) name.now ≡ false → texts_of (names ++ name ∷ []) ≡ with_name (texts_of names) name.now
behind names name absent = map-append text_of names (name ∷ []) ∙ ap (λ b. cond b (texts_of names) (texts_of names ++ name.now ∷ [])) (sym absent)
