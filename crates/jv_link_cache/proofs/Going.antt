-- Words that go on from field to field, and from class to class.
use Rattle.std.proofs.Common.{◌≡◌, ℕ, zero, suc, ◌+◌, ◌<◌, List, [], ◌∷◌, ◌++◌, length, map, take, drop, get_or, Option, Some, None, refl, sym, ap, ◌∙◌, arith, append_assoc}
use Rattle.std.specs.Prelude.{slice_get, sum_by}
use Rattle.std.specs.Option.{IsSomeAnd}
use Rattle.std.proofs.lemmas.List.{map-append}
use Rattle.std.proofs.lemmas.List.Sums.{sum_by-cons}
use Rattle.jv_class.specs.Class.{Field}
use Rattle.jv_meaning_world.specs.World.{Loaded, World}
use Rattle.jv_meaning_world.specs.Numbers.{classes_at, AreNumbers, HoldsAtNumber}
use Rattle.jv_meaning_world.proofs.Lists.{drop_one_more}
use Rattle.jv_classes.specs.Members.{IsField}
use Rattle.jv_classes.specs.declared.member.Member.{Member}
use Rattle.jv_classes.proofs.Followed.{some_class}
use Rattle.jv_classes.proofs.Numbers.{take_more}
use Rattle.jv_lookups.proofs.Found.{one_class_more}
use Rattle.jv_link_cache.specs.declared.words.Ends.{Ends}
use Rattle.jv_link_cache.specs.declared.words.ClassWords.{ClassWords}
use Rattle.jv_link_cache.specs.Inside.Words.{word_in, behind, words_from, ends_from, own_words, inherited_words, first_ends, seen_words, all_words, static_end}

some_and : {X : Type 0} → (o : Option X) (P : X → Type 0) → IsSomeAnd o P → (x : X) × (o ≡ Some x) × P x
some_and None P h = absurd h
some_and (Some x) P h = (x, refl, h)

-- ---- fields

pub ends_go_on : (fs : List Field) (k : ℕ) (member : Member) (ends next first : Ends) → IsSomeAnd (slice_get fs k) (IsField member)
    → ((f : Field) → IsField member f → next ≡ behind f ends) → ends_from ends (drop k fs) ≡ ends_from first fs → ends_from next (drop (k + 1) fs) ≡ ends_from first fs
ends_go_on fs k member ends next first is clause before =
    let found = some_and (slice_get fs k) (IsField member) is in
    ap (λ e. ends_from e (drop (k + 1) fs)) (clause found.0 found.2) ∙ (ap (ends_from ends) (sym (drop_one_more fs k found.0 found.1)) ∙ before)

pub words_go_on : (fs : List Field) (k : ℕ) (member : Member) (ends next first : Ends) (words : List ℕ) (word : ℕ) → IsSomeAnd (slice_get fs k) (IsField member)
    → ((f : Field) → IsField member f → word ≡ word_in f ends) → ((f : Field) → IsField member f → next ≡ behind f ends)
    → words ++ words_from ends (drop k fs) ≡ words_from first fs → (words ++ word ∷ []) ++ words_from next (drop (k + 1) fs) ≡ words_from first fs
words_go_on fs k member ends next first words word is clause next_is before =
    let found = some_and (slice_get fs k) (IsField member) is in
    append_assoc words (word ∷ []) (words_from next (drop (k + 1) fs))
    ∙ (ap (λ w. words ++ w ∷ words_from next (drop (k + 1) fs)) (clause found.0 found.2)
    ∙ (ap (λ e. words ++ word_in found.0 ends ∷ words_from e (drop (k + 1) fs)) (next_is found.0 found.2)
    ∙ (ap (λ gs. words ++ words_from ends gs) (sym (drop_one_more fs k found.0 found.1)) ∙ before)))

-- ---- classes

pub own_goes_on : (world : World) (k n : ℕ) (own : List ℕ) → k < length world → HoldsAtNumber world k (λ l. n ≡ own_words l)
    → own ≡ map own_words (take k world) → own ++ n ∷ [] ≡ map own_words (take (k + 1) world)
own_goes_on world k n own h clause before =
    let class = some_class world k h in
    ap (λ ns. ns ++ n ∷ []) before
    ∙ (ap (λ m. map own_words (take k world) ++ m ∷ []) (clause class.0 class.1)
    ∙ (sym (map-append own_words (take k world) (class.0 ∷ [])) ∙ ap (map own_words) (sym (take_more world k class.0 class.1))))

any_default : {X : Type 0} → (xs : List X) (i : ℕ) (a b : X) → i < length xs → get_or xs i a ≡ get_or xs i b
any_default [] i a b h = absurd (omega (arith, h))
any_default (x ∷ xs) zero a b h = refl
any_default (x ∷ xs) (suc i) a b h = let less : i < length xs = omega (arith, h) in any_default xs i a b less

map_at : {X Y : Type 0} → (f : X → Y) (xs : List X) (k : ℕ) (x : X) (d : Y) → slice_get xs k ≡ Some x → get_or (map f xs) k d ≡ f x
map_at f [] zero x d e = absurd cc
map_at f [] (suc k) x d e = absurd cc
map_at f (y ∷ xs) zero x d e = ap f (same_some e)
  where
    same_some : {X : Type 0} → {a b : X} → Some a ≡ Some b → a ≡ b
    same_some h = cc
map_at f (y ∷ xs) (suc k) x d e = map_at f xs k x d e

pub inherited_go_on : (world : World) (numbers own : List ℕ) (i words next : ℕ) → i < length numbers → AreNumbers world numbers → own ≡ map own_words world
    → next ≡ words + get_or own (get_or numbers i 0) 0
    → words + sum_by own_words (classes_at world (drop i numbers)) ≡ sum_by own_words (classes_at world numbers)
    → next + sum_by own_words (classes_at world (drop (i + 1) numbers)) ≡ sum_by own_words (classes_at world numbers)
inherited_go_on world numbers own i words next h all owns clause before =
    let k = get_or numbers i 0 in
    let class = some_class world k (all i 0 h) in
    let here : get_or own k 0 ≡ own_words class.0 = ap (λ ns. get_or ns k 0) owns ∙ map_at own_words world k class.0 0 class.1 in
    let opened = ap (sum_by own_words) (one_class_more world numbers i k class.0 h refl class.1) in
    let split = sum_by-cons own_words class.0 (classes_at world (drop (i + 1) numbers)) in
    omega (arith, here, opened, split, clause, before)

-- what stands with what is left is all
pub record GoesOn (world : World) (k : ℕ) (all : List ClassWords) (statics : ℕ) : Type 0 where
  pub words_of : map seen_words all ++ all_words world statics (drop k world) ≡ all_words world 0 world
  pub statics_of : static_end world statics (drop k world) ≡ static_end world 0 world

pub classes_go_on : (world : World) (k object statics next : ℕ) (all : List ClassWords) (words : ClassWords) (current : Loaded) → k < length world
    → HoldsAtNumber world k (λ l. current ≡ l) → HoldsAtNumber world k (λ l. object ≡ inherited_words world l)
    → seen_words words ≡ ((ends_from (record { object = object; statics = statics }) current.class.fields).object, words_from (record { object = object; statics = statics }) current.class.fields)
    → next ≡ (ends_from (record { object = object; statics = statics }) current.class.fields).statics
    → GoesOn world k all statics → GoesOn world (k + 1) (all ++ words ∷ []) next
classes_go_on world k object statics next all words current h current_is object_is words_is next_is before = record {
  words_of =
      ap (λ ws. ws ++ all_words world next (drop (k + 1) world)) (map-append seen_words all (words ∷ []))
      ∙ (append_assoc (map seen_words all) (seen_words words ∷ []) (all_words world next (drop (k + 1) world))
      ∙ (ap (λ w. map seen_words all ++ w ∷ all_words world next (drop (k + 1) world)) (words_is ∙ ap shown same)
      ∙ (ap (λ n. map seen_words all ++ shown (first_ends world statics class.0, class.0) ∷ all_words world n (drop (k + 1) world)) (next_is ∙ ap last same)
      ∙ (ap (λ ls. map seen_words all ++ all_words world statics ls) (sym (drop_one_more world k class.0 class.1)) ∙ before.words_of))));
  statics_of =
      ap (λ n. static_end world n (drop (k + 1) world)) (next_is ∙ ap last same)
      ∙ (ap (static_end world statics) (sym (drop_one_more world k class.0 class.1)) ∙ before.statics_of);
}
  where
    class : (l : Loaded) × (slice_get world k ≡ Some l)
    class = some_class world k h

    shown : Ends × Loaded → ℕ × List ℕ
    shown p = ((ends_from p.0 p.1.class.fields).object, words_from p.0 p.1.class.fields)

    last : Ends × Loaded → ℕ
    last p = (ends_from p.0 p.1.class.fields).statics

    first : ℕ → Loaded → Ends × Loaded
    first n l = (record { object = n; statics = statics }, l)

    same : first object current ≡ first (inherited_words world class.0) class.0
    same = ap (λ n. first n current) (object_is class.0 class.1) ∙ ap (first (inherited_words world class.0)) (current_is class.0 class.1)
