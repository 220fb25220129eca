-- Members that are read one after the other, no two of which have the same texts.
use Rattle.std.proofs.Common.{◌≡◌, ◌≢◌, ℕ, zero, suc, ◌<◌, Bool, true, false, List, [], ◌∷◌, ◌||◌, length, take, get_or, map, Option, Some, None, refl, sym, ap, ◌∙◌, arith}
use Rattle.std.specs.List.{AllByRecursion, list_any}
use Rattle.std.specs.Option.{option_map}
use Rattle.std.specs.Str.{bytes_eq}
use Rattle.std.proofs.lemmas.Bool.{and_parts}
use Rattle.std.proofs.lemmas.Slice.Eq.{bytes_eq-Decides}
use Rattle.jv_pool.specs.Constants.{NameAndDescriptor, name_and_descriptor}
use Rattle.jv_class.specs.Class.{all_found}
use Rattle.jv_class.specs.Rules.{NoTwoAlike}
use Rattle.jv_classes.specs.Inside.Seen.{MemberSeen, declares}
use Rattle.jv_classes.specs.Inside.Found.{member_with}
use Rattle.jv_classes.proofs.AllFound.{parts_found}

abbrev texts_seen : MemberSeen → NameAndDescriptor
texts_seen m = name_and_descriptor m.name m.descriptor

module _ {X : Type 0} (texts : X → Option NameAndDescriptor) (flags : X → ℕ) where
  abbrev look : X → Option MemberSeen
  look x = option_map (member_with (flags x)) (texts x)

  shows : (x : X) (m : MemberSeen) → look x ≡ Some m → texts x ≡ Some (texts_seen m)
  shows x m e = by_cases (texts x) refl e
    where
      by_cases : (o : Option NameAndDescriptor) → texts x ≡ o → option_map (member_with (flags x)) o ≡ Some m → texts x ≡ Some (texts_seen m)
      by_cases None is e = absurd cc
      by_cases (Some t) is e =
          let made : member_with (flags x) t ≡ m = cc in
          is ∙ ap (λ n. Some (texts_seen n)) made

  other_texts : (m n : MemberSeen) → (Some (texts_seen n) ≢ Some (texts_seen m)) → declares m.name m.descriptor n ≡ false
  other_texts m n differ = by_test (declares m.name m.descriptor n) refl
    where
      by_test : (b : Bool) → declares m.name m.descriptor n ≡ b → declares m.name m.descriptor n ≡ false
      by_test false e = e
      by_test true e =
          let parts = and_parts (bytes_eq n.name m.name) (bytes_eq n.descriptor m.descriptor) e in
          let name = (bytes_eq-Decides n.name m.name).0 parts.0 in
          let descriptor = (bytes_eq-Decides n.descriptor m.descriptor).0 parts.1 in
          absurd (differ (ap (λ a. Some (name_and_descriptor a n.descriptor)) name ∙ ap (λ b. Some (name_and_descriptor m.name b)) descriptor))

  -- what holds of the texts of all holds of those of the item at a place
  among : (P : Option NameAndDescriptor → Type 0) (xs : List X) (i : ℕ) (d : X) → i < length xs → AllByRecursion P (map texts xs) → P (texts (get_or xs i d))
  among P [] i d lt all = absurd (omega arith)
  among P (x ∷ xs) zero d lt all = all.0
  among P (x ∷ xs) (suc i) d lt all = among P xs i d (omega arith) all.1

  -- none before it has the texts of the item at a place
  pub is_new : (xs : List X) (i : ℕ) (d : X) → i < length xs → NoTwoAlike (map texts xs) → (members : List MemberSeen) → all_found look (take i xs) ≡
      Some members → (m : MemberSeen) → look (get_or xs i d) ≡ Some m
      → list_any (declares m.name m.descriptor) members ≡ false
  is_new [] i d lt unlike members found m here = absurd (omega arith)
  is_new (x ∷ xs) zero d lt unlike members found m here =
      let none : members ≡ [] = cc in
      ap (list_any (declares m.name m.descriptor)) none
  is_new (x ∷ xs) (suc i) d lt unlike members found m here =
      let parts = parts_found look x (take i xs) members found in
      let within : i < length xs = omega arith in
      let differ = among (λ other. texts x ≢ other) xs i d within unlike.0 in
      let first = other_texts m parts.0 (λ e. differ (shows x parts.0 parts.2 ∙ e ∙ sym (shows (get_or xs i d) m here))) in
      ap (list_any (declares m.name m.descriptor)) parts.4
      ∙ (ap (λ b. b || list_any (declares m.name m.descriptor) parts.1) first ∙ is_new xs i d within unlike.1 parts.1 parts.3 m here)
