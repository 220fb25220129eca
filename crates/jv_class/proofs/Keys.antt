-- Numbers of pairs of texts differ exactly where the pairs do.
use Rattle.std.proofs.Common.{◌≡◌, ◌≢◌, ℕ, ◌+◌, ◌*◌, ◌<◌, ◌≤◌, Bool, true, false, cond, eqb, List, [], ◌∷◌, ◌++◌, length, take, drop, get_or, Option, Some, None, ◌⊎◌, ⊎_elim, refl, sym, ap, subst, ◌∙◌, arith}
use Rattle.std.specs.Prelude.{IsSome, IsTrue, nat_eq, unwrap_or, map, ◌||◌}
use Rattle.std.specs.Option.{IsSomeAnd, option_map}
use Rattle.std.specs.List.{All, AllZip, AllByRecursion, IsDistinct, list_any}
use Rattle.std.proofs.lemmas.Bool.{cases_order, eqb-true}
use Rattle.std.proofs.lemmas.Bool.Decides.{nat_tests}
use Rattle.std.proofs.lemmas.Grind.{common_steps}
use Rattle.std.proofs.lemmas.List.{take_more, take-append-drop}
use Rattle.std.proofs.lemmas.List.Elements.{All-head, All-tail, All-nil, All-cons, All-get_or}
use Rattle.std.proofs.lemmas.Option.{slice_get_cases, slice_get_within, get_or_from_slice_get}
use Rattle.jv_format.specs.Format.{◌>>=◌}
use Rattle.jv_pool.specs.Constants.{Entry, NameAndDescriptor, name_and_descriptor, utf8_at, named_at, class_name_at}
use Rattle.jv_pool.specs.declared.index.ClassIndex.{ClassIndex}
use Rattle.std.proofs.lemmas.Slice.Zip.{all_zipped_more}
use Rattle.jv_class_structure.specs.Seen.{seen_index, seen_field, seen_method}
use Rattle.jv_class_structure.specs.Attributes.{some_and}
use Rattle.jv_class_structure.specs.declared.member.Field.{Field}
use Rattle.jv_class_structure.specs.declared.member.Method.{Method}
use Rattle.jv_class_structure.specs.Structure.{ClassStructure}
use Rattle.std.specs.Prelude.{is_some, IfSome, slice_get}
use Rattle.jv_class.proofs.ShownOf.{members_shown}
use Rattle.jv_class.specs.Rules.{MembersKeepRules, NoTwoAlike, is_object, is_no_array_name, is_class_at, KeepsRulesAsName, IsClassAt, SupersKeepRules, KeepsRulesAsField, KeepsRulesAsMethod}
use Rattle.jv_class.specs.Inside.Shown.{shown_field_texts, shown_method_texts, KeepsFieldShown}
use Rattle.jv_class_structure.specs.Parts.{MethodSeen, fields_of, methods_of}
use Rattle.jv_class.proofs.Kept.{all_there, all_unseen, some_there}
use Rattle.jv_class.specs.Inside.Reading.{IsFirst, IsKeyOf, IsFieldKey, IsMethodKey}

-- ---- lists of numbers

all_prefix : (P : ℕ → Type 0) (xs ys : List ℕ) → AllByRecursion P (xs ++ ys) → AllByRecursion P xs
all_prefix P [] ys h = tt
all_prefix P (x ∷ xs) ys h = (h.0, all_prefix P xs ys h.1)

all_at : (P : ℕ → Type 0) (xs ys : List ℕ) (y : ℕ) → AllByRecursion P (xs ++ y ∷ ys) → P y
all_at P [] ys y h = h.0
all_at P (x ∷ xs) ys y h = all_at P xs ys y h.1

distinct_prefix : (xs ys : List ℕ) → IsDistinct nat_eq (xs ++ ys) → IsDistinct nat_eq xs
unfolding IsDistinct
distinct_prefix [] ys h = tt
distinct_prefix (x ∷ xs) ys h = (all_prefix (λ y. nat_eq x y ≡ false) xs ys h.0, distinct_prefix xs ys h.1)

flipped : (x y : ℕ) → nat_eq x y ≡ false → nat_eq y x ≡ false
flipped x y e = grind (arith, common_steps, nat_tests)

or_false : (a b : Bool) → a ≡ false → b ≡ false → (a || b) ≡ false
or_false a b p q = cc

not_again : (xs ys : List ℕ) (y : ℕ) → IsDistinct nat_eq (xs ++ y ∷ ys) → list_any (nat_eq y) xs ≡ false
unfolding IsDistinct
not_again [] ys y h = refl
not_again (x ∷ xs) ys y h = or_false (nat_eq y x) (list_any (nat_eq y) xs) (flipped x y (all_at (λ z. nat_eq x z ≡ false) xs ys y h.0)) (not_again xs ys y h.1)

pub none_distinct : IsDistinct nat_eq []
unfolding IsDistinct
none_distinct = tt

pub not_twice : (keys : List ℕ) (i : ℕ) (d : ℕ) → i < length keys → IsDistinct nat_eq keys → list_any (nat_eq (get_or keys i d)) (take i keys) ≡ false
not_twice keys i d lt h =
    let whole : IsDistinct nat_eq (take (i + 1) keys ++ drop (i + 1) keys) = subst (IsDistinct nat_eq) (sym (take-append-drop (i + 1) keys)) h in
    let front : IsDistinct nat_eq (take (i + 1) keys) = distinct_prefix (take (i + 1) keys) (drop (i + 1) keys) whole in
    not_again (take i keys) [] (get_or keys i d) (subst (IsDistinct nat_eq) (take_more keys i d lt) front)

-- ---- one pair

first_same : (pool : List Entry) (i j f g : ℕ) → IsFirst pool i f → IsFirst pool j g → utf8_at pool i ≡ utf8_at pool j → f ≡ g
first_same pool i j f g a b e =
    ⊎_elim (λ (same : f ≡ g). same) (λ (other : (f < g) ⊎ (g < f)).
    ⊎_elim (λ (lt : f < g). absurd (b.least f lt (a.same ∙ e))) (λ (gt : g < f). absurd (a.least g gt (b.same ∙ sym e))) other) (cases_order f g)

abbrev joined : Option (List ℕ) → Option (List ℕ) → Option NameAndDescriptor
joined a b = a >>= λ n. b >>= λ d. Some (name_and_descriptor n d)

parts_same : (a b c d : Option (List ℕ)) → IsSome (joined a b) → joined a b ≡ joined c d → (a ≡ c) × (b ≡ d)
parts_same None b c d some e = absurd cc
parts_same (Some n) None c d some e = absurd cc
parts_same (Some n) (Some t) None d some e = absurd cc
parts_same (Some n) (Some t) (Some m) None some e = absurd cc
parts_same (Some n) (Some t) (Some m) (Some u) some e = (
  ap (λ (o : Option NameAndDescriptor). Some (unwrap_or o (name_and_descriptor n t)).name) e,
  ap (λ (o : Option NameAndDescriptor). Some (unwrap_or o (name_and_descriptor n t)).descriptor) e,
)

pub same_texts : (pool : List Entry) (n d m e k : ℕ) → IsKeyOf pool n d k → IsKeyOf pool m e k → named_at pool n d ≡ named_at pool m e
same_texts pool n d m e k a b =
    let sum : a.first_name * 65536 + a.first_descriptor ≡ b.first_name * 65536 + b.first_descriptor = sym a.is ∙ b.is in
    let small = a.small in
    let also = b.small in
    let names : a.first_name ≡ b.first_name = omega arith in
    let descriptors : a.first_descriptor ≡ b.first_descriptor = omega arith in
    let n_same : utf8_at pool n ≡ utf8_at pool m = sym a.name_first.same ∙ ap (utf8_at pool) names ∙ b.name_first.same in
    let d_same : utf8_at pool d ≡ utf8_at pool e = sym a.descriptor_first.same ∙ ap (utf8_at pool) descriptors ∙ b.descriptor_first.same in
    ap (λ o. joined o (utf8_at pool d)) n_same ∙ ap (joined (utf8_at pool m)) d_same

pub same_key : (pool : List Entry) (n d m e k l : ℕ) → IsKeyOf pool n d k → IsKeyOf pool m e l → IsSome (named_at pool n d) → named_at pool n d ≡ named_at pool m e → k ≡ l
same_key pool n d m e k l a b some same =
    let parts = parts_same (utf8_at pool n) (utf8_at pool d) (utf8_at pool m) (utf8_at pool e) some same in
    let names : a.first_name ≡ b.first_name = first_same pool n m a.first_name b.first_name a.name_first b.name_first parts.0 in
    let descriptors : a.first_descriptor ≡ b.first_descriptor = first_same pool d e a.first_descriptor b.first_descriptor a.descriptor_first b.descriptor_first parts.1 in
    a.is ∙ ap (λ x. x * 65536 + a.first_descriptor) names ∙ ap (λ x. b.first_name * 65536 + x) descriptors ∙ sym b.is

-- ---- lists of members, whose indices are at name and at descriptor

module _ {X : Type 0} (pool : List Entry) (name descriptor : X → ℕ) where
  abbrev texts : X → Option NameAndDescriptor
  texts x = named_at pool (name x) (descriptor x)

  abbrev Key : X → ℕ → Type 0
  Key x k = IsKeyOf pool (name x) (descriptor x) k

  differs : (x y : X) (k l : ℕ) → Key x k → Key y l → IsSome (texts x) → nat_eq k l ≡ false → texts x ≢ texts y
  differs x y k l a b some apart e = let same : k ≡ l = same_key pool (name x) (descriptor x) (name y) (descriptor y) k l a b some e in absurd (grind (arith, common_steps, nat_tests))

  keys_differ : (x y : X) (k l : ℕ) → Key x k → Key y l → texts x ≢ texts y → nat_eq k l ≡ false
  keys_differ x y k l a b apart = by_test (nat_eq k l) refl
    where
      by_test : (t : Bool) → nat_eq k l ≡ t → t ≡ false
      by_test false e = refl
      by_test true e =
          let same : k ≡ l = grind (arith, common_steps, nat_tests) in
          absurd (apart (same_texts pool (name x) (descriptor x) (name y) (descriptor y) l (subst (Key x) same a) b))

  others_differ : (x : X) (k : ℕ) (ys : List X) (ls : List ℕ) → Key x k → IsSome (texts x) → AllZip Key ys ls →
      AllByRecursion (λ l. nat_eq k l ≡ false) ls → AllByRecursion (λ t. texts x ≢ t) (map texts ys)
  others_differ x k [] ls a some zip h = tt
  others_differ x k (y ∷ ys) [] a some zip h = absurd zip
  others_differ x k (y ∷ ys) (l ∷ ls) a some zip h = (differs x y k l a zip.0 some h.0, others_differ x k ys ls a some zip.1 h.1)

  other_keys : (x : X) (k : ℕ) (ys : List X) (ls : List ℕ) → Key x k → AllZip Key ys ls → AllByRecursion (λ t. texts x ≢ t) (map texts ys) → AllByRecursion (λ l. nat_eq k l ≡ false) ls
  other_keys x k [] [] a zip h = tt
  other_keys x k [] (l ∷ ls) a zip h = absurd zip
  other_keys x k (y ∷ ys) [] a zip h = absurd zip
  other_keys x k (y ∷ ys) (l ∷ ls) a zip h = (keys_differ x y k l a zip.0 h.0, other_keys x k ys ls a zip.1 h.1)

  pub unlike_from_keys : (xs : List X) (ks : List ℕ) → AllZip Key xs ks → All (λ x. IsSome (texts x)) xs → IsDistinct nat_eq ks → NoTwoAlike (map texts xs)
  unfolding IsDistinct
  unlike_from_keys [] ks zip some h = tt
  unlike_from_keys (x ∷ xs) [] zip some h = absurd zip
  unlike_from_keys (x ∷ xs) (k ∷ ks) zip some h = (
    others_differ x k xs ks zip.0 (All-head (λ x. IsSome (texts x)) x xs some) zip.1 h.0,
    unlike_from_keys xs ks zip.1 (All-tail (λ x. IsSome (texts x)) x xs some) h.1,
  )

  pub keys_from_unlike : (xs : List X) (ks : List ℕ) → AllZip Key xs ks → NoTwoAlike (map texts xs) → IsDistinct nat_eq ks
  unfolding IsDistinct
  keys_from_unlike [] [] zip h = tt
  keys_from_unlike [] (k ∷ ks) zip h = absurd zip
  keys_from_unlike (x ∷ xs) [] zip h = absurd zip
  keys_from_unlike (x ∷ xs) (k ∷ ks) zip h = (other_keys x k xs ks zip.0 zip.1 h.0, keys_from_unlike xs ks zip.1 h.1)

pub zipped_next : {X : Type 0} (R : X → ℕ → Type 0) (xs : List X) (i : ℕ) (d : X) → i < length xs → (ks new : List ℕ) (k : ℕ) → new ≡ ks ++ k ∷ [] →
    AllZip R (take i xs) ks → R (get_or xs i d) k → AllZip R (take (i + 1) xs) new
zipped_next {X} R xs i d lt ks new k is zip last =
    let pushed : AllZip R (take i xs ++ get_or xs i d ∷ []) (ks ++ k ∷ []) = all_zipped_more R (take i xs) ks (get_or xs i d) k zip last in
    let front : AllZip R (take (i + 1) xs) (ks ++ k ∷ []) = subst (λ (ys : List X). AllZip R ys (ks ++ k ∷ [])) (sym (take_more xs i d lt)) pushed in
    subst (λ (ls : List ℕ). AllZip R (take (i + 1) xs) ls) (sym is) front

-- the next, where its place is known
pub zipped_place : {X : Type 0} (R : X → ℕ → Type 0) (xs : List X) (i : ℕ) → i < length xs → (ks new : List ℕ) (k : ℕ) → new ≡ ks ++ k ∷ [] →
    AllZip R (take i xs) ks → IfSome (slice_get xs i) (λ x. R x k) → AllZip R (take (i + 1) xs) new
zipped_place {X} R xs i lt ks new k is zip here =
    ⊎_elim
    (λ (at : (x : X) × (i < length xs) × (slice_get xs i ≡ Some x) × (get_or xs i x ≡ x)).
    zipped_next R xs i at.0 lt ks new k is zip (subst (λ x. R x k) (sym at.3) (subst (λ o. IfSome o (λ x. R x k)) at.2 here)))
    (λ (past : (length xs ≤ i) × (slice_get xs i ≡ None)). absurd (omega (arith, lt, past.0))) (slice_get_cases xs i).1

map_map : {X Y Z : Type 0} (f : Y → Z) (g : X → Y) (xs : List X) → map (λ x. f (g x)) xs ≡ map f (map g xs)
map_map f g [] = refl
map_map f g (x ∷ xs) = ap (λ r. f (g x) ∷ r) (map_map f g xs)

pub unlike_fields : (pool : List Entry) (xs : List Field) (ks : List ℕ) → AllZip (IsFieldKey pool) xs ks → All (λ x. IsSome (shown_field_texts pool (seen_field x))) xs
    → (b : Bool) → (IsTrue b → IsDistinct nat_eq ks) × (IsDistinct nat_eq ks → IsTrue b)
    → (IsTrue b → NoTwoAlike (map (shown_field_texts pool) (map seen_field xs))) × (NoTwoAlike (map (shown_field_texts pool) (map seen_field xs)) → IsTrue b)
unlike_fields pool xs ks zip some b h =
    let same = map_map (shown_field_texts pool) seen_field xs in (
      (λ t. subst NoTwoAlike same (unlike_from_keys pool (λ (f : Field). f.name.0) (λ (f : Field). f.descriptor.0) xs ks zip some (h.0 t))),
      (λ u. h.1 (keys_from_unlike pool (λ (f : Field). f.name.0) (λ (f : Field). f.descriptor.0) xs ks zip (subst NoTwoAlike (sym same) u))),
    )

-- ---- the texts of members that keep their rules are there

pub fields_there : (c : ClassStructure) (pool : List Entry) (xs : List Field) → pool ≡ c.constant_pool → map seen_field xs ≡ fields_of c →
    MembersKeepRules c → All (λ x. IsSome (shown_field_texts pool (seen_field x))) xs
fields_there c pool xs e is right =
    let all : All (KeepsFieldShown c.constant_pool c.access_flags) (map seen_field xs) =
    subst (λ fs. All (KeepsFieldShown c.constant_pool c.access_flags) fs) (sym is) (members_shown c right).fields in
    let some : All (λ f. IsSome (shown_field_texts c.constant_pool f)) (map seen_field xs) = all_there (shown_field_texts c.constant_pool)
    (λ f. KeepsRulesAsField c.constant_pool c.access_flags f.access_flags f.constant_value) (map seen_field xs) all in
    all_unseen (λ f. IsSome (shown_field_texts pool f)) seen_field xs (subst (λ p. All (λ f. IsSome (shown_field_texts p f)) (map seen_field xs)) (sym e) some)

methods_there : (c : ClassStructure) → MembersKeepRules c → All (λ m. IsSome (shown_method_texts c.constant_pool m)) (methods_of c)
methods_there c right = all_there (shown_method_texts c.constant_pool) (λ m. KeepsRulesAsMethod c.major_version c.access_flags m.access_flags
    (is_some m.code)) (methods_of c) (members_shown c right).methods

pub unlike_methods : (c : ClassStructure) (ks : List ℕ) → AllZip (IsMethodKey c.constant_pool) (methods_of c) ks → MembersKeepRules c
    → (b : Bool) → (IsTrue b → IsDistinct nat_eq ks) × (IsDistinct nat_eq ks → IsTrue b)
    → (IsTrue b → NoTwoAlike (map (shown_method_texts c.constant_pool) (methods_of c))) × (NoTwoAlike (map (shown_method_texts c.constant_pool) (methods_of c)) → IsTrue b)
unlike_methods c ks zip right b h = (
  (λ t. unlike_from_keys c.constant_pool (λ (m : MethodSeen). m.name_index) (λ (m : MethodSeen). m.descriptor_index) (methods_of c) ks zip (methods_there c right) (h.0 t)),
  (λ u. h.1 (keys_from_unlike c.constant_pool (λ (m : MethodSeen). m.name_index) (λ (m : MethodSeen). m.descriptor_index) (methods_of c) ks zip u)),
)

class_there : (o : Option (List ℕ)) → IsTrue (some_and is_no_array_name o) → IsSome o
class_there None h = absurd cc
class_there (Some x) h = refl

classes_named : (pool : List Entry) (xs : List ClassIndex) → All (IsClassAt pool) (map seen_index xs) → All (λ i. IsSome (class_name_at pool i.0)) xs
classes_named pool [] all = All-nil (λ i. IsSome (class_name_at pool i.0))
classes_named pool (x ∷ xs) all =
    All-cons (λ i. IsSome (class_name_at pool i.0)) x xs (class_there (class_name_at pool x.0) (All-head (IsClassAt pool) x.0 (map seen_index xs) all))
    (classes_named pool xs (All-tail (IsClassAt pool) x.0 (map seen_index xs) all))

pub classes_there : (c : ClassStructure) (xs : List ClassIndex) → map seen_index xs ≡ c.interfaces → SupersKeepRules c → All (λ i. IsSome (class_name_at c.constant_pool i.0)) xs
classes_there c xs is right = classes_named c.constant_pool xs (subst (All (IsClassAt c.constant_pool)) (sym is) right.interfaces)

first_there : (a b : Option (List ℕ)) → IsSome (joined a b) → IsSome a
first_there None b h = absurd cc
first_there (Some x) b h = refl

second_there : (a b : Option (List ℕ)) → IsSome (joined a b) → IsSome b
second_there None b h = absurd cc
second_there (Some x) None h = absurd cc
second_there (Some x) (Some y) h = refl

-- what follows for each item of a list
each : {X : Type 0} (P Q : X → Type 0) → ((x : X) → P x → Q x) → (xs : List X) → All P xs → All Q xs
each P Q f [] all = All-nil Q
each P Q f (x ∷ xs) all = All-cons Q x xs (f x (All-head P x xs all)) (each P Q f xs (All-tail P x xs all))

module _ {X : Type 0} (pool : List Entry) (name descriptor : X → ℕ) (xs : List X) (all : All (λ x. IsSome (named_at pool (name x) (descriptor x))) xs) where
  pub all_named : All (λ x. IsSome (utf8_at pool (name x))) xs
  all_named = each (λ x. IsSome (named_at pool (name x) (descriptor x))) (λ x. IsSome (utf8_at pool (name x))) (λ x h. first_there (utf8_at pool (name x)) (utf8_at pool (descriptor x)) h) xs all

  pub all_described : All (λ x. IsSome (utf8_at pool (descriptor x))) xs
  all_described = each (λ x. IsSome (named_at pool (name x) (descriptor x))) (λ x. IsSome (utf8_at pool (descriptor x)))
      (λ x h. second_there (utf8_at pool (name x)) (utf8_at pool (descriptor x)) h) xs all

-- ---- the superclass

some_named : (test : List ℕ → Bool) (o : Option (List ℕ)) → IsTrue (some_and test o) → IsSome o
some_named test None h = absurd cc
some_named test (Some name) h = refl

named_unless_zero : (object : Bool) (pool : List Entry) (index : ℕ) → (index ≡ 0 → ⊥) → IsTrue (cond object (eqb index 0) (is_class_at pool index)) → IsSome (class_name_at pool index)
named_unless_zero true pool index other h = absurd (other (eqb-true index 0 h))
named_unless_zero false pool index other h = some_named _ (class_name_at pool index) h

pub super_there : (pool : List Entry) (index : ℕ) (name : Option (List ℕ)) → IsSomeAnd name (KeepsRulesAsName pool index) → (index ≡ 0 → ⊥) → IsSome (class_name_at pool index)
super_there pool index None h other = absurd h
super_there pool index (Some name) h other = named_unless_zero (is_object name) pool index other h.superclass

-- ---- a member at a place

module _ {X Y : Type 0} (seen : X → Y) (pool : List Entry) (texts : Y → Option NameAndDescriptor) (keeps : NameAndDescriptor → Y → Type 0) where
  pub texts_at : (ys : List Y) (place : ℕ) (o : Option X) → All (λ y. IsSomeAnd (texts y) (λ t. keeps t y)) ys → option_map seen o ≡ slice_get ys place → IfSome o (λ x. IsSome (texts (seen x)))
  texts_at ys place None all e = tt
  texts_at ys place (Some x) all e =
      let lt = slice_get_within ys place (seen x) (sym e) in
      let same = get_or_from_slice_get ys place (seen x) (seen x) (sym e) in
      some_there (texts (seen x)) (λ t. keeps t (seen x)) (subst (λ y. IsSomeAnd (texts y) (λ t. keeps t y)) same (All-get_or (λ y. IsSomeAnd (texts y) (λ t. keeps t y)) ys place (seen x) lt all))

if_some_same : {X : Type 0} (o : Option X) (P Q : X → Type 0) → ((x : X) → P x → Q x) → IfSome o P → IfSome o Q
if_some_same None P Q f h = tt
if_some_same (Some x) P Q f h = f x h

pub field_there : (c : ClassStructure) (place : ℕ) (o : Option Field) → MembersKeepRules c → option_map seen_field o ≡ slice_get (fields_of c) place
    → IfSome o (λ f. IsSome (utf8_at c.constant_pool f.name.0)) × IfSome o (λ f. IsSome (utf8_at c.constant_pool f.descriptor.0))
field_there c place o right e =
    let there = texts_at seen_field c.constant_pool (shown_field_texts c.constant_pool)
    (λ t f. KeepsRulesAsField c.constant_pool c.access_flags f.access_flags f.constant_value t) (fields_of c) place o
    (members_shown c right).fields e in (
      if_some_same o _ _ (λ f h. first_there (utf8_at c.constant_pool f.name.0) (utf8_at c.constant_pool f.descriptor.0) h) there,
      if_some_same o _ _ (λ f h. second_there (utf8_at c.constant_pool f.name.0) (utf8_at c.constant_pool f.descriptor.0) h) there,
    )

pub method_there : (c : ClassStructure) (place : ℕ) (o : Option Method) → MembersKeepRules c → option_map seen_method o ≡ slice_get (methods_of c) place
    → IfSome o (λ m. IsSome (utf8_at c.constant_pool m.name.0)) × IfSome o (λ m. IsSome (utf8_at c.constant_pool m.descriptor.0))
method_there c place o right e =
    let there = texts_at seen_method c.constant_pool (shown_method_texts c.constant_pool)
    (λ t m. KeepsRulesAsMethod c.major_version c.access_flags m.access_flags (is_some m.code) t) (methods_of c) place o
    (members_shown c right).methods e in (
      if_some_same o _ _ (λ m h. first_there (utf8_at c.constant_pool m.name.0) (utf8_at c.constant_pool m.descriptor.0) h) there,
      if_some_same o _ _ (λ m h. second_there (utf8_at c.constant_pool m.name.0) (utf8_at c.constant_pool m.descriptor.0) h) there,
    )
