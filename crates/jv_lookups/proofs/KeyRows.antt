-- The final methods of classes by their keys, and what is not marked.
use Rattle.std.proofs.Common.{◌≡◌, ℕ, ◌+◌, ◌<◌, ◌≤◌, Bool, true, false, cond, ◌||◌, ◌&&◌, List, [], ◌∷◌, ◌++◌, length, take, get_or, nat_eq, inl, inr, ◌⊎◌, ◌≢◌, Option, Some, None, refl, sym, ap, ◌∙◌, subst, arith}
use Rattle.std.specs.Prelude.{slice_get}
use Rattle.std.specs.List.{list_any}
use Rattle.std.specs.Option.{IsSomeAnd, option_map}
use Rattle.std.specs.Str.{bytes_eq}
use Rattle.std.proofs.lemmas.Bool.{and_parts, and_from, eq-eqb, eqb-true, or_cases}
use Rattle.std.proofs.lemmas.Bool.Decides.{eqb_tells}
use Rattle.std.proofs.lemmas.List.{take_more, take_all}
use Rattle.std.proofs.lemmas.List.Folds.{list_any-append}
use Rattle.std.proofs.lemmas.Option.{slice_get_read, get_or_from_slice_get, slice_get_within}
use Rattle.std.proofs.lemmas.Slice.Eq.{bytes_eq-Decides}
use Rattle.jv_class_structure.specs.Flags.{has, acc_public, acc_protected, acc_final}
use Rattle.jv_class.specs.Class.{Method, method_named}
use Rattle.jv_classes.specs.Texts.{Key, key_of}
use Rattle.jv_classes.specs.declared.member.Member.{Member}
use Rattle.jv_classes.specs.Members.{IsMethod}
use Rattle.jv_meaning_world.specs.World.{Loaded}
use Rattle.jv_meaning_world.specs.Overriding.{Declared, is_instance, is_package_private, declared_if, alike_in}
use Rattle.jv_meaning_world.specs.Verdicts.{is_final_instance}
use Rattle.jv_lookups.specs.declared.keys.FinalKeys.{FinalKeys}
use Rattle.jv_lookups.specs.FinalKeys.{TellsFinals}
use Rattle.jv_classes.specs.Marks.{MarkedKeys, AreKept, is_marked}
use Rattle.jv_lookups.specs.Inside.Keys.{is_final_open, is_open, has_key, AreMarkedMore, AreMarkedBelow, TellsFinalsOf}
use Rattle.jv_lookups.specs.Inside.Overridden.{have_package, is_overridden, overrides_final}
use Rattle.jv_lookups.specs.Inside.Steps.{as_method, is_overridden_if, flags_alike, is_alike_overridden_if}
use Rattle.jv_lookups.proofs.Looking.{final_same, instance_same}
use Rattle.jv_lookups.proofs.Passing.{item_passes, found_item}

-- ---- the keys of methods

pub all_kept : (marks : MarkedKeys) → AreKept marks marks
all_kept marks = record { width = refl; marked = λ k c h. h }

pub kept_on : (old mid last : MarkedKeys) → AreKept old mid → AreKept mid last → AreKept old last
kept_on old mid last one two = record { width = two.width ∙ one.width; marked = λ k c h. two.marked k c (one.marked k c h) }

module _ (test : Method → Bool) (seed column : ℕ) where
  pub no_method : (marks : MarkedKeys) → AreMarkedMore test seed marks column [] marks
  no_method marks = record { marked = λ k h. absurd cc; kept = all_kept marks }

  methods_more : (old mid new : MarkedKeys) (methods more : List Method) → AreMarkedMore test seed old column methods mid →
      AreMarkedMore test seed mid column more new → AreMarkedMore test seed old column (methods ++ more) new
  methods_more old mid new methods more one two = record {
    marked = λ k h. by_part k (or_cases (list_any (has_key test seed k) methods) (list_any (has_key test seed k) more) (sym (list_any-append (has_key test seed k) methods more) ∙ h));
    kept = kept_on old mid new one.kept two.kept;
  }
    where
      by_part : (k : Key) → (list_any (has_key test seed k) methods ≡ true) ⊎ (list_any (has_key test seed k) more ≡ true) → is_marked new k column ≡ true
      by_part k (inl h) = two.kept.marked k column (one.marked k h)
      by_part k (inr h) = two.marked k h

  -- one method, where its key is marked if it passes
  pub method_marked : (old new : MarkedKeys) (m : Method) (key : Key) (name descriptor : List ℕ) → name ≡ m.name → descriptor ≡ m.descriptor → key ≡ key_of seed name descriptor
      → (test m ≡ true → is_marked new key column ≡ true) → AreKept old new → AreMarkedMore test seed old column (m ∷ []) new
  method_marked old new m key name descriptor same also at marked kept = record { marked = λ k h. by_key k h; kept = kept }
    where
      its : key ≡ key_of seed m.name m.descriptor
      its = at ∙ (ap (λ t. key_of seed t descriptor) same ∙ ap (key_of seed m.name) also)

      by_key : (k : Key) → (has_key test seed k m || false) ≡ true → is_marked new k column ≡ true
      by_key k h = by_first (or_cases (has_key test seed k m) false h)
        where
          by_first : (has_key test seed k m ≡ true) ⊎ (false ≡ true) → is_marked new k column ≡ true
          by_first (inl d) =
              let parts = and_parts (test m) (nat_eq (key_of seed m.name m.descriptor) k) d in
              ap (λ n. is_marked new n column) (sym (its ∙ eqb-true (key_of seed m.name m.descriptor) k parts.1)) ∙ marked parts.0
          by_first (inr e) = absurd cc

  -- one method after another
  pub one_method_more : ((member : Member) (m : Method) → IsMethod member m → test m ≡ test (as_method member)) → (old mid new : MarkedKeys) (methods : List Method) (place : ℕ) (member : Member)
      → IsSomeAnd (slice_get methods place) (IsMethod member) → AreMarkedMore test seed old column (take place methods) mid → AreMarkedMore test seed mid column (as_method member ∷ []) new
      → AreMarkedMore test seed old column (take (place + 1) methods) new
  one_method_more test_same old mid new methods place member there before more =
      let m = the_method methods place member there in
      let its : AreMarkedMore test seed mid column (m.0 ∷ []) new = record {
        marked = λ k h. more.marked k (sym (ap (λ b. b || false) (key_same k member m.0 m.2)) ∙ h);
        kept = more.kept;
      }
      in
      subst (λ ms. AreMarkedMore test seed old column ms new)
      (sym (take_more methods place m.0 (slice_get_within methods place m.0 m.1) ∙ ap (λ x. take place methods ++ x ∷ []) (get_or_from_slice_get methods place m.0 m.0 m.1)))
      (methods_more old mid new (take place methods) (m.0 ∷ []) before its)
    where
      key_same : (key : Key) (member : Member) (m : Method) → IsMethod member m → has_key test seed key m ≡ has_key test seed key (as_method member)
      key_same key member m h =
          ap (λ b. b && nat_eq (key_of seed m.name m.descriptor) key) (test_same member m h)
          ∙ (ap (λ t. test (as_method member) && nat_eq (key_of seed t m.descriptor) key) (sym h.name)
          ∙ ap (λ t. test (as_method member) && nat_eq (key_of seed member.name.now t) key) (sym h.descriptor))

      the_method : (methods : List Method) (place : ℕ) (member : Member) → IsSomeAnd (slice_get methods place) (IsMethod member) → (m : Method) × (slice_get methods place ≡ Some m) × IsMethod member m
      the_method methods place member there = of_option (slice_get methods place) refl there
        where
          of_option : (o : Option Method) → slice_get methods place ≡ o → IsSomeAnd o (IsMethod member) → (m : Method) × (slice_get methods place ≡ Some m) × IsMethod member m
          of_option None e h = absurd h
          of_option (Some m) e h = (m, e, h)

  pub all_methods : (old new : MarkedKeys) (methods : List Method) (place : ℕ) → length methods ≤ place → AreMarkedMore test seed old column
      (take place methods) new → AreMarkedMore test seed old column methods new
  all_methods old new methods place past marked = subst (λ ms. AreMarkedMore test seed old column ms new) (take_all place methods past) marked

-- ---- what a member shows

pub final_open_same : (member : Member) (m : Method) → IsMethod member m → is_final_open m ≡ is_final_open (as_method member)
final_open_same member m h =
    ap (λ b. b && is_overridden_if true m.access_flags) (final_same member m h) ∙ ap (λ f. is_final_instance (as_method member) && is_overridden_if true f) (sym h.access_flags)

pub open_same : (member : Member) (m : Method) → IsMethod member m → is_open m ≡ is_open (as_method member)
open_same member m h =
    ap (λ b. b && is_overridden_if false m.access_flags) (sym (instance_same member m h)) ∙ ap (λ f. is_instance (as_method member) && is_overridden_if false f) (sym h.access_flags)

-- ---- one class after another

module _ (test : Method → Bool) (seed : ℕ) (classes : List Loaded) (column : ℕ → ℕ) where
  pub no_class : (marks : MarkedKeys) → AreMarkedBelow test seed marks classes column 0
  no_class marks = λ n s key less at d. absurd (omega (arith, less))

  pub one_class_more : (old new : MarkedKeys) (i : ℕ) (l : Loaded) → i < length classes → l ≡ get_or classes i l
      → AreMarkedBelow test seed old classes column i → AreMarkedMore test seed old (column i) l.class.methods new → AreMarkedBelow test seed new classes column (i + 1)
  one_class_more old new i l h is before more = λ n s key less at d. by_number n s key less at d (eqb_tells n i)
    where
      here : slice_get classes i ≡ Some l
      here = slice_get_read classes (length classes) i l refl h is

      its : (s : Loaded) (n : ℕ) → slice_get classes n ≡ Some s → n ≡ i → s ≡ l
      its s n at e = let same : Some s ≡ Some l = sym at ∙ (ap (slice_get classes) e ∙ here) in cc

      by_number : (n : ℕ) (s : Loaded) (key : Key) → n < i + 1 → slice_get classes n ≡ Some s → list_any (has_key test seed key) s.class.methods ≡ true
          → ((nat_eq n i ≡ true) × (n ≡ i)) ⊎ ((nat_eq n i ≡ false) × (n ≢ i)) → is_marked new key (column n) ≡ true
      by_number n s key less at d (inl same) =
          ap (λ k. is_marked new key (column k)) same.1 ∙ more.marked key (sym (ap (λ k. list_any (has_key test seed key) k.class.methods) (its s n at same.1)) ∙ d)
      by_number n s key less at d (inr other) = more.kept.marked key (column n) (before n s key (omega (arith, less, other.1)) at d)

  pub all_classes : (marks : MarkedKeys) (i : ℕ) → length classes ≤ i → AreMarkedBelow test seed marks classes column i → AreMarkedBelow test seed marks classes column (length classes)
  all_classes marks i past marked = λ n s key less at d. marked n s key (omega (arith, less, past)) at d

-- ---- a method that is overridden has its key marked

declares_alike : (test : Method → Bool) (seed : ℕ) (s : Loaded) (m e : Method) → method_named s.class m.name m.descriptor ≡ Some e → test e ≡ true →
    list_any (has_key test seed (key_of seed m.name m.descriptor)) s.class.methods ≡ true
declares_alike test seed s m e is passes =
    let p = λ (k : Method). bytes_eq k.name m.name && bytes_eq k.descriptor m.descriptor in
    let at = found_item p s.class.methods e is in
    let alike = and_parts (bytes_eq e.name m.name) (bytes_eq e.descriptor m.descriptor) at.2 in
    let same_key : key_of seed e.name e.descriptor ≡ key_of seed m.name m.descriptor =
    ap (λ t. key_of seed t e.descriptor) ((bytes_eq-Decides e.name m.name).0 alike.0) ∙ ap (key_of seed m.name) ((bytes_eq-Decides e.descriptor m.descriptor).0 alike.1)
    in
    item_passes (has_key test seed (key_of seed m.name m.descriptor)) s.class.methods at.0 e at.1
    (and_from (test e) (nat_eq (key_of seed e.name e.descriptor) (key_of seed m.name m.descriptor)) passes (eq-eqb (key_of seed e.name e.descriptor) (key_of seed m.name m.descriptor) same_key))

open_if : (a b f : Bool) → (a || (b && f)) ≡ true → (a || (b && true)) ≡ true
open_if true b f h = refl
open_if false true f h = refl
open_if false false f h = absurd cc

declares_overridden : (seed : ℕ) (s : Loaded) (m : Method) (found : List Loaded) → overrides_final found (alike_in s m) ≡ true
    → list_any (has_key is_final_open seed (key_of seed m.name m.descriptor)) s.class.methods ≡ true
declares_overridden seed s m found h = by_named (method_named s.class m.name m.descriptor) refl h
  where
    by_instance : (e : Method) (b : Bool) → method_named s.class m.name m.descriptor ≡ Some e → is_instance e ≡ b
        → overrides_final found (cond b (Some (record { by = s; method = e })) None) ≡ true → list_any (has_key is_final_open seed (key_of seed m.name m.descriptor)) s.class.methods ≡ true
    by_instance e false is instance h = absurd cc
    by_instance e true is instance h =
        let says = and_parts (has e.access_flags acc_final) (is_overridden found (record { by = s; method = e })) h in
        declares_alike is_final_open seed s m e is
        (and_from (is_final_instance e) (is_overridden_if true e.access_flags) (and_from (has e.access_flags acc_final) (is_instance e) says.0 instance)
        (open_if (has e.access_flags (acc_public + acc_protected)) (is_package_private e) (have_package found s) says.1))

    by_named : (o : Option Method) → method_named s.class m.name m.descriptor ≡ o → overrides_final found (declared_if s o) ≡ true
        → list_any (has_key is_final_open seed (key_of seed m.name m.descriptor)) s.class.methods ≡ true
    by_named None is h = absurd cc
    by_named (Some e) is h = by_instance e (is_instance e) is refl h

declares_open : (seed : ℕ) (s : Loaded) (m : Method) → is_alike_overridden_if false (flags_alike s m) ≡ true
    → list_any (has_key is_open seed (key_of seed m.name m.descriptor)) s.class.methods ≡ true
declares_open seed s m h = by_named (method_named s.class m.name m.descriptor) refl h
  where
    by_instance : (e : Method) (b : Bool) → method_named s.class m.name m.descriptor ≡ Some e → is_instance e ≡ b
        → is_alike_overridden_if false (option_map (λ (d : Declared). d.method.access_flags) (cond b (Some (record { by = s; method = e })) None)) ≡ true
        → list_any (has_key is_open seed (key_of seed m.name m.descriptor)) s.class.methods ≡ true
    by_instance e false is instance h = absurd cc
    by_instance e true is instance h = declares_alike is_open seed s m e is (and_from (is_instance e) (is_overridden_if false e.access_flags) instance h)

    by_named : (o : Option Method) → method_named s.class m.name m.descriptor ≡ o → is_alike_overridden_if false (option_map (λ (d : Declared). d.method.access_flags) (declared_if s o)) ≡ true
        → list_any (has_key is_open seed (key_of seed m.name m.descriptor)) s.class.methods ≡ true
    by_named None is h = absurd cc
    by_named (Some e) is h = by_instance e (is_instance e) is refl h

fails_if : (a b : Bool) → (a ≡ true → b ≡ true) → b ≡ false → a ≡ false
fails_if true b h e = absurd (let t = h refl in cc)
fails_if false b h e = refl

-- the row of its key
pub row_tells : (keys : FinalKeys) (member : Member) (name descriptor : List ℕ) (key : Key) (row : List Bool) → name ≡ member.name.now → descriptor ≡
    member.descriptor.now → key ≡ key_of keys.seed name descriptor
    → length row ≡ keys.marks.width → ((class : ℕ) → get_or row class false ≡ is_marked keys.marks key class)
    → (classes : List Loaded) → TellsFinals classes keys → TellsFinalsOf classes row (as_method member)
row_tells keys member name descriptor key row same also at many marks classes tells = record {
  size = many ∙ tells.width;
  none = λ place s found there unmarked. fails_if (overrides_final found (alike_in s (as_method member))) (get_or row place false)
      (λ h. marked place (tells.finals place s (key_of keys.seed member.name.now member.descriptor.now) (slice_get_within classes place s there) there
      (declares_overridden keys.seed s (as_method member) found h))) unmarked;
  closed = λ place s there unmarked. fails_if (is_alike_overridden_if false (flags_alike s (as_method member))) (get_or row (length classes + place) false)
      (λ h. marked (length classes + place)
      (tells.opens place s (key_of keys.seed member.name.now member.descriptor.now) (slice_get_within classes place s there) there (declares_open keys.seed s (as_method member) h))) unmarked;
}
  where
    its : key ≡ key_of keys.seed member.name.now member.descriptor.now
    its = at ∙ (ap (λ t. key_of keys.seed t descriptor) same ∙ ap (key_of keys.seed member.name.now) also)

    marked : (column : ℕ) → is_marked keys.marks (key_of keys.seed member.name.now member.descriptor.now) column ≡ true → get_or row column false ≡ true
    marked column h = marks column ∙ (ap (λ k. is_marked keys.marks k column) its ∙ h)
