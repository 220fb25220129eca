-- What is found to break a rule of a structure, of what is shown of it and of itself.
use Rattle.std.proofs.Common.{◌≡◌, ℕ, suc, ◌<◌, ◌≤◌, List, [], ◌∷◌, length, Option, Some, None, refl, sym, ap, subst, ◌∙◌, arith}
use Rattle.std.specs.Prelude.{IsSomeAnd, IfSome, is_some, map, slice_get}
use Rattle.std.specs.List.{All}
use Rattle.std.specs.Option.{option_map}
use Rattle.std.proofs.lemmas.List.{length-map}
use Rattle.std.proofs.lemmas.List.Elements.{All-nil, All-cons}
use Rattle.std.proofs.lemmas.Option.{slice_get-map}
use Rattle.jv_pool.specs.Constants.{Entry}
use Rattle.jv_class_structure.specs.Structure.{MethodInfo, ClassStructure}
use Rattle.jv_class_structure.specs.Attributes.{sole, codes_of}
use Rattle.jv_class_structure.specs.Parts.{code_shown, field_shown, method_shown, fields_of, methods_of}
use Rattle.jv_class.specs.Rules.{KeepsFieldRules, KeepsMethodRules, KeepsRulesAsMethod, ItselfKeepsRules, KeepsClassRules, method_texts}
use Rattle.jv_class.specs.Inside.Shown.{KeepsFieldShown, KeepsMethodShown}
use Rattle.jv_class.proofs.Kept.{all_unseen}
use Rattle.jv_class.proofs.ShownOf.{method_shown_keeps, members_keep_rules}
use Rattle.jv_malformed.specs.First.{IsFirstBreach}
use Rattle.jv_malformed.specs.Part.{IsFaultyRules}
use Rattle.jv_malformed.specs.Inside.Behind.{IsFoundAmong}
use Rattle.jv_malformed.specs.declared.rules.FaultyRules.TheVariants.{Field, Method, Alike}

-- ---- by their places

-- what each place below the length has, all have
pub all_at : {A : Type 0} (P : A → Type 0) (items : List A) → ((k : ℕ) → k < length items → IfSome (slice_get items k) P) → All P items
all_at P [] each = All-nil P
all_at P (x ∷ items) each = All-cons P x items (each 0 (omega arith)) (all_at P items (λ k lt. each (suc k) (omega (arith, lt))))

pub all_below : {A : Type 0} (P : A → Type 0) (items : List A) (n : ℕ) → length items ≤ n → ((k : ℕ) → k < n → IfSome (slice_get items k) P) → All P items
all_below P items n le each = all_at P items (λ k lt. each k (omega (arith, lt, le)))

-- items that show these are as many
pub same_length : {A B C : Type 0} (f : A → C) (g : B → C) (xs : List A) (ys : List B) → map f xs ≡ map g ys → length xs ≡ length (map g ys)
same_length {C = C} f g xs ys same = sym (length-map xs f) ∙ ap (λ (zs : List C). length zs) same

-- ---- what is shown, and what stands there

-- the first that breaks a rule of what is shown is the first that breaks that rule of what it is shown of
breach_unseen : {A B : Type 0} (P : B → Type 0) (Q : A → Type 0) (v : A → B) (xs : List A) (place : ℕ) → ((a : A) → Q a → P (v a)) → ((a : A) → P (v a) → Q a)
    → IsFirstBreach P (slice_get (map v xs)) place → IsFirstBreach Q (slice_get xs) place
breach_unseen {A = A} {B = B} P Q v xs place into out h = by_option (slice_get xs place) refl
  where
    shown : (k : ℕ) (o : Option A) → slice_get xs k ≡ o → slice_get (map v xs) k ≡ option_map v o
    shown k o e = slice_get-map v xs k ∙ ap (λ (p : Option A). option_map v p) e

    apart : (o : Option B) (b : B) → o ≡ None → o ≡ Some b → ⊥
    apart o b none some = cc

    one : (a b : B) (o : Option B) → o ≡ Some a → o ≡ Some b → a ≡ b
    one a b o first second = cc

    by_option : (o : Option A) → slice_get xs place ≡ o → IsFirstBreach Q (slice_get xs) place
    by_option None e = absurd (apart (slice_get (map v xs) place) h.item (shown place None e) h.here)
    by_option (Some a) e =
        let same : v a ≡ h.item = one (v a) h.item (slice_get (map v xs) place) (shown place (Some a) e) h.here in
        record {
          item = a;
          here = e;
          breaks = λ keeps. h.breaks (subst P same (into a keeps));
          before = λ k other lt at. out other (h.before k (v other) lt (shown k (Some other) at));
        }

some_mapped : {A B : Type 0} (f : A → B) (o : Option A) → is_some o ≡ is_some (option_map f o)
some_mapped f None = refl
some_mapped f (Some a) = refl

method_keeps : (pool : List Entry) (major flags : ℕ) (m : MethodInfo) → KeepsMethodShown pool major flags (method_shown pool m) → KeepsMethodRules pool major flags m
method_keeps pool major flags m =
    subst (λ code. IsSomeAnd (method_texts pool m) (KeepsRulesAsMethod major flags m.access_flags code)) (sym (some_mapped (code_shown pool) (sole (codes_of m))))

-- ---- what breaks a rule

module _ (c : ClassStructure) (itself : ItselfKeepsRules c) where
  pub field_told : (place : ℕ) → IsFoundAmong (KeepsFieldShown c.constant_pool c.access_flags) (fields_of c) (Some place) → IsFaultyRules c (Field place)
  field_told place found = (
    itself,
    breach_unseen (KeepsFieldShown c.constant_pool c.access_flags) (KeepsFieldRules c.constant_pool c.access_flags) (field_shown c.constant_pool) c.fields place
        (λ f keeps. keeps) (λ f keeps. keeps) found,
  )

  pub method_told : (place : ℕ) → IsFoundAmong (KeepsFieldShown c.constant_pool c.access_flags) (fields_of c) None
      → IsFoundAmong (KeepsMethodShown c.constant_pool c.major_version c.access_flags) (methods_of c) (Some place) → IsFaultyRules c (Method place)
  method_told place fields found = (
    itself,
    all_unseen (KeepsFieldShown c.constant_pool c.access_flags) (field_shown c.constant_pool) c.fields fields,
    breach_unseen (KeepsMethodShown c.constant_pool c.major_version c.access_flags) (KeepsMethodRules c.constant_pool c.major_version c.access_flags)
        (method_shown c.constant_pool) c.methods place (method_shown_keeps c.constant_pool c.major_version c.access_flags)
        (method_keeps c.constant_pool c.major_version c.access_flags) found,
  )

  pub alike_told : IsFoundAmong (KeepsFieldShown c.constant_pool c.access_flags) (fields_of c) None
      → IsFoundAmong (KeepsMethodShown c.constant_pool c.major_version c.access_flags) (methods_of c) None → (KeepsClassRules c → ⊥) → IsFaultyRules c Alike
  alike_told fields methods none =
      let members = members_keep_rules c (record { fields = fields; methods = methods }) in
      (itself, members, λ unlike. none (record { itself = itself; members = members; unlike = unlike }))
