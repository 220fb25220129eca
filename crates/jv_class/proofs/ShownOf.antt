-- What the rules on fields and methods come to for what is kept of them.
use Rattle.std.proofs.Common.{◌≡◌, ℕ, List, [], ◌∷◌, Option, Some, None, refl, sym, ap, subst}
use Rattle.std.specs.Prelude.{IsSomeAnd, is_some, map}
use Rattle.std.specs.List.{All}
use Rattle.std.specs.Option.{option_map}
use Rattle.std.proofs.lemmas.List.Elements.{All-map, All-head, All-tail, All-nil, All-cons}
use Rattle.jv_pool.specs.Constants.{Entry}
use Rattle.jv_class_structure.specs.Structure.{MethodInfo, ClassStructure}
use Rattle.jv_class_structure.specs.Attributes.{sole, codes_of}
use Rattle.jv_class_structure.specs.Parts.{code_shown, field_shown, method_shown}
use Rattle.jv_class.specs.Rules.{KeepsMethodRules, KeepsRulesAsMethod, NoTwoAlike, MembersKeepRules, AreMembersUnlike, has_code, method_texts}
use Rattle.jv_class.specs.Supported.{IsSupported}
use Rattle.jv_class.specs.Inside.Shown.{KeepsFieldShown, KeepsMethodShown, shown_field_texts, shown_method_texts, IsFieldShownSupported, IsMethodShownSupported, ShownKeepRules, AreShownUnlike, AreShownSupported}
use Rattle.jv_class.proofs.Kept.{all_unseen}

pub all_also : {A : Type 0} (P Q : A → Type 0) → ((a : A) → P a → Q a) → (xs : List A) → All P xs → All Q xs
all_also P Q f [] h = All-nil Q
all_also P Q f (x ∷ xs) h = All-cons Q x xs (f x (All-head P x xs h)) (all_also P Q f xs (All-tail P x xs h))

pub map_twice : {X Y Z : Type 0} (f : Y → Z) (g : X → Y) (xs : List X) → map f (map g xs) ≡ map (λ x. f (g x)) xs
map_twice f g [] = refl
map_twice f g (x ∷ xs) = ap (λ l. f (g x) ∷ l) (map_twice f g xs)

-- ---- whether a method has code

some_mapped : {A B : Type 0} (f : A → B) (o : Option A) → is_some o ≡ is_some (option_map f o)
some_mapped f None = refl
some_mapped f (Some a) = refl

code_there : (pool : List Entry) (m : MethodInfo) → has_code m ≡ is_some (method_shown pool m).code
code_there pool m = some_mapped (code_shown pool) (sole (codes_of m))

pub method_shown_keeps : (pool : List Entry) (major flags : ℕ) (m : MethodInfo) → KeepsMethodRules pool major flags m → KeepsMethodShown pool major flags (method_shown pool m)
method_shown_keeps pool major flags m = subst (λ code. IsSomeAnd (method_texts pool m) (KeepsRulesAsMethod major flags m.access_flags code)) (code_there pool m)

method_keeps : (pool : List Entry) (major flags : ℕ) (m : MethodInfo) → KeepsMethodShown pool major flags (method_shown pool m) → KeepsMethodRules pool major flags m
method_keeps pool major flags m = subst (λ code. IsSomeAnd (method_texts pool m) (KeepsRulesAsMethod major flags m.access_flags code)) (sym (code_there pool m))

-- ---- the rules of all

pub members_shown : (c : ClassStructure) → MembersKeepRules c → ShownKeepRules c
members_shown c right = record {
  fields = All-map (KeepsFieldShown c.constant_pool c.access_flags) (field_shown c.constant_pool) c.fields right.fields;
  methods = All-map (KeepsMethodShown c.constant_pool c.major_version c.access_flags) (method_shown c.constant_pool) c.methods
      (all_also (KeepsMethodRules c.constant_pool c.major_version c.access_flags)
      (λ m. KeepsMethodShown c.constant_pool c.major_version c.access_flags (method_shown c.constant_pool m))
      (method_shown_keeps c.constant_pool c.major_version c.access_flags) c.methods right.methods);
}

pub members_keep_rules : (c : ClassStructure) → ShownKeepRules c → MembersKeepRules c
members_keep_rules c shown = record {
  fields = all_unseen (KeepsFieldShown c.constant_pool c.access_flags) (field_shown c.constant_pool) c.fields shown.fields;
  methods = all_also (λ m. KeepsMethodShown c.constant_pool c.major_version c.access_flags (method_shown c.constant_pool m))
      (KeepsMethodRules c.constant_pool c.major_version c.access_flags) (method_keeps c.constant_pool c.major_version c.access_flags) c.methods
      (all_unseen (KeepsMethodShown c.constant_pool c.major_version c.access_flags) (method_shown c.constant_pool) c.methods shown.methods);
}

-- ---- no two alike

pub unlike_shown : (c : ClassStructure) → AreMembersUnlike c → AreShownUnlike c
unlike_shown c unlike = record {
  fields = subst NoTwoAlike (sym (map_twice (shown_field_texts c.constant_pool) (field_shown c.constant_pool) c.fields)) unlike.fields;
  methods = subst NoTwoAlike (sym (map_twice (shown_method_texts c.constant_pool) (method_shown c.constant_pool) c.methods)) unlike.methods;
}

pub members_unlike : (c : ClassStructure) → AreShownUnlike c → AreMembersUnlike c
members_unlike c shown = record {
  fields = subst NoTwoAlike (map_twice (shown_field_texts c.constant_pool) (field_shown c.constant_pool) c.fields) shown.fields;
  methods = subst NoTwoAlike (map_twice (shown_method_texts c.constant_pool) (method_shown c.constant_pool) c.methods) shown.methods;
}

-- ---- what the profile supports

pub supported_shown : (c : ClassStructure) → IsSupported c → AreShownSupported c
supported_shown c supported = record {
  constants = supported.constants;
  fields = All-map (IsFieldShownSupported c.constant_pool) (field_shown c.constant_pool) c.fields supported.fields;
  methods = All-map (IsMethodShownSupported c.constant_pool) (method_shown c.constant_pool) c.methods supported.methods;
}

pub supported_all : (c : ClassStructure) → AreShownSupported c → IsSupported c
supported_all c shown = record {
  constants = shown.constants;
  fields = all_unseen (IsFieldShownSupported c.constant_pool) (field_shown c.constant_pool) c.fields shown.fields;
  methods = all_unseen (IsMethodShownSupported c.constant_pool) (method_shown c.constant_pool) c.methods shown.methods;
}
