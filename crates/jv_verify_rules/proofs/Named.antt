-- Instructions that name a class or an array, over what the constants of the class say.
use Rattle.std.proofs.Common.{◌≡◌, ℕ, Bool, true, false, not, List, [], ◌∷◌, Option, Some, None, refl, sym, ap, subst, ◌∙◌, inl, inr}
use Rattle.std.specs.Prelude.{replicate}
use Rattle.jv_format.specs.Format.{◌>>=◌}
use Rattle.jv_text.specs.Name.{is_array_name, is_class_name}
use Rattle.jv_pool.specs.Constants.{Entry, class_name_at}
use Rattle.jv_pool.specs.Named.{NamesByKind}
use Rattle.jv_pool.specs.Rules.{NamesClass}
use Rattle.jv_stackmap.specs.declared.verification.VerificationTypeOf.TheVariants as types
use Rattle.jv_stackmap.specs.Types.{FrameType}
use Rattle.jv_stackmap.specs.Frames.{Frame}
use Rattle.jv_meaning_typing.specs.Environment.{Environment}
use Rattle.jv_meaning_typing.specs.FrameChanges.{exchanged}
use Rattle.jv_meaning_typing.specs.Named.{object_class_type, when}
use Rattle.jv_meaning_typing.specs.ValueRules.{new_object, new_reference_array, new_multi_array, check_cast, instance_of}
use Rattle.jv_verify_types.specs.Typed.{TypeWorld, typed}
use Rattle.jv_verify_types.specs.Numbered.{Item, NumberFrame, frame_of}
use Rattle.jv_verify_types.specs.declared.outcome.Outcome.{Outcome}
use Rattle.jv_verify_types.specs.Outcomes.{IsOutcome}
use Rattle.jv_verify_rules.specs.Inside.Objects.{new_object as object_at}
use Rattle.jv_verify_types.specs.PoolTypes.{PoolTypes, class_type_at}
use Rattle.jv_verify_types.specs.Operands.{HasPool, plain_class, class_named_at, array_of_at, array_at}
use Rattle.jv_verify_rules.specs.Inside.Over.{IsOver}

-- ---- what is exchanged for a type that is named

module _ (constants : PoolTypes) (env : Environment) (of : IsOver constants env) (world : TypeWorld) (same : world ≡ constants.types) (old new : NumberFrame) (answer : Outcome) where
  abbrev names : List (List ℕ)
  names = constants.types.names

  abbrev before : Frame
  before = frame_of names old

  in_world : (expected given : List (List ℕ) → List FrameType)
      → IsOutcome world.names (exchanged world.world (expected world.names) (given world.names) (frame_of world.names old)) new answer
      → IsOutcome names (exchanged env.world (expected names) (given names) before) new answer
  in_world expected given h =
      subst (λ w. IsOutcome names (exchanged w (expected names) (given names) before) new answer) (sym of.world)
      (subst (λ (t : TypeWorld). IsOutcome t.names (exchanged t.world (expected t.names) (given t.names) (frame_of t.names old)) new answer) same h)

  pub cast_as : (index : ℕ) (target : Item) → Some (typed names target) ≡ class_type_at constants.pool index
      → IsOutcome world.names (exchanged world.world (object_class_type ∷ []) (typed world.names target ∷ []) (frame_of world.names old)) new answer
      → IsOutcome names (check_cast env index before) new answer
  cast_as index target e h =
      subst (λ o. IsOutcome names (o >>= λ type. exchanged env.world (object_class_type ∷ []) (type ∷ []) before) new answer) (e ∙ sym (ap (λ p. class_type_at p index) of.pool))
      (in_world (λ ns. object_class_type ∷ []) (λ ns. typed ns target ∷ []) h)

  pub tested_as : (index : ℕ) (target : Item) → Some (typed names target) ≡ class_type_at constants.pool index
      → IsOutcome world.names (exchanged world.world (object_class_type ∷ []) (types.Int ∷ []) (frame_of world.names old)) new answer
      → IsOutcome names (instance_of env index before) new answer
  tested_as index target e h =
      subst (λ o. IsOutcome names (o >>= λ type. exchanged env.world (object_class_type ∷ []) (types.Int ∷ []) before) new answer) (e ∙ sym (ap (λ p. class_type_at p index) of.pool))
      (in_world (λ ns. object_class_type ∷ []) (λ ns. types.Int ∷ []) h)

  pub array_made : (index : ℕ) (array : Item) → Some (typed names array) ≡ array_of_at constants.pool index
      → IsOutcome world.names (exchanged world.world (types.Int ∷ []) (typed world.names array ∷ []) (frame_of world.names old)) new answer
      → IsOutcome names (new_reference_array env index before) new answer
  array_made index array e h =
      subst (λ o. IsOutcome names (o >>= λ type. exchanged env.world (types.Int ∷ []) (type ∷ []) before) new answer) (e ∙ sym (ap (λ p. array_of_at p index) of.pool))
      (in_world (λ ns. types.Int ∷ []) (λ ns. typed ns array ∷ []) h)

  pub arrays_made : (index dimensions : ℕ) (array : Item) → Some (typed names array) ≡ array_at constants.pool index dimensions
      → IsOutcome world.names (exchanged world.world (replicate dimensions types.Int) (typed world.names array ∷ []) (frame_of world.names old)) new answer
      → IsOutcome names (new_multi_array env index dimensions before) new answer
  arrays_made index dimensions array e h =
      subst (λ o. IsOutcome names (o >>= λ type. exchanged env.world (replicate dimensions types.Int) (type ∷ []) before) new answer) (e ∙ sym (ap (λ p. array_at p index dimensions) of.pool))
      (in_world (λ ns. replicate dimensions types.Int) (λ ns. typed ns array ∷ []) h)

-- ---- objects of a class that is named

-- the name of a class, and no array
abbrev class_text : List ℕ → Option (List ℕ)
class_text text = when (not (is_array_name text)) text

module _ (made : Option Frame) where
  where_named : (name : List ℕ) (o : Option (List ℕ)) → (o >>= plain_class) ≡ Some name → ((o >>= class_text) >>= λ text. made) ≡ made
  where_named name None e = absurd cc
  where_named name (Some text) e = by_test (is_array_name text) e
    where
      by_test : (b : Bool) → (when (not b) text >>= λ n. when (is_class_name n) n) ≡ Some name → (when (not b) text >>= λ n. made) ≡ made
      by_test true h = absurd cc
      by_test false h = refl

  no_class : (text : List ℕ) → NamesClass text → is_array_name text ≡ false → when (is_class_name text) text ≡ None → ⊥
  no_class text (inl class) e h = clash (sym (ap (λ b. when b text) class) ∙ h)
    where
      clash : Some text ≡ None → ⊥
      clash f = cc
  no_class text (inr described) e h = clash (sym e ∙ described.array)
    where
      clash : false ≡ true → ⊥
      clash f = cc

  where_not_named : (o : Option (List ℕ)) → ((text : List ℕ) → o ≡ Some text → NamesClass text) → (o >>= plain_class) ≡ None → ((o >>= class_text) >>= λ text. made) ≡ None
  where_not_named None kind e = refl
  where_not_named (Some text) kind e = by_test (is_array_name text) refl e
    where
      by_test : (b : Bool) → is_array_name text ≡ b → (when (not b) text >>= λ n. when (is_class_name n) n) ≡ None → (when (not b) text >>= λ n. made) ≡ None
      by_test true is h = refl
      by_test false is h = absurd (no_class text (kind text refl) is h)

module _ (pool : List Entry) (env : Environment) (of : HasPool pool env) (offset index : ℕ) (before : Frame) where
  pub object_made : (name : List ℕ) → Some name ≡ class_named_at pool index → new_object env offset index before ≡ object_at offset before
  object_made name e =
      ap (λ p. (class_name_at p index >>= class_text) >>= λ text. object_at offset before) of
      ∙ where_named (object_at offset before) name (class_name_at pool index) (sym e)

  pub no_object_made : NamesByKind pool → None ≡ class_named_at pool index → new_object env offset index before ≡ None
  no_object_made kinds e =
      ap (λ p. (class_name_at p index >>= class_text) >>= λ text. object_at offset before) of
      ∙ where_not_named (object_at offset before) (class_name_at pool index) (kinds.class index) (sym e)
