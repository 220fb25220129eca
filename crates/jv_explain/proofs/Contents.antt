-- What is said of a file by what it holds.
use Rattle.std.proofs.Common.{◌≡◌, ℕ, false, List, Option, Some, None, refl, sym, subst}
use Rattle.std.specs.Prelude.{IsSomeAnd}
use Rattle.std.specs.Option.{option_map}
use Rattle.jv_class_structure.specs.Structure.{ClassStructure}
use Rattle.jv_class.specs.Class.{Class, class_of}
use Rattle.jv_meaning_world.specs.FileContent.{FileContent, IsContent, OneContent}
use Rattle.jv_meaning_world.specs.declared.content.Content.{Content}
use Rattle.jv_meaning_world.specs.declared.content.Content.TheVariants.{OtherVersion, NoClassFile, MoreThanProfile, Holds}
use Rattle.jv_meaning_world.specs.World.{World, loaded}
use Rattle.jv_meaning_world.specs.declared.verdict.LoadVerdict.{LoadVerdict}
use Rattle.jv_meaning_typing.specs.declared.verdict.VerifyFault.{VerifyFault}
use Rattle.jv_meaning_typing.specs.declared.verdict.Verdict.TheVariants.{Verify}
use Rattle.jv_meaning_typing.specs.Judgement.{IsFirstFault, IsVerdictBehind, IsVerdictOfContent}
use Rattle.jv_loader.specs.Inside.Reading.{content_of}
use Rattle.jv_explain.specs.Explained.{IsExplanation}
use Rattle.jv_explain.specs.Inside.Said.{ExplainsIn}

first_of : (world : World) (class : Class) (why : Option LoadVerdict) (fault : VerifyFault) → IsVerdictBehind world (loaded false class) why (Verify fault)
    → IsFirstFault world (loaded false class) fault
first_of world class None fault h = h
first_of world class (Some w) fault h = absurd cc

-- a file that holds no class has no method that breaks a rule
none_broken : (world : World) (why : Option LoadVerdict) (content : FileContent) (fault : VerifyFault) → ((class : Class) → content ≡ Holds class → ⊥)
    → IsVerdictOfContent world why (Some content) (Verify fault) → ⊥
none_broken world why (Holds class) fault not h = not class refl
none_broken world (Some w) OtherVersion fault not h = absurd cc
none_broken world (Some w) NoClassFile fault not h = absurd cc
none_broken world (Some w) MoreThanProfile fault not h = absurd cc
none_broken world None OtherVersion fault not h = h
none_broken world None NoClassFile fault not h = h
none_broken world None MoreThanProfile fault not h = h

module _ (law : OneContent) (bytes : List ℕ) (fault : VerifyFault) (above frames text : List ℕ) (world : World) (why : Option LoadVerdict) (content : FileContent)
    (is : IsContent bytes content) (verdict : IsVerdictOfContent world why (Some content) (Verify fault)) where
  pub held : (file : ClassStructure) → IsSomeAnd (content_of (Holds file)) (IsContent bytes) → ExplainsIn file fault above frames text → IsExplanation content (Verify fault) above frames text
  held file read explains = by_class (class_of file) refl read
    where
      by_class : (o : Option Class) → class_of file ≡ o → IsSomeAnd (option_map Holds o) (IsContent bytes) → IsExplanation content (Verify fault) above frames text
      by_class None e h = absurd h
      by_class (Some class) e h =
          let same : Holds class ≡ content = law bytes (Holds class) content h is in
          subst (λ (c : FileContent). IsExplanation c (Verify fault) above frames text) same
          (explains world (loaded false class) e
          (first_of world class why fault (subst (λ (c : FileContent). IsVerdictOfContent world why (Some c) (Verify fault)) (sym same) verdict)))

  pub not_held : (found : Content ClassStructure) → ((file : ClassStructure) → found ≡ Holds file → ⊥) → IsSomeAnd (content_of found) (IsContent bytes) → ⊥
  not_held OtherVersion not h =
      let same : OtherVersion ≡ content = law bytes OtherVersion content h is in
      none_broken world why content fault (λ class e. other class same e) verdict
    where
      other : (class : Class) → OtherVersion ≡ content → content ≡ Holds class → ⊥
      other class s e = cc
  not_held NoClassFile not h =
      let same : NoClassFile ≡ content = law bytes NoClassFile content h is in
      none_broken world why content fault (λ class e. other class same e) verdict
    where
      other : (class : Class) → NoClassFile ≡ content → content ≡ Holds class → ⊥
      other class s e = cc
  not_held MoreThanProfile not h =
      let same : MoreThanProfile ≡ content = law bytes MoreThanProfile content h is in
      none_broken world why content fault (λ class e. other class same e) verdict
    where
      other : (class : Class) → MoreThanProfile ≡ content → content ≡ Holds class → ⊥
      other class s e = cc
  not_held (Holds file) not h = not file refl
