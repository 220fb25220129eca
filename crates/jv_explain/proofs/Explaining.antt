-- What is said of the first fault of the class of a file.
use Rattle.std.proofs.Common.{◌≡◌, ℕ, List, ◌++◌, Option, Some, sym, ap, subst, ◌∙◌}
use Rattle.std.specs.Prelude.{slice_get}
use Rattle.jv_pool.specs.Constants.{utf8_at}
use Rattle.jv_class_structure.specs.Parts.{MethodSeen, methods_of}
use Rattle.jv_class_structure.specs.Structure.{ClassStructure}
use Rattle.jv_code.specs.Places.{StandsInList}
use Rattle.jv_meaning_world.specs.Verdicts.{declared_by}
use Rattle.jv_meaning_typing.specs.declared.verdict.VerifyFault.{VerifyFault}
use Rattle.jv_explain.specs.Inside.Said.{ExplainsIn, ShowsFaultIn, named_text}
use Rattle.jv_explain.specs.Text.{broken_text}
use Rattle.jv_explain.proofs.Named.{IsShownAs, same_pool, shown_at}
use Rattle.jv_explain.proofs.Standing.{stands_at}

pub explained : StandsInList → (file : ClassStructure) (fault : VerifyFault) (shown : MethodSeen) (line : Option ℕ) (k : ℕ)
    (name descriptor above place frames text : List ℕ)
    → Some shown ≡ slice_get (methods_of file) k → k ≡ fault.method → utf8_at file.constant_pool shown.name_index ≡ Some name
    → utf8_at file.constant_pool shown.descriptor_index ≡ Some descriptor → ShowsFaultIn file.constant_pool shown fault line place
    → text ≡ named_text fault.method name descriptor ++ above ++ place ++ frames ++ broken_text fault.rule → ExplainsIn file fault above frames text
explained law file fault shown line k name descriptor above place frames text is at named described shows told = λ world l of first.
    let (x, there, as_shown) = shown_at file l.class of fault.method first.method first.at in
    let both : Some shown ≡ Some x = is ∙ (ap (slice_get (methods_of file)) at ∙ there) in
    let one : x ≡ shown = cc in
    let mine : IsShownAs file.constant_pool shown first.method = subst (λ (s : MethodSeen). IsShownAs file.constant_pool s first.method) one as_shown in
    let names : Some name ≡ Some first.method.name = sym named ∙ mine.name in
    let name_is : name ≡ first.method.name = cc in
    let descriptors : Some descriptor ≡ Some first.method.descriptor = sym described ∙ mine.descriptor in
    let descriptor_is : descriptor ≡ first.method.descriptor = cc in
    record {
      method = first.method;
      at = first.at;
      line = line;
      place = place;
      shown = shows l first.method (same_pool file l.class of) mine.code (stands_at law (declared_by l first.method) fault.offset world fault.rule first.breaks);
      told =
          told
          ∙ (ap (λ (t : List ℕ). named_text fault.method t descriptor ++ above ++ place ++ frames ++ broken_text fault.rule) name_is
          ∙ ap (λ (t : List ℕ). named_text fault.method first.method.name t ++ above ++ place ++ frames ++ broken_text fault.rule) descriptor_is);
    }
