-- What facts of texts say of the rules.
use Rattle.std.proofs.Common.{◌≡◌, ℕ, Bool, List, sym, ap, ◌∙◌}
use Rattle.std.specs.Prelude.{IsTrue, not, ◌&&◌}
use Rattle.std.proofs.lemmas.Bool.{and_parts, and_from}
use Rattle.jv_text.specs.Descriptor.{MethodDescriptor, is_floating, is_floating_method}
use Rattle.jv_text.proofs.Fields.{one_field}
use Rattle.jv_text.proofs.Methods.{one_method}
use Rattle.jv_pool.specs.declared.facts.FieldFacts.{FieldFacts}
use Rattle.jv_pool.specs.declared.facts.MethodFacts.{MethodFacts}
use Rattle.jv_pool.specs.Facts.{AreFieldFacts, AreMethodFacts}
use Rattle.std.specs.Prelude.{is_none, is_some}
use Rattle.jv_pool.specs.Constants.{Entry, NameAndDescriptor}
use Rattle.jv_pool.specs.declared.facts.TextFacts.{TextFacts}
use Rattle.jv_pool.specs.Facts.{AreFacts, value_of_type}
use Rattle.jv_text.specs.Descriptor.{slots}
use Rattle.jv_class_structure.specs.Flags.{has, acc_interface}
use Rattle.jv_class_structure.specs.Parts.{FieldSeen, MethodSeen}
use Rattle.jv_class.specs.Rules.{field_flags_keep_rules, value_keeps_rules, KeepsRulesAsField, method_flags_keep_rules, init_keeps_rules, clinit_keeps_rules, slots_keep_rules, code_presence_keeps_rules, KeepsRulesAsMethod}
use Rattle.jv_class.specs.Supported.{HasNoFloatingField, HasNoFloatingMethod}

pub no_floating_method : (text : List ℕ) (facts : MethodFacts) → AreMethodFacts text facts →
    (IsTrue (not facts.floating) → HasNoFloatingMethod text) × (HasNoFloatingMethod text → IsTrue (not facts.floating))
no_floating_method text facts h = (
  (λ t type described. ap not (ap is_floating_method (one_method text type h.type described h.described) ∙ sym h.floating) ∙ t),
  (λ none. ap not h.floating ∙ none h.type h.described),
)

pub no_floating_field : (text : List ℕ) (facts : FieldFacts) → AreFieldFacts text facts → (IsTrue (not facts.floating) → HasNoFloatingField text) ×
    (HasNoFloatingField text → IsTrue (not facts.floating))
no_floating_field text facts h = (
  (λ t type described. ap not (ap is_floating (one_field text type h.type described h.described) ∙ sym h.floating) ∙ t),
  (λ none. ap not h.floating ∙ none h.type h.described),
)

pub field_keeps_rules : (pool : List Entry) (flags : ℕ) (f : FieldSeen) (texts : NameAndDescriptor) (name : TextFacts) (facts : FieldFacts) (r : Bool)
    → AreFacts texts.name name → AreFieldFacts texts.descriptor facts
    → r ≡ (name.unqualified && field_flags_keep_rules (has flags acc_interface) f.access_flags && value_keeps_rules pool facts.value f.constant_value)
    → (IsTrue r → KeepsRulesAsField pool flags f.access_flags f.constant_value texts) × (KeepsRulesAsField pool flags f.access_flags f.constant_value texts → IsTrue r)
field_keeps_rules pool flags f texts name facts r n h e =
    let there : IsTrue r → KeepsRulesAsField pool flags f.access_flags f.constant_value texts = λ t.
    let all = and_parts (name.unqualified && field_flags_keep_rules (has flags acc_interface) f.access_flags) (value_keeps_rules pool facts.value f.constant_value) (sym e ∙ t) in
    let two = and_parts name.unqualified (field_flags_keep_rules (has flags acc_interface) f.access_flags) all.0 in
    record {
      named = sym n.unqualified ∙ two.0;
      type = h.type;
      described = h.described;
      flags_keep_rules = two.1;
      value_kind = ap (λ v. value_keeps_rules pool v f.constant_value) (sym h.value) ∙ all.1;
    } in
    let back : KeepsRulesAsField pool flags f.access_flags f.constant_value texts → IsTrue r = λ k.
    let same : h.type ≡ k.type = one_field texts.descriptor h.type k.type h.described k.described in
    e ∙ and_from (name.unqualified && field_flags_keep_rules (has flags acc_interface) f.access_flags) (value_keeps_rules pool facts.value f.constant_value)
    (and_from name.unqualified (field_flags_keep_rules (has flags acc_interface) f.access_flags) (n.unqualified ∙ k.named) k.flags_keep_rules)
    (ap (λ v. value_keeps_rules pool v f.constant_value) (h.value ∙ ap value_of_type same) ∙ k.value_kind) in
    (there, back)

pub method_keeps_rules : (major flags : ℕ) (m : MethodSeen) (texts : NameAndDescriptor) (name descriptor : List ℕ) → texts.name ≡ name → texts.descriptor ≡ descriptor
    → (known : TextFacts) (facts : MethodFacts) (r : Bool) → IsTrue known.method_name → AreFacts texts.name known → AreMethodFacts texts.descriptor facts
    → r ≡ ((method_flags_keep_rules major (has flags acc_interface) name m.access_flags && init_keeps_rules (has flags acc_interface) name facts.void
    && clinit_keeps_rules name descriptor m.access_flags)
    && slots_keep_rules m.access_flags facts.slots && code_presence_keeps_rules name m.access_flags (is_some m.code))
    → (IsTrue r → KeepsRulesAsMethod major flags m.access_flags (is_some m.code) texts) × (KeepsRulesAsMethod major flags m.access_flags (is_some m.code) texts → IsTrue r)
method_keeps_rules major flags m texts name descriptor e1 e2 known facts r named n h e =
    let A : Bool = method_flags_keep_rules major (has flags acc_interface) name m.access_flags in
    let B : Bool = init_keeps_rules (has flags acc_interface) name facts.void in
    let C : Bool = clinit_keeps_rules name descriptor m.access_flags in
    let D : Bool = slots_keep_rules m.access_flags facts.slots in
    let E : Bool = code_presence_keeps_rules name m.access_flags (is_some m.code) in
    let there : IsTrue r → KeepsRulesAsMethod major flags m.access_flags (is_some m.code) texts = λ t.
    let all = and_parts ((A && B && C) && D) E (sym e ∙ t) in
    let four = and_parts (A && B && C) D all.0 in
    let three = and_parts (A && B) C four.0 in
    let two = and_parts A B three.0 in
    record {
      named = sym n.method_name ∙ named;
      type = h.type;
      described = h.described;
      flags_keep_rules = ap (λ x. method_flags_keep_rules major (has flags acc_interface) x m.access_flags) e1 ∙ two.0;
      init = ap (λ x. init_keeps_rules (has flags acc_interface) x (is_none h.type.result)) e1 ∙ ap (init_keeps_rules (has flags acc_interface) name) (sym h.void) ∙ two.1;
      clinit = ap (λ x. clinit_keeps_rules x texts.descriptor m.access_flags) e1 ∙ ap (λ x. clinit_keeps_rules name x m.access_flags) e2 ∙ three.1;
      few_slots = ap (slots_keep_rules m.access_flags) (sym h.slots) ∙ four.1;
      code_there = ap (λ x. code_presence_keeps_rules x m.access_flags (is_some m.code)) e1 ∙ all.1;
    } in
    let back : KeepsRulesAsMethod major flags m.access_flags (is_some m.code) texts → IsTrue r = λ k.
    let same : h.type ≡ k.type = one_method texts.descriptor h.type k.type h.described k.described in
    let a : IsTrue A = ap (λ x. method_flags_keep_rules major (has flags acc_interface) x m.access_flags) (sym e1) ∙ k.flags_keep_rules in
    let b : IsTrue B = ap (init_keeps_rules (has flags acc_interface) name) (h.void ∙ ap (λ (t : MethodDescriptor). is_none t.result) same) ∙
    ap (λ x. init_keeps_rules (has flags acc_interface) x (is_none k.type.result)) (sym e1) ∙ k.init in
    let c : IsTrue C = ap (λ x. clinit_keeps_rules name x m.access_flags) (sym e2) ∙ ap (λ x. clinit_keeps_rules x texts.descriptor m.access_flags) (sym e1) ∙ k.clinit in
    let d : IsTrue D = ap (slots_keep_rules m.access_flags) (h.slots ∙ ap slots same) ∙ k.few_slots in
    let f : IsTrue E = ap (λ x. code_presence_keeps_rules x m.access_flags (is_some m.code)) (sym e1) ∙ k.code_there in
    e ∙ and_from ((A && B && C) && D) E (and_from (A && B && C) D (and_from (A && B) C (and_from A B a b) c) d) f in
    (there, back)
