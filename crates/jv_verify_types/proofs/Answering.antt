-- The texts of members, by the constants that are these texts.
use Rattle.std.proofs.Common.{◌≡◌, ℕ, List, Option, Some, None, refl, sym, ap, subst, ◌∙◌}
use Rattle.std.specs.Prelude.{IfSome}
use Rattle.std.specs.Option.{option_map}
use Rattle.jv_format.specs.Format.{◌>>=◌}
use Rattle.jv_pool.specs.declared.constant.Constant.TheVariants.{Utf8, Integer, Float, Long, Double, Class, String, Fieldref, Methodref, InterfaceMethodref, NameAndType, MethodHandle, MethodType, InvokeDynamic}
use Rattle.jv_pool.specs.Constants.{Entry, MemberReference, at_index, class_name_at, utf8_at, field_reference_in}
use Rattle.jv_meaning_typing.specs.Operands.{MethodReference, through}
use Rattle.jv_verify_types.specs.declared.indices.MemberIndices.{MemberIndices}
use Rattle.jv_verify_types.specs.declared.indices.MethodIndices.{MethodIndices}
use Rattle.jv_verify_types.specs.Inside.Guarded.{member_named}
use Rattle.jv_verify_types.specs.Inside.Answered.{AreTextsOf}
use Rattle.jv_verify_types.specs.Inside.Parts.{field_indices, method_indices, reference_of, reference_at}
use Rattle.jv_verify_types.proofs.Members.{member_reference, method_in, method_found, constant_of}

-- ---- the texts of what has indices

same_reference : {r s : MemberReference} → Some r ≡ Some s → r ≡ s
same_reference e = cc

pub reference_texts : (pool : List Entry) (i : MemberIndices) (r : MemberReference) → reference_at pool i ≡ Some r → AreTextsOf pool i.name i.descriptor r
reference_texts pool i r e = by_parts (class_name_at pool i.class) (utf8_at pool i.name) (utf8_at pool i.descriptor) refl refl e
  where
    by_parts : (c n d : Option (List ℕ)) → utf8_at pool i.name ≡ n → utf8_at pool i.descriptor ≡ d
        → (c >>= λ class. n >>= λ name. d >>= λ descriptor. Some (reference_of class name descriptor)) ≡ Some r → AreTextsOf pool i.name i.descriptor r
    by_parts None n d f g h = absurd cc
    by_parts (Some c) None d f g h = absurd cc
    by_parts (Some c) (Some n) None f g h = absurd cc
    by_parts (Some c) (Some n) (Some d) f g h = record {
      name_is = f ∙ ap (λ (x : MemberReference). Some x.name) (same_reference h);
      descriptor_is = g ∙ ap (λ (x : MemberReference). Some x.descriptor) (same_reference h);
    }

pub field_texts : (pool : List Entry) (o : Option Entry) (i : MemberIndices) (r : MemberReference) → field_indices pool o ≡ Some i → field_reference_in pool o ≡ Some r
    → AreTextsOf pool i.name i.descriptor r
field_texts pool (Some (Fieldref class member)) i r e f =
    reference_texts pool i r (sym (ap (λ p. p >>= reference_at pool) e) ∙ (sym (member_reference pool class (at_index pool member)) ∙ f))
field_texts pool None i r e f = absurd cc
field_texts pool (Some (Methodref c m)) i r e f = absurd cc
field_texts pool (Some (InterfaceMethodref c m)) i r e f = absurd cc
field_texts pool (Some (NameAndType n d)) i r e f = absurd cc
field_texts pool (Some (Utf8 t)) i r e f = absurd cc
field_texts pool (Some (Integer b)) i r e f = absurd cc
field_texts pool (Some (Float b)) i r e f = absurd cc
field_texts pool (Some (Long h l)) i r e f = absurd cc
field_texts pool (Some (Double h l)) i r e f = absurd cc
field_texts pool (Some (Class n)) i r e f = absurd cc
field_texts pool (Some (String n)) i r e f = absurd cc
field_texts pool (Some (MethodHandle k x)) i r e f = absurd cc
field_texts pool (Some (MethodType d)) i r e f = absurd cc
field_texts pool (Some (InvokeDynamic b m)) i r e f = absurd cc

pub field_texts_in : (pool : List Entry) (o : Option Entry) (indices : Option MemberIndices) (r : MemberReference) → indices ≡ field_indices pool o → field_reference_in pool o ≡ Some r
    → IfSome indices (λ i. AreTextsOf pool i.name i.descriptor r)
field_texts_in pool o None r e f = tt
field_texts_in pool o (Some i) r e f = field_texts pool o i r (sym e) f

pub method_texts : (pool : List Entry) (o : Option Entry) (i : MethodIndices) (m : MethodReference) → method_indices pool o ≡ Some i → method_in pool o ≡ Some m
    → AreTextsOf pool i.member.name i.member.descriptor m.member
method_texts pool o i m e f = by_reference (reference_at pool i.member) refl (sym (method_found pool o i e) ∙ f)
  where
    same : (r : MemberReference) → Some (through (constant_of i.of_class) r) ≡ Some m → r ≡ m.member
    same r h = ap (λ (x : MethodReference). x.member) (one h)
      where
        one : {a b : MethodReference} → Some a ≡ Some b → a ≡ b
        one g = cc

    by_reference : (o : Option MemberReference) → reference_at pool i.member ≡ o → option_map (through (constant_of i.of_class)) o ≡ Some m
        → AreTextsOf pool i.member.name i.member.descriptor m.member
    by_reference None g h = absurd cc
    by_reference (Some r) g h = subst (AreTextsOf pool i.member.name i.member.descriptor) (same r h) (reference_texts pool i.member r g)

-- what holds of the member of what is named
pub of_named : (P : MemberReference → Type 0) (o : Option MethodReference) (r : MemberReference) → Some r ≡ option_map member_named o → ((m : MethodReference) → o ≡ Some m → P m.member) → P r
of_named P None r e h = absurd cc
of_named P (Some m) r e h = subst P (same_reference (sym e)) (h m refl)
