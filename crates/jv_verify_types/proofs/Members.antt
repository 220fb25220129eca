-- Members by the indices of their parts, and by their texts.
use Rattle.std.proofs.Common.{◌≡◌, ℕ, Bool, true, false, List, Option, Some, None, refl, ap, ◌∙◌}
use Rattle.std.specs.Option.{option_map, option_or}
use Rattle.jv_format.specs.Format.{◌>>=◌}
use Rattle.jv_pool.specs.declared.constant.Constant.TheVariants.{Utf8, Integer, Float, Long, Double, Class, String, Fieldref, Methodref, InterfaceMethodref, NameAndType, MethodHandle, MethodType, InvokeDynamic}
use Rattle.jv_pool.specs.Constants.{Entry, at_index, class_name_at, utf8_at, name_and_type_in, name_and_descriptor, member_of, method_reference_in, interface_method_reference_in}
use Rattle.jv_meaning_typing.specs.Operands.{MethodConstant, MethodReference, through}
use Rattle.jv_meaning_typing.specs.Operands.MethodConstant.{Methodref as of_class, InterfaceMethodref as of_interface}
use Rattle.jv_verify_types.specs.declared.indices.MemberIndices.{MemberIndices}
use Rattle.jv_verify_types.specs.declared.indices.MethodIndices.{MethodIndices}
use Rattle.jv_verify_types.specs.Inside.Parts.{member_indices, method_indices, method_with, reference_of, reference_at}

abbrev nothing : {B : Type 0} → Option B
nothing = None

none_behind : {A B : Type 0} (c : Option A) → (c >>= λ x. nothing {B = B}) ≡ None
none_behind None = refl
none_behind (Some x) = refl

bound : (c n d : Option (List ℕ)) → (c >>= λ class. (n >>= λ name. d >>= λ descriptor. Some (name_and_descriptor name descriptor)) >>= λ m. Some (member_of class m))
    ≡ (c >>= λ class. n >>= λ name. d >>= λ descriptor. Some (reference_of class name descriptor))
bound None n d = refl
bound (Some c) None d = refl
bound (Some c) (Some n) None = refl
bound (Some c) (Some n) (Some d) = refl

pub member_reference : (pool : List Entry) (class : ℕ) (o : Option Entry)
    → (class_name_at pool class >>= λ c. name_and_type_in pool o >>= λ m. Some (member_of c m)) ≡ (member_indices class o >>= reference_at pool)
member_reference pool class None = none_behind (class_name_at pool class)
member_reference pool class (Some (NameAndType n d)) = bound (class_name_at pool class) (utf8_at pool n) (utf8_at pool d)
member_reference pool class (Some (Utf8 t)) = none_behind (class_name_at pool class)
member_reference pool class (Some (Integer b)) = none_behind (class_name_at pool class)
member_reference pool class (Some (Float b)) = none_behind (class_name_at pool class)
member_reference pool class (Some (Long h l)) = none_behind (class_name_at pool class)
member_reference pool class (Some (Double h l)) = none_behind (class_name_at pool class)
member_reference pool class (Some (Class n)) = none_behind (class_name_at pool class)
member_reference pool class (Some (String n)) = none_behind (class_name_at pool class)
member_reference pool class (Some (Fieldref c m)) = none_behind (class_name_at pool class)
member_reference pool class (Some (Methodref c m)) = none_behind (class_name_at pool class)
member_reference pool class (Some (InterfaceMethodref c m)) = none_behind (class_name_at pool class)
member_reference pool class (Some (MethodHandle k i)) = none_behind (class_name_at pool class)
member_reference pool class (Some (MethodType d)) = none_behind (class_name_at pool class)
member_reference pool class (Some (InvokeDynamic b m)) = none_behind (class_name_at pool class)

-- ---- methods

abbrev pub constant_of : Bool → MethodConstant
constant_of true = of_class
constant_of false = of_interface

abbrev pub method_in : List Entry → Option Entry → Option MethodReference
method_in pool o = option_or (option_map (through of_class) (method_reference_in pool o)) (option_map (through of_interface) (interface_method_reference_in pool o))

abbrev pub method_at : List Entry → MethodIndices → Option MethodReference
method_at pool i = option_map (through (constant_of i.of_class)) (reference_at pool i.member)

or_none : {A : Type 0} (o : Option A) → option_or o None ≡ o
or_none None = refl
or_none (Some x) = refl

-- a member that has indices, as that of a class or of an interface
with_indices : (pool : List Entry) (b : Bool) (x : Option MemberIndices) (i : MethodIndices) → option_map (method_with b) x ≡ Some i
    → option_map (through (constant_of b)) (x >>= reference_at pool) ≡ method_at pool i
with_indices pool b None i e = absurd cc
with_indices pool b (Some m) i e = let same : method_with b m ≡ i = cc in ap (method_at pool) same

pub method_found : (pool : List Entry) (o : Option Entry) (i : MethodIndices) → method_indices pool o ≡ Some i → method_in pool o ≡ method_at pool i
method_found pool (Some (Methodref class member)) i e =
    or_none (option_map (through of_class) (method_reference_in pool (Some (Methodref class member))))
    ∙ (ap (option_map (through of_class)) (member_reference pool class (at_index pool member)) ∙ with_indices pool true (member_indices class (at_index pool member)) i e)
method_found pool (Some (InterfaceMethodref class member)) i e =
    ap (option_map (through of_interface)) (member_reference pool class (at_index pool member)) ∙ with_indices pool false (member_indices class (at_index pool member)) i e
method_found pool None i e = absurd cc
method_found pool (Some (NameAndType n d)) i e = absurd cc
method_found pool (Some (Utf8 t)) i e = absurd cc
method_found pool (Some (Integer b)) i e = absurd cc
method_found pool (Some (Float b)) i e = absurd cc
method_found pool (Some (Long h l)) i e = absurd cc
method_found pool (Some (Double h l)) i e = absurd cc
method_found pool (Some (Class n)) i e = absurd cc
method_found pool (Some (String n)) i e = absurd cc
method_found pool (Some (Fieldref c m)) i e = absurd cc
method_found pool (Some (MethodHandle k x)) i e = absurd cc
method_found pool (Some (MethodType d)) i e = absurd cc
method_found pool (Some (InvokeDynamic b m)) i e = absurd cc
