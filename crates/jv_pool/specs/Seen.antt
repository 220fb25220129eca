-- What values of the code stand for in the definitions: the same constants and members, with lists of bytes in place
-- of slices.
use Rattle.std.specs.Prelude.{ℕ, List}
use Rattle.std.specs.Borrow.{Bor}
use Rattle.jv_pool.specs.declared.constant.Constant.{Constant}
use Rattle.jv_pool.specs.declared.constant.Constant.TheVariants.{Utf8, Integer, Float, Long, Double, Class, String, Fieldref, Methodref, InterfaceMethodref, NameAndType, MethodHandle, MethodType, InvokeDynamic}
use Rattle.jv_pool.specs.declared.constant.MemberName.{MemberName}
use Rattle.jv_pool.specs.declared.constant.NameAndTypeTexts.{NameAndTypeTexts}
use Rattle.jv_pool.specs.Constants.{Entry, NameAndDescriptor, MemberReference}

abbrev pub seen_text : Bor (List ℕ) → List ℕ
seen_text t = t.now

abbrev pub seen : Constant (Bor (List ℕ)) → Entry
seen (Utf8 t) = Utf8 t.now
seen (Integer bits) = Integer bits
seen (Float bits) = Float bits
seen (Long high low) = Long high low
seen (Double high low) = Double high low
seen (Class name) = Class name
seen (String t) = String t
seen (Fieldref class name_and_type) = Fieldref class name_and_type
seen (Methodref class name_and_type) = Methodref class name_and_type
seen (InterfaceMethodref class name_and_type) = InterfaceMethodref class name_and_type
seen (NameAndType name descriptor) = NameAndType name descriptor
seen (MethodHandle kind index) = MethodHandle kind index
seen (MethodType descriptor) = MethodType descriptor
seen (InvokeDynamic bootstrap name_and_type) = InvokeDynamic bootstrap name_and_type

abbrev pub seen_name_and_type : NameAndTypeTexts → NameAndDescriptor
seen_name_and_type m = record { name = m.name.now; descriptor = m.descriptor.now }

abbrev pub seen_member : MemberName → MemberReference
seen_member r = record { class = r.class.now; name = r.name.now; descriptor = r.descriptor.now }
