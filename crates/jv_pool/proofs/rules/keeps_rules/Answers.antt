use Rattle.std.proofs.Common.{refl, rules}
use Rattle.jv_pool.proofs.rules.keeps_rules.Goals as goal

pub returns-in-String : goal.returns-in-String
returns-in-String c = search rules

pub returns-in-Integer : goal.returns-in-Integer
returns-in-Integer c = rw c.in-Integer.is (λ on. tt, λ rule. refl)

pub returns-in-Float : goal.returns-in-Float
returns-in-Float c = rw c.in-Float.is (λ on. tt, λ rule. refl)

pub returns-in-Long : goal.returns-in-Long
returns-in-Long c = rw c.in-Long.is (λ on. tt, λ rule. refl)

pub returns-in-Double : goal.returns-in-Double
returns-in-Double c = rw c.in-Double.is (λ on. tt, λ rule. refl)

pub returns-in-MethodHandle : goal.returns-in-MethodHandle
returns-in-MethodHandle c = rw c.in-MethodHandle.is (λ on. tt, λ rule. refl)

pub returns-in-MethodType : goal.returns-in-MethodType
returns-in-MethodType c = rw c.in-MethodType.is (λ on. tt, λ rule. refl)

pub returns-in-InvokeDynamic : goal.returns-in-InvokeDynamic
returns-in-InvokeDynamic c = rw c.in-InvokeDynamic.is (λ on. tt, λ rule. refl)

pub returns-in-Class : goal.returns-in-Class
returns-in-Class c = rw c.in-Class.is c.is_class.ensures

pub returns-in-Fieldref : goal.returns-in-Fieldref
returns-in-Fieldref c = rw c.in-Fieldref.is c.is_fieldref.ensures

pub returns-in-Methodref : goal.returns-in-Methodref
returns-in-Methodref c = rw c.in-Methodref.is c.is_methodref.ensures

pub returns-in-InterfaceMethodref : goal.returns-in-InterfaceMethodref
returns-in-InterfaceMethodref c = rw c.in-InterfaceMethodref.is c.is_interface_methodref.ensures

pub returns-in-NameAndType : goal.returns-in-NameAndType
returns-in-NameAndType c = rw c.in-NameAndType.is c.is_name_and_type.ensures
