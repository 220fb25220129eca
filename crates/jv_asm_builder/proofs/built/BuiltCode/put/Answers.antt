use Rattle.std.proofs.Common.{rules, ◌≡◌, ◌++◌, subst}
use Rattle.std.specs.Prelude.{OnOk}
use Rattle.jv_class_structure.specs.Structure.{method_bytes}
use Rattle.jv_asm.specs.Description.{described_method}
use Rattle.jv_asm_builder.specs.Inside.Methods.{with_code}
use Rattle.jv_asm_builder.proofs.built.BuiltCode.put.Goals as goal

pub returns-in-Some : goal.returns-in-Some
returns-in-Some c =
    let same : described_method c.description.result ≡ with_code c.args.method.now c.args.self.now = search rules in
    subst (λ m. OnOk c.put.result (c.put.new.out.items ≡ c.args.out.now.items ++ method_bytes m)) same c.put.ensures

pub returns-in-None : goal.returns-in-None
returns-in-None c =
    let same : described_method c.description-in-None.result ≡ with_code c.args.method.now c.args.self.now = search rules in
    subst (λ m. OnOk c.put-in-None.result (c.put-in-None.new.out.items ≡ c.args.out.now.items ++ method_bytes m)) same c.put-in-None.ensures
