use Rattle.jv_verify_types.proofs.Components.{by_classes, by_bases}
use Rattle.jv_verify_types.proofs.names.TypeNames.components_flow.Goals as goal

pub returns-in-Class-Class : goal.returns-in-Class-Class
returns-in-Class-Class c =
    by_classes c.args.self.now.world c.args.self.now.names c.args.from.dimensions c.args.to.dimensions c.args.from.element c.args.to.element c.in-Class-Class.x c.in-Class-Class.y c.class_flows.result
    c.in-Class-Class.is-0 c.in-Class-Class.is-1 c.if-from-to.true c.class_flows.ensures

pub returns-in-Base-Base : goal.returns-in-Base-Base
returns-in-Base-Base c =
    by_bases c.args.self.now.world c.args.self.now.names c.args.from.dimensions c.args.to.dimensions c.args.from.element c.args.to.element c.in-Base-Base.x c.in-Base-Base.y c.same_base.result
    c.in-Base-Base.is-0 c.in-Base-Base.is-1 c.if-from-to-2.true c.same_base.ensures
