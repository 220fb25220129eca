use Rattle.jv_class_structure.proofs.Numbering.{one_more_kept}
use Rattle.jv_class_structure.proofs.method_list.MethodList.push.Goals as goal

pub returns-clause-list : goal.returns-clause-list
returns-clause-list c =
    rw c.in_ok-push.ensures.items
    (one_more_kept c.args.self.now.codes.items c.number_of.new.codes.items c.args.self.now.kept.items _ _ c.requires.numbered.within c.in_ok-code.ensures.more c.in_ok-code.ensures.number)
