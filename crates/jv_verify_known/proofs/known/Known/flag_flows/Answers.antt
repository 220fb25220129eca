use Rattle.std.proofs.Common.{Bool, false, not, ◌||◌, get_or, ap, ◌∙◌}
use Rattle.jv_verify_known.specs.Known.{KnownLocals}
use Rattle.jv_verify_known.proofs.Words.{this_is}
use Rattle.jv_verify_known.proofs.known.Known.flag_flows.Goals as goal

pub returns : goal.returns
returns c =
    λ types map at.
    c.flag_goes.ensures
    ∙ (ap (λ (f : Bool). not f || c.has_this.result) c.flag_this_uninit.ensures
    ∙ ap (λ (t : Bool). not c.args.frame.now.flag_this_uninit || t) (c.has_this.ensures
    ∙ (ap (λ (k : KnownLocals). get_or k.words.with_this c.args.place false) c.self.view_is ∙ this_is types c.args.self.now.words c.args.place map at)))
