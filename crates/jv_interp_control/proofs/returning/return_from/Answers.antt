use Rattle.std.proofs.Common.{◌≡◌, ℕ, sym, ap, subst, ◌∙◌}
use Rattle.jv_meaning_machine.specs.Costs.{code_words, method_words}
use Rattle.jv_interp_control.specs.Leaving.{Leaving}
use Rattle.jv_interp_control.proofs.returning.return_from.Goals as goal

pub code_of-requires : goal.code_of-requires
code_of-requires c =
    let w = c.requires.can in
    record { program = w.program; d = w.returning.declared; code = w.frame.method.code; is = w.returning.code }

pub leave-requires : goal.leave-requires
leave-requires c =
    let w = c.requires.can in
    let given : method_words w.frame ≡ c.words_of-given.result =
    sym (c.words_of-given.ensures ∙ ap code_words (c.code_of.ensures w.program w.returning.declared w.frame.method.code w.returning.code)) in
    record {
      can = record {
        program = w.program;
        addresses = w.addresses;
        memory = w.memory;
        frame = w.frame;
        below = w.others;
        control = w.control;
        result = w.result;
        t = w.t;
        leaving =
            subst (λ (n : ℕ). Leaving c.args.methods.now n c.args.at.top c.args.words (record c.args.frames.now { top = c.args.at.base })
            c.args.control.now w.program w.addresses w.memory w.frame w.others w.control w.result w.t)
            given w.returning.leaving;
      };
    }

pub returns : goal.returns
returns c = λ program addresses memory frame others control result t h.
    let given : method_words frame ≡ c.words_of-given.result =
    sym (c.words_of-given.ensures ∙ ap code_words (c.code_of.ensures program h.declared frame.method.code h.code)) in
    c.leave.ensures program addresses memory frame others control result t
    (subst (λ (n : ℕ). Leaving c.args.methods.now n c.args.at.top c.args.words (record c.args.frames.now { top = c.args.at.base }) c.args.control.now
    program addresses memory frame others control result t)
    given h.leaving)
