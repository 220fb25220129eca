use Rattle.std.proofs.Common.{sym, ap, ◌∙◌}
use Rattle.std.specs.Prelude.{string_bytes}
use Rattle.std.specs.Option.{option_map}
use Rattle.std.proofs.lemmas.Result.{IfOk-weaker}
use Rattle.jv_operands.specs.Seen.{seen_unmet as seen_want}
use Rattle.jv_verify.specs.Before.{seen_frame, seen_unmet}
use Rattle.jv_program_explain.specs.Frames.{unmet_want_at}
use Rattle.jv_program_explain.proofs.Faults.{at_none, at_place, typed_in}
use Rattle.jv_program_explain.proofs.frames.frames_at.Goals as goal

pub returns-then-not-is_at_instruction : goal.returns-then-not-is_at_instruction
returns-then-not-is_at_instruction c = λ l at.
    at_none c.args.classes.now.world l c.args.fault (string_bytes c.new.result) c.args.fault.rule (sym c.if-not-is_at_instruction.ensures) c.new.ensures.bytes

pub frames_before-requires-clause-typed : goal.frames_before-requires-clause-typed
frames_before-requires-clause-typed c = λ l at.
    typed_in c.args.classes.now.world l c.args.fault (sym c.is_at_instruction.ensures ∙ c.if-not-is_at_instruction.false) (c.requires.judged l at)

pub unmet_want-requires-clause-instruction : goal.unmet_want-requires-clause-instruction
unmet_want-requires-clause-instruction c = sym c.is_at_instruction.ensures ∙ c.if-not-is_at_instruction.false

pub returns : goal.returns
returns c =
    IfOk-weaker c.frames_told.result _ _
    (λ text told l at.
    let b = c.in_ok-found.ensures l at in
    at_place c.args.classes.now.world l c.args.fault (string_bytes text) c.args.fault.rule (sym c.is_at_instruction.ensures ∙ c.if-not-is_at_instruction.false)
    (record {
      method = b.method;
      at = b.at;
      falling = option_map seen_frame c.in_ok-found.found.falling;
      map = option_map seen_frame c.in_ok-found.found.map;
      unmet = option_map seen_unmet c.in_ok-found.found.unmet;
      want = option_map seen_want c.in_ok-want.want;
      before = record {
        env = b.holds.env;
        world_is = b.holds.world_is;
        site_is = b.holds.site_is;
        code = b.holds.code;
        handlers = b.holds.handlers;
        maps = b.holds.maps;
        frames = b.holds.frames;
        holds = (
          b.holds.holds,
          ap (unmet_want_at b.holds.env c.args.fault.offset) (sym c.before_of-before.ensures)
              ∙ c.in_ok-want.ensures l at b.method b.at b.holds.env b.holds.world_is b.holds.site_is b.holds.code.is,
        );
      };
      told = told;
    }))
    c.frames_told.ensures
