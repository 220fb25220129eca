use Rattle.std.proofs.Common.{rules, ◌≡◌, ◌<◌, ◌≤◌, ◌++◌, length, ap, ◌∙◌, inl, inr, arith}
use Rattle.std.specs.Prelude.{string_bytes}
use Rattle.jv_code.specs.Insns.{instruction_of}
use Rattle.jv_code.specs.Places.{IsStart, IsStartOrEnd}
use Rattle.jv_lines.specs.Lines.{line_at}
use Rattle.jv_links.proofs.Walking.{none_told, told_all, told_more}
use Rattle.jv_links.proofs.code.references_of.Goals as goal

pub loop-offset-init : goal.loop-offset-init
loop-offset-init c = (
  inl c.size-size.ensures.first,
  λ s at insns is. none_told c.args.classes.now.world c.args.pool.now (line_at c.args.lines.now c.args.site.method) s insns (string_bytes c.new-text.result) c.new-text.ensures.bytes,
)

pub insn_at-next-requires : goal.insn_at-next-requires
insn_at-next-requires c = by_place c.loop-offset.invariant.0
  where
    by_place : IsStartOrEnd c.args.code.now.bytes.now c.loop-offset.offset → IsStart c.args.code.now.bytes.now c.loop-offset.offset
    by_place (inl start) = start
    by_place (inr end) =
        let bytes = c.size-size.ensures.bytes in
        let less : c.loop-offset.offset < c.size-size.result = search rules in
        absurd (omega (arith, end, bytes, less))

pub loop-offset-preserved : goal.loop-offset-preserved
loop-offset-preserved c = (
  c.insn_at-next.ensures.goes_on,
  λ s at insns is.
      let bytes = c.size-size.ensures.bytes in
      let less : c.loop-offset.offset < c.size-size.result = search rules in
      let within : c.loop-offset.offset < length c.args.code.now.bytes.now = omega (arith, bytes, less) in
      let appended : string_bytes c.append.new.text ≡ string_bytes c.loop-offset.text ++ string_bytes c.in_ok-reference.reference =
      c.in_ok-append.ensures ∙ ap (λ t. string_bytes c.loop-offset.text ++ t) c.deref.ensures in
      told_more c.args.classes.now.world c.args.pool.now (line_at c.args.lines.now c.args.site.method) s insns c.args.code.now.bytes.now is c.loop-offset.offset
      (string_bytes c.loop-offset.text) (c.loop-offset.invariant.1 s at insns is)
      c.one_at_offset.ensures (instruction_of c.insn_at-next.result.0) c.insn_at-next.ensures.insn within c.insn_at-next.result.1 (string_bytes c.in_ok-reference.reference)
      (string_bytes c.append.new.text) c.insn_at-next.ensures.next (c.in_ok-reference.ensures s at) appended,
)

pub returns : goal.returns
returns c = λ s at insns is.
    let bytes = c.size-size.ensures.bytes in
    let end : c.size-size.result ≤ c.loop-offset.offset = search rules in
    told_all c.args.classes.now.world c.args.pool.now (line_at c.args.lines.now c.args.site.method) s insns c.args.code.now.bytes.now is c.loop-offset.offset
    (string_bytes c.loop-offset.text) (c.loop-offset.invariant.1 s at insns is) (omega (arith, bytes, end))
