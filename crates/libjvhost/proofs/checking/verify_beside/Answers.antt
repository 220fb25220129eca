use Rattle.std.proofs.Common.{◌≡◌, inl, inr, map, sym, ◌∙◌}
use Rattle.jv_limits.specs.Bytes.{bytes_of}
use Rattle.libjvhost.proofs.checking.verify_beside.Goals as goal

pub returns-then-not-stands-clause-so : goal.returns-then-not-stands-clause-so
returns-then-not-stands-clause-so c =
    let files = map bytes_of c.args.files.now in let code = c.coded-then-not-stands.ensures in
    record {
      answer = inr (inr (
        code,
        record {
          found = c.in-Ok.verified;
          right = c.in-Ok.ensures;
          broken = λ stand.
              let yes = (c.in-Ok-stands.ensures.stands files c.in-Ok.ensures).1 stand in let no = c.if-not-stands.true in cc;
        },
      ));
      told = λ e. absurd (let no : 18 ≡ 0 = sym code ∙ e in cc);
    }

pub returns-then-not-stands-clause-whole : goal.returns-then-not-stands-clause-whole
returns-then-not-stands-clause-whole c = λ none code.
    let stands = c.in-Ok-stands.ensures.alone none in let is = c.in-Ok-stands.is in let broken = c.if-not-stands.true in cc

pub returns-clause-so : goal.returns-clause-so
returns-clause-so c =
    let files = map bytes_of c.args.files.now in
    record {
      answer = inl c.coded-done.ensures;
      told = λ e. record {
        found = c.in-Ok.verified;
        right = c.in-Ok.ensures;
        stands = (c.in-Ok-stands.ensures.stands files c.in-Ok.ensures).0 c.if-not-stands.false;
        told = c.in-Some.ensures;
      };
    }
