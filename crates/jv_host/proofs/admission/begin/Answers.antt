use Rattle.std.proofs.Common.{inr, length, map, refl}
use Rattle.jv_limits.specs.Bytes.{bytes_of}
use Rattle.jv_host.specs.Files.{guest_of}
use Rattle.jv_host.proofs.Beginnings.{few_of_files, begun}
use Rattle.jv_host.proofs.Broken.{broken_beside}
use Rattle.jv_host.proofs.admission.begin.Goals as goal

pub new-requires-clause-few : goal.new-requires-clause-few
new-requires-clause-few g c =
    few_of_files c.args.files.system.now c.args.files.files.now c.in-Ok.judged c.in-Ok.ensures.verdicts c.requires.library c.requires.few

pub new-requires-clause-files : goal.new-requires-clause-files
new-requires-clause-files g c =
    let library = c.args.files.system.now in
    let files = map bytes_of c.args.files.files.now in
    (library, files, c.in-Ok.ensures.verdicts, (c.in-Ok-stands.ensures.stands files c.in-Ok.ensures.verdicts).0 c.if-not-stands.false)

pub returns-then-not-stands-clause-why : goal.returns-then-not-stands-clause-why
returns-then-not-stands-clause-why g c =
    let files = map bytes_of c.args.files.files.now in
    inr (
      refl,
      broken_beside c.judged_by_verdicts.ensures c.one_content.ensures (guest_of c.args.files) c.in-Ok.judged c.in-Ok.ensures.verdicts (λ stand.
          let yes = (c.in-Ok-stands.ensures.stands files c.in-Ok.ensures.verdicts).1 stand in
          let no = c.if-not-stands.true in cc),
    )

pub returns-clause-begun : goal.returns-clause-begun
returns-clause-begun g c =
    let library = c.args.files.system.now in
    let files = map bytes_of c.args.files.files.now in
    begun
    (record {
      files = c.args.files;
      budget = c.args.budget;
      feeds = c.new-2.result;
      came = length c.args.files.input.now;
      guest = c.in-Ok-new.guest;
    }) _ _
    c.new-2.ensures.items refl c.requires.input c.requires.some c.requires.most
    (c.in-Ok-new.ensures.begun library files c.in-Ok.ensures.verdicts ((c.in-Ok-stands.ensures.stands files c.in-Ok.ensures.verdicts).0 c.if-not-stands.false))
