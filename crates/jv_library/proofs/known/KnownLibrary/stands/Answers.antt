use Rattle.std.proofs.Common.{refl, subst}
use Rattle.jv_verify.specs.Files.{AreFilesOf}
use Rattle.jv_library.specs.Inside.Known.{IsFoundOf}
use Rattle.jv_library.proofs.Steps.{for_files}
use Rattle.jv_library.proofs.known.KnownLibrary.stands.Goals as goal

pub returns-then-library_count-eq0-clause-stands : goal.returns-then-library_count-eq0-clause-stands
returns-then-library_count-eq0-clause-stands c = for_files c.args.system.now c.args.verified.now c.host_stands.result c.host_stands.ensures.stands

pub returns-then-library_count-eq0-clause-alone : goal.returns-then-library_count-eq0-clause-alone
returns-then-library_count-eq0-clause-alone c = λ none.
    c.host_stands.ensures.alone c.requires.0 (subst (λ library. AreFilesOf library c.requires.0 c.args.verified.now) none c.requires.1)

pub returns-in-Some-Always-clause-stands : goal.returns-in-Some-Always-clause-stands
returns-in-Some-Always-clause-stands c = λ files are.
    let always = subst (λ found. IsFoundOf c.args.system.now found) c.in-Some-Always.field-0-is c.in-Some-Always.ensures in
    (λ _. always files c.args.verified.now are, λ _. refl)

pub returns-in-Some-Open-clause-stands : goal.returns-in-Some-Open-clause-stands
returns-in-Some-Open-clause-stands c =
    for_files c.args.system.now c.args.verified.now c.host_stands-in-Some-Open.result c.host_stands-in-Some-Open.ensures.stands
