use Rattle.std.proofs.Common.{ℕ, List, Bor, map}
use Rattle.jv_loader.specs.Loading.{AreLoaded}
use Rattle.jv_verify.proofs.verified.verify_files_beside.Goals as goal

pub verify-requires : goal.verify-requires
verify-requires c = (c.args.host.now, map (λ (file : Bor (List ℕ)). file.now) c.args.files.now, c.in_ok-classes.ensures)

pub returns : goal.returns
returns c =
    let files = map (λ (file : Bor (List ℕ)). file.now) c.args.files.now in
    let loaded : AreLoaded c.args.host.now files c.in_ok-classes.classes = c.in_ok-classes.ensures in
    record { given = loaded.given; gives = loaded.gives; contents = loaded.contents; read = loaded.read; found = c.in_ok-verify.ensures c.args.host.now files loaded }
