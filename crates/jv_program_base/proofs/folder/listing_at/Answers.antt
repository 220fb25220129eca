use Rattle.std.proofs.lemmas.Grind.{common_steps}
use Rattle.std.proofs.Common.{◌≡◌, ◌<◌, ◌∙◌, List, ℕ, arith, inr, length, subst}
use Rattle.jv_program_base.specs.Disk.{IsListedAt}
use Rattle.jv_program_base.specs.Folder.{folder_path}
use Rattle.jv_program_base.proofs.NotRead.{long_listing}
use Rattle.jv_program_base.proofs.folder.listing_at.Goals as goal

pub returns-then-len-gt-LISTING_LIMIT-clause-lacks : goal.returns-then-len-gt-LISTING_LIMIT-clause-lacks
returns-then-len-gt-LISTING_LIMIT-clause-lacks g c =
    let disk = g.F.Folders.disk c.args.folders.now in
    let path = folder_path c.args.folder.now in
    let listing = c.in_ok-listing.listing.items in
    let at : c.as_slice.result.now ≡ path = c.as_slice.ensures.value ∙ c.in_ok-path.ensures in
    let more : 4294967296 < length listing = grind (arith, common_steps) in
    inr (long_listing 4294967296 disk path listing
    (subst (λ (p : List ℕ). IsListedAt disk p 4294967296 listing) at (c.in_ok-listing.ensures {u = tt}).listed) more)
