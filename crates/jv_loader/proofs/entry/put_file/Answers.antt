use Rattle.std.proofs.Common.{refl, rules}
use Rattle.jv_meaning_world.specs.FileContent.{IsContent}
use Rattle.jv_meaning_world.specs.declared.content.Content.TheVariants.{MoreThanProfile, Holds}
use Rattle.jv_loader.proofs.Contents.{has_more, has_class}
use Rattle.jv_loader.proofs.entry.put_file.Goals as goal

pub returns-in-MoreThanProfile : goal.returns-in-MoreThanProfile
returns-in-MoreThanProfile c = (MoreThanProfile, has_more (IsContent c.args.bytes.now) c.in_ok-read_content.field-0 c.in_ok-read_content.ensures c.in-MoreThanProfile.is, refl, refl)

pub returns-in_ok-put_class-in-Holds : goal.returns-in_ok-put_class-in-Holds
returns-in_ok-put_class-in-Holds c =
    let class = c.in_ok-class-in-Holds.class.class in (
      Holds class,
      has_class (IsContent c.args.bytes.now) c.in_ok-read_content.field-0 c.in-Holds.file class c.in_ok-read_content.ensures c.in-Holds.is c.in_ok-class-in-Holds.ensures.class,
      c.in_ok-put_class-in-Holds.ensures.world,
      c.in_ok-put_class-in-Holds.ensures.entry,
    )

pub put_class-requires : goal.put_class-requires
put_class-requires c = search rules

pub returns-in-OtherVersion : goal.returns-in-OtherVersion
returns-in-OtherVersion c = search rules
