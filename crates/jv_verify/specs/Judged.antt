-- What is found of a method of the current class (JVMS 4.10.1): that its code has a typing, or the first rule that it breaks.
use Rattle.std.specs.Prelude.{◌≡◌, Option, Some, None}
use Rattle.jv_pool.specs.Constants.{utf8_at}
use Rattle.jv_class_structure.specs.Parts.{CodeSeen, MethodSeen}
use Rattle.jv_meaning_world.specs.World.{World}
use Rattle.jv_meaning_typing.specs.Uses.{Site}
use Rattle.jv_meaning_typing.specs.Typing.{HasTyping}
use Rattle.jv_meaning_typing.specs.Judgement.{BreaksRule}
use Rattle.jv_verify_types.specs.Current.{CurrentClass}
use Rattle.jv_verify_pass.specs.declared.fault.CodeFault.{CodeFault}

-- The method of the class that was shown so, with this body: its name and its descriptor are the texts at its indices.
pub record IsMethodOf (class : CurrentClass) (shown : MethodSeen) (body : CodeSeen) (site : Site) : Type 0 where
  pub by : site.by ≡ class.by
  pub flags : site.method.access_flags ≡ shown.access_flags
  pub name : utf8_at class.by.class.constant_pool shown.name_index ≡ Some site.method.name
  pub descriptor : utf8_at class.by.class.constant_pool shown.descriptor_index ≡ Some site.method.descriptor
  pub code : site.method.code ≡ Some body

-- the first rule that it breaks, and where; none where its code has a typing
abbrev pub IsVerdictOnMethod : World → Site → Option CodeFault → Type 0
IsVerdictOnMethod world site None = HasTyping world site
IsVerdictOnMethod world site (Some fault) = BreaksRule world site fault.offset fault.rule
