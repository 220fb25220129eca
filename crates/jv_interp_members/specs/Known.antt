-- What is known of a guest's classes where a method runs (JVMS 2.6, 5.4): the classes themselves, what they link to, and the method's
-- place among them.
use Rattle.std.specs.Prelude.{◌≡◌, ℕ, ◌≤◌, length, Some}
use Rattle.jv_meaning_world.specs.World.{World}
use Rattle.jv_link.specs.declared.site.Site.{Site}
use Rattle.jv_link.specs.Seen.{seen_site}
use Rattle.jv_link_cache.specs.declared.linked.Linked.{Linked}
use Rattle.jv_link_cache.specs.Linked.{IsLinked}
use Rattle.jv_meaning_machine.specs.Effects.{Context}
use Rattle.jv_interp_members.specs.declared.current.Current.{Current}
use Rattle.jv_interp_heap.specs.SystemNumbers.{IsGuestsWorld}

pub record Known : Type 0 where
  pub world : World
  pub linked : Linked
  pub site : Site

abbrev pub known : World → Linked → Site → Known
known world linked site = record { world = world; linked = linked; site = site }

-- what is known at the method that is current
abbrev pub known_at : Current → Linked → Known
known_at current linked = known current.classes.now.world linked current.site

-- It is known of the classes that the machine knows, at the method that it runs. There are at most 2,083 classes (own): the system's
-- 35, those of 1,024 files of a library, and those of 1,024 of a guest.
pub record IsKnown (k : Known) (c : Context) : Type 0 where
  pub world : c.program.world ≡ k.world
  pub guests : IsGuestsWorld k.world
  pub few : length k.world ≤ 2083
  pub linked : IsLinked k.world k.linked
  pub site : seen_site k.world k.site ≡ Some c.frame.method.site
