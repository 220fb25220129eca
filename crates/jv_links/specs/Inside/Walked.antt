-- The references of a site's code, told so far.
use Rattle.std.specs.Prelude.{◌≡◌, ℕ, List, [], ◌++◌, length, Option, Some, None}
use Rattle.std.specs.List.{flat_map}
use Rattle.jv_pool.specs.Constants.{Entry}
use Rattle.jv_class_structure.specs.Parts.{CodeSeen}
use Rattle.jv_code.specs.Insns.{Instruction, insn_bytes}
use Rattle.jv_code.specs.Places.{IsCode}
use Rattle.jv_meaning_world.specs.World.{Loaded, World}
use Rattle.jv_meaning_typing.specs.Uses.{Site}
use Rattle.jv_link.specs.declared.site.Site.{Site as SiteByNumber}
use Rattle.jv_link.specs.Answers.{HoldsAtSite}
use Rattle.jv_links.specs.Unresolved.{AreInCode, AreUnresolved, Unresolved, unresolved_from}
use Rattle.jv_links.specs.Text.{block_text, blocks_text, references_text}

-- those of the instructions before an offset are told
pub record AreToldBelow (world : World) (pool : List Entry) (line : ℕ → Option ℕ) (site : Site) (insns : List Instruction) (offset : ℕ)
    (text : List ℕ) : Type 0 where
  pub before : List Instruction
  pub after : List Instruction
  pub is : insns ≡ before ++ after
  pub place : offset ≡ length (flat_map insn_bytes before)
  pub told : text ≡ references_text world pool line (unresolved_from world site 0 before)

-- those of the whole code of a site, where it is a list of instructions
abbrev pub AreToldOf : World → SiteByNumber → List Entry → (line : ℕ → Option ℕ) → (code : List ℕ) → List ℕ → Type 0
AreToldOf world site pool line code text =
    HoldsAtSite world site (λ s. (insns : List Instruction) → IsCode code insns
    → text ≡ references_text world pool line (unresolved_from world s 0 insns))

-- those of a method, where its code, if it has any, is a list of instructions
abbrev pub AreToldIn : World → SiteByNumber → List Entry → (line : ℕ → Option ℕ) → Option CodeSeen → List ℕ → Type 0
AreToldIn world site pool line None text = text ≡ []
AreToldIn world site pool line (Some body) text = AreToldOf world site pool line body.code text

-- what is said of the method at a site, which has a number
abbrev pub IsBlock : World → Site → (line : ℕ → Option ℕ) → ℕ → List ℕ → Type 0
IsBlock world s line number text =
    (those : List Unresolved) → AreInCode world s s.method.code those
    → text ≡ block_text world s.by.class.constant_pool line number s.method those

-- what is said of a class
abbrev pub AreBlocks : World → Loaded → (lines : ℕ → ℕ → Option ℕ) → List ℕ → Type 0
AreBlocks world l lines text =
    (found : List (List Unresolved)) → AreUnresolved world l found
    → text ≡ blocks_text world l.class.constant_pool lines 0 l.class.methods found
