-- What is said of methods, one after another.
use Rattle.std.proofs.Common.{◌≡◌, ℕ, zero, suc, ◌+◌, ◌<◌, ◌≤◌, List, [], ◌∷◌, ◌++◌, length, take, Option, Some, None, refl, sym, ap, subst, ◌∙◌, append_assoc, append-nil, arith}
use Rattle.std.specs.Prelude.{slice_get}
use Rattle.jv_pool.specs.Constants.{Entry, utf8_at}
use Rattle.jv_class_structure.specs.Parts.{CodeSeen, MethodSeen, methods_of}
use Rattle.jv_class_structure.specs.Structure.{ClassStructure}
use Rattle.jv_class.specs.Class.{Method, class_of}
use Rattle.jv_meaning_world.specs.World.{Loaded, World}
use Rattle.jv_meaning_world.specs.Verdicts.{declared_by}
use Rattle.jv_meaning_typing.specs.Uses.{Site}
use Rattle.jv_explain.proofs.Named.{IsShownAs, same_pool, shown_at}
use Rattle.jv_link.specs.declared.site.Site.{Site as SiteByNumber}
use Rattle.jv_link.specs.Seen.{seen_site}
use Rattle.jv_links.specs.Inside.Shown.{headed, named_text}
use Rattle.jv_links.specs.Inside.Walked.{AreBlocks, AreToldIn, IsBlock}
use Rattle.jv_links.specs.Text.{block_text, blocks_text, references_text}
use Rattle.jv_links.specs.Unresolved.{AreInCode, AreUnresolved, Unresolved}

there : {X : Type 0} (xs : List X) (k : ℕ) → k < length xs → (x : X) × (slice_get xs k ≡ Some x)
there [] k h = absurd (omega (arith, h))
there (x ∷ xs) zero h = (x, refl)
there (x ∷ xs) (suc k) h = there xs k (omega (arith, h))

-- ---- one block

-- references under their method's line are its block
headed_block : (world : World) (pool : List Entry) (line : ℕ → Option ℕ) (number : ℕ) (m : Method) (those : List Unresolved)
    → headed (named_text number m.name m.descriptor) (references_text world pool line those) ≡ block_text world pool line number m those
headed_block world pool line number m [] = refl
headed_block world pool line number m (r ∷ more) = refl

-- of a method that was shown so
told_as : (world : World) (site : SiteByNumber) (s : Site) (pool : List Entry) (line : ℕ → Option ℕ) (code : Option CodeSeen) (text : List ℕ)
    → seen_site world site ≡ Some s → AreToldIn world site pool line code text
    → (those : List Unresolved) → AreInCode world s code those → text ≡ references_text world pool line those
told_as world site s pool line None text at told those none = told ∙ sym (ap (references_text world pool line) none)
told_as world site s pool line (Some body) text at told those (insns, is, exactly) = told s at insns is ∙ sym (ap (references_text world pool line) exactly)

pub block_is : (world : World) (site : SiteByNumber) (s : Site) (line : ℕ → Option ℕ) (file : ClassStructure) (shown : MethodSeen) (name descriptor references text : List ℕ)
    → seen_site world site ≡ Some s
    → class_of file ≡ Some s.by.class → slice_get s.by.class.methods site.method ≡ Some s.method → Some shown ≡ slice_get (methods_of file) site.method
    → utf8_at file.constant_pool shown.name_index ≡ Some name → utf8_at file.constant_pool shown.descriptor_index ≡ Some descriptor
    → AreToldIn world site file.constant_pool line shown.code references → text ≡ headed (named_text site.method name descriptor) references → IsBlock world s line site.method text
block_is world site s line file shown name descriptor references text seen of at is named described told says = λ those exactly.
    let (x, there, as_shown) = shown_at file s.by.class of site.method s.method at in
    let both : Some shown ≡ Some x = is ∙ there in
    let same : x ≡ shown = cc in
    let mine : IsShownAs file.constant_pool shown s.method = subst (λ (y : MethodSeen). IsShownAs file.constant_pool y s.method) same as_shown in
    let names : Some name ≡ Some s.method.name = sym named ∙ mine.name in
    let name_is : name ≡ s.method.name = cc in
    let descriptors : Some descriptor ≡ Some s.method.descriptor = sym described ∙ mine.descriptor in
    let descriptor_is : descriptor ≡ s.method.descriptor = cc in
    let pools : file.constant_pool ≡ s.by.class.constant_pool = sym (same_pool file s.by.class of) in
    let all : references ≡ references_text world file.constant_pool line those =
    told_as world site s file.constant_pool line shown.code references seen told those (subst (λ (c : Option CodeSeen). AreInCode world s c those) mine.code exactly) in
    says
    ∙ (ap (headed (named_text site.method name descriptor)) all
    ∙ (ap (λ (t : List ℕ). headed (named_text site.method t descriptor) (references_text world file.constant_pool line those)) name_is
    ∙ (ap (λ (t : List ℕ). headed (named_text site.method s.method.name t) (references_text world file.constant_pool line those)) descriptor_is
    ∙ (headed_block world file.constant_pool line site.method s.method those ∙ ap (λ (p : List Entry). block_text world p line site.method s.method those) pools))))

-- no file lacks a method of its class
pub not_lacking : (file : ClassStructure) (s : Site) (k : ℕ) → class_of file ≡ Some s.by.class → slice_get s.by.class.methods k ≡ Some s.method → None ≡ slice_get (methods_of file) k → ⊥
not_lacking file s k of at none =
    let (x, there, as_shown) = shown_at file s.by.class of k s.method at in
    nothing x (sym there ∙ sym none)
  where
    nothing : (x : MethodSeen) → Some x ≡ None → ⊥
    nothing x e = cc

-- ---- one block after another

module _ (world : World) (pool : List Entry) (lines : ℕ → ℕ → Option ℕ) where
  blocks_suc : (k start : ℕ) (methods : List Method) (found : List (List Unresolved)) (m : Method) (those : List Unresolved) → slice_get methods k ≡ Some m → slice_get found k ≡ Some those
      → blocks_text world pool lines start (take (suc k) methods) (take (suc k) found) ≡ blocks_text world pool lines start (take k methods) (take k found) ++ block_text world pool
      (lines (start + k)) (start + k) m those
  blocks_suc zero start [] found m those e f = absurd cc
  blocks_suc (suc k) start [] found m those e f = absurd cc
  blocks_suc zero start (n ∷ methods) [] m those e f = absurd cc
  blocks_suc (suc k) start (n ∷ methods) [] m those e f = absurd cc
  blocks_suc zero start (n ∷ methods) (t ∷ found) m those e f =
      let same : n ≡ m = cc in
      let alike : t ≡ those = cc in
      let here : start ≡ start + 0 = omega arith in
      append-nil (block_text world pool (lines start) start n t)
      ∙ (ap (λ (x : Method). block_text world pool (lines start) start x t) same
      ∙ (ap (λ (x : List Unresolved). block_text world pool (lines start) start m x) alike ∙ ap (λ (i : ℕ). block_text world pool (lines i) i m those) here))
  blocks_suc (suc k) start (n ∷ methods) (t ∷ found) m those e f =
      let there : suc start + k ≡ start + suc k = omega arith in
      ap (λ (x : List ℕ). block_text world pool (lines start) start n t ++ x) (blocks_suc k (suc start) methods found m those e f)
      ∙ (sym (append_assoc (block_text world pool (lines start) start n t) (blocks_text world pool lines (suc start) (take k methods) (take k found))
      (block_text world pool (lines (suc start + k)) (suc start + k) m those))
      ∙ ap (λ (i : ℕ). (block_text world pool (lines start) start n t ++ blocks_text world pool lines (suc start) (take k methods) (take k found)) ++ block_text world pool (lines i) i m those) there)

take_all : {X : Type 0} (xs : List X) (k : ℕ) → length xs ≤ k → take k xs ≡ xs
take_all [] zero e = refl
take_all [] (suc k) e = refl
take_all (x ∷ xs) zero e = absurd (omega (arith, e))
take_all (x ∷ xs) (suc k) e = ap (λ ys. x ∷ ys) (take_all xs k (omega (arith, e)))

-- the blocks of the first methods of a class
abbrev pub AreBlocksBelow : World → Loaded → (lines : ℕ → ℕ → Option ℕ) → ℕ → List ℕ → Type 0
AreBlocksBelow world l lines k text =
    (found : List (List Unresolved)) → AreUnresolved world l found
    → text ≡ blocks_text world l.class.constant_pool lines 0 (take k l.class.methods) (take k found)

pub no_block : (world : World) (l : Loaded) (lines : ℕ → ℕ → Option ℕ) (text : List ℕ) → text ≡ [] → AreBlocksBelow world l lines 0 text
no_block world l lines text e = λ found exactly. e

pub block_more : (world : World) (l : Loaded) (lines : ℕ → ℕ → Option ℕ) (k : ℕ) (m : Method) (text block more : List ℕ) → AreBlocksBelow world l lines k text → slice_get l.class.methods k ≡ Some m
    → IsBlock world (declared_by l m) (lines k) k block → more ≡ text ++ block → AreBlocksBelow world l lines (k + 1) more
block_more world l lines k m text block more below at is appended = λ found exactly.
    let within = is_within l.class.methods k m at in
    let many = exactly.count in
    let those = there found k (omega (arith, within, many)) in
    let says : block ≡ block_text world l.class.constant_pool (lines k) k m those.0 = is those.0 (exactly.each k m those.0 at those.1) in
    let next : k + 1 ≡ suc k = omega arith in
    let plain : 0 + k ≡ k = omega arith in
    appended
    ∙ (ap (λ (t : List ℕ). t ++ block) (below found exactly)
    ∙ (ap (λ (t : List ℕ). blocks_text world l.class.constant_pool lines 0 (take k l.class.methods) (take k found) ++ t)
    (says ∙ ap (λ (i : ℕ). block_text world l.class.constant_pool (lines i) i m those.0) (sym plain))
    ∙ (sym (blocks_suc world l.class.constant_pool lines k 0 l.class.methods found m those.0 at those.1)
    ∙ ap (λ (i : ℕ). blocks_text world l.class.constant_pool lines 0 (take i l.class.methods) (take i found)) (sym next))))
  where
    is_within : {X : Type 0} (xs : List X) (k : ℕ) (x : X) → slice_get xs k ≡ Some x → k < length xs
    is_within [] zero x e = absurd cc
    is_within [] (suc k) x e = absurd cc
    is_within (y ∷ xs) zero x e = omega arith
    is_within (y ∷ xs) (suc k) x e =
        let less = is_within xs k x e in
        omega (arith, less)

pub all_blocks : (world : World) (l : Loaded) (lines : ℕ → ℕ → Option ℕ) (k : ℕ) (text : List ℕ) → AreBlocksBelow world l lines k text → length l.class.methods ≤ k → AreBlocks world l lines text
all_blocks world l lines k text below end = λ found exactly.
    let many = exactly.count in
    below found exactly
    ∙ (ap (λ (ms : List Method). blocks_text world l.class.constant_pool lines 0 ms (take k found)) (take_all l.class.methods k end)
    ∙ ap (λ (fs : List (List Unresolved)). blocks_text world l.class.constant_pool lines 0 l.class.methods fs) (take_all found k (omega (arith, many, end))))
