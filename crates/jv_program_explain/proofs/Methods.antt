-- A method, listed behind its line.
use Rattle.std.proofs.Common.{◌≡◌, ℕ, false, List, [], ◌++◌, length, Option, Some, None, sym, ap, subst, ◌∙◌, arith}
use Rattle.std.specs.Prelude.{slice_get}
use Rattle.std.proofs.lemmas.Option.{slice_get_within}
use Rattle.jv_pool.specs.Constants.{utf8_at}
use Rattle.jv_class_structure.specs.Parts.{CodeSeen, MethodSeen, methods_of}
use Rattle.jv_class_structure.specs.Structure.{ClassStructure}
use Rattle.jv_class.specs.Class.{Class, Method, class_of}
use Rattle.jv_meaning_world.specs.World.{World, loaded}
use Rattle.jv_meaning_typing.specs.Uses.{Site}
use Rattle.jv_explain.proofs.Named.{IsShownAs, shown_at}
use Rattle.jv_explain.specs.Inside.Said.{named_text}
use Rattle.jv_verify.specs.Inside.Shown.{method_in}
use Rattle.jv_verify.proofs.Shown.{as_many, of_file}
use Rattle.jv_program_explain.proofs.Classes.{method_at}
use Rattle.jv_program_explain.specs.Listing.{IsCodeListed, IsListedTo}

-- the method at a site of a class that a file holds is the one that the file shows there
pub shown_code : (file : ClassStructure) (s : Site) (k : ℕ) (shown : MethodSeen) → class_of file ≡ Some s.by.class → slice_get s.by.class.methods k ≡ Some s.method
    → Some shown ≡ slice_get (methods_of file) k → IsShownAs file.constant_pool shown s.method
shown_code file s k shown of at is =
    let (x, there, as_shown) = shown_at file s.by.class of k s.method at in
    let both : Some shown ≡ Some x = is ∙ there in
    let same : x ≡ shown = cc in
    subst (λ (y : MethodSeen). IsShownAs file.constant_pool y s.method) same as_shown

-- a class has a method where its file shows one
pub there : (file : ClassStructure) (class : Class) (k : ℕ) (shown : MethodSeen) → class_of file ≡ Some class → Some shown ≡ slice_get (methods_of file) k
    → (m : Method) × (slice_get class.methods k ≡ Some m)
there file class k shown of is =
    let many = as_many (method_in class.constant_pool) (methods_of file) class.methods (of_file file (loaded false class) of) in
    let within = slice_get_within (methods_of file) k shown (sym is) in
    method_at class.methods k (omega (arith, many, within))

pub none_told : (world : World) (s : Site) (line : ℕ → Option ℕ) (number : ℕ) (text : List ℕ) → s.method.code ≡ None → text ≡ [] → IsCodeListed world s line number s.method.code text
none_told world s line number text none e = subst (λ (o : Option CodeSeen). IsCodeListed world s line number o text) (sym none) e

pub method_told : (world : World) (s : Site) (line : ℕ → Option ℕ) (file : ClassStructure) (k : ℕ) (shown : MethodSeen) (body : CodeSeen) (name descriptor listing text : List ℕ)
    → IsShownAs file.constant_pool shown s.method → shown.code ≡ Some body → utf8_at file.constant_pool shown.name_index ≡ Some name
    → utf8_at file.constant_pool shown.descriptor_index ≡ Some descriptor → IsListedTo world s line body.code (length body.code) listing
    → text ≡ named_text k name descriptor ++ listing → IsCodeListed world s line k s.method.code text
method_told world s line file k shown body name descriptor listing text mine has named described listed told =
    let names : Some name ≡ Some s.method.name = sym named ∙ mine.name in
    let name_is : name ≡ s.method.name = cc in
    let descriptors : Some descriptor ≡ Some s.method.descriptor = sym described ∙ mine.descriptor in
    let descriptor_is : descriptor ≡ s.method.descriptor = cc in
    subst (λ (o : Option CodeSeen). IsCodeListed world s line k o text) (sym (mine.code ∙ has)) (
      listing,
      listed,
      told
          ∙ (ap (λ (t : List ℕ). named_text k t descriptor ++ listing) name_is ∙ ap (λ (t : List ℕ). named_text k s.method.name t ++ listing) descriptor_is),
    )
