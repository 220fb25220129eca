-- Of a class whose methods are typed there is the list of the references that don't resolve.
use Rattle.std.proofs.Common.{◌≡◌, ℕ, zero, suc, List, [], ◌∷◌, length, Option, Some, None, refl, sym, ap, subst, ◌∙◌, arith}
use Rattle.std.specs.Prelude.{IsSome, slice_get}
use Rattle.std.specs.List.{All}
use Rattle.jv_class_structure.specs.Parts.{CodeSeen}
use Rattle.jv_class.specs.Class.{Method}
use Rattle.jv_code.specs.Places.{IsCode}
use Rattle.jv_meaning_world.specs.World.{Loaded, World}
use Rattle.jv_meaning_world.specs.Verdicts.{declared_by}
use Rattle.jv_meaning_typing.specs.Uses.{Site}
use Rattle.jv_meaning_typing.specs.Typing.{HasTyping}
use Rattle.jv_meaning_typing.specs.Judgement.{AreTyped}
use Rattle.jv_links.specs.Inside.Walked.{AreBlocks}
use Rattle.jv_links.specs.Text.{AreLinksTold}
use Rattle.jv_links.specs.Unresolved.{AreInCode, AreOfMethod, AreUnresolved, Unresolved, unresolved_from}

-- of one method
in_code : (world : World) (l : Loaded) (m : Method) (code : Option CodeSeen) → m.code ≡ code → (IsSome m.code → HasTyping world (declared_by l m))
    → (those : List Unresolved) × AreInCode world (declared_by l m) code those
in_code world l m None e typed = ([], refl)
in_code world l m (Some body) e typed =
    let typing = typed (subst (λ (c : Option CodeSeen). IsSome c) (sym e) refl) in
    let here : Some typing.env.code ≡ Some body = sym typing.is.code ∙ (ap (λ (s : Site). s.method.code) typing.of.1 ∙ e) in
    let same : typing.env.code ≡ body = cc in (
      unresolved_from world (declared_by l m) 0 typing.env.instructions,
      (typing.env.instructions, subst (λ (b : CodeSeen). IsCode b.code typing.env.instructions) same typing.is.instructions, refl),
    )

pub of_method : (world : World) (l : Loaded) (m : Method) → (IsSome m.code → HasTyping world (declared_by l m)) → (those : List Unresolved) × AreOfMethod world l m those
of_method world l m typed = in_code world l m m.code refl typed

pub record AreOfMethods (world : World) (l : Loaded) (methods : List Method) (found : List (List Unresolved)) : Type 0 where
  pub count : length found ≡ length methods
  pub each : (number : ℕ) (m : Method) (those : List Unresolved) → slice_get methods number ≡ Some m → slice_get found number ≡ Some those → AreOfMethod world l m those

of_methods : (world : World) (l : Loaded) (methods : List Method) → All (λ m. IsSome m.code → HasTyping world (declared_by l m)) methods
    → (found : List (List Unresolved)) × AreOfMethods world l methods found
of_methods world l [] typed = ([], record { count = refl; each = λ k m those e f. absurd (nothing k m e) })
  where
    nothing : (k : ℕ) (m : Method) → slice_get {X = Method} [] k ≡ Some m → ⊥
    nothing zero m e = cc
    nothing (suc k) m e = cc
of_methods world l (m ∷ methods) typed =
    let first = of_method world l m (typed zero m (omega arith)) in
    let rest = of_methods world l methods (λ k d less. typed (suc k) d (omega (arith, less))) in
    (first.0 ∷ rest.0, record { count = ap suc rest.1.count; each = by_number first.0 first.1 rest.0 rest.1.each })
  where
    by_number : (those : List Unresolved) → AreOfMethod world l m those → (found : List (List Unresolved))
        → ((k : ℕ) (n : Method) (t : List Unresolved) → slice_get methods k ≡ Some n → slice_get found k ≡ Some t → AreOfMethod world l n t)
        → (k : ℕ) (n : Method) (t : List Unresolved) → slice_get (m ∷ methods) k ≡ Some n → slice_get (those ∷ found) k ≡ Some t → AreOfMethod world l n t
    by_number those first found each zero n t e f =
        let same : m ≡ n = cc in
        let alike : those ≡ t = cc in
        subst (λ (x : List Unresolved). AreOfMethod world l n x) alike (subst (λ (x : Method). AreOfMethod world l x those) same first)
    by_number those first found each (suc k) n t e f = each k n t e f

pub told : (world : World) (l : Loaded) (lines : ℕ → ℕ → Option ℕ) (text : List ℕ) → AreTyped world l l.class.methods → AreBlocks world l lines text → AreLinksTold world l text
told world l lines text typed blocks =
    let found = of_methods world l l.class.methods typed in
    let exactly : AreUnresolved world l found.0 = record { count = found.1.count; each = found.1.each } in
    record { found = found.0; exactly = exactly; lines = lines; told = blocks found.0 exactly }
