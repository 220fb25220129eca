-- Lists that are the same place by place; and what is found of any library's files, of one library's.
use Rattle.std.proofs.Common.{◌≡◌, ℕ, ◌+◌, Bool, true, false, not, List, [], ◌∷◌, ◌++◌, take, get_or, Result, Ok, Err, Some, sym, ap, ◌∙◌, refl}
use Rattle.std.specs.Prelude.{◌↔◌, IfOk, IsTrue, slice_get}
use Rattle.std.specs.Str.{bytes_eq}
use Rattle.std.proofs.lemmas.List.{take_more}
use Rattle.std.proofs.lemmas.Option.{get_or_from_slice_get, slice_get_within}
use Rattle.jv_meaning_world.proofs.Up.{same_name}
use Rattle.jv_meaning_world.specs.Library.{with_library}
use Rattle.jv_meaning_machine.specs.Alone.{Stands}
use Rattle.jv_verify.specs.Files.{Verified, AreFilesOf}

unturned : (b : Bool) → not b ≡ false → b ≡ true
unturned true e = refl
unturned false e = absurd cc

pub same_next : (xs ys : List (List ℕ)) (k : ℕ) (x y : List ℕ) → slice_get xs k ≡ Some x → slice_get ys k ≡ Some y → not (bytes_eq x y) ≡ false
    → take k xs ≡ take k ys → take (k + 1) xs ≡ take (k + 1) ys
same_next xs ys k x y at there alike same =
    take_more xs k x (slice_get_within xs k x at)
    ∙ ap (λ t. t ++ get_or xs k x ∷ []) same
    ∙ ap (λ z. take k ys ++ z ∷ []) (get_or_from_slice_get xs k x x at ∙ (same_name x y (unturned (bytes_eq x y) alike) ∙ sym (get_or_from_slice_get ys k y y there)))
    ∙ sym (take_more ys k y (slice_get_within ys k y there))

pub for_files :
    {E : Type 0} (library : List (List ℕ)) (verified : Verified) (result : Result Bool E)
    → IfOk result (λ stands. (library files : List (List ℕ)) (are : AreFilesOf library files verified) → IsTrue stands ↔ Stands verified.world (with_library are.given))
    → IfOk result (λ stands. (files : List (List ℕ)) (are : AreFilesOf library files verified) → IsTrue stands ↔ Stands verified.world (with_library are.given))
for_files library verified (Ok stands) h = λ files are. h library files are
for_files library verified (Err e) h = h
