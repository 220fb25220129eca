-- One text more whose class is known.
use Rattle.std.proofs.Common.{◌≡◌, ℕ, ◌<◌, Bool, true, false, List, length, get_or, set, nat_eq, Option, Some, None, refl, sym, subst, get_or-set_same, get_or-set_other}
use Rattle.std.proofs.lemmas.Bool.{eqb-true, eqb-false}
use Rattle.jv_pool.specs.Constants.{Entry}
use Rattle.jv_meaning_world.specs.World.{World}
use Rattle.jv_classes.specs.Inside.Known.{IsKnown, AreKnown, text_number}

pub one_more_known : (world : World) (pool : List Entry) (known : List (Option (Option ℕ))) (index : ℕ) (number : Option ℕ) → index < length known →
    AreKnown world pool known → number ≡ text_number world pool index
    → AreKnown world pool (set known index (Some number))
one_more_known world pool known index number within are is i = by_test (nat_eq i index) refl
  where
    by_test : (t : Bool) → nat_eq i index ≡ t → IsKnown world pool i (get_or (set known index (Some number)) i None)
    by_test true t =
        let here : i ≡ index = eqb-true i index t in
        subst (λ n. IsKnown world pool n (get_or (set known index (Some number)) n None)) (sym here)
        (subst (IsKnown world pool index) (sym (get_or-set_same known index (Some number) None within)) is)
    by_test false t = subst (IsKnown world pool i) (sym (get_or-set_other known index i (Some number) None (eqb-false i index t))) (are i)
