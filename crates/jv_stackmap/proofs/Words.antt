-- Local entries by words (JVMS 4.10.1.2).
use Rattle.std.proofs.Common.{◌≡◌, ◌-◌, ◌≤◌, List, [], ◌∷◌, length, refl, arith}
use Rattle.std.specs.Prelude.{replicate}
use Rattle.std.specs.List.{flat_map}
use Rattle.std.proofs.lemmas.Bool.{leb-true}
use Rattle.std.proofs.lemmas.List.{length-append, length-replicate}
use Rattle.std.proofs.lemmas.List.Sums.{sum_by-cons}
use Rattle.jv_stackmap.specs.declared.verification.VerificationTypeOf.TheVariants as types
use Rattle.jv_stackmap.specs.Types.{FrameType, width, words}
use Rattle.jv_stackmap.specs.Frames.{type_by_words, FillsLocals}

one_words : (e : FrameType) → length (type_by_words e) ≡ width e
one_words types.Long = refl
one_words types.Top = refl
one_words types.Int = refl
one_words types.Null = refl
one_words types.UninitializedThis = refl
one_words (types.Class name) = refl
one_words (types.Array type) = refl
one_words (types.Uninitialized offset) = refl

by_words_length : (es : List FrameType) → length (flat_map type_by_words es) ≡ words es
by_words_length [] = refl
by_words_length (e ∷ es) = omega (arith, length-append (type_by_words e) (flat_map type_by_words es), one_words e, by_words_length es, sum_by-cons width e es)

pub FillsLocals-holds : FillsLocals
FillsLocals-holds max_locals es h =
    let le : words es ≤ max_locals = leb-true _ _ h in
    omega (arith, le, length-append (flat_map type_by_words es) (replicate (max_locals - words es) types.Top), by_words_length es, length-replicate {A = FrameType} (max_locals - words es) types.Top)
