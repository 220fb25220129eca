-- Texts that are written one behind the other.
use Rattle.std.proofs.Common.{◌≡◌, ℕ, zero, suc, ◌+◌, ◌<◌, List, [], ◌∷◌, ◌++◌, length, get_or, take, Option, Result, Ok, Err, refl, sym, ap, ◌∙◌, append-nil, append_assoc, arith}
use Rattle.std.specs.Prelude.{OnErr, OnOk}
use Rattle.std.specs.Io.KnownBytes.{Appends}
use Rattle.std.proofs.KnownBytes.{Appends-nil, Appends-trans}
use Rattle.jv_program_base.specs.Escape.{escaped_byte, escaped_text}
use Rattle.jv_program.specs.Written.{IsWritten, WritesCut, WritesFront}

-- what was written whole or cut
pub written_of : {T E : Type 0} (old new : Option (List ℕ)) (text : List ℕ) (result : Result T E) → OnOk result (Appends old new text)
    → OnErr result (WritesCut old new text) → IsWritten result old new text
written_of old new text (Ok t) whole cut = (whole, (text, [], sym (append-nil text), whole))
written_of old new text (Err e) whole cut = (tt, (cut.0, cut.1, cut.3, cut.4))

-- nothing
pub written_none : (old : Option (List ℕ)) → Appends old old [] × WritesFront old old []
written_none old = (Appends-nil old, ([], [], refl, Appends-nil old))

-- behind what was written whole
pub written_more : {T E : Type 0} (start old new : Option (List ℕ)) (done text : List ℕ) (result : Result T E) → Appends start old done
    → OnOk result (Appends old new text) → OnErr result (WritesCut old new text) → IsWritten result start new (done ++ text)
written_more start old new done text (Ok t) before whole cut =
    let all : Appends start new (done ++ text) = Appends-trans start old new done text before whole in
    (all, (done ++ text, [], sym (append-nil (done ++ text)), all))
written_more start old new done text (Err e) before whole cut = (
  tt,
  (
    done ++ cut.0,
    cut.1,
    ap (λ (l : List ℕ). done ++ l) cut.3 ∙ sym (append_assoc done cut.0 cut.1),
    Appends-trans start old new done cut.0 before cut.4,
  ),
)

-- behind a front nothing is
pub front_more : (start old : Option (List ℕ)) (done text : List ℕ) → WritesFront start old done → WritesFront start old (done ++ text)
front_more start old done text front =
    (front.0, front.1 ++ text, ap (λ (l : List ℕ). l ++ text) front.2 ∙ append_assoc front.0 front.1 text, front.3)

-- ---- bytes as they are printed

taken : (bytes : List ℕ) (k : ℕ) → k < length bytes → escaped_text (take (suc k) bytes) ≡ escaped_text (take k bytes) ++ escaped_byte (get_or bytes k 0)
taken [] k lt = absurd (omega (arith, lt))
taken (byte ∷ bytes) zero lt = append-nil (escaped_byte byte)
taken (byte ∷ bytes) (suc k) lt =
    ap (λ (l : List ℕ). escaped_byte byte ++ l) (taken bytes k (omega (arith, lt)))
    ∙ sym (append_assoc (escaped_byte byte) (escaped_text (take k bytes)) (escaped_byte (get_or bytes k 0)))

-- one byte more, behind what was written before
pub escaped_more : (done bytes piece : List ℕ) (k : ℕ) → k < length bytes → piece ≡ escaped_byte (get_or bytes k 0)
    → (done ++ escaped_text (take k bytes)) ++ piece ≡ done ++ escaped_text (take (k + 1) bytes)
escaped_more done bytes piece k lt same =
    let next : k + 1 ≡ suc k = omega arith in
    rw next (rw same (append_assoc done (escaped_text (take k bytes)) (escaped_byte (get_or bytes k 0)) ∙ ap (λ (l : List ℕ). done ++ l) (sym (taken bytes k lt))))
