-- The entries of an exception table, as they are read and as their bytes.
use Rattle.std.proofs.Common.{◌≡◌, ℕ, zero, suc, ◌+◌, ◌*◌, ◌<◌, ◌≤◌, Bool, true, false, cond, ltb, List, [], ◌∷◌, ◌++◌, length, take, drop, Option, Some, None, refl, sym, ap, ◌∙◌, arith}
use Rattle.std.specs.Prelude.{IsTrue, ◌&&◌}
use Rattle.std.proofs.lemmas.Bool.{and_parts, and_from, lt-ltb, le-ltb, ltb-false, ltb-true}
use Rattle.jv_format.specs.Format.{◌>>=◌, half, front}
use Rattle.jv_format.specs.Readers.{both, list_read, found_as}
use Rattle.jv_format.proofs.Laws.{IsFormat, half_is, both_is}
use Rattle.jv_format.specs.declared.handlers.Handler.{Handler}
use Rattle.jv_format.specs.Handlers.{handler_bytes, handler_fits, handlers_in}
use Rattle.jv_class_structure.specs.Packed.{handlers_kept}
use Rattle.jv_class_structure.specs.Inside.Reading.{table, exception_of, exception}
use Rattle.jv_class_structure.proofs.Forms.{Keeps, shaped_is, by_found}

fits_enter : (a b c d : Bool) → IsTrue (((a && b) && c) && d) → IsTrue ((a && b) && (c && d))
fits_enter a b c d h =
    let x = and_parts ((a && b) && c) d h in
    let y = and_parts (a && b) c x.0 in
    and_from _ _ y.0 (and_from _ _ y.1 x.1)

fits_leave : (a b c d : Bool) → IsTrue ((a && b) && (c && d)) → IsTrue (((a && b) && c) && d)
fits_leave a b c d h =
    let x = and_parts (a && b) (c && d) h in
    let y = and_parts c d x.1 in
    and_from _ _ (and_from _ _ x.0 y.0) y.1

pub exception_is : IsFormat exception
exception_is =
    shaped_is handler_bytes handler_fits exception_of (λ e. ((e.start_pc, e.end_pc), (e.handler_pc, e.catch_type))) (both (both half half) (both half half))
    (λ a. refl) (λ c. refl) (λ c h. refl)
    (λ c h. fits_enter (half.fits c.start_pc) (half.fits c.end_pc) (half.fits c.handler_pc) (half.fits c.catch_type) h)
    (λ a h. fits_leave (half.fits a.0.0) (half.fits a.0.1) (half.fits a.1.0) (half.fits a.1.1) h)
    (both_is (both half half) (both half half) (both_is half half half_is half_is) (both_is half half half_is half_is))

-- ---- many entries

abbrev pub entry : ℕ → ℕ → ℕ → ℕ → ℕ → ℕ → ℕ → ℕ → Handler
entry a b c d e f g h = exception_of ((a * 256 + b, c * 256 + d), (e * 256 + f, g * 256 + h))

abbrev pub eight : ℕ → ℕ → ℕ → ℕ → ℕ → ℕ → ℕ → ℕ → List ℕ → List ℕ
eight a b c d e f g h rest = a ∷ b ∷ c ∷ d ∷ e ∷ f ∷ g ∷ h ∷ rest

abbrev behind_eight : List ℕ → List ℕ × List ℕ → Option (List ℕ × List ℕ)
behind_eight bytes x = Some (bytes ++ x.0, x.1)

eight_more : (x y : ℕ) (b : Bool) → ltb x y ≡ b → ltb (suc (suc (suc (suc (suc (suc (suc (suc x)))))))) (suc (suc (suc (suc (suc (suc (suc (suc y)))))))) ≡ ltb x y
eight_more x y true e = let lt : x < y = ltb-true x y e in lt-ltb _ _ (omega arith) ∙ sym e
eight_more x y false e = let le : y ≤ x = ltb-false x y e in le-ltb _ _ (omega arith) ∙ sym e

front_by : (long : Bool) (n a b c d e f g h : ℕ) (rest : List ℕ)
    → cond long None (Some (eight a b c d e f g h (take (n * 8) rest), drop (n * 8) rest)) ≡ (cond long None (Some (take (n * 8) rest, drop (n * 8) rest)) >>= behind_eight (eight a b c d e f g h []))
front_by true n a b c d e f g h rest = refl
front_by false n a b c d e f g h rest = refl

front_eight : (n a b c d e f g h : ℕ) (rest : List ℕ) → front (suc n * 8, eight a b c d e f g h rest) ≡ (front (n * 8, rest) >>= behind_eight (eight a b c d e f g h []))
front_eight n a b c d e f g h rest =
    let k : suc n * 8 ≡ suc (suc (suc (suc (suc (suc (suc (suc (n * 8)))))))) = omega arith in
    rw (k, eight_more (length rest) (n * 8) (ltb (length rest) (n * 8)) refl) (front_by (ltb (length rest) (n * 8)) n a b c d e f g h rest)

too_short : (n : ℕ) (bytes : List ℕ) → length bytes < 8 → front (suc n * 8, bytes) ≡ None
too_short n bytes lt = let yes : ltb (length bytes) (suc n * 8) ≡ true = lt-ltb _ _ (omega arith) in rw yes refl

abbrev with_entry : Handler → List Handler × List ℕ → Option (List Handler × List ℕ)
with_entry e xs = Some (e ∷ xs.0, xs.1)

-- one handler more, whether eight bytes stand before others or the handler before others
join_bytes : (a b c d e f g h : ℕ) (o : Option (List ℕ × List ℕ))
    → ((o >>= behind_eight (eight a b c d e f g h [])) >>= found_as handlers_in) ≡ ((o >>= found_as handlers_in) >>= with_entry (entry a b c d e f g h))
join_bytes a b c d e f g h None = refl
join_bytes a b c d e f g h (Some x) = refl

join_entries : (e : Handler) (o : Option (List Handler × List ℕ)) → ((o >>= found_as (λ xs. xs)) >>= with_entry e) ≡ ((o >>= with_entry e) >>= found_as (λ xs. xs))
join_entries e None = refl
join_entries e (Some xs) = refl

none_read : (o : Option (List ℕ × List ℕ)) → o ≡ None → (o >>= found_as handlers_in) ≡ None
none_read None e = refl
none_read (Some x) e = absurd cc

pub entries_keep : (n : ℕ) (bytes : List ℕ) → (front (n * 8, bytes) >>= found_as handlers_in) ≡ (list_read exception n bytes >>= found_as (λ xs. xs))
entries_keep zero bytes = let no : ltb (length bytes) 0 ≡ false = le-ltb _ _ (omega arith) in rw no refl
entries_keep (suc n) (a ∷ b ∷ c ∷ d ∷ e ∷ f ∷ g ∷ h ∷ rest) =
    ap (λ (o : Option (List ℕ × List ℕ)). o >>= found_as handlers_in) (front_eight n a b c d e f g h rest)
    ∙ join_bytes a b c d e f g h (front (n * 8, rest))
    ∙ ap (λ (o : Option (List Handler × List ℕ)). o >>= with_entry (entry a b c d e f g h)) (entries_keep n rest)
    ∙ join_entries (entry a b c d e f g h) (list_read exception n rest)
entries_keep (suc n) ([]) = none_read _ (too_short n ([]) (omega arith))
entries_keep (suc n) (a ∷ []) = none_read _ (too_short n (a ∷ []) (omega arith))
entries_keep (suc n) (a ∷ b ∷ []) = none_read _ (too_short n (a ∷ b ∷ []) (omega arith))
entries_keep (suc n) (a ∷ b ∷ c ∷ []) = none_read _ (too_short n (a ∷ b ∷ c ∷ []) (omega arith))
entries_keep (suc n) (a ∷ b ∷ c ∷ d ∷ []) = none_read _ (too_short n (a ∷ b ∷ c ∷ d ∷ []) (omega arith))
entries_keep (suc n) (a ∷ b ∷ c ∷ d ∷ e ∷ []) = none_read _ (too_short n (a ∷ b ∷ c ∷ d ∷ e ∷ []) (omega arith))
entries_keep (suc n) (a ∷ b ∷ c ∷ d ∷ e ∷ f ∷ []) = none_read _ (too_short n (a ∷ b ∷ c ∷ d ∷ e ∷ f ∷ []) (omega arith))
entries_keep (suc n) (a ∷ b ∷ c ∷ d ∷ e ∷ f ∷ g ∷ []) = none_read _ (too_short n (a ∷ b ∷ c ∷ d ∷ e ∷ f ∷ g ∷ []) (omega arith))

pub handlers_keep : Keeps handlers_kept (λ xs. xs) (table exception)
handlers_keep = record {
  reads = λ bytes small. by_found _ (half.read bytes) (λ none. rw none refl) (λ n rest some. rw some (entries_keep n rest));
}
