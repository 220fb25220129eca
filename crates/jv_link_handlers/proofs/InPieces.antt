-- Places, piece by piece.
use Rattle.std.proofs.Common.{◌≡◌, ℕ, suc, ◌+◌, ◌<◌, ◌≤◌, List, [], ◌∷◌, ◌++◌, length, length-drop, get_or, take, drop, refl, ap, sym, ◌∙◌, subst, arith}
use Rattle.std.proofs.lemmas.List.{take_more, take-append-drop, get_or-drop}
use Rattle.std.proofs.lemmas.Bool.Decides.{nat_tests}
use Rattle.std.specs.Prelude.{nat_le, if◌then◌else◌}
use Rattle.jv_link_handlers.specs.declared.pieces.Piece.{Piece}
use Rattle.jv_link_handlers.specs.Inside.Pieces.{place_after, place_in, blank, start_of, Rise, Stands}

pub place_after-append : (now : ℕ) (ps qs : List Piece) (x : ℕ) → place_after now (ps ++ qs) x ≡ place_after (place_after now ps x) qs x
place_after-append now [] qs x = refl
place_after-append now (p ∷ ps) qs x = place_after-append (if nat_le p.start x then p.place else now) ps qs x

pub place_in-push : (ps : List Piece) (q : Piece) (x : ℕ) → place_in (ps ++ q ∷ []) x ≡ (if nat_le q.start x then q.place else place_in ps x)
place_in-push ps q x = place_after-append 65535 ps (q ∷ []) x

pub place_in-more : (ps : List Piece) (k x : ℕ) → k < length ps
    → place_in (take (k + 1) ps) x ≡ (if nat_le (start_of ps k) x then (get_or ps k blank).place else place_in (take k ps) x)
place_in-more ps k x lt = ap (λ ys. place_in ys x) (take_more ps k blank lt) ∙ place_in-push (take k ps) (get_or ps k blank) x

if_le : (a x m n : ℕ) → a ≤ x → (if nat_le a x then m else n) ≡ m
if_le a x m n le = grind (arith, nat_tests)

if_gt : (a x m n : ℕ) → x < a → (if nat_le a x then m else n) ≡ n
if_gt a x m n lt = grind (arith, nat_tests)

pub stands_more : (ps : List Piece) (k place x : ℕ) → Rise ps → Stands ps k place x → k < length ps → start_of ps k ≤ x
    → Stands ps (k + 1) (get_or ps k blank).place x
stands_more ps k place x r s lt le = record {
  within = omega arith;
  next = λ more. let up = r.rise k (k + 1) (omega arith) more in let at = s.next lt in omega arith;
  place_is = λ y behind. place_in-more ps k y lt ∙ if_le (start_of ps k) y _ _ (omega arith);
}

pub stays_before : (ps : List Piece) (k place x y : ℕ) → Stands ps k place x → k < length ps → y < x
    → place_in (take (k + 1) ps) y ≡ place_in (take k ps) y
stays_before ps k place x y s lt before =
    let at = s.next lt in place_in-more ps k y lt ∙ if_gt (start_of ps k) y _ _ (omega arith)

pub stands_later : (ps : List Piece) (k place x y : ℕ) → Stands ps k place x → x ≤ y → (k < length ps → y ≤ start_of ps k) → Stands ps k place y
stands_later ps k place x y s le next = record {
  within = s.within;
  next = next;
  place_is = λ z behind. s.place_is z (omega arith);
}

-- pieces below one bound start at an offset or before it, and those from another bound on behind it
pub record Counted (ps : List Piece) (offset low high : ℕ) : Type 0 where
  pub order : low ≤ high
  pub within : high ≤ length ps
  pub to : Rise ps → (k : ℕ) → k < low → start_of ps k ≤ offset
  pub behind : Rise ps → (k : ℕ) → high ≤ k → k < length ps → offset < start_of ps k

-- ---- where an offset stands

none_before : (now : ℕ) (ps : List Piece) (x : ℕ) → ((k : ℕ) → k < length ps → x < start_of ps k) → place_after now ps x ≡ now
none_before now [] x behind = refl
none_before now (p ∷ ps) x behind =
    ap (λ (n : ℕ). place_after n ps x) (if_gt p.start x p.place now (behind 0 (omega arith)))
    ∙ none_before now ps x (λ k lt. behind (suc k) (omega (arith, lt)))

pub place_of_none : (ps : List Piece) (x : ℕ) → ((k : ℕ) → k < length ps → x < start_of ps k) → 65535 ≡ place_in ps x
place_of_none ps x behind = sym (none_before 65535 ps x behind)

pub place_of_last : (ps : List Piece) (x k count : ℕ) → count ≡ k + 1 → count ≤ length ps → start_of ps k ≤ x
    → ((j : ℕ) → count ≤ j → j < length ps → x < start_of ps j) → (get_or ps k blank).place ≡ place_in ps x
place_of_last ps x k count is within le behind =
    let lt : k < length ps = omega arith in
    let rest : (j : ℕ) → j < length (drop count ps) → x < start_of (drop count ps) j =
    λ j less. let there : count + j < length ps = omega (arith, length-drop count ps, less) in
    subst (λ (p : Piece). x < p.start) (sym (get_or-drop count ps j blank)) (behind (count + j) (omega arith) there) in
    let split = ap (λ qs. place_in qs x) (take-append-drop count ps) in
    let parts = place_after-append 65535 (take count ps) (drop count ps) x in
    let front : place_in (take count ps) x ≡ (get_or ps k blank).place =
    ap (λ (n : ℕ). place_in (take n ps) x) is ∙ place_in-more ps k x lt ∙ if_le (start_of ps k) x _ _ le in
    sym (sym split ∙ parts ∙ none_before (place_in (take count ps) x) (drop count ps) x rest ∙ front)
