-- An array of chars that is filled with the units of a text, one by one.
use Rattle.std.proofs.Common.{◌≡◌, ℕ, suc, ◌+◌, ◌<◌, ◌≤◌, List, [], ◌∷◌, ◌++◌, length, replicate, set, count_by, refl, sym, ap, subst, ◌∙◌, arith, append_assoc, length-append}
use Rattle.std.specs.List.{list_all}
use Rattle.std.proofs.lemmas.Bool.{and_parts}
use Rattle.std.proofs.lemmas.List.{append-nil}
use Rattle.std.proofs.lemmas.List.Sums.{count_by-le-length}
use Rattle.std.proofs.Math.Seq.{set-append_seam}
use Rattle.jv_store.specs.Content.{words_at, written}
use Rattle.jv_text.specs.Text.{text_bytes, is_unit, Spells, IsText}
use Rattle.jv_text.proofs.Texts.{one_unit, length-unit_bytes}
use Rattle.jv_interp_heap.specs.ObjectsInBlocks.{Blocks}
use Rattle.jv_interp_heap.specs.NewBlocks.{Joins}
use Rattle.jv_interp_heap.proofs.NewWords.{joined_length, then_written}
use Rattle.jv_interp_objects.specs.Units.{begins_unit, HasUnits, IsSomeText, BeginsWithUnit}
use Rattle.jv_interp_objects.specs.TextBlocks.{Fills}
use Rattle.jv_interp_objects.proofs.Spelled.{unit_fits, counted}

-- so many units are written, and the others are left
pub record Partly (units : List ℕ) (first second : ℕ) (earlier : Blocks) (rest : List ℕ) (place address : ℕ) (now : Blocks) : Type 0 where
  pub front : List ℕ
  pub left : List ℕ
  pub are : units ≡ front ++ left
  pub spells : Spells left rest
  pub place_is : place ≡ 2 + length front
  pub joins : Joins (first ∷ second ∷ (front ++ replicate (length left) 0)) earlier now address

pub record IsFilling (text rest : List ℕ) (place address : ℕ) (before now : Blocks) : Type 0 where
  pub each :
      (units : List ℕ) (first second : ℕ) (earlier : Blocks) → Spells units text
      → Joins (first ∷ second ∷ replicate (length units) 0) earlier before address → Partly units first second earlier rest place address now

pub filling_begins : (text : List ℕ) (address : ℕ) (before : Blocks) → IsFilling text text 2 address before before
filling_begins text address before =
    record { each = λ units first second earlier s j. record { front = []; left = units; are = refl; spells = s; place_is = refl; joins = j } }

-- what is left, where some is
pub record Left (left rest : List ℕ) : Type 0 where
  pub unit : ℕ
  pub more : List ℕ
  pub are : left ≡ unit ∷ more
  pub spells : Spells (unit ∷ more) rest

pub some_left : (left rest : List ℕ) → Spells left rest → 0 < length rest → Left left rest
some_left [] rest s h = absurd (let e = ap length s.spelled in omega (arith, e, h))
some_left (unit ∷ more) rest s h = record { unit = unit; more = more; are = refl; spells = s }

pub is_some_text : (left rest : List ℕ) → Spells left rest → 0 < length rest → IsSomeText rest
is_some_text left rest s h =
    let l = some_left left rest s h in
    record { unit = l.unit; units = l.more; spells = l.spells }

pub few_units : (units text : List ℕ) → Spells units text → length units ≤ length text
few_units units text s =
    let same = counted text (count_by begins_unit text) refl units s in
    let fewer = count_by-le-length begins_unit text in
    omega (arith, same, fewer)

pub few_counted : (text : List ℕ) (count : ℕ) → IsText text → HasUnits text count → count ≤ length text
few_counted text count is has = let same = has is.0 is.1 in let fewer = few_units is.0 text is.1 in omega (arith, same, fewer)

module _ (units : List ℕ) (first second : ℕ) (earlier : Blocks) (rest : List ℕ) (place address : ℕ) (now : Blocks) (p : Partly units first second earlier rest place address now)
    (some : 0 < length rest) where
  l : Left p.left rest
  l = some_left p.left rest p.spells some

  joined : Joins (first ∷ second ∷ (p.front ++ 0 ∷ replicate (length l.more) 0)) earlier now address
  joined =
      subst (λ (u : List ℕ). Joins (first ∷ second ∷ (p.front ++ replicate (length u) 0)) earlier now address) l.are p.joins

  pub has_place : place < length (words_at now address)
  has_place =
      let size = joined_length (first ∷ second ∷ (p.front ++ 0 ∷ replicate (length l.more) 0)) earlier now address _ joined refl in
      let e = p.place_is in
      omega (arith, size, e, length-append p.front (0 ∷ replicate (length l.more) 0))

  pub fits : length units < 2147483648 → place + 1 < 4294967296
  fits few =
      let e = p.place_is in
      let all = ap length p.are in
      omega (arith, few, e, all, length-append p.front p.left)

  pub next : (unit : ℕ) (behind : List ℕ) (after : Blocks) → BeginsWithUnit rest unit behind → after ≡ written now address place unit →
      Partly units first second earlier behind (place + 1) address after
  next unit behind after b e =
      let parts = and_parts (is_unit l.unit) (list_all is_unit l.more) l.spells.fit in
      let one =
      one_unit l.unit unit (text_bytes l.more) behind (unit_fits l.unit parts.0) b.fits (sym l.spells.spelled ∙ b.spelled) in
      let same : l.unit ≡ unit = one.0 in
      let now_set : set (first ∷ second ∷ (p.front ++ 0 ∷ replicate (length l.more) 0)) place unit ≡ first ∷ second ∷ ((p.front ++ unit ∷ []) ++ replicate (length l.more) 0) =
      ap (λ (n : ℕ). set ((first ∷ second ∷ p.front) ++ 0 ∷ replicate (length l.more) 0) n unit) (p.place_is ∙ longer (length p.front))
      ∙ set-append_seam (first ∷ second ∷ p.front) 0 (replicate (length l.more) 0) unit
      ∙ ap (λ (t : List ℕ). first ∷ second ∷ t) (sym (append_assoc p.front (unit ∷ []) (replicate (length l.more) 0))) in
      let written_now = then_written (first ∷ second ∷ (p.front ++ 0 ∷ replicate (length l.more) 0)) earlier now after address place unit joined e in
      record {
        front = p.front ++ unit ∷ [];
        left = l.more;
        are =
            p.are ∙ ap (λ (u : List ℕ). p.front ++ u) (l.are ∙ ap (λ (n : ℕ). n ∷ l.more) same)
            ∙ sym (append_assoc p.front (unit ∷ []) l.more);
        spells = record { fit = parts.1; spelled = sym one.1 };
        place_is = let a = p.place_is in omega (arith, a, length-append p.front (unit ∷ []));
        joins = subst (λ (w : List ℕ). Joins w earlier after address) now_set written_now;
      }
    where
      longer : (n : ℕ) → 2 + n ≡ suc (suc n)
      longer n = omega arith

pub filling_goes_on :
    (text rest behind : List ℕ) (place address unit : ℕ) (before now after : Blocks) → IsFilling text rest place address before now
    → 0 < length rest → BeginsWithUnit rest unit behind → after ≡ written now address place unit
    → IsFilling text behind (place + 1) address before after
filling_goes_on text rest behind place address unit before now after h some b e = record {
  each =
      λ units first second earlier s j.
      next units first second earlier rest place address now (h.each units first second earlier s j) some unit behind after b e;
}

pub filling_ends : (text rest : List ℕ) (place address : ℕ) (before now : Blocks) → IsFilling text rest place address before now → length rest ≡ 0 → Fills text before now address
filling_ends text rest place address before now h none units first second earlier s j =
    let p = h.each units first second earlier s j in
    let no_left : p.left ≡ [] = by_left p.left p.spells in
    let all : units ≡ p.front = p.are ∙ ap (λ (l : List ℕ). p.front ++ l) no_left ∙ append-nil p.front in
    let same : p.front ++ replicate (length p.left) 0 ≡ units =
    ap (λ (l : List ℕ). p.front ++ replicate (length l) 0) no_left ∙ append-nil p.front ∙ sym all in
    subst (λ (w : List ℕ). Joins (first ∷ second ∷ w) earlier now address) same p.joins
  where
    by_left : (left : List ℕ) → Spells left rest → left ≡ []
    by_left [] s = refl
    by_left (unit ∷ more) s =
        absurd (let e = ap length s.spelled in let n = length-unit_bytes unit (text_bytes more) in omega (arith, e, n, none))
