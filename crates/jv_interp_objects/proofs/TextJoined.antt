-- The blocks of a String and of its chars, which join the others, and what is taken back.
use Rattle.std.proofs.Common.{◌≡◌, ℕ, ◌*◌, ◌≤◌, List, [], ◌∷◌, length, replicate, ap, subst, ◌∙◌, arith}
use Rattle.jv_store.specs.Content.{words_at, greatest, without}
use Rattle.jv_store.proofs.LookUps.{greatest-append_above}
use Rattle.jv_store.proofs.Contents.{without-append}
use Rattle.jv_text.specs.Text.{Spells, IsText}
use Rattle.jv_interp_heap.specs.ObjectsInBlocks.{Blocks}
use Rattle.jv_interp_heap.specs.NewBlocks.{Joins}
use Rattle.jv_interp_heap.proofs.Joined.{others_stay}
use Rattle.jv_interp_heap.proofs.NewWords.{joined_words}
use Rattle.jv_interp_objects.specs.Units.{HasUnits}
use Rattle.jv_interp_objects.specs.TextBlocks.{CanFill, Fills}

-- ---- a block that is taken back

pub newest_address : (words : List ℕ) (before after : Blocks) (address : ℕ) → Joins words before after address → greatest after ≡ address
newest_address words before after address j = ap greatest j.joins ∙ greatest-append_above before address words j.above

pub taken_back : (words : List ℕ) (before after : Blocks) (address : ℕ) → Joins words before after address → without after address ≡ before
taken_back words before after address j = ap (λ (b : Blocks). without b address) j.joins ∙ without-append before address words j.above

-- a block below stays as it is
pub stays_below : (words : List ℕ) (before after : Blocks) (address other : ℕ) → Joins words before after address → other ≤ greatest before → words_at after other ≡ words_at before other
stays_below words before after address other j low = ap (λ (b : Blocks). words_at b other) j.joins ∙ others_stay before address words other j.above low

-- ---- a String and its chars

chars_words : (count n : ℕ) → count ≡ n → replicate {A = ℕ} (count * 1) 0 ≡ replicate n 0
chars_words count n e =
    let same : count * 1 ≡ n = omega (arith, e) in
    ap (λ (k : ℕ). replicate {A = ℕ} k 0) same

pub can_fill : (text : List ℕ) (count : ℕ) (before after : Blocks) (address : ℕ) → IsText text → HasUnits text count →
    Joins (2147483649 ∷ count ∷ replicate (count * 1) 0) before after address → CanFill text after address
can_fill text count before after address is has j = record {
  units = is.0;
  spells = is.1;
  first = 2147483649;
  second = count;
  earlier = before;
  joined =
      subst (λ (w : List ℕ). Joins (2147483649 ∷ count ∷ w) before after address) (chars_words count (length is.0) (has is.0 is.1)) j;
}

pub string_words : (words : List ℕ) (before between filled : Blocks) (string chars : ℕ) → Joins (3 ∷ 0 ∷ []) before between string →
    Joins words between filled chars → words_at filled string ≡ 3 ∷ 0 ∷ []
string_words words before between filled string chars s j =
    let low : string ≤ greatest between = let e = newest_address (3 ∷ 0 ∷ []) before between string s in omega (arith, e) in
    stays_below words between filled chars string j low ∙ joined_words (3 ∷ 0 ∷ []) before between string s

-- after it was filled
pub filled_joins : (text units : List ℕ) (count : ℕ) (between joined filled : Blocks) (chars : ℕ) → Spells units text → HasUnits text count →
    Joins (2147483649 ∷ count ∷ replicate (count * 1) 0) between joined chars → Fills text joined filled chars → Joins (2147483649 ∷ count ∷ units)
    between filled chars
filled_joins text units count between joined filled chars s has j fills =
    fills units 2147483649 count between s
    (subst (λ (w : List ℕ). Joins (2147483649 ∷ count ∷ w) between joined chars) (chars_words count (length units) (has units s)) j)
