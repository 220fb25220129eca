-- The instruction that the first of a guest's files shows.
use Rattle.std.proofs.Common.{◌≡◌, ◌≢◌, ℕ, zero, suc, ◌+◌, ◌<◌, ◌≤◌, ◌⊎◌, inl, inr, true, false, List, length, min, Option, Some, None, refl, sym, ap, subst, ◌∙◌, arith}
use Rattle.std.specs.Prelude.{String, is_some, option_map, slice_get, string_bytes}
use Rattle.std.proofs.lemmas.Bool.{cases_lt}
use Rattle.std.proofs.lemmas.Option.{slice_get_within}
use Rattle.jv_meaning_typing.specs.declared.verdict.Verdict.{Verdict}
use Rattle.jv_meaning_machine.specs.State.{ThrowPlace}
use Rattle.jv_place.specs.Instruction.{IsInstructionIn}
use Rattle.jv_program_run.proofs.Lines.{one_is_least}
use Rattle.jv_program_run.specs.Instruction.{IsShownAmong, IsShownBy, NoneShownBefore, is_taken}

-- a file whose class is taken shows what it holds
pub shown_by : (file : List ℕ) (verdict : Verdict) (p : ThrowPlace) (text : Option (List ℕ)) → is_taken verdict ≡ true → IsInstructionIn file p text → IsShownBy file verdict p text
shown_by file verdict p (Some t) taken is = (taken, is)
shown_by file verdict p None taken is = λ _. is

pub some_text : {A : Type 0} (text : Option (String A)) → is_some (option_map string_bytes text) ≡ is_some text
some_text None = refl
some_text (Some t) = refl

-- a place below the least of two lengths is below both, and where it isn't it is past one
pub in_both : (m a b k : ℕ) → m ≡ min a b → k < m → (k < a) × (k < b)
in_both m a b k e less =
    elim (cases_lt a b) [
      | inl lt ↦ (omega (arith, e, less, lt), omega (arith, e, less, lt))
      | inr le ↦ (omega (arith, e, less, le), omega (arith, e, less, le))
    ]

pub past_one : (m a b n k : ℕ) → m ≡ min a b → m ≤ k → n ≡ a → (n ≤ k) ⊎ (b ≤ k)
past_one m a b n k e end same =
    elim (one_is_least m a b e) [ inl few ↦ inl (omega (arith, few, end, same)) | inr few ↦ inr (omega (arith, few, end)) ]

same_or_other : (k n : ℕ) → (k ≡ n) ⊎ (k ≢ n)
same_or_other zero zero = inl refl
same_or_other zero (suc n) = inr (λ e. omega (arith, e))
same_or_other (suc k) zero = inr (λ e. omega (arith, e))
same_or_other (suc k) (suc n) =
    elim (same_or_other k n) [
      | inl same ↦ inl (ap suc same)
      | inr other ↦ inr (λ e. other (omega (arith, e)))
    ]

module _ (files : List (List ℕ)) (verdicts : List Verdict) (p : ThrowPlace) where
  pub none_yet : NoneShownBefore files verdicts p 0
  none_yet k file verdict less found judged = absurd (omega (arith, less))

  -- one file more that shows none
  pub none_more : (n : ℕ) (file : List ℕ) (verdict : Verdict) (text : Option (List ℕ)) → slice_get files n ≡ Some file → slice_get verdicts n ≡ Some verdict
      → is_some text ≡ false → IsShownBy file verdict p text → NoneShownBefore files verdicts p n → NoneShownBefore files verdicts p (n + 1)
  none_more n file verdict (Some t) found judged e shows before = absurd cc
  none_more n file verdict None found judged e shows before = λ k other its less at there.
      elim (same_or_other k n) [
        | inl same ↦
            let files_agree : Some file ≡ Some other = sym found ∙ (ap (slice_get files) (sym same) ∙ at) in
            let verdicts_agree : Some verdict ≡ Some its = sym judged ∙ (ap (slice_get verdicts) (sym same) ∙ there) in
            let one : file ≡ other = cc in
            let its_own : verdict ≡ its = cc in
            subst (λ (f : List ℕ). IsShownBy f its p None) one (subst (λ (v : Verdict). IsShownBy file v p None) its_own shows)
        | inr apart ↦ before k other its (omega (arith, less, apart)) at there
      ]

  -- the first file that shows one
  pub first_shown : (n : ℕ) (file : List ℕ) (verdict : Verdict) (text : Option (List ℕ)) → slice_get files n ≡ Some file → slice_get verdicts n ≡ Some verdict
      → is_some text ≡ true → IsShownBy file verdict p text → NoneShownBefore files verdicts p n → IsShownAmong files verdicts p text
  first_shown n file verdict None found judged e shows before = absurd cc
  first_shown n file verdict (Some t) found judged e shows before = record {
    number = n;
    file = file;
    found = found;
    verdict = verdict;
    judged = judged;
    shown = shows;
    first = before;
  }

  -- no file at all shows one
  pub none_at_all : (n : ℕ) → (length files ≤ n) ⊎ (length verdicts ≤ n) → NoneShownBefore files verdicts p n → IsShownAmong files verdicts p None
  none_at_all n (inl few) before number k file verdict less found judged =
      let within = slice_get_within files k file found in
      before k file verdict (omega (arith, few, within)) found judged
  none_at_all n (inr few) before number k file verdict less found judged =
      let within = slice_get_within verdicts k verdict judged in
      before k file verdict (omega (arith, few, within)) found judged
