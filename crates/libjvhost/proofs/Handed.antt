-- What came of a job, once it is handed on.
use Rattle.std.proofs.Common.{◌≡◌, ◌≢◌, ℕ, List, [], ◌∷◌, ◌++◌, Option, Some, None, length, take, drop, refl, sym, ◌∙◌, ap, subst}
use Rattle.jv_meaning_machine.specs.Start.{Budget}
use Rattle.jv_meaning_machine.specs.Alone.{GuestFiles}
use Rattle.jv_verify.specs.Files.{Verified}
use Rattle.jv_host.specs.Host.{Admission}
use Rattle.libjvhost.specs.Codes.{ok}
use Rattle.libjvhost.specs.Told.{AreNumbers}
use Rattle.libjvhost.specs.Calls.{Checks, Hosted, IsAdmitAnswer, IsCheckAnswer, IsFilled, Judges, OverHost, StandsBeside}
use Rattle.libjvhost.specs.Inside.Jobs.{ChecksSo, JudgesSo}
use Rattle.libjvhost.specs.declared.done.Done.{Done}
use Rattle.libjvhost.specs.declared.told.Seen.{Seen}
use Rattle.libjvhost.specs.declared.told.ToldVerdict.{ToldVerdict}

twice : {X : Type 0} (items old : List X)
    → take (length old) (take (length old) items) ++ drop (length (take (length old) items)) old ≡ take (length old) items ++ drop (length items) old
twice [] [] = refl
twice (x ∷ xs) [] = refl
twice [] (y ∷ ys) = refl
twice (x ∷ xs) (y ∷ ys) = ap (λ zs. x ∷ zs) (twice xs ys)

-- room that is filled with as many items as it has room for is filled with all
pub filled : {X : Type 0} (items front old new : List X) → front ≡ take (length old) items → IsFilled front old new → IsFilled items old new
filled items front old new e h = h ∙ ap (λ zs. take (length old) zs ++ drop (length zs) old) e ∙ twice items old

told_beside : (library files : List (List ℕ)) (P Q : Verified → Type 0) → ((found : Verified) → P found → Q found) → StandsBeside library files P
    → StandsBeside library files Q
told_beside library files P Q more beside = record { found = beside.found; right = beside.right; stands = beside.stands; told = more beside.found beside.told }

pub checks_on : (library files : List (List ℕ)) (done : Done) (code : ℕ) (old new : List ToldVerdict) → code ≡ done.code
    → (code ≡ ok → IsFilled done.verdicts.items old new) → (code ≢ ok → new ≡ old) → ChecksSo library files (length old) done
    → Checks library files code old new
checks_on library files done code old new is fills same so = record {
  answer = subst (IsCheckAnswer library files (length old)) (sym is) so.answer;
  told = λ e. told_beside library files _ _ (λ found are. subst (λ items. IsFilled items old new) are (fills e)) (so.told (sym is ∙ e));
  same = same;
}

pub judges_on : (g : GuestFiles) (b : Budget) (n : ℕ) (done : Done) (code : ℕ) (seen : Seen) (old new : List ℕ) → code ≡ done.code
    → (code ≡ ok → seen ≡ done.seen) → (code ≡ ok → IsFilled done.bytes.items old new) → (code ≢ ok → new ≡ old)
    → JudgesSo g b n (length old) done → Judges g b n code seen old new
judges_on g b n done code seen old new is sees fills same so = record {
  answer = subst (IsAdmitAnswer g b 0) (sym is) so.answer;
  judged = λ e. let j = so.judged (sym is ∙ e) in (
    j.0,
    j.1,
    j.2,
    (
      j.3.0,
      j.3.1,
      (
        subst (λ (s : Seen). AreNumbers s j.3.0) (sym (sees e)) j.3.2.0,
        filled j.3.0.output done.bytes.items old new j.3.2.1 (fills e),
      ),
    ),
  );
  same = same;
}

-- what a job did to a host, told by the same code and in other words
pub over : (held new : Option Hosted) (code told : ℕ) (Did Does : List Admission → List Admission → Type 0) → told ≡ code
    → ((old after : List Admission) → Did old after → Does old after) → OverHost held new code Did → OverHost held new told Does
over None new code told Did Does is more h = (is ∙ h.0, h.1)
over (Some old) new code told Did Does is more h = (h.0, h.1, more old.guests h.0 h.2)
