-- A guest that is admitted has a small number.
use Rattle.std.proofs.Common.{◌≡◌, ℕ, ◌<◌, Option, Some, None, inl, inr, length, refl, sym, ◌∙◌, arith}
use Rattle.jv_limits.specs.declared.fault.AdmitFault.{AdmitFault}
use Rattle.jv_limits.specs.declared.fault.AdmitFault.TheVariants as refusals
use Rattle.jv_meaning_machine.specs.Start.{Budget}
use Rattle.jv_meaning_machine.specs.Alone.{GuestFiles}
use Rattle.jv_host.specs.Limits.{first_refusal}
use Rattle.jv_host.proofs.MayBegin.{few_guests}
use Rattle.libjvhost.specs.Codes.{admit_refusal}
use Rattle.libjvhost.specs.Calls.{Admits, Hosted, IsAdmitAnswer, OverHost}

none_refused : (o : Option AdmitFault) → admit_refusal o ≡ 0 → o ≡ None
none_refused None e = refl
none_refused (Some refusals.NoFiles) e = absurd cc
none_refused (Some refusals.TooManyFiles) e = absurd cc
none_refused (Some refusals.FileTooLong) e = absurd cc
none_refused (Some refusals.InputTooLong) e = absurd cc
none_refused (Some refusals.BudgetOutOfRange) e = absurd cc
none_refused (Some refusals.TooManyGuests) e = absurd cc
none_refused (Some refusals.LibraryBroken) e = absurd cc
none_refused (Some refusals.HostMemory) e = absurd cc

free : (g : GuestFiles) (b : Budget) (n code : ℕ) → IsAdmitAnswer g b n code → code ≡ 0 → first_refusal g b n ≡ None
free g b n code (inl (inl same)) e = none_refused (first_refusal g b n) (sym same ∙ e)
free g b n code (inl (inr h)) e = none_refused (first_refusal g b n) h.0
free g b n code (inr h) e = h.0

pub admitted_few : (g : GuestFiles) (b : Budget) (held new : Option Hosted) (code number : ℕ) → OverHost held new code (λ old after. Admits g b old after code number)
    → code ≡ 0 → number < 64
admitted_few g b None new code number h e = absurd (let no : 1 ≡ 0 = sym h.0 ∙ e in cc)
admitted_few g b (Some old) new code number h e =
    let small = few_guests g b (length old.guests) (free g b (length old.guests) code h.2.answer e) in
    let is = h.2.number e in
    omega (arith, small, is)
