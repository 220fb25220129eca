-- Reports, one behind the other.
use Rattle.std.proofs.Common.{◌≡◌, ℕ, ◌+◌, Bool, List, [], ◌∷◌, ◌++◌, take, Some, refl, sym, ap, subst, ◌∙◌, inl, inr}
use Rattle.std.specs.Prelude.{map, slice_get, ◌||◌}
use Rattle.std.specs.List.{list_any}
use Rattle.serde_json.specs.Data.{Data}
use Rattle.serde_json.specs.View.{view}
use Rattle.serde_json.specs.declared.value.Value.{Value}
use Rattle.jv_host.specs.Showing.{seen_end}
use Rattle.jv_program_run.specs.declared.report.Report.{Report}
use Rattle.jv_host.specs.Host.{Admission}
use Rattle.jv_program_run.specs.Guests.{NamedGuest}
use Rattle.jv_program_run.specs.Json.{told_value}
use Rattle.jv_program_run.specs.Report.{Told, is_running}
use Rattle.jv_program_run.specs.Inside.Play.{AreReportsOn, IsReportOn, told_of}
use Rattle.jv_program_base.proofs.Places.{length-more, map-more, map-take-more, pushed}

-- a guest runs in what is told exactly where one does in the reports
pub any_told_runs : (reports : List Report) → list_any (λ t. is_running t.seen.end) (map told_of reports) ≡ list_any (λ report. is_running (seen_end report.seen.end)) reports
any_told_runs [] = refl
any_told_runs (r ∷ reports) = ap (λ (b : Bool). is_running (seen_end r.seen.end) || b) (any_told_runs reports)

-- one report more
pub reports-more : (places : Bool) (guests : List NamedGuest) (host : List Admission) (k : ℕ) (told : List Told) (t : Told) → AreReportsOn places guests host k told
    → IsReportOn places guests host k t → AreReportsOn places guests host (k + 1) (told ++ t ∷ [])
reports-more places guests host k told t before last =
    record {
      many = length-more told t ∙ ap (λ (n : ℕ). n + 1) before.many;
      each = λ place other found. elim (pushed told t place other found) [
        | inl h ↦ before.each place other h.1
        | inr h ↦
            let here : k ≡ place = sym (h.0 ∙ before.many) in
            subst (λ (n : ℕ). IsReportOn places guests host n other) here (subst (λ (x : Told). IsReportOn places guests host k x) (sym h.1) last)
      ];
    }

-- the reports so far, and one more
pub pushed_report : (reports : List Report) (r : Report) (new : List Report) → new ≡ reports ++ r ∷ [] → map told_of new ≡ map told_of reports ++ told_of r ∷ []
pushed_report reports r new e = ap (map told_of) e ∙ map-more told_of reports r

-- the values of the reports so far, and one more
pub pushed_value : (reports : List Report) (k : ℕ) (report : Report) (before after : List Value) (value : Value) → slice_get reports k ≡ Some report
    → after ≡ before ++ value ∷ [] → view value ≡ told_value (told_of report) → map view before ≡ map told_value (map told_of (take k reports))
    → map view after ≡ map told_value (map told_of (take (k + 1) reports))
pushed_value reports k report before after value found pushed is so_far =
    let all : map told_value (map told_of (take (k + 1) reports)) ≡ map told_value (map told_of (take k reports)) ++ told_value (told_of report) ∷ [] =
    ap (map told_value) (map-take-more told_of reports k report found) ∙ map-more told_value (map told_of (take k reports)) (told_of report) in
    ap (map view) pushed ∙ (map-more view before value ∙ (ap (λ (d : Data). map view before ++ d ∷ []) is
    ∙ (ap (λ (ds : List Data). ds ++ told_value (told_of report) ∷ []) so_far ∙ sym all)))
