-- What handlers catch.
use Rattle.std.proofs.Common.{◌≡◌, ℕ, Bool, ◌&&◌, List, sym, ap, subst, ◌∙◌, ◌↔◌}
use Rattle.std.specs.Prelude.{IsTrue}
use Rattle.std.specs.List.{list_all}
use Rattle.jv_format.specs.declared.handlers.Handler.{Handler}
use Rattle.jv_code.specs.Handlers.{HandlersFit}
use Rattle.jv_meaning_typing.specs.Environment.{Environment}
use Rattle.jv_meaning_typing.specs.Typing.{catches_throwable, HandlersKeepRules}
use Rattle.jv_verify_types.specs.PoolTypes.{PoolTypes}
use Rattle.jv_verify_pass.specs.Tables.{HasHandlers}
use Rattle.jv_verify_pass.specs.Inside.Parts.{HasConstants}
use Rattle.jv_verify_pass.proofs.Tests.{both, joined}

pub handlers_keep_rules : (constants : PoolTypes) (code : List ℕ) (table : List Handler) (fit all : Bool) (env : Environment) → HasHandlers constants code table env
    → IsTrue fit ↔ HandlersFit code table → all ≡ list_all (catches_throwable env) table → IsTrue (fit && all) ↔ HandlersKeepRules env
handlers_keep_rules constants code table fit all env has fits same = (
  λ h.
      let parts = both fit all h in
      record {
        fit = subst (λ (c : List ℕ). HandlersFit c env.code.exception_table) (sym has.code) (subst (λ (t : List Handler). HandlersFit code t) (sym has.handlers) (fits.0 parts.0));
        catch = ap (list_all (catches_throwable env)) has.handlers ∙ (sym same ∙ parts.1);
      },
  λ r.
      joined fit all
      (fits.1 (subst (λ (t : List Handler). HandlersFit code t) has.handlers (subst (λ (c : List ℕ). HandlersFit c env.code.exception_table) has.code r.fit)))
      (same ∙ (ap (list_all (catches_throwable env)) (sym has.handlers) ∙ r.catch)),
)

pub with_constants : (constants : PoolTypes) (code : List ℕ) (table : List Handler) (env : Environment) → HasHandlers constants code table env → HasConstants constants env
with_constants constants code table env has = record { pool = has.pool; world = has.world }
