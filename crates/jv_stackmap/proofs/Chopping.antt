-- A loop that takes entries away, one at a time.
use Rattle.std.proofs.Common.{◌≡◌, ℕ, suc, ◌+◌, ◌-◌, ◌<◌, Option, Some, None, sym, ap, ◌∙◌, arith}
use Rattle.jv_format.specs.Format.{◌>>=◌}
use Rattle.jv_stackmap.specs.Inside.Steps.{Built, chopped_one, chopped_in}

chop_step : (n : ℕ) (b : Built) (o : Option Built) → chopped_one b.locals b ≡ o → chopped_in (suc n) b ≡ (o >>= chopped_in n)
chop_step n b o e = ap (λ (o : Option Built). o >>= chopped_in n) e

pub chop_on : (count i : ℕ) (b t : Built) (total : Option Built) → i < count → chopped_one b.locals b ≡ Some t → chopped_in (count - i) b ≡ total → chopped_in (count - (i + 1)) t ≡ total
chop_on count i b t total lt e so_far =
    let k : count - i ≡ suc (count - (i + 1)) = omega arith in
    sym (ap (λ (n : ℕ). chopped_in n b) k ∙ chop_step (count - (i + 1)) b (Some t) e) ∙ so_far

pub chop_ends : (count i : ℕ) (b : Built) (total : Option Built) → i < count → chopped_one b.locals b ≡ None → chopped_in (count - i) b ≡ total → total ≡ None
chop_ends count i b total lt e so_far =
    let k : count - i ≡ suc (count - (i + 1)) = omega arith in
    sym so_far ∙ ap (λ (n : ℕ). chopped_in n b) k ∙ chop_step (count - (i + 1)) b None e
