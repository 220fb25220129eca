-- Branches on ints (JVMS 6.5, if<cond> and if_icmp<cond>).
use Rattle.std.proofs.Common.{◌≡◌, ℕ, ℤ, pos, ◌+◌, ◌≤◌, Bool, List, [], ◌∷◌, length, refl, ap, ◌∙◌, arith}
use Rattle.jv_stackmap.specs.declared.verification.VerificationTypeOf.TheVariants as types
use Rattle.jv_code.specs.declared.kinds.Condition.{Condition}
use Rattle.jv_code.specs.declared.kinds.NumberKind.TheVariants as numbers
use Rattle.jv_meaning_typing.specs.NumberRules.{exchange}
use Rattle.jv_meaning_machine.specs.Values.{Value}
use Rattle.jv_meaning_machine.specs.State.{Memory}
use Rattle.jv_meaning_machine.specs.Effects.{Effect, Context, Outcome}
use Rattle.jv_meaning_machine.specs.Arithmetic.{holds}
use Rattle.jv_meaning_machine.specs.Instructions.{jumps_if}
use Rattle.jv_interp_words.specs.declared.registers.Registers.{Registers}
use Rattle.jv_interp_words.specs.FramesInWords.{in_use}
use Rattle.jv_interp_words.specs.Inside.Numbers.{Takes}
use Rattle.jv_interp_words.proofs.InUse.{length-in_use}
use Rattle.jv_interp_words.proofs.Computed.{again}
use Rattle.jv_interp_words.specs.Going.{Works, CanWork, GoesOn}
use Rattle.jv_interp_words.specs.Inside.Branches.{LeadsOn, BranchesTo, if_int, if_ints}
use Rattle.jv_interp_words.proofs.OperandsStand.{operands_stand, OneInt, one_int, int_taken, TwoInts, two_ints, ints_taken}
use Rattle.jv_interp_words.proofs.Jumped.{went, branch_leads, branch_goes}

-- ---- an int against 0

abbrev pub on_int : Context → Condition → ℤ → ℤ → List Value → Outcome
on_int c condition distance a rest = jumps_if c distance rest (holds condition a (pos 0))

pub if_int_works :
    (condition : Condition) (distance : ℤ) (next : ℕ) (at : Registers) (words : List ℕ) (c : Context) (addresses : List ℕ)
    (done : Memory × Effect) (below : List ℕ) → Works (if_int condition distance) next at words c addresses done below
    → OneInt c (on_int c condition distance) addresses done (in_use words at.top) below
if_int_works condition distance next at words c addresses done below w =
    one_int c (if_int condition distance) (on_int c condition distance) addresses done (in_use words at.top) below (λ values rest. refl)
    (operands_stand c (if_int condition distance) (exchange (types.Int ∷ []) []) addresses done (in_use words at.top) below w.does w.frame)

pub int_stands :
    (c : Context) (next : ℤ → List Value → Outcome) (addresses : List ℕ) (done : Memory × Effect) (words below : List ℕ) (top : ℕ)
    → top ≤ length words → OneInt c next addresses done (in_use words top) below → 1 ≤ top
int_stands c next addresses done words below top within o = omega (arith, ap length o.on_top.1, length-in_use words top within)

pub if_int_top : (condition : Condition) (distance : ℤ) (next : ℕ) (at : Registers) (words : List ℕ) → CanWork (if_int condition distance) next at words → 1 ≤ at.top
if_int_top condition distance next at words h =
    int_stands h.c (on_int h.c condition distance) h.addresses h.done words h.below at.top h.works.top_within
    (if_int_works condition distance next at words h.c h.addresses h.done h.below h.works)

pub if_int_leads :
    (condition : Condition) (distance : ℤ) (next : ℕ) (at : Registers) (words taken : List ℕ) (x : ℤ) (test : Bool)
    → CanWork (if_int condition distance) next at words → Takes numbers.Int (in_use words at.top) taken x
    → test ≡ holds condition (again numbers.Int x) (pos 0) → LeadsOn at.pc distance test
if_int_leads condition distance next at words taken x test h take e =
    let o = if_int_works condition distance next at words h.c h.addresses h.done h.below h.works in
    let t = int_taken h.c (on_int h.c condition distance) h.addresses h.done (in_use words at.top) h.below taken x o take in
    branch_leads h.c distance t.rest h.done at.pc (holds condition (again numbers.Int x) (pos 0)) test t.does h.works.pc_is e

pub if_int_goes :
    (condition : Condition) (distance : ℤ) (next : ℕ) (at : Registers) (words : List ℕ) (after : Registers) (x : ℤ) (test : Bool)
    → Takes numbers.Int (in_use words at.top) (in_use words after.top) x → test ≡ holds condition (again numbers.Int x) (pos 0)
    → BranchesTo at.pc distance next test after.pc → GoesOn (if_int condition distance) next at words after words
if_int_goes condition distance next at words after x test take e to = λ c addresses done below w.
    let o = if_int_works condition distance next at words c addresses done below w in
    let t = int_taken c (on_int c condition distance) addresses done (in_use words at.top) below (in_use words after.top) x o take in
    went c addresses done below after words t.rest
    (branch_goes c distance t.rest done at.pc next after.pc (holds condition (again numbers.Int x) (pos 0)) test t.does w.pc_is w.next_is e to)
    t.lower

-- ---- two ints

abbrev pub on_ints : Context → Condition → ℤ → ℤ → ℤ → List Value → Outcome
on_ints c condition distance a b rest = jumps_if c distance rest (holds condition a b)

pub if_ints_works :
    (condition : Condition) (distance : ℤ) (next : ℕ) (at : Registers) (words : List ℕ) (c : Context) (addresses : List ℕ)
    (done : Memory × Effect) (below : List ℕ) → Works (if_ints condition distance) next at words c addresses done below
    → TwoInts c (on_ints c condition distance) addresses done (in_use words at.top) below
if_ints_works condition distance next at words c addresses done below w =
    two_ints c (if_ints condition distance) (on_ints c condition distance) addresses done (in_use words at.top) below (λ values rest. refl)
    (operands_stand c (if_ints condition distance) (exchange (types.Int ∷ types.Int ∷ []) []) addresses done (in_use words at.top) below
    w.does w.frame)

pub if_ints_top :
    (condition : Condition) (distance : ℤ) (next : ℕ) (at : Registers) (words : List ℕ) → CanWork (if_ints condition distance) next at words
    → 2 ≤ at.top
if_ints_top condition distance next at words h =
    let o = if_ints_works condition distance next at words h.c h.addresses h.done h.below h.works in
    let first : length (in_use words at.top) ≡ 1 + length o.between = ap length o.second_on_top.1 ∙ omega arith in
    let second : length o.between ≡ 1 + length o.middle = ap length o.first_on_top.1 ∙ omega arith in
    omega (arith, first, second, length-in_use words at.top h.works.top_within)

pub if_ints_leads :
    (condition : Condition) (distance : ℤ) (next : ℕ) (at : Registers) (words between taken : List ℕ) (x y : ℤ) (test : Bool)
    → CanWork (if_ints condition distance) next at words → Takes numbers.Int (in_use words at.top) between y
    → Takes numbers.Int between taken x → test ≡ holds condition (again numbers.Int x) (again numbers.Int y) → LeadsOn at.pc distance test
if_ints_leads condition distance next at words between taken x y test h take_y take_x e =
    let o = if_ints_works condition distance next at words h.c h.addresses h.done h.below h.works in
    let t =
    ints_taken h.c (on_ints h.c condition distance) h.addresses h.done (in_use words at.top) h.below between taken x y o take_y take_x in
    branch_leads h.c distance t.rest h.done at.pc (holds condition (again numbers.Int x) (again numbers.Int y)) test t.does h.works.pc_is e

pub if_ints_goes :
    (condition : Condition) (distance : ℤ) (next : ℕ) (at : Registers) (words between : List ℕ) (after : Registers) (x y : ℤ) (test : Bool)
    → Takes numbers.Int (in_use words at.top) between y → Takes numbers.Int between (in_use words after.top) x
    → test ≡ holds condition (again numbers.Int x) (again numbers.Int y) → BranchesTo at.pc distance next test after.pc
    → GoesOn (if_ints condition distance) next at words after words
if_ints_goes condition distance next at words between after x y test take_y take_x e to = λ c addresses done below w.
    let o = if_ints_works condition distance next at words c addresses done below w in
    let t =
    ints_taken c (on_ints c condition distance) addresses done (in_use words at.top) below between (in_use words after.top) x y o take_y take_x in
    went c addresses done below after words t.rest
    (branch_goes c distance t.rest done at.pc next after.pc (holds condition (again numbers.Int x) (again numbers.Int y)) test t.does w.pc_is
    w.next_is e to)
    t.lower
