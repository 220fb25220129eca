-- Worked rows: a guest that is fed while it runs (own), computed.
use Rattle.std.specs.Prelude.{◌≡◌, ℕ, negsuc, List, [], ◌∷◌, None, codes}
use Rattle.jv_code.specs.declared.insn.Insn.TheVariants as insns
use Rattle.jv_code.specs.declared.kinds.JumpForm.TheVariants as jump
use Rattle.jv_code.specs.Insns.{Instruction}
use Rattle.jv_meaning_machine.specs.Faults.{OrFault}
use Rattle.jv_meaning_machine.specs.State.End.{Running}
use Rattle.jv_meaning_machine.specs.Alone.{Feed}
use Rattle.jv_meaning_machine.specs.Observation.{Observed}
use Rattle.jv_meaning_machine.specs.Rows.Samples.{program_of, run_fed, shown, invokestatic, main_name, only_main}
use Rattle.jv_meaning_machine.specs.Rows.Machine.{returned, hi}

-- reads a byte, writes it, and so on: the second step and each third one behind it reads
abbrev pub echoes : List Instruction
echoes = invokestatic 10 ∷ invokestatic 6 ∷ insns.Goto (negsuc 5) jump.Half ∷ []

abbrev pub feed : ℕ → List ℕ → Feed
feed n bytes = record { own_step = n; bytes = bytes }

abbrev pub echo : List ℕ → List Feed → ℕ → OrFault Observed
echo input feeds n = run_fed (program_of (only_main [] 1 [] echoes ∷ []) (echoes ∷ [])) main_name input feeds 64 n

abbrev pub echoed : ℕ → List ℕ → OrFault Observed
echoed n output = shown n output 0 None Running

abbrev pub run_hi : List Feed → ℕ → OrFault Observed
run_hi feeds n = run_fed (program_of (only_main [] 1 [] hi ∷ []) (hi ∷ [])) main_name [] feeds 64 n

pub record FeedRows : Type 0 where
  -- 255 is the low byte of -1, which is read where nothing waits
  pub nothing : echo [] [] 7 ≡ echoed 7 (255 ∷ 255 ∷ [])
  pub between : echo [] (feed 4 (codes "A") ∷ []) 7 ≡ echoed 7 (255 ∷ 65 ∷ [])
  pub at_start : echo [] (feed 0 (codes "A") ∷ []) 7 ≡ echoed 7 (65 ∷ 255 ∷ [])
  -- a feed is seen by the step behind its own one at the earliest
  pub just_before : echo [] (feed 1 (codes "A") ∷ []) 3 ≡ echoed 3 (65 ∷ [])
  pub just_behind : echo [] (feed 2 (codes "A") ∷ []) 6 ≡ echoed 6 (255 ∷ 65 ∷ [])
  -- it joins behind what waits, and feeds of one step join in order of coming
  pub behind_input : echo (codes "C") (feed 0 (codes "A") ∷ []) 6 ≡ echoed 6 (67 ∷ 65 ∷ [])
  pub in_order : echo [] (feed 0 (codes "A") ∷ feed 0 (codes "B") ∷ []) 6 ≡ echoed 6 (65 ∷ 66 ∷ [])
  pub of_two_steps : echo (codes "C") (feed 1 (codes "A") ∷ feed 3 (codes "B") ∷ []) 9 ≡ echoed 9 (67 ∷ 65 ∷ 66 ∷ [])
  -- it changes nothing that is shown at its own step or earlier
  pub own_step : echo [] (feed 6 (codes "A") ∷ []) 6 ≡ echo [] [] 6
  pub later : echo [] (feed 7 (codes "A") ∷ []) 6 ≡ echo [] [] 6
  -- and nothing behind the end
  pub behind_end : run_hi (feed 6 (codes "A") ∷ []) 9 ≡ returned 9 (codes "Hi")
