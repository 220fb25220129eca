-- Code in the making (JVMS 4.7.3, 4.7.4, 6.5): instructions in their order, with labels in place of the distances of
-- branches, and where the labels stand. From it follow the code, the exception table and the StackMapTable.
use Rattle.std.specs.Prelude.{◌≡◌, ℕ, ◌+◌, ◌-◌, ◌*◌, ◌%◌, ◌<◌, ◌≤◌, ℤ, pos, ◌-ℤ◌, List, [], ◌∷◌, ◌++◌, map, length, set, get_or, nat_lt, nat_le, Option, Some, None, Result, Ok, Err, is_ok, IsOk, IfErr, if◌then◌else◌}
use Rattle.std.specs.Borrow.{Bor}
use Rattle.jv_code.specs.Numbers.{signed16}
use Rattle.jv_format.specs.declared.handlers.Handler.{Handler}
use Rattle.jv_stackmap.specs.Bytes.{MapForm, stack_map_bytes}
use Rattle.jv_stackmap.specs.declared.form.Form.TheVariants.{Full}
use Rattle.jv_stackmap.specs.declared.item.Item.{Item as StackMapType}
use Rattle.jv_stackmap.specs.declared.item.Item.TheVariants as stack_map
use Rattle.jv_asm.specs.declared.fault.AsmFault.{AsmFault}
use Rattle.jv_asm.specs.declared.fault.AsmFault.TheVariants as asm
use Rattle.jv_asm.specs.declared.item.Item.{Item}
use Rattle.jv_asm.specs.declared.item.Item.TheVariants as item
use Rattle.jv_asm.specs.Items.{code_of_item, code_of_items}
use Rattle.jv_asm_builder.specs.declared.fault.BuilderFault.TheVariants.{Unplaced, TooLarge, TwoFrames}
use Rattle.jv_asm_builder.specs.declared.frame.VerificationType.{VerificationType}
use Rattle.jv_asm_builder.specs.declared.frame.VerificationType.TheVariants as types
use Rattle.jv_asm_builder.specs.declared.step.Label.{Label}
use Rattle.jv_asm_builder.specs.declared.step.HandlerLabels.{HandlerLabels}
use Rattle.jv_asm_builder.specs.Faults.{Expected, ◌>>=◌, each}

-- an instruction as it is spelled, or one with labels in place of its distances
pub data Step : Type 0 where
  Unlabelled : (item : Item) → Step
  Branch : (opcode : ℕ) → (target : Label) → Step
  TableSwitch : (default : Label) → (low : ℤ) → (high : ℤ) → (targets : List Label) → Step
  LookupSwitch : (default : Label) → (cases : List (ℤ × Label)) → Step

-- a frame: its offset in the code, its local entries and its stack entries
pub record StackFrame : Type 0 where
  pub offset : ℕ
  pub locals : List VerificationType
  pub stack : List VerificationType

pub record Assembly : Type 0 where
  pub steps : List Step
  -- for each label its offset, once it is placed
  pub places : List (Option ℕ)
  pub handlers : List HandlerLabels
  pub frames : List StackFrame

-- ---- where steps stand

-- the size of a step at an offset, whatever its distances
abbrev pub step_size : ℕ → Step → ℕ
step_size at (Unlabelled i) = length (code_of_item at i)
step_size at (Branch opcode target) = 3
step_size at (TableSwitch default low high targets) = 16 - at % 4 + 4 * length targets
step_size at (LookupSwitch default cases) = 12 - at % 4 + 8 * length cases

-- where steps end, the first of which stands at an offset
abbrev pub steps_end : ℕ → List Step → ℕ
steps_end at [] = at
steps_end at (s ∷ steps) = steps_end (at + step_size at s) steps

-- how many bytes the code has so far
abbrev pub code_size : Assembly → ℕ
code_size a = steps_end 0 a.steps

-- ---- how it grows

abbrev pub no_steps : Assembly
no_steps = record { steps = []; places = []; handlers = []; frames = [] }

abbrev pub with_step : Assembly → Step → Assembly
with_step a s = record a { steps = a.steps ++ s ∷ [] }

abbrev pub with_handler : Assembly → HandlerLabels → Assembly
with_handler a h = record a { handlers = a.handlers ++ h ∷ [] }

-- one label more, which stands nowhere yet
abbrev pub with_label : Assembly → Assembly
with_label a = record a { places = a.places ++ None ∷ [] }

-- a label of this code is placed behind the steps so far
abbrev pub with_place : Assembly → ℕ → Assembly
with_place a number = record a { places = set a.places number (Some (code_size a)) }

-- a frame behind the steps so far
abbrev pub with_frame : Assembly → List VerificationType → List VerificationType → Assembly
with_frame a locals stack = record a { frames = a.frames ++ record { offset = code_size a; locals = locals; stack = stack } ∷ [] }

-- A step joins, where the code has room for it; a refusal changes nothing.
pub record IsStepAdded {T : Type 0} (old : Assembly) (s : Step) (result : Result T AsmFault) (new : Assembly) : Type 0 where
  pub state : new ≡ (if is_ok result then with_step old s else old)
  pub room : IsOk result → code_size new ≤ 65535
  pub too_large : IfErr result (λ fault. fault ≡ asm.TooLarge → 65535 < code_size (with_step old s))

abbrev pub IsItemAdded : {T : Type 0} → Assembly → Item → Result T AsmFault → Assembly → Type 0
IsItemAdded old i result new = IsStepAdded old (Unlabelled i) result new

-- ---- the instruction that a step is

-- a list as a slice, of which the definitions read the list alone
abbrev pub slice : {A : Type 0} → List A → Bor (List A)
slice xs = record { ref_ptr = (0, 0); now = xs }

-- the offset of a label that is placed
abbrev pub offset_at : Option ℕ → Expected ℕ
offset_at None = Err Unplaced
offset_at (Some offset) = Ok offset

abbrev pub place_in : List (Option ℕ) → Label → Option ℕ
place_in places label = get_or places label.number None

abbrev pub offset_in : List (Option ℕ) → Label → Expected ℕ
offset_in places label = offset_at (place_in places label)

-- how far a label is from an offset
abbrev pub distance_in : List (Option ℕ) → ℕ → Label → Expected ℤ
distance_in places at label = offset_in places label >>= λ offset. Ok (pos offset -ℤ pos at)

-- the distance of a branch has two bytes
abbrev pub near_distance : ℤ → Expected ℤ
near_distance distance = if signed16.fits distance then Ok distance else Err TooLarge

abbrev pub case_in : (Label → Expected ℤ) → ℤ × Label → Expected (ℤ × ℤ)
case_in distance c = distance c.1 >>= λ d. Ok (c.0, d)

abbrev pub item_in : (Label → Expected ℤ) → Step → Expected Item
item_in distance (Unlabelled i) = Ok i
item_in distance (Branch opcode target) = distance target >>= λ d. near_distance d >>= λ d. Ok (item.SignedHalf opcode d)
item_in distance (TableSwitch default low high targets) =
    distance default >>= λ d. each distance targets >>= λ ds. Ok (item.Tableswitch d low high (slice ds))
item_in distance (LookupSwitch default cases) =
    distance default >>= λ d. each (case_in distance) cases >>= λ cs. Ok (item.Lookupswitch d (slice cs))

-- ---- what it comes to

-- the instructions that steps are, the first of which stands at an offset
abbrev pub items_in : (ℕ → Label → Expected ℤ) → ℕ → List Step → Expected (List Item)
items_in distance at [] = Ok []
items_in distance at (s ∷ steps) = item_in (distance at) s >>= λ i. items_in distance (at + step_size at s) steps >>= λ is. Ok (i ∷ is)

-- the bytes of steps
abbrev pub code_in : List (Option ℕ) → List Step → Expected (List ℕ)
code_in places steps = items_in (distance_in places) 0 steps >>= λ items. Ok (code_of_items 0 items)

-- the bytes of the code
abbrev pub assembled_bytes : Assembly → Expected (List ℕ)
assembled_bytes a = code_in a.places a.steps

abbrev pub handler_in : List (Option ℕ) → HandlerLabels → Expected Handler
handler_in places h =
    offset_in places h.start >>= λ start. offset_in places h.end >>= λ end. offset_in places h.handler >>= λ handler.
    Ok (record { start_pc = start; end_pc = end; handler_pc = handler; catch_type = h.catch_type })

abbrev pub exception_table : Assembly → Expected (List Handler)
exception_table a = each (handler_in a.places) a.handlers

-- ---- stack maps (4.7.4)

abbrev pub stack_map_type : VerificationType → StackMapType
stack_map_type types.Top = stack_map.Top
stack_map_type types.Integer = stack_map.Integer
stack_map_type types.Long = stack_map.Long
stack_map_type types.Null = stack_map.Null
stack_map_type types.UninitializedThis = stack_map.UninitializedThis
stack_map_type (types.Object class) = stack_map.Object class
stack_map_type (types.Uninitialized offset) = stack_map.Uninitialized offset

-- so few that their number has two bytes
abbrev pub counted_list : {A : Type 0} → List A → Expected (List A)
counted_list list = if nat_lt (length list) 65536 then Ok list else Err TooLarge

-- how far a frame is behind the place where the next one can stand
abbrev pub delta_from : ℕ → ℕ → Expected ℕ
delta_from base offset = if nat_le base offset then Ok (offset - base) else Err TwoFrames

-- a full frame
abbrev pub form_from : ℕ → StackFrame → Expected MapForm
form_from base f =
    delta_from base f.offset >>= λ delta. counted_list f.locals >>= λ locals. counted_list f.stack >>= λ stack.
    Ok (Full delta (map stack_map_type locals) (map stack_map_type stack))

-- frames, the first of which can stand at an offset, and each next one behind the one before
abbrev pub forms_from : ℕ → List StackFrame → Expected (List MapForm)
forms_from base [] = Ok []
forms_from base (f ∷ frames) = form_from base f >>= λ form. forms_from (f.offset + 1) frames >>= λ forms. Ok (form ∷ forms)

-- what the StackMapTable holds; without frames there is none
abbrev pub stack_map_table : List StackFrame → Expected (Option (List ℕ))
stack_map_table [] = Ok None
stack_map_table (f ∷ frames) = counted_list (f ∷ frames) >>= λ all. forms_from 0 all >>= λ forms. Ok (Some (stack_map_bytes forms))

-- ---- all of it

pub record AssembledCode : Type 0 where
  pub code : List ℕ
  pub exception_table : List Handler
  pub stack_map_table : Option (List ℕ)

abbrev pub assembled_code : Assembly → Expected AssembledCode
assembled_code a =
    assembled_bytes a >>= λ code. exception_table a >>= λ handlers. stack_map_table a.frames >>= λ frames.
    Ok (record { code = code; exception_table = handlers; stack_map_table = frames })

-- the same by its parts
abbrev pub with_handler_at : Assembly → Label → Label → Label → ℕ → Assembly
with_handler_at a start end handler catch_type =
    with_handler a (record { start = start; end = end; handler = handler; catch_type = catch_type })
