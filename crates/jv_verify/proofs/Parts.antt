-- The parts of a method that was read, as the rules on its tables and on its instructions ask for them.
use Rattle.std.proofs.Common.{◌≡◌, ℕ, ◌≤◌, List, Option, Some, None, Result, Ok, Err, refl, sym, ap, subst, ◌∙◌, All}
use Rattle.std.specs.Prelude.{IfOk, IfSome, slice_index_or}
use Rattle.jv_class_structure.specs.Parts.{CodeSeen}
use Rattle.jv_stackmap.specs.Entries.{ReadFrame}
use Rattle.jv_meaning_typing.specs.Environment.{Environment}
use Rattle.jv_verify_types.specs.PoolTypes.{PoolTypes, typed_result}
use Rattle.jv_verify_types.specs.Current.{CurrentClass, IsOfClass}
use Rattle.jv_verify_rules.specs.Method.{MethodContext, IsOfMethod}
use Rattle.jv_verify_types.specs.Mapped.{EntryTypes, local_entry_words, initial_types}
use Rattle.jv_verify_pass.specs.Tables.{entry_types, HasHandlers, HasMap, MapsTo}
use Rattle.jv_verify_pass.proofs.SameTypes.{same_types}
use Rattle.jv_verify_pass.specs.Pass.{Pass, HasRoom, IsOfPass}
use Rattle.jv_verify.specs.Inside.Read.{ReadMethod, IsOfRead, HasReadFrames, HaveRoom, constants_of, types_of}

pub same_constants : (method : ReadMethod) (constants : PoolTypes) → constants.types ≡ method.class.types → constants.pool ≡ method.class.by.class.constant_pool → constants ≡ constants_of method
same_constants method constants e f = rw (← e, ← f) refl

-- ---- its tables

pub has_handlers : (method : ReadMethod) (constants : PoolTypes) (code : List ℕ) (env : Environment) → IsOfRead method env → constants ≡ constants_of method → code ≡ method.body.code
    → HasHandlers constants code method.body.exception_table env
has_handlers method constants code env of same is = record {
  pool = ap (λ l. l.class.constant_pool) of.class.by ∙ sym (ap (λ (p : PoolTypes). p.pool) same);
  world = of.class.world ∙ sym (ap (λ (p : PoolTypes). p.types.world) same);
  code = ap (λ (c : CodeSeen). c.code) of.body ∙ sym is;
  handlers = ap (λ (c : CodeSeen). c.exception_table) of.body;
}

pub has_map : (method : ReadMethod) (code : List ℕ) (env : Environment) → IsOfRead method env → method.body.code ≡ code
    → HasMap (types_of method) code (record { max_locals = method.body.max_locals; max_stack = method.body.max_stack }) method.body.stack_map_table env
has_map method code env of is = record {
  pool = ap (λ l. l.class.constant_pool) of.class.by;
  initial = of.initial;
  code = ap (λ (c : CodeSeen). c.code) of.body ∙ is;
  instructions = of.code.is.instructions;
  limits = ap (λ (c : CodeSeen). record { max_locals = c.max_locals; max_stack = c.max_stack }) of.body;
  bytes = ap (λ (c : CodeSeen). c.stack_map_table) of.body;
}

pub maps_told : {E : Type 0} (method : ReadMethod) (constants : PoolTypes) (code : List ℕ) (result : Result (Option (List ReadFrame)) E) → constants ≡ constants_of method → method.body.code ≡ code
    → IfOk result (λ found. (env : Environment) → HasMap (entry_types constants method.initial) code
    (record { max_locals = method.body.max_locals; max_stack = method.body.max_stack }) method.body.stack_map_table env
    → MapsTo (entry_types constants method.initial) method.body.max_locals env found)
    → IfOk result (λ found. (env : Environment) → IsOfRead method env → MapsTo (types_of method) method.body.max_locals env found)
maps_told method constants code (Err e) same is told = tt
maps_told method constants code (Ok found) same is told = λ env of.
    subst (λ (p : PoolTypes). MapsTo (entry_types p method.initial) method.body.max_locals env found) same
    (told env (subst (λ (p : PoolTypes). HasMap (entry_types p method.initial) code
    (record { max_locals = method.body.max_locals; max_stack = method.body.max_stack }) method.body.stack_map_table env) (sym same)
    (has_map method code env of is)))

pub rooms_told : {E : Type 0} (method : ReadMethod) (constants : PoolTypes) (result : Result (Option (List ReadFrame)) E) → constants ≡ constants_of method
    → IfOk result (λ found. IfSome found (λ frames. All (λ f. f.local_words ≡ local_entry_words (entry_types constants method.initial) f) frames))
    → IfOk result (λ found. IfSome found (λ frames. All (λ f. f.local_words ≤ method.body.max_locals) frames)) → IfOk result (λ found. IfSome found (HaveRoom method))
rooms_told method constants (Err e) same words room = tt
rooms_told method constants (Ok None) same words room = tt
rooms_told method constants (Ok (Some frames)) same words room = λ k d within.
    record {
      words = words k d within ∙ ap (λ (p : PoolTypes). local_entry_words (entry_types p method.initial) (slice_index_or frames k d)) same;
      room = room k d within;
    }

pub rooms_in : (method : ReadMethod) (types : EntryTypes) (max_locals : ℕ) (frames : List ReadFrame) → types ≡ types_of method → max_locals ≡ method.body.max_locals → HaveRoom method frames
    → All (HasRoom types max_locals) frames
rooms_in method types max_locals frames same is room =
    subst (λ (t : EntryTypes). All (HasRoom t max_locals) frames) (sym same) (subst (λ (n : ℕ). All (HasRoom (types_of method) n) frames) (sym is) room)

-- ---- what the rules of instructions ask

pub method_in : (method : ReadMethod) (context : MethodContext) (env : Environment) → IsOfRead method env → context.class ≡ method.class → context.code ≡ method.body.code
    → context.is_init ≡ method.is_init → context.result ≡ method.result → context.max_stack ≡ method.body.max_stack → IsOfMethod context env
method_in method context env of class code init result stack = record {
  class = subst (λ (k : CurrentClass). IsOfClass k env) (sym class) of.class;
  init = of.init ∙ sym init;
  result =
      of.result
      ∙ (ap (λ (k : CurrentClass). typed_result k.types.names method.result) (sym class) ∙ ap (typed_result context.class.types.names) (sym result));
  max_stack = ap (λ (c : CodeSeen). c.max_stack) of.body ∙ sym stack;
  code = ap (λ (c : CodeSeen). c.code) of.body ∙ sym code;
  instructions = of.code.is.instructions;
}

pub types_in : (method : ReadMethod) (types : EntryTypes) (constants : PoolTypes) → types.constants ≡ constants → types.initial ≡ method.initial → constants.types ≡ method.class.types
    → constants.pool ≡ method.class.by.class.constant_pool → types ≡ types_of method
types_in method types constants c i t p = sym (same_types types (constants_of method) method.initial (c ∙ same_constants method constants t p) i)

-- ---- its instructions

pub of_pass : (method : ReadMethod) (frames : List ReadFrame) (pass : Pass) (env : Environment) → HasReadFrames method frames env → IsOfMethod pass.context env → pass.types ≡ types_of method
    → pass.max_locals ≡ method.body.max_locals → pass.handlers ≡ method.body.exception_table → pass.frames ≡ frames → IsOfPass pass env
of_pass method frames pass env has context types locals handlers same = record {
  is = has.of.code.is;
  context = context;
  initial = has.of.initial ∙ sym (ap (λ (t : EntryTypes). initial_types t) types);
  max_locals = ap (λ (c : CodeSeen). c.max_locals) has.of.body ∙ sym locals;
  handlers = ap (λ (c : CodeSeen). c.exception_table) has.of.body ∙ sym handlers;
  maps =
      subst (λ (t : EntryTypes). MapsTo t pass.max_locals env (Some pass.frames)) (sym types)
      (subst (λ (n : ℕ). MapsTo (types_of method) n env (Some pass.frames)) (sym locals)
      (subst (λ (fs : List ReadFrame). MapsTo (types_of method) method.body.max_locals env (Some fs)) (sym same) has.maps));
}
