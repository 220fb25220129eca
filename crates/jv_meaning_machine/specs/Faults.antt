-- What the machine refuses to do, and what verified code is never to ask for (JVMS 4.9, 4.10; own), and steps that can end so.
use Rattle.std.specs.Prelude.{Bool, true, false, Option, Some, None, Result, Ok, Err}

pub data Fault : Type 0 where
  -- no instruction starts at the offset, or a jump leads below 0; or an instruction's constant is of another kind: that of
  -- `new` names an array, that of multianewarray a class, or an array of fewer dimensions than there are counts, that of
  -- invokevirtual or invokeinterface an `<init>`, and that of invokestatic or invokespecial, in a class below version 52.0,
  -- is an InterfaceMethodref; or a method without code is entered; or something lacks that each well-formed class has: a static
  -- field's value, what a descriptor says, the units of a text, the main method (own)
  OffsetFault : Fault
  -- the stack is below empty, or above max_stack words
  StackFault : Fault
  -- a local variable is outside max_locals, holds nothing, or holds half of a long
  LocalFault : Fault
  -- a value is of another kind than the instruction takes, or a form of the stack cuts a long
  TagFault : Fault
  -- a reference to no object, or to one without that field or that kind of elements; a receiver that is no instance of the class
  -- that declares the method, interfaces aside; or something thrown that is no Throwable
  ReferenceFault : Fault
  -- an object that is not constructed is used otherwise than by load, store, the forms of the stack, comparison, a call of
  -- `<init>`, or, in an `<init>` whose receiver it is, a putfield that names the current class; or an `<init>` is entered on an
  -- object that is constructed, or out of order: first that of the object's class, and then that of the class last entered or
  -- of its direct superclass
  ConstructionFault : Fault
  -- a method of a class that was not accepted is entered
  UnverifiedFault : Fault
  -- a return of another kind than the method's result
  ReturnFault : Fault

abbrev pub OrFault : Type 0 → Type 0
OrFault A = Result A Fault

-- a step, and the next one with what it gave; the first fault ends them
infixl 10 ◌>>=◌
abbrev pub ◌>>=◌ : {A B : Type 0} → OrFault A → (A → OrFault B) → OrFault B
(Ok a) >>= next = next a
(Err fault) >>= next = Err fault

-- what is there goes on, and else it is a fault
abbrev pub found : {A : Type 0} → Fault → Option A → OrFault A
found fault None = Err fault
found fault (Some a) = Ok a

-- what passes a test goes on
abbrev pub tested : {A : Type 0} → Fault → Bool → A → OrFault A
tested fault true a = Ok a
tested fault false a = Err fault
