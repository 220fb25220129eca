-- The instructions that name a field, a method or a class to be linked, each with rules of its own (JVMS 6.5), and where
-- they stand.
use Rattle.jv_meaning_world.specs.Overriding.{Declared}

pub data Use : Type 0 where
  Getstatic : Use
  Putstatic : Use
  Getfield : Use
  Putfield : Use
  Invokevirtual : Use
  Invokespecial : Use
  Invokestatic : Use
  Invokeinterface : Use
  New : Use

-- the method that holds the instruction, with the class that declares it, the current class (2.6)
abbrev pub Site : Type 0
Site = Declared
