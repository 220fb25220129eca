-- A small world, a class with constants, and frames for worked rows.
use Rattle.std.specs.Prelude.{ℕ, true, false, List, [], ◌∷◌, ◌++◌, replicate, Option, Some, None, codes}
use Rattle.std.specs.List.{flat_map}
use Rattle.std.specs.Option.{option_map}
use Rattle.jv_format.specs.Format.{◌>>=◌}
use Rattle.jv_text.specs.declared.descriptor.Base.{Base}
use Rattle.jv_text.specs.declared.descriptor.Element.{Element}
use Rattle.jv_text.specs.declared.descriptor.Element.TheVariants as elements
use Rattle.jv_text.specs.declared.descriptor.FieldTypeOf.{FieldTypeOf}
use Rattle.jv_pool.specs.declared.constant.Constant.TheVariants as constants
use Rattle.jv_pool.specs.Constants.{Entry}
use Rattle.jv_class_structure.specs.Parts.{CodeSeen}
use Rattle.jv_class.specs.Class.{Class, Field, Method}
use Rattle.jv_stackmap.specs.declared.verification.VerificationTypeOf.TheVariants as types
use Rattle.jv_stackmap.specs.Types.{FrameType}
use Rattle.jv_stackmap.specs.Frames.{Frame}
use Rattle.jv_code.specs.Insns.{Instruction, insn_bytes}
use Rattle.jv_code.specs.declared.insn.Insn.TheVariants as insns
use Rattle.jv_meaning_world.specs.declared.content.Content.TheVariants.{Holds}
use Rattle.jv_meaning_world.specs.World.{World, without_front, world_of}
use Rattle.jv_meaning_world.specs.Rows.Files.{object_name, class_with}
use Rattle.jv_meaning_typing.specs.Rows.LinkingSamples.{system, guest, method, class, interface}
use Rattle.jv_meaning_typing.specs.Environment.{Environment, offset_behind}
use Rattle.jv_meaning_typing.specs.Rule.{rule}

-- ---- classes: p/B has a field f, a static field s, a constructor, a method m and a static method s, all protected. C, the
-- current class, is below it in another package, and implements I; J is an interface beside it.

abbrev pub field : ℕ → List ℕ → Field
field flags name = record { access_flags = flags; name = name; descriptor = codes "I"; initial = None }

abbrev pub takes_int_and_long : ℕ → List ℕ → Method
takes_int_and_long flags name = method flags name (codes "(IJ)I")

abbrev pub superclass : Class
superclass = record (class (codes "p/B") object_name
    (method 4 (codes "<init>") (codes "()V") ∷ takes_int_and_long 4 (codes "m") ∷ takes_int_and_long 12 (codes "s") ∷ [])) {
      fields = field 4 (codes "f") ∷ field 12 (codes "s") ∷ [];
    }

-- 2 C, 4 p/B, 6 java/lang/Object, 8 I, 10 J, 12 [I, 14 [[I
abbrev pub class_constants : List Entry
class_constants =
    constants.Utf8 (codes "C") ∷ constants.Class 1 ∷ constants.Utf8 (codes "p/B") ∷ constants.Class 3
    ∷ constants.Utf8 object_name ∷ constants.Class 5 ∷ constants.Utf8 (codes "I") ∷ constants.Class 7
    ∷ constants.Utf8 (codes "J") ∷ constants.Class 9 ∷ constants.Utf8 (codes "[I") ∷ constants.Class 11
    ∷ constants.Utf8 (codes "[[I") ∷ constants.Class 13 ∷ []

-- 18 C.f, 19 p/B.f, 20 a field of [I, 23 the static p/B.s
abbrev pub field_constants : List Entry
field_constants =
    constants.Utf8 (codes "f") ∷ constants.Utf8 (codes "I") ∷ constants.NameAndType 15 16
    ∷ constants.Fieldref 2 17 ∷ constants.Fieldref 4 17 ∷ constants.Fieldref 12 17
    ∷ constants.Utf8 (codes "s") ∷ constants.NameAndType 21 16 ∷ constants.Fieldref 4 22 ∷ []

-- 27 C.m, 28 p/B.m, 29 m of [I, 30 I.m, 31 J.m, 32 m of [I as of an interface, 34 the static p/B.s; each takes an int and a
-- long and gives an int
abbrev pub method_constants : List Entry
method_constants =
    constants.Utf8 (codes "m") ∷ constants.Utf8 (codes "(IJ)I") ∷ constants.NameAndType 24 25
    ∷ constants.Methodref 2 26 ∷ constants.Methodref 4 26 ∷ constants.Methodref 12 26
    ∷ constants.InterfaceMethodref 8 26 ∷ constants.InterfaceMethodref 10 26 ∷ constants.InterfaceMethodref 12 26
    ∷ constants.NameAndType 21 25 ∷ constants.Methodref 4 33 ∷ []

-- the constructors without arguments of C (38), p/B (39) and java/lang/Object (40), and that of C with an int (43)
abbrev pub constructor_constants : List Entry
constructor_constants =
    constants.Utf8 (codes "<init>") ∷ constants.Utf8 (codes "()V") ∷ constants.NameAndType 35 36
    ∷ constants.Methodref 2 37 ∷ constants.Methodref 4 37 ∷ constants.Methodref 6 37
    ∷ constants.Utf8 (codes "(I)V") ∷ constants.NameAndType 35 41 ∷ constants.Methodref 2 42 ∷ []

-- 44 an int, 45 a string, 46 a long, which takes 47 too; 49 and 51 arrays of 254 and of 255 dimensions; 53 and 54 the
-- methods I.m and J.m as those of classes; 55 java/lang/Throwable; 57 a field m of p/B, which isn't there; 60 p/B.a
abbrev pub other_constants : List Entry
other_constants =
    constants.Integer 7 ∷ constants.String 15 ∷ constants.Long 0 1
    ∷ constants.Utf8 (replicate 254 91 ++ codes "I") ∷ constants.Class 48 ∷ constants.Utf8 (replicate 255 91 ++ codes "I")
    ∷ constants.Class 50
    ∷ constants.Utf8 (codes "java/lang/Throwable") ∷ constants.Methodref 8 26 ∷ constants.Methodref 10 26 ∷ constants.Class 52
    ∷ constants.NameAndType 24 16 ∷ constants.Fieldref 4 56 ∷ constants.Utf8 (codes "a") ∷ constants.NameAndType 58 16
    ∷ constants.Fieldref 4 59 ∷ []

abbrev pub current : Class
current = record (class_with 1 (codes "C") (Some (codes "p/B")) (codes "I" ∷ []) []) {
  constant_pool = class_constants ++ (field_constants ++ (method_constants ++ (constructor_constants ++ other_constants)));
}

abbrev pub world : World
world =
    world_of (without_front (class (codes "java/lang/Throwable") object_name [] ∷ system))
    (Holds superclass ∷ Holds (interface (codes "I") [] []) ∷ Holds (interface (codes "J") [] []) ∷ Holds current ∷ [])

-- ---- types

abbrev pub of_class : List ℕ → FrameType
of_class name = types.Class name

abbrev pub c : FrameType
c = of_class (codes "C")

abbrev pub b : FrameType
b = of_class (codes "p/B")

abbrev pub object : FrameType
object = of_class object_name

abbrev pub of_type : ℕ → Element (List ℕ) → FieldTypeOf (List ℕ)
of_type dimensions element = record { dimensions = dimensions; element = element }

-- arrays whose components have so many dimensions
abbrev pub numbers : ℕ → Base → FrameType
numbers dimensions base = types.Array (of_type dimensions (elements.Base base))

abbrev pub objects : List ℕ → FrameType
objects name = types.Array (of_type 0 (elements.Class name))

-- ---- frames, and methods of C. Each has room for four words in its stack. `new C`, `new p/B` and `new java/lang/Object` are
-- at 0, 3 and 6.

abbrev pub frame : List FrameType → List FrameType → Frame
frame locals stack = record { locals = locals; stack = stack; flag_this_uninit = false }

abbrev pub flagged : List FrameType → List FrameType → Frame
flagged locals stack = record { locals = locals; stack = stack; flag_this_uninit = true }

abbrev pub news : List Instruction
news = insns.New 2 ∷ insns.New 4 ∷ insns.New 6 ∷ []

abbrev pub code : List Instruction → CodeSeen
code instructions = record {
  max_stack = 4;
  max_locals = 4;
  code = flat_map insn_bytes instructions;
  exception_table = [];
  stack_map_table = None;
}

abbrev pub method_of_c : List ℕ → Option (FieldTypeOf (List ℕ)) → Environment
method_of_c name result = record {
  world = world;
  site = record {
    by = guest current;
    method = record {
      access_flags = 1;
      name = name;
      descriptor = codes "()V";
      code = Some (code news);
    };
  };
  descriptor = record { parameters = []; result = result };
  code = code news;
  instructions = news;
}

abbrev pub in_m : Environment
in_m = method_of_c (codes "m") None

-- as m, where the file of C has another version
abbrev pub in_m_of_version : ℕ → Environment
in_m_of_version major = record in_m { site = record { by = guest (record current { major_version = major }); method = in_m.site.method } }

abbrev pub in_init : Environment
in_init = method_of_c (codes "<init>") None

-- the same where p/B is below a class A of C's own package, which has a protected field a
abbrev pub below_own_package : Environment
below_own_package =
    record in_m {
      world =
          world_of (without_front (class (codes "java/lang/Throwable") object_name [] ∷ system))
          (Holds (record superclass { super_class = Some (codes "A") })
          ∷ Holds (record (class (codes "A") object_name []) { fields = field 4 (codes "a") ∷ [] })
          ∷ Holds (interface (codes "I") [] []) ∷ Holds (interface (codes "J") [] []) ∷ Holds current ∷ []);
    }

-- ---- what is left behind an instruction at 9

abbrev pub behind : Instruction → Frame → Option Frame
behind insn frame = rule in_m 9 insn frame

-- of the stack, the top first, with an int, a long and a C in the local variables
abbrev pub on_stack_in : Environment → Instruction → List FrameType → Option (List FrameType)
on_stack_in env insn stack = option_map (λ f. f.stack) (rule env 9 insn (frame (types.Int ∷ types.Long ∷ types.Top ∷ c ∷ []) stack))

abbrev pub on_stack : Instruction → List FrameType → Option (List FrameType)
on_stack insn stack = on_stack_in in_m insn stack

-- of these local variables
abbrev pub in_locals : Instruction → List FrameType → List FrameType → Option (List FrameType)
in_locals insn locals stack = option_map (λ f. f.locals) (behind insn (frame locals stack))

-- behind instructions that follow one another from 9 on
abbrev pub behind_all : Environment → ℕ → List Instruction → Frame → Option Frame
behind_all env pc [] frame = Some frame
behind_all env pc (insn ∷ more) frame = rule env pc insn frame >>= behind_all env (offset_behind pc insn) more
