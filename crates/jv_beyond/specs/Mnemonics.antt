-- The mnemonics of the opcodes that the profile leaves out (JVMS 6.5, 7).
use Rattle.std.specs.Prelude.{ℕ, ◌==◌, List, [], ◌∷◌, codes, if◌then◌else◌}

abbrev pub mnemonics : List (ℕ × List ℕ)
mnemonics =
    (11, codes "fconst_0") ∷
    (12, codes "fconst_1") ∷
    (13, codes "fconst_2") ∷
    (14, codes "dconst_0") ∷
    (15, codes "dconst_1") ∷
    (23, codes "fload") ∷
    (24, codes "dload") ∷
    (34, codes "fload_0") ∷
    (35, codes "fload_1") ∷
    (36, codes "fload_2") ∷
    (37, codes "fload_3") ∷
    (38, codes "dload_0") ∷
    (39, codes "dload_1") ∷
    (40, codes "dload_2") ∷
    (41, codes "dload_3") ∷
    (48, codes "faload") ∷
    (49, codes "daload") ∷
    (56, codes "fstore") ∷
    (57, codes "dstore") ∷
    (67, codes "fstore_0") ∷
    (68, codes "fstore_1") ∷
    (69, codes "fstore_2") ∷
    (70, codes "fstore_3") ∷
    (71, codes "dstore_0") ∷
    (72, codes "dstore_1") ∷
    (73, codes "dstore_2") ∷
    (74, codes "dstore_3") ∷
    (81, codes "fastore") ∷
    (82, codes "dastore") ∷
    (98, codes "fadd") ∷
    (99, codes "dadd") ∷
    (102, codes "fsub") ∷
    (103, codes "dsub") ∷
    (106, codes "fmul") ∷
    (107, codes "dmul") ∷
    (110, codes "fdiv") ∷
    (111, codes "ddiv") ∷
    (114, codes "frem") ∷
    (115, codes "drem") ∷
    (118, codes "fneg") ∷
    (119, codes "dneg") ∷
    (134, codes "i2f") ∷
    (135, codes "i2d") ∷
    (137, codes "l2f") ∷
    (138, codes "l2d") ∷
    (139, codes "f2i") ∷
    (140, codes "f2l") ∷
    (141, codes "f2d") ∷
    (142, codes "d2i") ∷
    (143, codes "d2l") ∷
    (144, codes "d2f") ∷
    (149, codes "fcmpl") ∷
    (150, codes "fcmpg") ∷
    (151, codes "dcmpl") ∷
    (152, codes "dcmpg") ∷
    (174, codes "freturn") ∷
    (175, codes "dreturn") ∷
    (186, codes "invokedynamic") ∷
    (194, codes "monitorenter") ∷
    (195, codes "monitorexit") ∷
    []

abbrev pub name_in : List (ℕ × List ℕ) → ℕ → List ℕ
name_in [] opcode = []
name_in ((code, name) ∷ more) opcode = if code == opcode then name else name_in more opcode

-- nothing of any other opcode
unfoldable pub mnemonic : ℕ → List ℕ
mnemonic opcode = name_in mnemonics opcode
