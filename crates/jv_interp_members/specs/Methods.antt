-- The methods of all classes of a world, each at hand by one number (JVMS 4.6): those of a class stand behind those of the classes before
-- it.
use Rattle.std.specs.Prelude.{◌≡◌, ℕ, ◌≤◌, ⊤, List, Option, Some, None, length, map, slice_get, take, All, IsSomeAnd}
use Rattle.jv_code.specs.Insns.{Instruction}
use Rattle.jv_code.specs.Places.{IsCode}
use Rattle.jv_code.specs.declared.code.Code.{Code}
use Rattle.jv_meaning_world.specs.World.{Loaded, World}
use Rattle.jv_meaning_world.specs.Overriding.{Declared}
use Rattle.jv_lookups.specs.Places.{method_at}
use Rattle.jv_link_cache.specs.declared.bodies.Body.{Body}
use Rattle.jv_link_cache.specs.Bodies.{IsBody}
use Rattle.jv_interp_words.specs.FramesInWords.{methods_of}
use Rattle.jv_interp_members.specs.declared.methods.MethodRow.{MethodRow}
use Rattle.jv_interp_members.specs.declared.methods.Methods.{Methods}

-- the method at a row's place
abbrev pub method_in : World → MethodRow → Option Declared
method_in world row = method_at world row.place

-- a row's code is its method's, where that has code
abbrev pub HasBody : World → MethodRow → Type 0
HasBody world row = (d : Declared) → method_in world row ≡ Some d → IsBody d.method row.body

-- and where its bytes are instructions it has these, known as such (4.9.1)
abbrev pub HasCode : Option Body → Option Code → Type 0
HasCode None code = ⊤
HasCode (Some body) code =
    (all : List Instruction) → IsCode body.code.code.now all → IsSomeAnd code (λ k. k.bytes.now ≡ body.code.code.now)

abbrev pub HasItsCode : MethodRow → Type 0
HasItsCode row = HasCode row.body row.code

-- it is a method's
pub record IsRowOf (world : World) (d : Declared) (row : MethodRow) : Type 0 where
  pub place : method_in world row ≡ Some d
  pub body : IsBody d.method row.body
  pub code : HasItsCode row

abbrev pub known : Declared → Option Declared
known d = Some d

-- they are those of these methods, in their order
pub record AreRows (world : World) (methods : List Declared) (rows : List MethodRow) : Type 0 where
  pub places : map (method_in world) rows ≡ map known methods
  pub bodies : All (HasBody world) rows
  pub codes : All HasItsCode rows

-- the number of each class's first method
abbrev pub AreFirsts : World → List ℕ → Type 0
AreFirsts world firsts =
    (class : ℕ) (l : Loaded) → slice_get world class ≡ Some l → slice_get firsts class ≡ Some (length (methods_of (take class world)))

-- each method of a world is at hand by its number
pub record AreMethods (world : World) (methods : Methods) : Type 0 where
  pub rows : AreRows world (methods_of world) methods.rows.items
  pub firsts : AreFirsts world methods.firsts.items
  pub few : length methods.rows.items ≤ 4294967295
