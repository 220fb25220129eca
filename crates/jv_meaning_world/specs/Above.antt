-- What is above a class (JVMS 5.3.5): its superclasses and superinterfaces at any distance.
use Rattle.std.specs.Prelude.{ℕ, zero, suc, Bool, List, [], ◌∷◌, ◌++◌, length, Option, Some, None}
use Rattle.std.specs.List.{filter_map, flat_map, list_any}
use Rattle.std.specs.Str.{bytes_eq}
use Rattle.jv_class.specs.Class.{Class}
use Rattle.jv_meaning_world.specs.World.{Loaded, World, class_named}

-- the names of the direct supers: the superclass, and the superinterfaces in the order of the file
abbrev pub superclass_names : Option (List ℕ) → List (List ℕ)
superclass_names None = []
superclass_names (Some name) = name ∷ []

abbrev pub super_names : Class → List (List ℕ)
super_names class = superclass_names class.super_class ++ class.interfaces

-- the direct supers that are in the world
abbrev pub supers_in : World → Class → List Loaded
supers_in world class = filter_map (class_named world) (super_names class)

-- the supers at a distance of at most so many steps more than one
abbrev pub above_within : World → ℕ → Class → List Loaded
above_within world zero class = supers_in world class
above_within world (suc k) class = supers_in world class ++ flat_map (λ s. above_within world k s.class) (supers_in world class)

-- at any distance: no way up that meets each class once is longer than there are classes
abbrev pub above : World → Class → List Loaded
above world class = above_within world (length world) class

abbrev pub is_above : World → List ℕ → Class → Bool
is_above world name class = list_any (λ s. bytes_eq s.class.name name) (above world class)

-- the class is among its own superclasses and superinterfaces
abbrev pub is_circular : World → Class → Bool
is_circular world class = is_above world class.name class

-- ---- superclasses alone

abbrev pub class_if_named : World → Option (List ℕ) → Option Loaded
class_if_named world None = None
class_if_named world (Some name) = class_named world name

abbrev pub superclass_in : World → Class → Option Loaded
superclass_in world class = class_if_named world class.super_class

-- the superclasses, the direct one first, at most so many
abbrev pub chain_within : World → ℕ → Option Loaded → List Loaded
chain_within world zero l = []
chain_within world (suc k) None = []
chain_within world (suc k) (Some l) = l ∷ chain_within world k (superclass_in world l.class)

abbrev pub superclasses : World → Class → List Loaded
superclasses world class = chain_within world (length world) (superclass_in world class)
