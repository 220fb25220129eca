-- The versions of class files (4.1).
use Rattle.std.specs.Prelude.{ℕ, Bool, ◌&&◌, ◌||◌, ◌==◌, nat_lt}

-- those that this host supports: 50.0, 51.0 and 52.0, which are those of Java SE 6, 7 and 8
abbrev pub is_supported_version : ℕ → ℕ → Bool
is_supported_version minor major = minor == 0 && (major == 50 || major == 51 || major == 52)

-- of a supported version: it is below 52.0
abbrev pub is_below_52 : ℕ → Bool
is_below_52 major = nat_lt major 52
