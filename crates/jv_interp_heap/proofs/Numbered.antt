-- The system's classes have the same numbers in the world of each guest: computed, with the library and the guest's classes as variables.
use Rattle.std.proofs.Common.{[], ◌∷◌, refl}
use Rattle.jv_interp_heap.specs.SystemNumbers.{SystemHasNumbers}

pub system_numbers : SystemHasNumbers
system_numbers [] contents =
    record {
      string = record { l = _; named = refl; at = refl };
      error = record { l = _; named = refl; at = refl };
      arithmetic = record { l = _; named = refl; at = refl };
      array_store = record { l = _; named = refl; at = refl };
      class_cast = record { l = _; named = refl; at = refl };
      negative_size = record { l = _; named = refl; at = refl };
      null_pointer = record { l = _; named = refl; at = refl };
      array_index = record { l = _; named = refl; at = refl };
      out_of_memory = record { l = _; named = refl; at = refl };
      stack_overflow = record { l = _; named = refl; at = refl };
      circularity = record { l = _; named = refl; at = refl };
      in_initializer = record { l = _; named = refl; at = refl };
      class_change = record { l = _; named = refl; at = refl };
      no_class = record { l = _; named = refl; at = refl };
      verify = record { l = _; named = refl; at = refl };
      abstract_method = record { l = _; named = refl; at = refl };
      illegal_access = record { l = _; named = refl; at = refl };
      instantiation = record { l = _; named = refl; at = refl };
      no_field = record { l = _; named = refl; at = refl };
      no_method = record { l = _; named = refl; at = refl };
    }
system_numbers (c ∷ given) contents =
    record {
      string = record { l = _; named = refl; at = refl };
      error = record { l = _; named = refl; at = refl };
      arithmetic = record { l = _; named = refl; at = refl };
      array_store = record { l = _; named = refl; at = refl };
      class_cast = record { l = _; named = refl; at = refl };
      negative_size = record { l = _; named = refl; at = refl };
      null_pointer = record { l = _; named = refl; at = refl };
      array_index = record { l = _; named = refl; at = refl };
      out_of_memory = record { l = _; named = refl; at = refl };
      stack_overflow = record { l = _; named = refl; at = refl };
      circularity = record { l = _; named = refl; at = refl };
      in_initializer = record { l = _; named = refl; at = refl };
      class_change = record { l = _; named = refl; at = refl };
      no_class = record { l = _; named = refl; at = refl };
      verify = record { l = _; named = refl; at = refl };
      abstract_method = record { l = _; named = refl; at = refl };
      illegal_access = record { l = _; named = refl; at = refl };
      instantiation = record { l = _; named = refl; at = refl };
      no_field = record { l = _; named = refl; at = refl };
      no_method = record { l = _; named = refl; at = refl };
    }
