use Rattle.std.proofs.Common.{refl}
use Rattle.jv_operands.proofs.law.worked_rows.Goals as goal

pub returns : goal.returns
returns c = record {
  numbers = record {
    met = refl;
    below = refl;
    missing = refl;
    long = refl;
    shift = refl;
  };
  arrays = record {
    bytes = refl;
    references = refl;
    length = refl;
  };
  forms = record {
    pop_long = refl;
    swap = refl;
  };
  locals = record {
    load = refl;
    missing = refl;
    store = refl;
    room = refl;
  };
  fields = record {
    value = refl;
    object = refl;
    this = refl;
    this_in_init = refl;
    no_field = refl;
  };
  calls = record {
    met = refl;
    argument = refl;
    object = refl;
    constructed = refl;
    new = refl;
  };
  returns = record {
    other = refl;
  };
}
