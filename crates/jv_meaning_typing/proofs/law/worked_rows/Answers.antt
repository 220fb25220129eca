use Rattle.std.proofs.Common.{refl}
use Rattle.jv_meaning_typing.proofs.law.worked_rows.Goals as goal

pub returns : goal.returns
returns c = record {
  one_word = record {
    pop = refl;
    pop_long = refl;
    pop_none = refl;
    pop_top = refl;
    dup = refl;
    dup_long = refl;
    dup_uninitialized = refl;
    swap = refl;
    swap_long = refl;
    swap_below_long = refl;
  };
  copies = record {
    dup_x1 = refl;
    dup_x1_long = refl;
    dup_x2 = refl;
    dup_x2_long = refl;
    dup_x2_half = refl;
    dup_x2_of_long = refl;
  };
  two_words = record {
    pop2 = refl;
    pop2_long = refl;
    pop2_half = refl;
    pop2_one = refl;
    dup2 = refl;
    dup2_long = refl;
    dup2_half = refl;
    dup2_x1 = refl;
    dup2_x1_long = refl;
    dup2_x1_half = refl;
  };
  four_words = record {
    words = refl;
    long_over_words = refl;
    words_over_long = refl;
    longs = refl;
    half_taken = refl;
    half_passed = refl;
    top_passed = refl;
  };
  numbers = record {
    iconst = refl;
    lconst = refl;
    iadd = refl;
    iadd_long = refl;
    iadd_one = refl;
    ladd = refl;
    ladd_int = refl;
    lshl = refl;
    lshl_long = refl;
    lcmp = refl;
    idiv = refl;
    lrem_int = refl;
  };
  conversions = record {
    i2l = refl;
    i2l_long = refl;
    l2i = refl;
    i2b = refl;
    ineg = refl;
    ineg_null = refl;
    lneg = refl;
  };
  constants = record {
    null = refl;
    int = refl;
    string = refl;
    class = refl;
    long_as_word = refl;
    long = refl;
    second_of_long = refl;
    int_as_long = refl;
    fourth_word = refl;
    fifth_word = refl;
    long_as_fifth = refl;
  };
  branches = record {
    ifeq = refl;
    ifeq_null = refl;
    if_icmplt = refl;
    if_icmplt_long = refl;
    if_acmpeq = refl;
    if_acmpeq_int = refl;
    ifnull = refl;
    ifnull_int = refl;
    ifnull_top = refl;
    goto = refl;
    tableswitch = refl;
    tableswitch_long = refl;
    lookupswitch = refl;
  };
  loads = record {
    iload = refl;
    lload = refl;
    aload = refl;
    iload_long = refl;
    lload_half = refl;
    aload_int = refl;
    aload_outside = refl;
    iinc = refl;
    iinc_long = refl;
    iinc_outside = refl;
  };
  stores = record {
    istore = refl;
    over_first_half = refl;
    over_second_half = refl;
    long_over_first_half = refl;
    long_over_second_half = refl;
    long_over_itself = refl;
    long_outside = refl;
    outside = refl;
  };
  stored_kinds = record {
    uninitialized = refl;
    null = refl;
    int_as_reference = refl;
    null_as_int = refl;
    int_as_long = refl;
    top = refl;
    nothing = refl;
    keeps_flag = refl;
  };
  number_arrays = record {
    iaload = refl;
    iaload_null = refl;
    iaload_shorts = refl;
    iaload_arrays = refl;
    iaload_at_long = refl;
    laload = refl;
    baload = refl;
    baload_booleans = refl;
    baload_chars = refl;
    castore = refl;
    lastore = refl;
    lastore_int = refl;
  };
  reference_arrays = record {
    aaload = refl;
    aaload_null = refl;
    aaload_arrays = refl;
    aaload_ints = refl;
    aaload_missing = refl;
    aaload_class = refl;
    aastore = refl;
    aastore_null = refl;
    aastore_arrays = refl;
    aastore_ints = refl;
    aastore_int = refl;
    aastore_uninitialized = refl;
    aastore_missing = refl;
  };
  new_arrays = record {
    newarray = refl;
    newarray_long = refl;
    anewarray = refl;
    anewarray_arrays = refl;
    anewarray_last = refl;
    anewarray_too_many = refl;
    anewarray_other_kind = refl;
    multianewarray = refl;
    multianewarray_fewer = refl;
    multianewarray_more = refl;
    multianewarray_count = refl;
    multianewarray_class = refl;
  };
  lengths = record {
    arraylength = refl;
    arraylength_null = refl;
    arraylength_object = refl;
  };
  returns = record {
    return = refl;
    return_flag = refl;
    ireturn_void = refl;
    ireturn = refl;
    return_int = refl;
    ireturn_long = refl;
    lreturn = refl;
    areturn = refl;
    areturn_above = refl;
    areturn_uninitialized = refl;
  };
  new = record {
    new = refl;
    new_on_stack = refl;
    new_array = refl;
    new_other_kind = refl;
  };
  casts = record {
    checkcast = refl;
    checkcast_null = refl;
    checkcast_int = refl;
    checkcast_uninitialized = refl;
    checkcast_missing = refl;
    instanceof = refl;
    instanceof_other_kind = refl;
    athrow = refl;
    athrow_null = refl;
    athrow_object = refl;
  };
  init = record {
    all_copies = refl;
    with_argument = refl;
    wrong_argument = refl;
    other_class = refl;
    superclass = refl;
    no_new_there = refl;
    twice = refl;
    guarded = refl;
    of_object = refl;
  };
  init_this = record {
    super = refl;
    this = refl;
    further_up = refl;
    of_new = refl;
    by_invokevirtual = refl;
    by_invokestatic = refl;
  };
  fields = record {
    getstatic = refl;
    putstatic = refl;
    putstatic_long = refl;
    of_array = refl;
    other_kind = refl;
    getfield = refl;
    getfield_null = refl;
    getfield_above = refl;
    getfield_this = refl;
    guarded = refl;
    guarded_on_current = refl;
    static_is_not_guarded = refl;
    missing_is_not_guarded = refl;
    own_package_is_not_guarded = refl;
    guarded_above = refl;
  };
  put_fields = record {
    putfield = refl;
    putfield_value = refl;
    guarded = refl;
    this = refl;
    this_of_superclass = refl;
    this_in_m = refl;
    of_new = refl;
  };
  virtual = record {
    invokevirtual = refl;
    arguments = refl;
    receiver = refl;
    uninitialized = refl;
    guarded = refl;
    guarded_on_current = refl;
    static_is_not_guarded = refl;
    of_array = refl;
    of_interface = refl;
  };
  static = record {
    invokestatic = refl;
    of_interface = refl;
    of_array = refl;
    of_array_as_interface = refl;
    arguments = refl;
    other_kind = refl;
  };
  interface = record {
    invokeinterface = refl;
    fewer = refl;
    zero = refl;
    of_class = refl;
    of_array = refl;
    on_array = refl;
    on_uninitialized = refl;
  };
  special = record {
    superclass = refl;
    own = refl;
    on_superclass = refl;
    interface = refl;
    other_interface = refl;
    interface_as_class = refl;
    other_as_class = refl;
    array = refl;
  };
  older = record {
    static = refl;
    static_of_interface = refl;
    static_of_interface_50 = refl;
    static_of_interface_52 = refl;
    special = refl;
    special_of_interface = refl;
    interface_as_class = refl;
    init = refl;
    virtual = refl;
    interface = refl;
  };
  handlers = record {
    plain = refl;
    new = refl;
    super = refl;
    of_new = refl;
    wrong_argument = refl;
    initialized = refl;
    too_few = refl;
    other_method = refl;
  };
  int_as_object = record {
    before = refl;
    areturn = refl;
  };
  construction = record {
    call_before = refl;
    constructed = refl;
    no_super = refl;
    with_super = refl;
    twice = refl;
    handler_over_super = refl;
  };
  half = record {
    stored = refl;
    loaded = refl;
  };
  starts = record {
    first = refl;
    inside = refl;
    second = refl;
    end = refl;
    last = refl;
    made_by_new = refl;
    made_by_none = refl;
    made_at_end = refl;
  };
  arguments = record {
    words = refl;
    static_words = refl;
    first = refl;
    static_first = refl;
    constructor_first = refl;
  };
  catches = record {
    any = refl;
    throwable = refl;
    object = refl;
    array = refl;
    interface = refl;
    other_kind = refl;
  };
  covers = record {
    merged = refl;
    last = refl;
    no_map = refl;
    other_local = refl;
    empty_stack = refl;
    other_type = refl;
    before = refl;
    behind = refl;
    second = refl;
    second_without_map = refl;
  };
  over_super = record {
    as_before = refl;
    without = refl;
    constructed = refl;
  };
  targets = record {
    forward = refl;
    backward = refl;
    no_map = refl;
    before_code = refl;
    other_frame = refl;
    behind_test = refl;
    before_test = refl;
    switch = refl;
    switch_other = refl;
    switch_default = refl;
    no_target = refl;
  };
  ends = record {
    return = refl;
    areturn = refl;
    athrow = refl;
    goto = refl;
    switch = refl;
    ifeq = refl;
    nop = refl;
  };
}
