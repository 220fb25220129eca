use Rattle.std.proofs.Common.{refl}
use Rattle.jv_code.specs.declared.kinds.NumberElement.TheVariants as numbers
use Rattle.jv_interp_heap.specs.declared.narrowing.Narrowing.TheVariants as narrowings
use Rattle.jv_interp_instructions.proofs.ArraysStored.{keeps_int, keeps_long, keeps_char, keeps_short, stored, byte_stored}
use Rattle.jv_interp_instructions.proofs.array_stores.execute_array_store.Goals as goal

pub returns-in-Int-clause-done : goal.returns-in-Int-clause-done
returns-in-Int-clause-done g c =
    rw c.in-Int.is (λ k texts. stored _ k texts _ _ _ _ numbers.Int 1 refl narrowings.Whole keeps_int _ _ _ c.store_int.ensures.stores)

pub returns-in-Long-clause-done : goal.returns-in-Long-clause-done
returns-in-Long-clause-done g c =
    rw c.in-Long.is (λ k texts. stored _ k texts _ _ _ _ numbers.Long 2 refl narrowings.Whole keeps_long _ _ _ c.store_long.ensures.stores)

pub returns-in-ByteOrBoolean-clause-done : goal.returns-in-ByteOrBoolean-clause-done
returns-in-ByteOrBoolean-clause-done g c = rw c.in-ByteOrBoolean.is (λ k texts. byte_stored _ k texts _ _ _ _ _ _ _ c.store_byte.ensures.stores)

pub returns-in-Char-clause-done : goal.returns-in-Char-clause-done
returns-in-Char-clause-done g c =
    rw c.in-Char.is (λ k texts. stored _ k texts _ _ _ _ numbers.Char 1 refl narrowings.Char keeps_char _ _ _ c.store_int-in-Char.ensures.stores)

pub returns-in-Short-clause-done : goal.returns-in-Short-clause-done
returns-in-Short-clause-done g c =
    rw c.in-Short.is (λ k texts. stored _ k texts _ _ _ _ numbers.Short 1 refl narrowings.Short keeps_short _ _ _ c.store_int-in-Short.ensures.stores)
