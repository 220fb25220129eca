-- What is written is read back.
use Rattle.std.proofs.Common.{refl}
use Rattle.jv_asm.specs.Law.{WrittenReadsBack}

pub written_reads_back : WrittenReadsBack
written_reads_back = record {
  fits = λ c h. record { pool = h.well_formed.pool.fits; body = h.well_formed.fits };
  reads = λ c h. record { spelled = refl; version = h.version; well_formed = h.well_formed };
  alone = λ one c d h e. one.same _ d c e (record { spelled = refl; version = h.version; well_formed = h.well_formed });
}
