-- Where an object is thrown, by what is kept of the frames (JVMS 2.6, 2.10; own).
use Rattle.std.specs.Prelude.{List, [], ◌∷◌, Option, Some, None}
use Rattle.jv_interp_words.specs.declared.records.FrameRecord.{FrameRecord}
use Rattle.jv_interp_words.specs.declared.records.FrameRecord.TheVariants as records
use Rattle.jv_interp_control.specs.declared.control.PlaceRecord.{PlaceRecord}

-- at the instruction of the first that is a method's, the newest first
abbrev pub record_place : List FrameRecord → Option PlaceRecord
record_place [] = None
record_place (records.Runs kept ∷ below) = Some (record { method = kept.method; pc = kept.pc })
record_place (records.Initializes kept ∷ below) = record_place below
