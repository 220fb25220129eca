-- The members of the objects that reports are as JSON (own).
use Rattle.std.specs.Prelude.{ℕ, List, ◌++◌, codes, Option, Some, None, if◌then◌else◌}
use Rattle.std.specs.Str.{is_utf8}
use Rattle.base64.specs.GeneralPurpose.{encode_of}
use Rattle.base64.specs.Engines.{standard}
use Rattle.serde_json.specs.Data.{Members, number, put, string, unsigned}
use Rattle.jv_meaning_typing.specs.declared.verdict.VerifyFault.{VerifyFault}
use Rattle.jv_meaning_typing.specs.declared.verdict.Verdict.{Verdict}
use Rattle.jv_meaning_typing.specs.declared.verdict.Verdict.TheVariants.{Refused, Verify, Accepted}
use Rattle.jv_program_base.specs.Escape.{escaped_text}
use Rattle.jv_program_base.specs.Verdict.{reason_name, rule_number}

abbrev pub with_number : (name : List ℕ) → ℕ → Members → Members
with_number name n members = put name (number (unsigned n)) members

abbrev pub with_text : (name text : List ℕ) → Members → Members
with_text name text members = put name (string text) members

-- Bytes that are no UTF-8: as the other reports escape them, and whole, in base64 (RFC 4648, 4), under a name of their own.
abbrev pub with_escaped : (name bytes : List ℕ) → Members → Members
with_escaped name bytes members =
    with_text (name ++ codes "_base64") (encode_of standard bytes) (with_text name (escaped_text bytes) members)

-- bytes: the text that they are in UTF-8, where they are one
abbrev pub with_bytes : (name bytes : List ℕ) → Members → Members
with_bytes name bytes members = if is_utf8 bytes then with_text name bytes members else with_escaped name bytes members

-- a line of source, where there is one
abbrev pub with_line : Option ℕ → Members → Members
with_line None members = members
with_line (Some line) members = with_number (codes "line") line members

-- which rule a method breaks, and where
abbrev pub with_fault : VerifyFault → Members → Members
with_fault fault members =
    with_number (codes "rule") (rule_number fault.rule)
    (with_number (codes "offset") fault.offset (with_number (codes "method") fault.method members))

-- a verdict by its name, and its numbers
abbrev pub with_verdict : Verdict → Members → Members
with_verdict (Refused reason) members = with_text (codes "verdict") (reason_name reason) members
with_verdict (Verify fault) members = with_fault fault (with_text (codes "verdict") (codes "Verify") members)
with_verdict Accepted members = with_text (codes "verdict") (codes "Accepted") members
