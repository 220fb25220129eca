-- Values of reports have no floating point.
use Rattle.std.proofs.Common.{◌≡◌, ℕ, Bool, true, false, List, [], ◌∷◌, ◌++◌, All, Ordering, Less, Equal, Greater, Option, Some, None, codes, refl, ap, subst, ◌∙◌, cond}
use Rattle.std.specs.Prelude.{◌||◌, slice_get}
use Rattle.std.specs.Str.{is_utf8}
use Rattle.std.specs.Ordering.{nat_cmp, match_ordering}
use Rattle.std.specs.Cmp.Lexicographic.{slice_cmp}
use Rattle.std.proofs.lemmas.List.Elements.{All-cons, All-head, All-nil, All-tail}
use Rattle.std.proofs.lemmas.Option.{get_or_from_slice_get, slice_get_within}
use Rattle.base64.specs.GeneralPurpose.{encode_of}
use Rattle.base64.specs.Engines.{standard}
use Rattle.serde_json.specs.Data.{Data, Members, array, member, no_members, number, put, string, unsigned}
use Rattle.serde_json.specs.View.{items_of}
use Rattle.serde_json.specs.Written.{has_float, items_have_float, members_have_float}
use Rattle.jv_meaning_typing.specs.declared.verdict.VerifyFault.{VerifyFault}
use Rattle.jv_meaning_typing.specs.declared.verdict.Verdict.{Verdict}
use Rattle.jv_meaning_typing.specs.declared.verdict.Verdict.TheVariants.{Refused, Verify, Accepted}
use Rattle.jv_program_base.specs.Escape.{escaped_text}
use Rattle.jv_program_base.specs.Verdict.{reason_name, rule_number}
use Rattle.jv_json.specs.Members.{with_bytes, with_escaped, with_fault, with_line, with_number, with_text, with_verdict}
use Rattle.jv_json.specs.Files.{explained_value, explained_values, file_members, file_value, file_values, with_files}

-- members without floating point
abbrev pub ArePlain : Members → Type 0
ArePlain members = members_have_float members ≡ false

-- a value that has none
abbrev pub IsPlain : Data → Type 0
IsPlain value = has_float value ≡ false

neither : (a b : Bool) → a ≡ false → b ≡ false → (a || b) ≡ false
neither a b first second = ap (λ (x : Bool). x || b) first ∙ second

one_of_three : (o : Ordering) (a b c : Members) → ArePlain a → ArePlain b → ArePlain c → ArePlain (match_ordering o a b c)
one_of_three Less a b c less same more = less
one_of_three Equal a b c less same more = same
one_of_three Greater a b c less same more = more

first_plain : (a b : Bool) → (a || b) ≡ false → a ≡ false
first_plain false b e = refl
first_plain true b e = absurd cc

rest_plain : (a b : Bool) → (a || b) ≡ false → b ≡ false
rest_plain false b e = e
rest_plain true b e = absurd cc

-- one member more
pub put_plain : (name : List ℕ) (value : Data) (members : Members) → IsPlain value → ArePlain members → ArePlain (put name value members)
put_plain name value no_members is are = neither (has_float value) false is refl
put_plain name value (member other there more) is are =
    let one = first_plain (has_float there) (members_have_float more) are in
    let rest = rest_plain (has_float there) (members_have_float more) are in
    one_of_three (slice_cmp nat_cmp name other) (member name value (member other there more)) (member other value more)
    (member other there (put name value more)) (neither (has_float value) (members_have_float (member other there more)) is are)
    (neither (has_float value) (members_have_float more) is rest)
    (neither (has_float there) (members_have_float (put name value more)) one (put_plain name value more is rest))

pub text_plain : (name text : List ℕ) (members : Members) → ArePlain members → ArePlain (with_text name text members)
text_plain name text members are = put_plain name (string text) members refl are

pub number_plain : (name : List ℕ) (n : ℕ) (members : Members) → ArePlain members → ArePlain (with_number name n members)
number_plain name n members are = put_plain name (number (unsigned n)) members refl are

either : (test : Bool) (a b : Members) → ArePlain a → ArePlain b → ArePlain (cond test a b)
either true a b first second = first
either false a b first second = second

pub bytes_plain : (name bytes : List ℕ) (members : Members) → ArePlain members → ArePlain (with_bytes name bytes members)
bytes_plain name bytes members are =
    let shown = with_text name (escaped_text bytes) members in
    let both = text_plain (name ++ codes "_base64") (encode_of standard bytes) shown (text_plain name (escaped_text bytes) members are) in
    either (is_utf8 bytes) (with_text name bytes members) (with_escaped name bytes members) (text_plain name bytes members are) both

fault_plain : (fault : VerifyFault) (members : Members) → ArePlain members → ArePlain (with_fault fault members)
fault_plain fault members are =
    let method = with_number (codes "method") fault.method members in
    let offset = with_number (codes "offset") fault.offset method in
    number_plain (codes "rule") (rule_number fault.rule) offset
    (number_plain (codes "offset") fault.offset method (number_plain (codes "method") fault.method members are))

pub verdict_plain : (verdict : Verdict) (members : Members) → ArePlain members → ArePlain (with_verdict verdict members)
verdict_plain (Refused reason) members are = text_plain (codes "verdict") (reason_name reason) members are
verdict_plain (Verify fault) members are =
    fault_plain fault (with_text (codes "verdict") (codes "Verify") members) (text_plain (codes "verdict") (codes "Verify") members are)
verdict_plain Accepted members are = text_plain (codes "verdict") (codes "Accepted") members are

file_plain : (name : List ℕ) (verdict : Verdict) → ArePlain (file_members name verdict)
file_plain name verdict = verdict_plain verdict (with_bytes (codes "file") name no_members) (bytes_plain (codes "file") name no_members refl)

pub files_plain : (names : List (List ℕ)) (verdicts : List Verdict) → All IsPlain (file_values names verdicts)
unfolding file_values
files_plain [] verdicts = All-nil IsPlain
files_plain (name ∷ names) [] = All-nil IsPlain
files_plain (name ∷ names) (verdict ∷ verdicts) =
    All-cons IsPlain (file_value name verdict) (file_values names verdicts) (file_plain name verdict) (files_plain names verdicts)

items_plain : (values : List Data) → All IsPlain values → items_have_float (items_of values) ≡ false
items_plain [] all = refl
items_plain (value ∷ values) all =
    neither (has_float value) (items_have_float (items_of values)) (All-head IsPlain value values all)
    (items_plain values (All-tail IsPlain value values all))

pub with_files_plain : (names : List (List ℕ)) (verdicts : List Verdict) (members : Members) → ArePlain members → ArePlain (with_files names verdicts members)
with_files_plain names verdicts members are =
    put_plain (codes "files") (array (items_of (file_values names verdicts))) members
    (items_plain (file_values names verdicts) (files_plain names verdicts)) are

line_plain : (line : Option ℕ) (members : Members) → ArePlain members → ArePlain (with_line line members)
line_plain None members are = are
line_plain (Some line) members are = number_plain (codes "line") line members are

pub explained_plain : (names : List (List ℕ)) (verdicts : List Verdict) (lines : List (Option ℕ)) (said : List (List ℕ))
    → All IsPlain (explained_values names verdicts lines said)
unfolding explained_values
explained_plain [] verdicts lines said = All-nil IsPlain
explained_plain (name ∷ names) [] lines said = All-nil IsPlain
explained_plain (name ∷ names) (verdict ∷ verdicts) [] said = All-nil IsPlain
explained_plain (name ∷ names) (verdict ∷ verdicts) (line ∷ lines) [] = All-nil IsPlain
explained_plain (name ∷ names) (verdict ∷ verdicts) (line ∷ lines) (text ∷ said) =
    All-cons IsPlain (explained_value name verdict line text) (explained_values names verdicts lines said)
    (text_plain (codes "explanation") text (with_line line (file_members name verdict)) (line_plain line (file_members name verdict) (file_plain name verdict)))
    (explained_plain names verdicts lines said)

-- one of values that have none
pub one_plain : (values : List Data) (k : ℕ) (value : Data) → slice_get values k ≡ Some value → All IsPlain values → IsPlain value
one_plain values k value found all =
    subst IsPlain (get_or_from_slice_get values k value value found) (all k value (slice_get_within values k value found))
