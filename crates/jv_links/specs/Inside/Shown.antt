-- What is printed of values of the code.
use Rattle.std.specs.Prelude.{ℕ, Bool, is_some, ◌||◌, List, [], ◌∷◌, ◌++◌, codes, Some}
use Rattle.std.specs.Fmt.{decimal}
use Rattle.jv_pool.specs.Constants.{Entry, interface_method_reference_at, method_reference_at}
use Rattle.jv_pool.specs.Seen.{seen_member}
use Rattle.jv_program_base.specs.Escape.{escaped_text}
use Rattle.jv_links.specs.declared.why.Why.{Why}
use Rattle.jv_links.specs.declared.why.Why.TheVariants as whys
use Rattle.jv_links.specs.Text.{abstract_text, missing_text, no_field_text, no_method_text}

abbrev pub why_shown : Why → List ℕ
why_shown whys.Unsaid = []
why_shown (whys.NoClass name) = missing_text (Some name.now)
why_shown (whys.NoField member) = no_field_text (Some (seen_member member))
why_shown (whys.NoMethod member) = no_method_text (Some (seen_member member))
why_shown (whys.Abstract name) = abstract_text (Some name.now)

-- the error, when it isn't thrown, and why
abbrev pub throws_shown : List ℕ → List ℕ → List ℕ → List ℕ
throws_shown error unless why = codes "  throws " ++ error ++ unless ++ why ++ 10 ∷ []

-- the constant at an index names a method
abbrev pub names_method : List Entry → ℕ → Bool
names_method pool index = is_some (method_reference_at pool index) || is_some (interface_method_reference_at pool index)

-- the method by its number and these texts
abbrev pub named_text : ℕ → List ℕ → List ℕ → List ℕ
named_text number name descriptor =
    codes "  method " ++ decimal number ++ codes ": " ++ escaped_text name ++ escaped_text descriptor ++ 10 ∷ []

-- a block under such a line, where there is one
abbrev pub headed : List ℕ → List ℕ → List ℕ
headed line [] = []
headed line (byte ∷ more) = line ++ byte ∷ more
