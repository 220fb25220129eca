-- How formats are put together, for the readers of lists, choices and parts. Only contracts of readers and proofs use these.
use Rattle.std.specs.Prelude.{ℕ, zero, suc, ◌^◌, ℤ, pos, negsuc, Bool, false, ◌&&◌, List, [], ◌∷◌, ◌++◌, length, Option, Some, None, nat_lt, ◌==◌, if◌then◌else◌}
use Rattle.std.specs.Int.{Width, cast_signed, cast_unsigned}
use Rattle.std.specs.List.{flat_map, list_all}
use Rattle.jv_format.specs.Format.{Format, ◌>>=◌, quad, front}

-- one after the other
abbrev pub both : {A B : Type 0} → Format A → Format B → Format (A × B)
both f g = record {
  spelling = λ p. f.spelling p.0 ++ g.spelling p.1;
  fits = λ p. f.fits p.0 && g.fits p.1;
  read = λ bytes. f.read bytes >>= λ a. g.read a.1 >>= λ b. Some ((a.0, b.0), b.1);
}

-- as many as the number says
abbrev pub list_read : {A : Type 0} → Format A → ℕ → List ℕ → Option (List A × List ℕ)
list_read f zero bytes = Some ([], bytes)
list_read f (suc n) bytes = f.read bytes >>= λ x. list_read f n x.1 >>= λ xs. Some (x.0 ∷ xs.0, xs.1)

abbrev pub list_of : {A : Type 0} → ℕ → Format A → Format (List A)
list_of n f = record { spelling = flat_map f.spelling; fits = λ xs. length xs == n && list_all f.fits xs; read = list_read f n }

-- nothing has this format
abbrev pub never : {A : Type 0} → Format A
never = record { spelling = λ _. []; fits = λ _. false; read = λ _. None }

-- a value that may be there: its bytes
abbrev pub spelled_at : {A : Type 0} → Format A → Option A → List ℕ
spelled_at f None = []
spelled_at f (Some a) = f.spelling a

-- and whether it fits
abbrev pub fits_at : {A : Type 0} → Format A → Option A → Bool
fits_at f None = false
fits_at f (Some a) = f.fits a

-- what was found, seen as another value
abbrev pub found_as : {A C : Type 0} → (A → C) → A × List ℕ → Option (C × List ℕ)
found_as to a = Some (to a.0, a.1)

-- the values `to a`, spelled as a is
abbrev pub case_of : {A C : Type 0} → (A → C) → (C → Option A) → Format A → Format C
case_of to from f =
    record { spelling = λ c. spelled_at f (from c); fits = λ c. fits_at f (from c); read = λ bytes. f.read bytes >>= found_as to }

-- one value tells the format of what follows: key says which stands before a value
abbrev pub then_read : {A B : Type 0} → (B → Format A) → B × List ℕ → Option (A × List ℕ)
then_read g b = (g b.0).read b.1

abbrev pub after : {A B : Type 0} → Format B → (A → B) → (B → Format A) → Format A
after h key g = record {
  spelling = λ a. h.spelling (key a) ++ (g (key a)).spelling a;
  fits = λ a. h.fits (key a) && (g (key a)).fits a;
  read = λ bytes. h.read bytes >>= then_read g;
}

-- the values that pass a test
abbrev pub passed : {A : Type 0} → (A → Bool) → A × List ℕ → Option (A × List ℕ)
passed test x = if test x.0 then Some x else None

abbrev pub such_that : {A : Type 0} → (A → Bool) → Format A → Format A
such_that test f = record { spelling = f.spelling; fits = λ a. f.fits a && test a; read = λ bytes. f.read bytes >>= passed test }

-- this many bytes
abbrev pub bytes_of : ℕ → Format (List ℕ)
bytes_of n = record { spelling = λ t. t; fits = λ t. length t == n; read = λ bytes. front (n, bytes) }

-- whether a signed number has this many bits beside its sign
abbrev pub signed_fits : ℕ → ℤ → Bool
signed_fits n (pos k) = nat_lt k (2 ^ n)
signed_fits n (negsuc k) = nat_lt k (2 ^ n)

-- a number in two's complement
abbrev pub signed_read : Width → ℕ × List ℕ → Option (ℤ × List ℕ)
signed_read w n = Some (cast_signed w n.0, n.1)

abbrev pub signed : Width → ℕ → Format ℕ → Format ℤ
signed w n f =
    record { spelling = λ z. f.spelling (cast_unsigned w z); fits = signed_fits n; read = λ bytes. f.read bytes >>= signed_read w }

-- one value, and one of a format that it tells
abbrev pub joined : {A B : Type 0} → B × List ℕ → A × List ℕ → Option ((B × A) × List ℕ)
joined b a = Some ((b.0, a.0), a.1)

abbrev pub second_read : {A B : Type 0} → (B → Format A) → B × List ℕ → Option ((B × A) × List ℕ)
second_read g b = (g b.0).read b.1 >>= joined b

abbrev pub paired : {A B : Type 0} → Format B → (B → Format A) → Format (B × A)
paired h g = record {
  spelling = λ p. h.spelling p.0 ++ (g p.0).spelling p.1;
  fits = λ p. h.fits p.0 && (g p.0).fits p.1;
  read = λ bytes. h.read bytes >>= second_read g;
}

-- bytes behind their number, in four bytes
abbrev pub contents : Format (List ℕ)
contents = after quad length bytes_of

-- a value that was found, where nothing follows it
abbrev pub at_the_end : {A : Type 0} → List ℕ → A → List ℕ → Option (A × List ℕ)
at_the_end rest a [] = Some (a, rest)
at_the_end rest a (x ∷ more) = None

abbrev pub whole : {A : Type 0} → List ℕ → A × List ℕ → Option (A × List ℕ)
whole rest a = at_the_end rest a.0 a.1

-- a value that takes the whole of such contents
abbrev pub enclosed_read : {A : Type 0} → Format A → List ℕ × List ℕ → Option (A × List ℕ)
enclosed_read f t = f.read t.0 >>= whole t.1

abbrev pub enclosed : {A : Type 0} → Format A → Format A
enclosed f = record {
  spelling = λ a. contents.spelling (f.spelling a);
  fits = λ a. quad.fits (length (f.spelling a)) && f.fits a;
  read = λ bytes. contents.read bytes >>= enclosed_read f;
}
