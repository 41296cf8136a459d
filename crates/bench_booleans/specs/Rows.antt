-- A row of n values read from a booleans section, as the benchmark asks for it.
--   read_number   what a reading answers, as a number
--   row_number    0 where the section is read, 1 where it is refused, 2 where the lent slice is too short
--   row_values    the lent slice afterwards
use Rattle.std.specs.Prelude.{ℕ, List, length, leb, if◌then◌else◌, Result, Ok, Err}
use Rattle.format.specs.Booleans.{read_booleans}
use Rattle.format.specs.Acts.{laid}
use Rattle.format.specs.declared.Broken.{Broken}
use Rattle.booleans.specs.Section.{answer_of}

abbrev pub read_number : Result (Unit {0}) Broken → ℕ
read_number (Ok u) = 0
read_number (Err broken) = 1

abbrev pub row_number : (n : ℕ) (section values : List ℕ) → ℕ
row_number n section values = if leb n (length values) then read_number (answer_of (read_booleans n 0 section)) else 2

abbrev pub row_values : (n : ℕ) (section values : List ℕ) → List ℕ
row_values n section values = if leb n (length values) then laid (read_booleans n 0 section) values else values
