-- Selectors that a first number rules out: those before the first that is wide enough.
--   search-from    the search may start at the first that it does not
--   search-empty   of no numbers, the last selector
use mathlib.Core.Path.{◌≡◌}
use mathlib.Core.Bool.{false, and-false}
use mathlib.Core.List.{List}
use Prim.Native.Nat.{ℕ, ◌≤◌, ◌<◌}
use native.Mathlib.Omega.{arith}
use borrow.Author.Tests.{lt-leb}
use lib.Dec.{leb}
use lib.ListN.{length, get_or}
use Rattle.format.specs.Simple8b.{selector_count, selector_width, fits_width, selector_for}
use Rattle.section_laws.proofs.Selectors.{fits_selector, count-least}
use Rattle.simple8b.specs.Selectors.{Starts}
use Rattle.simple8b.proofs.Widths.{every-not}
use Rattle.simple8b.proofs.Search.{Searched, search-none}

pub search-from : (xs : List ℕ) (r : ℕ) → (length xs ≡ 0 → ⊥) → Starts (get_or xs 0 0) r → Searched xs r 0
search-from xs r some s = record {
  known = s.known;
  inside = omega arith;
  missed = λ q l. miss q (omega (arith, s.known)) (s.missed q l);
  passed = λ j l. absurd (omega arith);
}
  where
    miss : (q : ℕ) → q < 16 → fits_width (selector_width q) (get_or xs 0 0) ≡ false → fits_selector q xs ≡ false
    miss q h f = rw (every-not (fits_width (selector_width q)) xs (selector_count q) 0 (count-least q h) (omega (arith, some)) f) (and-false (leb (selector_count q) (length xs)))

pub search-empty : (xs : List ℕ) → length xs ≡ 0 → 15 ≡ selector_for xs
search-empty xs e = search-none none (omega arith)
  where
    short : (q : ℕ) → 1 ≤ selector_count q → fits_selector q xs ≡ false
    short q h = rw (lt-leb (selector_count q) (length xs) (omega (arith, e)))

    none : Searched xs 15 0
    none = record {
      known = omega arith;
      inside = omega arith;
      missed = λ q l. short q (count-least q (omega arith));
      passed = λ j l. absurd (omega arith);
    }
