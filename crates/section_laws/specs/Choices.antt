-- The tests by which our writer takes the form of a timestamps or an integers section.
--   repeats    so many numbers, all equal: one of them and their count state them (form 2)
--   small      every number can be packed (form 1)
--   packable   every difference divided by 10^e can be packed (form 1)
use Rattle.std.specs.Prelude.{ℕ, ◌/◌, ◌^◌, Bool, ◌&&◌, List, leb, length}
use Rattle.format.specs.Limits.{packed_most}
use Rattle.format.specs.Choice.{every, all_equal}

-- at least so many numbers, all equal to the first
abbrev pub repeats : (least : ℕ) → List ℕ → Bool
repeats least xs = leb least (length xs) && all_equal xs

-- numbers are small enough to be packed
abbrev pub small : List ℕ → Bool
small xs = every (λ x. leb x packed_most) xs

-- differences divided by 10^e are small enough to be packed
abbrev pub packable : (e : ℕ) → List ℕ → Bool
packable e ds = every (λ d. leb (d / 10 ^ e) packed_most) ds
