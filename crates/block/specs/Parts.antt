-- The parts of a block, as the code reads and tests them.
--   read_parts   the timestamps and the values, by their places
--   ends_match   the first and the last time against an entry
use Rattle.std.specs.Prelude.{ℕ, ◌+◌, ◌-◌, Bool, ◌&&◌, List, ℤ, pos, length, take, drop, get_or}
use Rattle.format.specs.declared.Kind.{Kind}
use Rattle.format.specs.declared.Entry.{Entry}
use Rattle.format.specs.Refusals.{Outcome, ok, ◌>>=◌}
use Rattle.format.specs.Signed.{same_time}
use Rattle.format.specs.Meaning.{Point}
use Rattle.format.specs.Timestamps.{read_times}
use Rattle.format.specs.Block.{read_values, points_from}

-- the timestamps from place `next` up to `split`, and the values after them, of a block that stands at `offset`
unfoldable pub read_parts : Kind → (offset next split : ℕ) → List ℕ → Outcome (List Point)
read_parts kind offset next split s = do
  ts ← read_times (next + offset) (take (split - next) (drop next s))
  vs ← read_values kind (length ts) (split + offset) (drop split s)
  ok (points_from ts vs)

-- the first and the last of some times are those of the entry
abbrev pub ends_match : List ℤ → Entry → Bool
ends_match times entry = same_time (get_or times 0 (pos 0)) entry.min && same_time (get_or times (length times - 1) (pos 0)) entry.max
