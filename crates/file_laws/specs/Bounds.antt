-- How large our writer's parts are.
--   Sized ps      a block's points: 1 to 1,000
--   Bounded m     an image has at most 15 bytes for each byte of its roll, and the 13 of the bare image
use Rattle.std.specs.Prelude.{◌+◌, ◌*◌, ◌≤◌, List, length}
use Rattle.format.specs.Meaning.{Point, Meaning}
use Rattle.format.specs.Roll.{writer_roll}
use Rattle.format.specs.Writer.{writer_image}

-- "The writer cuts each series into blocks of 1,000 points, the rest last."
abbrev pub Sized : List Point → Type 0
Sized ps = (1 ≤ length ps) × (length ps ≤ 1_000)

-- so that no image of a roll of 65,536 bytes passes 1,048,576
abbrev pub Bounded : Meaning → Type 0
Bounded m = length (writer_image m) ≤ length (writer_roll m) * 15 + 13
