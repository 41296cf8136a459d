-- A pass over what is written lays it, or only measures it.
--   lay    bytes laid over a list, by a pass that lays
--   Room   where a pass lays, the list reaches so far
use Rattle.std.specs.Prelude.{ℕ, ◌≤◌, Bool, true, false, List, length}
use Rattle.format.specs.Bytes.{splice}

-- bytes laid over a list, by a pass that lays
abbrev pub lay : (laying : Bool) → (at : ℕ) → (new old : List ℕ) → List ℕ
lay true at new old = splice at new old
lay false at new old = old

-- where a pass lays, the list reaches so far
abbrev pub Room : (laying : Bool) → (end : ℕ) → List ℕ → Type 0
Room true end old = end ≤ length old
Room false end old = Unit {0}
