-- The forms of a timestamps or integers section, by the high four bits of its first byte.
use Rattle.std.specs.Prelude.{ℕ, eqb, if◌then◌else◌}

-- how a section lays its numbers: forms 0, 1 and 2, or none of these
pub data Form : Type 0 where
  raw packed repeated unknown : Form

-- the form of a number
abbrev pub form_of : ℕ → Form
form_of n = if eqb n 0 then raw else if eqb n 1 then packed else if eqb n 2 then repeated else unknown
