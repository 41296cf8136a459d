-- The structs that the C interface answers by value: what each holds where an act gives values, and where it refuses.
-- On a refusal every field but those of `answer` is 0.
--   accepted_answer, refused_answer   the part that all have: the number 0, or that of the refusal
--   entry_of, no_entry                an entry that is given, and that of a refusal
--   checked_of, found_of, block_of, point_of, written_of   the struct of each answer
use Rattle.std.specs.Prelude.{ℕ, ℤ, pos}
use Rattle.format.specs.declared.Entry.{Entry}
use Rattle.format.specs.Kinds.{kind_byte}
use Rattle.format.specs.Refusals.{Answer, gives, refuses}
use Rattle.tsm.specs.declared.TsmAnswer.{TsmAnswer}
use Rattle.tsm.specs.declared.TsmEntry.{TsmEntry}
use Rattle.tsm.specs.declared.TsmChecked.{TsmChecked}
use Rattle.tsm.specs.declared.TsmFound.{TsmFound}
use Rattle.tsm.specs.declared.TsmBlock.{TsmBlock}
use Rattle.tsm.specs.declared.TsmPoint.{TsmPoint}
use Rattle.tsm.specs.declared.TsmWritten.{TsmWritten}

abbrev pub accepted_answer : TsmAnswer
accepted_answer = record { number = 0 }

abbrev pub refused_answer : (number : ℕ) → TsmAnswer
refused_answer number = record { number = number }

abbrev pub entry_of : Entry → TsmEntry
entry_of e = record { kind = kind_byte e.kind; size = e.size; min = e.min; max = e.max; offset = e.offset.0 }

abbrev pub no_entry : TsmEntry
no_entry = record { kind = 0; size = 0; min = pos 0; max = pos 0; offset = 0 }

abbrev pub checked_of : Answer (ℕ × ℕ) → TsmChecked
checked_of (gives (keys, points)) = record { answer = accepted_answer; keys = keys; points = points }
checked_of (refuses number) = record { answer = refused_answer number; keys = 0; points = 0 }

abbrev pub found_of : Answer Entry → TsmFound
found_of (gives e) = record { answer = accepted_answer; entry = entry_of e }
found_of (refuses number) = record { answer = refused_answer number; entry = no_entry }

abbrev pub block_of : Answer (Entry × ℕ) → TsmBlock
block_of (gives (e, count)) = record { answer = accepted_answer; entry = entry_of e; count = count }
block_of (refuses number) = record { answer = refused_answer number; entry = no_entry; count = 0 }

abbrev pub point_of : Answer (Entry × ℤ) → TsmPoint
point_of (gives (e, value)) = record { answer = accepted_answer; entry = entry_of e; value = value }
point_of (refuses number) = record { answer = refused_answer number; entry = no_entry; value = pos 0 }

abbrev pub written_of : Answer ℕ → TsmWritten
written_of (gives bytes) = record { answer = accepted_answer; bytes = bytes }
written_of (refuses number) = record { answer = refused_answer number; bytes = 0 }
