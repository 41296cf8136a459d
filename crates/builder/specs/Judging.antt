-- The answer to the length of an image, before the first byte is laid (document 01: 22, 19), and the test that gives a pass up.
use Rattle.std.specs.Prelude.{ℕ, Bool, ◌||◌, ltb, leb, if◌then◌else◌, Result, Ok, Err}
use Rattle.format.specs.declared.Refusal.{Refusal}
use Rattle.format.specs.declared.Refusal.TheVariants.{ShortBuffer, ImageTooLong}
use Rattle.format.specs.Limits.{image_most}
use Rattle.builder.specs.declared.Ends.{Ends}

-- one of the places is past every image
unfoldable pub past_image : Ends → Bool
past_image e = ltb image_most e.block.0 || ltb image_most e.entry.0

-- an image of so many bytes, into a buffer of `room` bytes
unfoldable pub judged : (total room : ℕ) → Result ℕ Refusal
judged total room =
    if leb total image_most then (if leb total room then Ok total else Err ShortBuffer) else Err ImageTooLong
