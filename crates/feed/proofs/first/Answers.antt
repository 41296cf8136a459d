-- `first` meets its contract: an accepted image has a good frame, and from the first cursor the whole index is left.
use Rattle.std.specs.Prelude.{Result, Ok, Err, IsOk}
use mathlib.Core.Path.{◌≡◌, refl, sym, subst, ◌∙◌}
use Rattle.format.specs.declared.Fault.{Fault}
use Rattle.format.specs.declared.ImagePlace.{ImagePlace}
use Rattle.index.specs.declared.Cursor.{Cursor}
use Rattle.feed.specs.Feeds.{at_cursor, Begun}
use Rattle.feed.proofs.Keys.{begun, frame-not-refused}
use Rattle.feed.proofs.first.Goals as goal

-- an answer that nothing refuses
given : (x : Result ImagePlace Fault) → ((fault : Fault) → x ≡ Err fault → ⊥) → IsOk x
given (Ok v) k = refl
given (Err fault) k = absurd (k fault refl)

pub unwrap-requires : goal.unwrap-requires
unwrap-requires c = given c.check_frame.result (λ fault e. frame-not-refused c.args.image.now c.requires fault (sym c.check_frame.ensures ∙ e))

pub returns : goal.returns
returns c =
    subst (λ (k : Cursor). Begun c.args.image.now (at_cursor c.unwrap.result k)) (sym c.first.ensures)
    (begun c.args.image.now c.requires c.unwrap.result (sym c.check_frame.ensures ∙ c.unwrap.ensures))
