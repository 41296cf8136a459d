-- `next_turn` meets its contract: of two keys the first is next.
use mathlib.Core.Path.{sym, subst}
use Rattle.feed.specs.Feeds.{OnKey}
use Rattle.key_merge.specs.declared.Turn.{Turn}
use Rattle.key_merge.specs.Turns.{TurnTaken}
use Rattle.key_merge.proofs.Keys.{ordered-turn}
use Rattle.key_merge.proofs.next_turn.Goals as goal

pub returns-in-Some-Some : goal.returns-in-Some-Some
returns-in-Some-Some c =
    let i = c.args.images in
    let f = c.args.at in
    let d = c.in-Some-Some in
    subst (λ (t : Turn). TurnTaken i f t.feeds t.owner) (sym c.order_keys.ensures)
    (ordered-turn i f (record { older = d.older; newer = d.newer })
    (subst (OnKey i.older.now f.older) d.is-0 c.next_key-older.ensures)
    (subst (OnKey i.newer.now f.newer) d.is-1 c.next_key-newer.ensures))
