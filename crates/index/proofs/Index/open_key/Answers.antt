-- `Index::open_key` meets its contract: at the end of the index it compares the last end, else it answers what `read_head` does.
use Rattle.std.proofs.Common.{rules, arith, ◌≡◌, ◌+◌, ◌-◌, ◌*◌, ◌≤◌, ◌<◌, length, length-drop, subst, sym, ap, ◌∙◌, drop}
use Rattle.index.specs.Cursors.{key_at, between, opened, opened_at}
use Rattle.index.proofs.Fits.{HeadSays, head-says}
use Rattle.index.proofs.Walks.{opened-head}
use Rattle.index.proofs.Index.open_key.Goals as goal
use Rattle.index.proofs.Index.open_key.Goals.{After-read_head, In_ok-head}

-- what `read_head` answers is the step
opened-by : (c : After-read_head) →
    let p = c.args in
    opened_at p.self.bytes.now p.self.start.0 (between p.at p.ended p.key) ≡ opened (between p.at p.ended p.key) c.read_head.result
opened-by c =
    let p = c.args in
    let l : p.at.0 < length p.self.bytes.now = omega (arith, c.requires.entries, c.if-here-self.false) in
    opened-head p.self.bytes.now p.self.start.0 (between p.at p.ended p.key) l ∙ ap (opened (between p.at p.ended p.key)) (sym c.read_head.ensures)

-- a key that is read lies within the index
room : (c : In_ok-head) → c.in_ok-head.head.len + 5 + c.in_ok-head.head.count * 28 ≤ length c.args.self.bytes.now - c.args.at.0
room c =
    let p = c.args in
    let says = subst (HeadSays (drop p.at.0 p.self.bytes.now)) (sym c.read_head.ensures ∙ c.in_ok-head.was) (head-says (p.self.start.0 + p.at.0) (key_at p.self.bytes.now p.key) (drop p.at.0 p.self.bytes.now)) in
    simp length-drop at says.0

pub overflow_add-result : goal.overflow_add-result
overflow_add-result c = omega (arith, room (goal.at.overflow_add-result c).In_ok-head, c.requires.image)

pub overflow_add-result-2 : goal.overflow_add-result-2
overflow_add-result-2 c = omega (arith, room (goal.at.overflow_add-result-2 c).In_ok-head, c.requires.image, c.requires.entries)

pub returns-in_err-head : goal.returns-in_err-head
returns-in_err-head c = rw (opened-by (goal.at.returns-in_err-head c).After-read_head) (search rules)

pub returns : goal.returns
returns c = rw (opened-by (goal.at.returns c).After-read_head) (search rules)
