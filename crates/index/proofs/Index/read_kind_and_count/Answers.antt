-- `Index::read_kind_and_count` meets its contract: each refusal is given after its own test, in the order of `read_head`.
use Rattle.std.proofs.Common.{rules, sym, refl, ◌∙◌}
use Rattle.index.specs.Cursors.{key_at}
use Rattle.index.proofs.Heads.{head-from}
use Rattle.index.proofs.Index.read_kind_and_count.Goals as goal

pub returns-then-not-key_before : goal.returns-then-not-key_before
returns-then-not-key_before c =
    let p = c.args in
    rw (head-from p.self.bytes.now p.self.start.0 p.at.0 p.len (key_at p.self.bytes.now p.before) c.requires.index_value _ (sym c.key_before.ensures ∙ c.if-not-key_before.true) _ refl _ refl) (search rules)

pub returns-in_default : goal.returns-in_default
returns-in_default c =
    let p = c.args in
    rw (head-from p.self.bytes.now p.self.start.0 p.at.0 p.len (key_at p.self.bytes.now p.before) c.requires.index_value _ (sym c.key_before.ensures ∙ c.if-not-key_before.false) _ (sym c.try_from.ensures ∙ c.in_default.is) _ refl) (search rules)

pub returns-then-count-lt1 : goal.returns-then-count-lt1
returns-then-count-lt1 c =
    let p = c.args in
    rw (head-from p.self.bytes.now p.self.start.0 p.at.0 p.len (key_at p.self.bytes.now p.before) c.requires.index_value _ (sym c.key_before.ensures ∙ c.if-not-key_before.false) _ (sym c.try_from.ensures ∙ c.in-Ok.is) _ c.read_u16-count.ensures) (search rules)

pub returns-then-self-here : goal.returns-then-self-here
returns-then-self-here c =
    let p = c.args in
    rw (head-from p.self.bytes.now p.self.start.0 p.at.0 p.len (key_at p.self.bytes.now p.before) c.requires.index_value _ (sym c.key_before.ensures ∙ c.if-not-key_before.false) _ (sym c.try_from.ensures ∙ c.in-Ok.is) _ c.read_u16-count.ensures) (search rules)

pub returns : goal.returns
returns c =
    let p = c.args in
    rw (head-from p.self.bytes.now p.self.start.0 p.at.0 p.len (key_at p.self.bytes.now p.before) c.requires.index_value _ (sym c.key_before.ensures ∙ c.if-not-key_before.false) _ (sym c.try_from.ensures ∙ c.in-Ok.is) _ c.read_u16-count.ensures) (search rules)
