-- `Index::read_entry` meets its contract: its four numbers are those of `entry_from`.
use Rattle.std.proofs.Common.{rules}
use mir.Syntax.{w64}
use mir.ValLaws.{to_z-of_z}
use lib.Seq.{drop-drop}
use Rattle.index.proofs.Index.read_entry.Goals as goal

pub returns : goal.returns
returns c =
    let p = c.args in
    let bs = p.self.bytes.now in
    rw (drop-drop 8 p.at.0 bs, drop-drop 16 p.at.0 bs, drop-drop 24 p.at.0 bs, to_z-of_z w64 c.signed.result (record { sfits = c.signed.type_inv }), to_z-of_z w64 c.signed-2.result (record { sfits = c.signed-2.type_inv })) (search rules)
