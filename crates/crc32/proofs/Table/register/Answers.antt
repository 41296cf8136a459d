-- `Table::register` meets its contract: the words and the rest are the bytes.
use mathlib.Core.Path.{◌≡◌, ap, ap₂, sym, ◌∙◌}
use Prim.Native.Nat.{ℕ, ◌/◌}
use lib.ListN.{length}
use mathlib.Core.List.{List, ◌++◌}
use Rattle.std.specs.List.{concat}
use Rattle.format.specs.Crc32.{crc_from}
use Rattle.crc32.proofs.ByBytes.{chunks, from-append}
use Rattle.crc32.proofs.Table.register.Goals.{then-words-lt5, else-words-lt5}
use Rattle.crc32.proofs.Table.register.Goals as goal

pub returns : goal.returns
returns c =
    let s = c.args.s.now in
    let words = concat c.as_chunks.result.0.now in
    let of_words : c.if-words-lt5.c ≡ crc_from 0xFFFF_FFFF words =
    elim c.if-words-lt5.branch [ then-words-lt5 w ↦ w.c-is ∙ w.short-c.ensures | else-words-lt5 w ↦ w.c-is ∙ w.long-c.ensures ] in
    let all : c.args.s.now ≡ words ++ c.as_chunks.result.1.now =
    sym (ap₂ (λ (ws : List (List ℕ)) (rest : List ℕ). concat ws ++ rest) c.as_chunks.ensures.front c.as_chunks.ensures.back ∙ chunks (length s / 8) s) in
    c.bytes.ensures
    ∙ ap (λ (r : ℕ). crc_from r c.as_chunks.result.1.now) of_words
    ∙ sym (ap (crc_from 0xFFFF_FFFF) all ∙ from-append words c.as_chunks.result.1.now 0xFFFF_FFFF)
