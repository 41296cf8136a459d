-- `simple8b::unpack` meets its contract: the numbers of the words passed stand in the cells, and what is left completes them.
use Rattle.std.proofs.Common.{rules, Err, ◌≡◌, ◌*◌, arith, length-drop}
use Rattle.simple8b.proofs.Unpacking.{open-part, unpack-start, unpack-end, unpack-stop, unpack-more, word-length, word-next}
use Rattle.simple8b.proofs.unpack.Goals as goal

pub returns-then-words-ne0 : goal.returns-then-words-ne0
returns-then-words-ne0 c = open-part _ c.if-words-ne0.true

pub loop-i-init : goal.loop-i-init
loop-i-init c = unpack-start _ _ c.if-words-ne0.false

pub returns-in_err-count : goal.returns-in_err-count
returns-in_err-count c =
    let s = c.args.words.now in
    let i = c.loop-i.i in
    let whole = c.if-words-ne0.false in
    let r : c.from_residual.result ≡ Err c.in_err-count.field-0.0 = search rules in
    rw r
    (unpack-stop c.loop-i.invariant _ _ (word-next s i whole c.loop-i-test.true) (word-length s i whole c.loop-i-test.true) _ _ _
    (rw c.read_u64.ensures at c.in_err-count.ensures))

pub loop-i-preserved : goal.loop-i-preserved
loop-i-preserved c =
    let s = c.args.words.now in
    let i = c.loop-i.i in
    let whole = c.if-words-ne0.false in
    unpack-more c.loop-i.invariant _ _ (word-next s i whole c.loop-i-test.true) (word-length s i whole c.loop-i-test.true) _ _
    (rw c.read_u64.ensures at c.in_ok-count.ensures)

pub returns : goal.returns
returns c = unpack-end c.loop-i.invariant (omega (arith, length-drop (c.loop-i.i * 8) c.args.words.now))
