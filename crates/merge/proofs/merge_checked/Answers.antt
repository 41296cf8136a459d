-- `merge_checked` meets its contract: the first pass gives the length of the image, which is judged, and then it is laid.
use Prim.Native.Nat.{ℕ, ◌+◌}
use mathlib.Core.Path.{◌≡◌, ap, sym, subst, ◌∙◌}
use mathlib.Core.List.{List, ◌++◌}
use native.Mathlib.Omega.{arith}
use borrow.Author.Rules.{rules}
use lib.ListN.{length}
use Rattle.std.specs.Prelude.{Err}
use Rattle.format.specs.declared.Refusal.TheVariants.{ImageTooLong}
use Rattle.format.specs.Acts.{written_says}
use Rattle.format.proofs.Lists.{nothing-before}
use Rattle.builder.specs.declared.Mode.{Mode}
use Rattle.builder.specs.Passes.{Measured}
use Rattle.builder.specs.Judging.{judged}
use Rattle.builder.proofs.Images.{lay-room, never-past, footer-room, image-done}
use Rattle.builder.proofs.TwoPasses.{image-long, image-left, image-fits, image-written}
use Rattle.key_merge.specs.Turns.{merged_of}
use Rattle.merge.specs.Adding.{PassReady, all_closed, PassedAs}
use Rattle.merge.proofs.merge_checked.Goals as goal
use Rattle.merge.proofs.merge_checked.Goals.{After-pass, After-judge, In_ok-total, After-pass-2}

-- the first pass lays nothing
same : (c : After-pass) → c.pass.new.out ++ c.args.out.now ≡ c.args.out.now
same c = nothing-before c.pass.new.out c.args.out.now c.pass.auto.out

-- it ended, and its length is judged
says : (c : After-judge) → c.judge.result ≡ judged (c.in_ok-measured.measured.block.0 + c.in_ok-measured.measured.entry.0 + 8) (length c.args.out.now)
says c =
    c.judge.ensures
    ∙ ap (λ (l : List ℕ). judged (c.in_ok-measured.measured.block.0 + c.in_ok-measured.measured.entry.0 + 8) (length l)) (nothing-before c.pass.new.out c.args.out.now c.pass.auto.out)

fits : (c : In_ok-total) → c.judge.result ≡ judged (c.in_ok-measured.measured.block.0 + c.in_ok-measured.measured.entry.0 + 8) (length c.args.out.now)
    → Measured (merged_of c.args.images) c.in_ok-measured.measured.block c.args.out.now
fits c judged = image-fits (merged_of c.args.images) c.args.out.now _ _ _ c.in_ok-measured.ensures _ judged _ c.in_ok-total.was

-- the second pass
laid : (c : After-pass-2) → PassedAs (all_closed (Mode.Lay c.in_ok-measured.measured.block) c.args.images c.args.out.now) c.pass-2.result c.pass-2.new.out
laid c =
    subst (λ (l : List ℕ). PassedAs (all_closed (Mode.Lay c.in_ok-measured.measured.block) c.args.images l) c.pass-2.result c.pass-2.new.out)
    (nothing-before c.pass.new.out c.args.out.now c.pass.auto.out) c.pass-2.ensures

pub returns-in_err-measured : goal.returns-in_err-measured
returns-in_err-measured c =
    let told : c.from_residual.result ≡ Err ImageTooLong = search rules in
    let r = image-long (merged_of c.args.images) c.args.out.now _ c.in_err-measured.ensures in
    record { answer = ap written_says told ∙ r.0; cells = same (goal.at.returns-in_err-measured c).After-pass ∙ r.1 }

pub returns-in_err-total : goal.returns-in_err-total
returns-in_err-total c =
    let at = goal.at.returns-in_err-total c in
    let told : c.from_residual-in_err-total.result ≡ Err c.in_err-total.field-0.0 = search rules in
    let r = image-left (merged_of c.args.images) c.args.out.now _ _ _ c.in_ok-measured.ensures _ (says at.After-judge) _ c.in_err-total.was in
    record { answer = ap written_says (told ∙ sym c.in_err-total.was) ∙ r.0; cells = same at.After-pass ∙ r.1 }

pub pass-requires-2 : goal.pass-requires-2
pass-requires-2 c =
    let at = goal.at.pass-requires-2 c in
    let f = fits at.In_ok-total (says at.After-judge) in
    subst (λ (l : List ℕ). PassReady c.args.images (Mode.Lay c.in_ok-measured.measured.block) l) (sym (same at.After-pass))
    (record { ready = c.requires; room = λ l. lay-room _ _ _ f })

pub returns-in_err-laid : goal.returns-in_err-laid
returns-in_err-laid c =
    let at = goal.at.returns-in_err-laid c in
    let f = fits at.In_ok-total (says at.After-judge) in
    absurd (never-past _ _ _ f (rw c.in_err-laid.was at (laid at.After-pass-2)))

pub finish-requires : goal.finish-requires
finish-requires c =
    let at = goal.at.finish-requires c in
    let f = fits at.In_ok-total (says at.After-judge) in
    let asks = footer-room _ _ _ f _ _ (rw c.in_ok-laid.was at (laid at.After-pass-2)) in
    (asks.0, omega (arith, asks.1, c.pass-2.auto.out, ap length (same at.After-pass)))

pub returns : goal.returns
returns c =
    let at = goal.at.returns c in
    let judged = says at.After-judge in
    let f = fits at.In_ok-total judged in
    let done = image-done _ _ _ f _ _ (rw c.in_ok-laid.was at (laid at.After-pass-2)) _ c.finish.ensures in
    let r = image-written (merged_of c.args.images) c.args.out.now _ _ _ c.in_ok-measured.ensures _ judged _ c.in_ok-total.was _ done in
    record { answer = r.0; cells = r.1 }
