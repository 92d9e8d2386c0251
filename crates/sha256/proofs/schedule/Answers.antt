-- After j turns the array has the block's 16 words, 4 j more and zeros behind them; a turn's four steps are one law (`grown`), used four times, and after 12 turns all 48 are there.
use Prim.Native.Nat.{◌+◌, ◌*◌, ◌<◌}
use native.Mathlib.Omega.{arith}
use Rattle.sha256.specs.Compression.{schedule}
use Rattle.sha256.proofs.Growth.{grown, all}
use borrow.Author.Rules.{rules}
use Rattle.sha256.proofs.schedule.Goals as goal

pub loop-j-init : goal.loop-j-init
unfolding schedule
loop-j-init c = (search rules, c.words-w.ensures)

pub loop-j-preserved : goal.loop-j-preserved
loop-j-preserved c =
    let j = c.loop-j.j in
    let h : j < 12 = c.loop-j-test.true in
    let g1 = grown _ c.loop-j.w _ (4 * j) (4 * j + 1) (omega arith) (omega arith) c.loop-j.invariant.1 c.extend.ensures in
    let g2 = grown _ c.extend.new.w _ (4 * j + 1) (4 * j + 2) (omega arith) (omega arith) g1 c.extend-in-loop-j.ensures in
    let g3 = grown _ c.extend-in-loop-j.new.w _ (4 * j + 2) (4 * j + 3) (omega arith) (omega arith) g2 c.extend-in-loop-j-2.ensures in
    (omega arith, grown _ c.extend-in-loop-j-2.new.w _ (4 * j + 3) (4 * (j + 1)) (omega arith) (omega arith) g3 c.extend-in-loop-j-3.ensures)

pub returns : goal.returns
returns c =
    let p = c.loop-j in
    all _ p.w (4 * p.j) (omega arith) p.invariant.1
