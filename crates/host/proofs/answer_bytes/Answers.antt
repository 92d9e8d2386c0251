-- After i turns the buffer begins with the four bytes of each of the first i answers; after seven turns nothing is left behind them.
use Prim.Native.Nat.{ℕ, ◌+◌, ◌-◌, ◌*◌, ◌<◌}
use mathlib.Core.List.{List, ◌++◌}
use mathlib.Core.Path.{◌≡◌, refl, ap, ◌∙◌}
use native.Mathlib.Omega.{arith}
use lib.ListN.{length, take}
use lib.Seq.{take_all}
use Rattle.octets.specs.Numbers.{little_bytes}
use Rattle.octets.proofs.NumberLaws.{little_bytes_length}
use Rattle.octets.proofs.Joining.{Laid, start, next, laid_as, done}
use Rattle.host.specs.Bags.{answers_of}
use Rattle.host.proofs.Reports.{one_more}
use borrow.Author.Rules.{rules}
use Rattle.host.proofs.answer_bytes.Goals as goal

pub loop-i-init : goal.loop-i-init
unfolding answers_of
loop-i-init c = (search rules, start _ 28 refl)

pub loop-i-preserved : goal.loop-i-preserved
loop-i-preserved c =
    let v = c.loop-i.invariant in
    let i = c.loop-i.i in
    let given = c.args.answers in
    let h : length c.le_bytes32.result ≡ 4 = ap length c.le_bytes32.ensures ∙ little_bytes_length 4 _ in
    let n : i < length given = omega arith in
    let l = next c.le_bytes32.result _ (4 * (i + 1)) (28 - 4 * (i + 1)) (omega arith) (omega arith) c.copy_in.ensures.dst_after v.1 in
    let e = ap (λ (y : List ℕ). answers_of (take i given) ++ y) (c.le_bytes32.ensures ∙ ap (little_bytes 4) c.code.ensures) ∙ one_more given i _ n in
    (v.0, laid_as e l)

pub returns : goal.returns
returns c =
    let v = c.loop-i.invariant in
    let given = c.args.answers in
    let i : c.loop-i.i ≡ 7 = omega arith in
    let l : Laid 28 0 (answers_of (take 7 given)) c.loop-i.bytes = rw i at v.1 in
    done l ∙ ap answers_of (take_all 7 given (omega (arith, v.0)))
