-- All rows rise exactly if those that are left do; the word held is the first one of their first row, and eight words that each are above the one before hand it on to the eighth row after.
use mathlib.Core.Path.{refl}
use native.Mathlib.Omega.{arith}
use Rattle.judge.proofs.HeldRow.{eight_further}
use Rattle.judge.proofs.table.rises_to.Goals as goal

pub loop-rest-init : goal.loop-rest-init
loop-rest-init c = record { some_left = c.requires; no_more = omega arith; rises = refl; word = c.first_word-before.ensures }

pub loop-rest-preserved : goal.loop-rest-preserved
loop-rest-preserved c =
    eight_further c.args.rows.now c.loop-rest.rest.now c.loop-rest.invariant c.loop-rest-test.true
    c.first_word-one.ensures c.first_word-two.ensures c.first_word-three.ensures c.first_word-four.ensures c.first_word-five.ensures c.first_word-six.ensures c.first_word-seven.ensures c.first_word-eight.ensures
    c.if-before-one.false c.if-one-two.false c.if-two-three.false c.if-three-four.false c.if-four-five.false c.if-five-six.false c.if-six-seven.false c.if-seven-eight.false
