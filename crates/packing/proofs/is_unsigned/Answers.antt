use mathlib.Core.Bool.{not}
use Rattle.std.proofs.Common.{sym, ap, ◌∙◌}
use borrow.Author.Tests.{not-true, not-false}
use Rattle.packing.specs.Decimals.{is_digits}
use Rattle.packing.proofs.DecimalLaws.{not_digits, without_point, too_long, with_point}
use Rattle.packing.proofs.is_unsigned.Goals as goal

pub returns-then-not-is_digits : goal.returns-then-not-is_digits
returns-then-not-is_digits c = sym (not_digits _ _ c.up_to-whole.ensures (sym c.is_digits.ensures ∙ not-true c.is_digits.result (ap not c.if-not-is_digits.true)))

pub returns-then-whole-u : goal.returns-then-whole-u
returns-then-whole-u c = sym (without_point _ _ c.up_to-whole.ensures (sym c.is_digits.ensures ∙ not-false c.is_digits.result (ap not c.if-not-is_digits.false)) c.if-whole-u.true)

pub returns-then-u-gt16 : goal.returns-then-u-gt16
returns-then-u-gt16 c = sym (too_long _ _ c.up_to-whole.ensures (sym c.is_digits.ensures ∙ not-false c.is_digits.result (ap not c.if-not-is_digits.false)) c.if-whole-u.false c.if-u-gt16.true)

pub returns : goal.returns
returns c = c.is_digits-2.ensures ∙ ap is_digits c.behind.ensures ∙ sym (with_point _ _ c.up_to-whole.ensures (sym c.is_digits.ensures ∙ not-false c.is_digits.result (ap not c.if-not-is_digits.false)) c.if-whole-u.false c.if-u-gt16.false)
