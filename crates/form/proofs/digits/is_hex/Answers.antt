use Rattle.std.proofs.Common.{sym, ◌∙◌, eq-eqb, ne_eqb}
use Rattle.form.specs.Digits.{is_hex_digit, is_hex}
use Rattle.form.proofs.DigitLaws.{every_as, hex_length}
use Rattle.form.proofs.digits.is_hex.Goals as goal

pub returns-then-digits-n : goal.returns-then-digits-n
unfolding is_hex is_hex_digit
returns-then-digits-n c = rw (eq-eqb _ c.args.n c.if-digits-n.true) (c.all_hex.ensures ∙ every_as _ c.args.digits.now)

pub returns-else-digits-n : goal.returns-else-digits-n
returns-else-digits-n c = ne_eqb _ c.args.n c.if-digits-n.false ∙ sym (hex_length c.args.n c.args.digits.now c.if-digits-n.false)
