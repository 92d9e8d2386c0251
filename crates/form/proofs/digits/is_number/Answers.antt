use Rattle.form.proofs.DigitLaws.{some_if}
use Rattle.form.proofs.digits.is_number.Goals as goal

pub returns : goal.returns
returns c = rw (c.is_some.ensures, c.number_of.ensures) (some_if _ _)
