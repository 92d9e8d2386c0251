use Rattle.form.proofs.digits.value_of.Goals as goal

pub returns : goal.returns
returns c = rw (c.unwrap_or.ensures, c.number_of.ensures, c.requires)
