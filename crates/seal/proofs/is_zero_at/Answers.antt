use Rattle.seal.proofs.Zeros.{field_zero}
use Rattle.seal.proofs.is_zero_at.Goals as goal

pub returns : goal.returns
returns c = simp (c.le64.ensures, field_zero)
