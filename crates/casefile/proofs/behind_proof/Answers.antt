use native.Mathlib.Omega.{arith}
use Rattle.casefile.proofs.Editions.{proof_bytes}
use Rattle.casefile.proofs.behind_proof.Goals as goal

pub returns-then-n-lt-LENGTH_WITHOUT_PROOF : goal.returns-then-n-lt-LENGTH_WITHOUT_PROOF
returns-then-n-lt-LENGTH_WITHOUT_PROOF c = omega (arith, proof_bytes c.args.case.now)

pub returns : goal.returns
returns c = omega (arith, proof_bytes c.args.case.now)
