use Rattle.seal.specs.Body.{read_of}
use Rattle.seal.proofs.GateLaws.{gate_read, gate_refused}
use Rattle.seal.proofs.read_body.Goals as goal

pub returns-in_err-gate : goal.returns-in_err-gate
unfolding read_of
returns-in_err-gate c = gate_refused _ _ _ _ _ (c.in_err-gate.ensures) c.from_residual.ensures

pub returns : goal.returns
unfolding read_of
returns c = simp c.float_at.ensures (gate_read _ _ _ _ (c.in_ok-gate.ensures))
