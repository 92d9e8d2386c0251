use Rattle.statement.specs.CaseRefusals.{h_sig_of}
use Rattle.statement.proofs.h_sig.Goals as goal

pub returns : goal.returns
unfolding h_sig_of
returns c = cc
