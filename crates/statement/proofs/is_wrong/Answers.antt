use Rattle.statement.proofs.is_wrong.Goals as goal

pub returns-in-Path : goal.returns-in-Path
returns-in-Path c = rw c.in-Path.is c.strays.ensures

pub returns-in-Nullifier : goal.returns-in-Nullifier
returns-in-Nullifier c = rw c.in-Nullifier.is c.nullifier_wrong.ensures

pub returns-in-Address : goal.returns-in-Address
returns-in-Address c = rw c.in-Address.is c.address_wrong.ensures

pub returns-in-Tag : goal.returns-in-Tag
returns-in-Tag c = rw c.in-Tag.is c.tag_wrong.ensures

pub returns-in-Rho : goal.returns-in-Rho
returns-in-Rho c = rw c.in-Rho.is c.rho_wrong.ensures

pub returns-in-Commitment : goal.returns-in-Commitment
returns-in-Commitment c = rw c.in-Commitment.is c.commitment_wrong.ensures
