-- What a case claims of both of a pair, as one kind of question: the refusal's number, when it is wrong of i, and its rows. For the code of this crate
-- alone; the table of refusals does not need it.
-- Assumes nothing.
use Rattle.std.specs.Prelude.{ℕ, Bool, List}
use Rattle.refusals.specs.Rules.{Rule, for_each}
use Rattle.statement.specs.declared.Claim.{Claim}
use Rattle.statement.specs.declared.Claim.TheVariants.{Path, Nullifier, Address, Tag, Rho, Commitment}
use Rattle.statement.specs.CaseRefusals.{strays_of, nullifier_wrong, address_wrong, tag_wrong, rho_wrong, commitment_wrong}

abbrev pub claim_number : Claim → ℕ
claim_number Path = 10
claim_number Nullifier = 12
claim_number Address = 13
claim_number Tag = 14
claim_number Rho = 15
claim_number Commitment = 16

abbrev pub claim_wrong : Claim → List ℕ → List ℕ → ℕ → Bool
claim_wrong Path h_sig c i = strays_of c i
claim_wrong Nullifier h_sig c i = nullifier_wrong c i
claim_wrong Address h_sig c i = address_wrong c i
claim_wrong Tag h_sig c i = tag_wrong h_sig c i
claim_wrong Rho h_sig c i = rho_wrong h_sig c i
claim_wrong Commitment h_sig c i = commitment_wrong c i

abbrev pub pair_refusals : Claim → List ℕ → List ℕ → List Rule
pair_refusals claim h_sig c = for_each (claim_wrong claim h_sig c) (claim_number claim)
