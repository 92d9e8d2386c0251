-- Document 01's table of refusals, as far as it needs no ledger: for each number its condition, and its rows over a case's bytes. i is 1 or 2.
-- Assumes nothing.
use Rattle.std.specs.Prelude.{ℕ, ◌+◌, ◌-◌, ◌^◌, Bool, not, ◌&&◌, ◌||◌, List, [], ◌∷◌, eqb, ltb, leb}
use Rattle.octets.specs.Parts.{same}
use Rattle.units.specs.Limits.{max_money, tree_leaves}
use Rattle.refusals.specs.Rules.{Rule, rule, rules_in, for_each}
use Rattle.sprout.specs.Hashes.{has_top_bits, address_from, nullifier_from, mac_from, rho_from, commitment_from, h_sig_from}
use Rattle.tree.specs.Record.{path_end}
use Rattle.casefile.specs.Fields.{has_length, vpub_old_of, vpub_new_of, anchor_of, nullifier_of, commitment_of, seed_of, tag_of, transaction_key_of, old_key_of, old_address_of, old_value_of, old_rho_of, old_trapdoor_of, old_position_of, old_path_of, new_address_of, new_value_of, new_rho_of, new_trapdoor_of, phi_of}

-- 1: the case is neither 4,210 nor 4,106 bytes long
unfoldable pub no1 : List ℕ → List Rule
no1 c = rule (not (has_length c)) 1 0 ∷ []

-- 4: both public values are nonzero
unfoldable pub both_public : ℕ → ℕ → Bool
both_public old new = not (eqb old 0) && not (eqb new 0)

unfoldable pub no4 : List ℕ → List Rule
no4 c = rule (both_public (vpub_old_of c) (vpub_new_of c)) 4 0 ∷ []

-- 5: a public value is above all the money there is; 1 the old, 2 the new
unfoldable pub above_money : ℕ → Bool
above_money value = ltb max_money value

unfoldable pub no5 : List ℕ → List Rule
no5 c = rule (above_money (vpub_old_of c)) 5 1 ∷ rule (above_money (vpub_new_of c)) 5 2 ∷ []

-- 7: the two nullifiers are equal
unfoldable pub no7 : List ℕ → List Rule
no7 c = rule (same (nullifier_of 1 c) (nullifier_of 2 c)) 7 0 ∷ []

-- 9: key i has one of its top four bits, or the tree has no leaf of position i; then phi has one of its top four bits, place 3
unfoldable pub out_of_range : List ℕ → ℕ → Bool
out_of_range key position = has_top_bits key || leb tree_leaves position

unfoldable pub range_of : List ℕ → ℕ → Bool
range_of c i = out_of_range (old_key_of i c) (old_position_of i c)

unfoldable pub no9 : List ℕ → List Rule
no9 c = rule (range_of c 1) 9 1 ∷ rule (range_of c 2) 9 2 ∷ rule (has_top_bits (phi_of c)) 9 3 ∷ []

-- 10: old note i has a value, and its path, climbed from its commitment, ends elsewhere than at the anchor
unfoldable pub ends_elsewhere : ℕ → List ℕ → List ℕ → Bool
ends_elsewhere value end anchor = not (eqb value 0) && not (same end anchor)

unfoldable pub old_commitment_of : ℕ → List ℕ → List ℕ
old_commitment_of i c = commitment_from (old_address_of i c) (old_value_of i c) (old_rho_of i c) (old_trapdoor_of i c)

unfoldable pub path_end_of : ℕ → List ℕ → List ℕ
path_end_of i c = path_end (old_commitment_of i c) (old_position_of i c) (old_path_of i c)

unfoldable pub strays_of : List ℕ → ℕ → Bool
strays_of c i = ends_elsewhere (old_value_of i c) (path_end_of i c) (anchor_of c)

unfoldable pub no10 : List ℕ → List Rule
no10 c = for_each (strays_of c) 10

-- 11: what goes in is not what comes out, as whole numbers, or is above 2 ^ 64 - 1
unfoldable pub unbalanced : ℕ → ℕ → ℕ → ℕ → ℕ → ℕ → Bool
unbalanced vpub_old old1 old2 vpub_new new1 new2 = not (eqb (vpub_old + old1 + old2) (vpub_new + new1 + new2)) || ltb (2 ^ 64 - 1) (vpub_old + old1 + old2)

unfoldable pub unbalanced_of : List ℕ → Bool
unbalanced_of c = unbalanced (vpub_old_of c) (old_value_of 1 c) (old_value_of 2 c) (vpub_new_of c) (new_value_of 1 c) (new_value_of 2 c)

unfoldable pub no11 : List ℕ → List Rule
no11 c = rule (unbalanced_of c) 11 0 ∷ []

-- 12 to 16: what the case claims is not what its notes and keys give
unfoldable pub differs : List ℕ → List ℕ → Bool
differs claimed derived = not (same claimed derived)

-- 12: nullifier i is not that of key i and rho i
unfoldable pub nullifier_wrong : List ℕ → ℕ → Bool
nullifier_wrong c i = differs (nullifier_of i c) (nullifier_from (old_key_of i c) (old_rho_of i c))

unfoldable pub no12 : List ℕ → List Rule
no12 c = for_each (nullifier_wrong c) 12

-- 13: a_pk i is not the address of key i
unfoldable pub address_wrong : List ℕ → ℕ → Bool
address_wrong c i = differs (old_address_of i c) (address_from (old_key_of i c))

unfoldable pub no13 : List ℕ → List Rule
no13 c = for_each (address_wrong c) 13

-- 14: tag i is wrong, over hSig
unfoldable pub h_sig_of : List ℕ → List ℕ
h_sig_of c = h_sig_from (seed_of c) (nullifier_of 1 c) (nullifier_of 2 c) (transaction_key_of c)

unfoldable pub tag_wrong : List ℕ → List ℕ → ℕ → Bool
tag_wrong h_sig c i = differs (tag_of i c) (mac_from i (old_key_of i c) h_sig)

unfoldable pub no14 : List ℕ → List Rule
no14 c = for_each (tag_wrong (h_sig_of c) c) 14

-- 15: new rho i is wrong, over hSig
unfoldable pub rho_wrong : List ℕ → List ℕ → ℕ → Bool
rho_wrong h_sig c i = differs (new_rho_of i c) (rho_from i (phi_of c) h_sig)

unfoldable pub no15 : List ℕ → List Rule
no15 c = for_each (rho_wrong (h_sig_of c) c) 15

-- 16: commitment i is not that of new note i
unfoldable pub commitment_wrong : List ℕ → ℕ → Bool
commitment_wrong c i = differs (commitment_of i c) (commitment_from (new_address_of i c) (new_value_of i c) (new_rho_of i c) (new_trapdoor_of i c))

unfoldable pub no16 : List ℕ → List Rule
no16 c = for_each (commitment_wrong c) 16

-- what the public part is asked, what the witness is asked and its later parts, and the whole table of the case alone
unfoldable pub public_refusals : List ℕ → List (List Rule)
public_refusals c = no1 c ∷ no4 c ∷ no5 c ∷ no7 c ∷ []

unfoldable pub derived_refusals : List ℕ → List (List Rule)
derived_refusals c = no12 c ∷ no13 c ∷ no14 c ∷ no15 c ∷ no16 c ∷ []

unfoldable pub claim_refusals : List ℕ → List (List Rule)
claim_refusals c = no11 c ∷ derived_refusals c

unfoldable pub witness_refusals : List ℕ → List (List Rule)
witness_refusals c = no9 c ∷ no10 c ∷ claim_refusals c

unfoldable pub case_refusals : List ℕ → List Rule
case_refusals c = rules_in (no1 c ∷ no4 c ∷ no5 c ∷ no7 c ∷ witness_refusals c)
