-- When the public rules take a Sprout JoinSplit whose notes lie open, and when a ledger in memory does. The clauses of the JoinSplit statement have the names that
-- source document 003 gives them in its section 5.6. i is 1 or 2; ForBoth says a clause of both.
-- Assumes nothing.
use Rattle.std.specs.Prelude.{ℕ, ◌+◌, ◌-◌, ◌^◌, ◌<◌, ◌≤◌, ◌≡◌, false, ◌⊎◌, length, get_or}
use mathlib.Core.List.{List, Memᴰ}
use Rattle.units.specs.Limits.{max_money, tree_leaves}
use Rattle.units.specs.Pairs.{ForBoth}
use Rattle.sprout.specs.Hashes.{address_from, nullifier_from, mac_from, rho_from, commitment_from, h_sig_from}
use Rattle.tree.specs.Record.{path_end}
use Rattle.casefile.specs.Fields.{vpub_old_of, vpub_new_of, anchor_of, nullifier_of, commitment_of, seed_of, tag_of, transaction_key_of, old_key_of, old_address_of, old_value_of, old_rho_of, old_trapdoor_of, old_position_of, old_path_of, new_address_of, new_value_of, new_rho_of, new_trapdoor_of, phi_of}
use Rattle.ledger.specs.declared.Ledger.{Ledger}
use Rattle.ledger.specs.Ledgers.{most_nullifiers, room_in, spent_rows, anchor_rows, damaged}

-- a key of 252 bits leaves the top four bits of its first byte free
abbrev pub LeavesFree : List ℕ → Type 0
LeavesFree key = get_or key 0 0 ≤ 15

-- a note's commitment, of old note i and of new note i
abbrev pub old_note : ℕ → List ℕ → List ℕ
old_note i c = commitment_from (old_address_of i c) (old_value_of i c) (old_rho_of i c) (old_trapdoor_of i c)

abbrev pub new_note : ℕ → List ℕ → List ℕ
new_note i c = commitment_from (new_address_of i c) (new_value_of i c) (new_rho_of i c) (new_trapdoor_of i c)

abbrev pub h_sig : List ℕ → List ℕ
h_sig c = h_sig_from (seed_of c) (nullifier_of 1 c) (nullifier_of 2 c) (transaction_key_of c)

-- what goes in and what comes out
abbrev pub value_in : List ℕ → ℕ
value_in c = vpub_old_of c + old_value_of 1 c + old_value_of 2 c

abbrev pub value_out : List ℕ → ℕ
value_out c = vpub_new_of c + new_value_of 1 c + new_value_of 2 c

-- THE STATEMENT, of the description's public values and the notes behind it
pub record Statement (c : List ℕ) : Type 0 where
  pub merkle_path_validity : ForBoth (λ i. (old_value_of i c ≡ 0) ⊎ (path_end (old_note i c) (old_position_of i c) (old_path_of i c) ≡ anchor_of c))
  pub balance : (value_in c ≡ value_out c) × (value_in c ≤ 2 ^ 64 - 1)
  pub nullifier_integrity : ForBoth (λ i. nullifier_of i c ≡ nullifier_from (old_key_of i c) (old_rho_of i c))
  pub spend_authority : ForBoth (λ i. old_address_of i c ≡ address_from (old_key_of i c))
  pub non_malleability : ForBoth (λ i. tag_of i c ≡ mac_from i (old_key_of i c) (h_sig c))
  pub uniqueness_of_rho : ForBoth (λ i. new_rho_of i c ≡ rho_from i (phi_of c) (h_sig c))
  pub commitment_integrity : ForBoth (λ i. commitment_of i c ≡ new_note i c)

-- THE LENGTH of a whole file, in the first edition of the description or in the second
abbrev pub IsWhole : List ℕ → Type 0
IsWhole c = (length c ≡ 4210) ⊎ (length c ≡ 4106)

-- THE ENCODING: a whole file; keys of 252 bits, and as many of phi, from which the new notes' rho are seeded; positions of the tree
pub record Encoded (c : List ℕ) : Type 0 where
  pub whole : IsWhole c
  pub keys : ForBoth (λ i. LeavesFree (old_key_of i c))
  pub phi : LeavesFree (phi_of c)
  pub positions : ForBoth (λ i. old_position_of i c < tree_leaves)

-- THE PUBLIC VALUES: not both, and none above all money
pub record PublicValues (c : List ℕ) : Type 0 where
  pub one_sided : (vpub_old_of c ≡ 0) ⊎ (vpub_new_of c ≡ 0)
  pub old_money : vpub_old_of c ≤ max_money
  pub new_money : vpub_new_of c ≤ max_money

-- THE PUBLIC RULES, over the roots that an anchor may be, the nullifiers that were spent, and all that was put into the pool and all that was taken out of
-- it: nothing of memory, room or damage. With this case no more has been taken out than was put in (ZIP 209)
pub record JoinSplitRules (c : List ℕ) (roots spent : List (List ℕ)) (put taken : ℕ) : Type 0 where
  pub encoding : Encoded c
  pub public_values : PublicValues c
  pub anchor : Memᴰ (anchor_of c) roots
  pub distinct : nullifier_of 1 c ≡ nullifier_of 2 c → ⊥
  pub unspent : ForBoth (λ i. Memᴰ (nullifier_of i c) spent → ⊥)
  pub statement : Statement c
  pub pool_not_negative : taken + vpub_new_of c ≤ put + vpub_old_of c

-- THE SAME IN MEMORY, on the rows of a roll and of a table and on a pool, of which all was put in and nothing taken. With what the house asks beside: an
-- undamaged ledger, and room for both nullifiers; and with the client's own rule, that the pool is no more than all money
pub record Valid (c t r : List ℕ) (l : Ledger) : Type 0 where
  pub rules : JoinSplitRules c (anchor_rows r l) (spent_rows t l) l.pool.0 0
  pub undamaged : damaged t r l ≡ false
  pub room : l.nullifiers + 2 ≤ room_in most_nullifiers (length t)
  pub pool_bounded : l.pool.0 + vpub_old_of c ≤ vpub_new_of c + max_money
