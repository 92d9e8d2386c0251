-- What a draft gives, and what is worked out of it; and files that give the same.
-- Assumes nothing.
use Rattle.std.specs.Prelude.{ℕ, ◌≡◌, Bool, true, not, ◌&&◌, ◌||◌, List, eqb, leb, length}
use Rattle.casefile.specs.Layout.{part_of, nullifier, commitment, tag, of_old, of_new, phi}

-- field k is worked out: nullifiers, commitments, tags, a_pk of the old notes, rho of the new ones
unfoldable pub is_worked_out : ℕ → Bool
is_worked_out k =
    eqb k (nullifier 1) || eqb k (nullifier 2) || eqb k (commitment 1) || eqb k (commitment 2) || eqb k (tag 1) || eqb k (tag 2)
    || eqb k (of_old 1 1) || eqb k (of_old 2 1) || eqb k (of_new 1 2) || eqb k (of_new 2 2)

-- field k is any other, up to phi, the last: an input
unfoldable pub is_input : ℕ → Bool
is_input k = leb k phi && not (is_worked_out k)

-- two files with the same inputs, of one edition
pub record SameInputs (c d : List ℕ) : Type 0 where
  pub long : length c ≡ length d
  pub inputs : (k : ℕ) → is_input k ≡ true → part_of k c ≡ part_of k d
