-- A case written from a draft: what is worked out, what is refused, and what the lent buffer holds then. A draft is a file in the case's own layout, of
-- either edition; what stands in the fields that are worked out is not read. d is the draft, b the buffer, i is 1 or 2.
-- Assumes nothing.
use Rattle.std.specs.Prelude.{ℕ, Bool, cond, not, ◌&&◌, List, [], ◌∷◌, eqb, length}
use Rattle.refusals.specs.declared.Answer.{Answer}
use Rattle.refusals.specs.Rules.{Rule, rule, rules_in, first, is_accepted}
use Rattle.sprout.specs.Hashes.{address_from, nullifier_from, mac_from, rho_from, commitment_from}
use Rattle.casefile.specs.Layout.{nullifier, commitment, tag, of_old, of_new}
use Rattle.casefile.specs.Fields.{has_length, old_key_of, old_rho_of, new_address_of, new_value_of, new_trapdoor_of, phi_of}
use Rattle.casefile.specs.Writing.{put_part}
use Rattle.statement.specs.CaseRefusals.{h_sig_of, no4, no5, no7, no9, no10, no11}

-- WHAT IS WORKED OUT. Of old note i, from its key: the address, and with its rho the nullifier
unfoldable pub with_old : ℕ → List ℕ → List ℕ
with_old i c = put_part (nullifier i) (nullifier_from (old_key_of i c) (old_rho_of i c)) (put_part (of_old i 1) (address_from (old_key_of i c)) c)

unfoldable pub with_old_notes : List ℕ → List ℕ
with_old_notes d = with_old 2 (with_old 1 d)

-- over hSig, which both nullifiers go into: tag i, rho of new note i, and with that rho its commitment
unfoldable pub with_rho : ℕ → List ℕ → List ℕ → List ℕ
with_rho i rho c = put_part (commitment i) (commitment_from (new_address_of i c) (new_value_of i c) rho (new_trapdoor_of i c)) (put_part (of_new i 2) rho c)

unfoldable pub with_new : ℕ → List ℕ → List ℕ → List ℕ
with_new i h_sig c = with_rho i (rho_from i (phi_of c) h_sig) (put_part (tag i) (mac_from i (old_key_of i c) h_sig) c)

unfoldable pub with_new_notes : List ℕ → List ℕ → List ℕ
with_new_notes h_sig c = with_new 2 h_sig (with_new 1 h_sig c)

-- the case
unfoldable pub written : List ℕ → List ℕ
written d = with_new_notes (h_sig_of (with_old_notes d)) (with_old_notes d)

-- WHAT IS REFUSED: lengths that are not one edition's, and what document 01 refuses of the case alone under these numbers. 7 and 10 read what was
-- worked out of the old notes: nullifiers, for which a key's top four bits are dropped, and addresses
unfoldable pub one_length : List ℕ → ℕ → Bool
one_length d n = has_length d && eqb n (length d)

unfoldable pub lengths1 : List ℕ → ℕ → List Rule
lengths1 d n = rule (not (one_length d n)) 1 0 ∷ []

unfoldable pub notes_refusals : List ℕ → List ℕ → List (List Rule)
notes_refusals d c = no7 c ∷ no9 d ∷ no10 c ∷ no11 d ∷ []

unfoldable pub desk_refusals : List ℕ → ℕ → List (List Rule)
desk_refusals d n = lengths1 d n ∷ no4 d ∷ no5 d ∷ notes_refusals d (with_old_notes d)

unfoldable pub desk_answer : List ℕ → ℕ → Answer
desk_answer d n = first (rules_in (desk_refusals d n))

-- WHAT THE BUFFER HOLDS: the case, and on refusal every byte as it was
unfoldable pub buffer_after : List ℕ → List ℕ → List ℕ
buffer_after d b = cond (is_accepted (desk_answer d (length b))) (written d) b
