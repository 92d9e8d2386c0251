-- Document 01's marked examples, each a test of the definitions, and the one statement that all of them pass.
-- Assumes nothing.
use Prim.Native.Nat.{ℕ, ◌+◌, ◌-◌, ◌*◌, ◌%◌, ◌^◌, ◌<◌}
use mathlib.Core.Path.{◌≡◌, refl}
use mathlib.Core.Bool.{Bool, true, not, ◌&&◌}
use mathlib.Core.List.{List, [], ◌∷◌, ◌++◌}
use native.Mathlib.Omega.{arith}
use lib.Dec.{eqb}
use lib.ListN.{get_or}
use Rattle.octets.specs.Parts.{zeros, field, listed}
use Rattle.octets.specs.Numbers.{little, little_bytes}
use Rattle.refusals.specs.declared.Answer.{Answer}
use Rattle.refusals.specs.Rules.{first}
use Rattle.sha256.specs.Compression.{compress_of}
use Rattle.sprout.specs.Hashes.{address_prefix, nullifier_prefix, mac_prefix, rho_prefix, with_prefix, has_top_bits, prefixed, address_from, nullifier_from, mac_from, rho_from}
use Rattle.casefile.specs.Layout.{description, old_note_lengths, new_note_lengths, lengths, total, offset, case_length, proof_length, part_of}
use Rattle.casefile.specs.Fields.{vpub_old_of, vpub_new_of, old_value_of, new_value_of}
use Rattle.statement.specs.CaseRefusals.{both_public, above_money, out_of_range, unbalanced, unbalanced_of, no4, no5, no11}

-- each test passes
every : List Bool → Bool
every [] = true
every (b ∷ bs) = b && every bs

first_byte : List ℕ → ℕ
first_byte s = get_or s 0 0

-- an answer has that number and place
answers : Answer → ℕ → ℕ → Bool
answers a number place = eqb a.number number && eqb a.place place

-- a case with these six values, each where it stands in the file, and zero in all else
valued : ℕ → ℕ → ℕ → ℕ → ℕ → ℕ → List ℕ
valued vpub_old old1 old2 vpub_new new1 new2 =
    little_bytes 8 vpub_old ++ little_bytes 8 vpub_new ++ zeros 1882 ++ little_bytes 8 old1 ++ zeros 1060 ++ little_bytes 8 old2 ++ zeros 1028 ++ little_bytes 8 new1 ++ zeros 96 ++ little_bytes 8 new2 ++ zeros 96

-- with any bytes behind those that an example names
module _ (rest : List ℕ) where
  -- a case with these public values
  public : ℕ → ℕ → List ℕ
  public old new = little_bytes 8 old ++ little_bytes 8 new ++ rest

  key : List ℕ
  key = 0x0a ∷ rest

  phi : List ℕ
  phi = 0x05 ∷ rest

  marked : List Bool
  marked =
      -- 1 the address
      eqb (first_byte (with_prefix address_prefix key)) 0xca
      -- 2 the nullifier
      ∷ eqb (first_byte (with_prefix nullifier_prefix key)) 0xea
      -- 3 tag 1
      ∷ eqb (first_byte (with_prefix (mac_prefix 1) key)) 0x0a
      -- 4 tag 2
      ∷ eqb (first_byte (with_prefix (mac_prefix 2) key)) 0x4a
      -- 5 new rho 1
      ∷ eqb (first_byte (with_prefix (rho_prefix 1) phi)) 0x25
      -- 6 new rho 2
      ∷ eqb (first_byte (with_prefix (rho_prefix 2) phi)) 0x65
      -- 7 the highest public value is allowed, on either side
      ∷ answers (first (no5 (public 2100000000000000 0))) 0 0
      ∷ answers (first (no5 (public 0 2100000000000000))) 0 0
      -- 8 one more is refusal 5
      ∷ answers (first (no5 (public 2100000000000001 0))) 5 1
      ∷ answers (first (no5 (public 0 2100000000000001))) 5 2
      -- 9 two public values are refusal 4
      ∷ answers (first (no4 (public 1 1))) 4 0
      -- 10 balanced
      ∷ answers (first (no11 (valued 0 7000 3000 10000 0 0))) 0 0
      -- 11 not balanced
      ∷ answers (first (no11 (valued 0 (2 ^ 64 - 1) 1 0 0 0))) 11 0
      -- 12 the last leaf's position is allowed
      ∷ not (out_of_range key (2 ^ 29 - 1))
      -- 13, of request No. 1: balanced, and above what either side may come to
      ∷ answers (first (no11 (valued 0 (2 ^ 64 - 1) 1 0 (2 ^ 64 - 1) 1))) 11 0
      ∷ []

  all_marked : every marked ≡ true
  unfolding every first_byte answers public key phi marked with_prefix has_top_bits first valued no4 no5 no11 both_public above_money out_of_range unbalanced unbalanced_of vpub_old_of vpub_new_of old_value_of new_value_of part_of offset total lengths description old_note_lengths new_note_lengths case_length proof_length field listed little little_bytes
  all_marked = refl

  -- 1 to 6 once more, of the hashes themselves: each compresses a block that begins so
  marked_blocks : (rho h_sig : List ℕ) → (address_from key ≡ compress_of ((0xca ∷ rest) ++ (0 ∷ zeros 31)))
      × ((nullifier_from key rho ≡ compress_of ((0xea ∷ rest) ++ rho))
      × ((mac_from 1 key h_sig ≡ compress_of ((0x0a ∷ rest) ++ h_sig))
      × ((mac_from 2 key h_sig ≡ compress_of ((0x4a ∷ rest) ++ h_sig))
      × ((rho_from 1 phi h_sig ≡ compress_of ((0x25 ∷ rest) ++ h_sig)) × (rho_from 2 phi h_sig ≡ compress_of ((0x65 ∷ rest) ++ h_sig))))))
  unfolding key phi with_prefix prefixed address_from nullifier_from mac_from rho_from
  marked_blocks rho h_sig = (refl, (refl, (refl, (refl, (refl, refl)))))

  -- THE TOP FOUR BITS of a key and of phi are dropped: with any of them set, each hash is that of the key without. n is those bits, x the four below
  topped : ℕ → ℕ → List ℕ
  topped n x = (16 * n + x) ∷ rest

  dropped : (tag n x : ℕ) → x < 16 → with_prefix tag (topped n x) ≡ with_prefix tag (x ∷ rest)
  unfolding with_prefix topped
  dropped tag n x h =
      let e : (16 * n + x) % 16 ≡ x % 16 = omega arith in
      rw e

  marked_keys : (n x : ℕ) → x < 16 → (s : List ℕ) → (address_from (topped n x) ≡ address_from (x ∷ rest))
      × ((nullifier_from (topped n x) s ≡ nullifier_from (x ∷ rest) s)
      × (((i : ℕ) → mac_from i (topped n x) s ≡ mac_from i (x ∷ rest) s) × ((i : ℕ) → rho_from i (topped n x) s ≡ rho_from i (x ∷ rest) s)))
  unfolding prefixed address_from nullifier_from mac_from rho_from
  marked_keys n x h s =
      (rw (dropped address_prefix n x h), (rw (dropped nullifier_prefix n x h), (λ i. rw (dropped (mac_prefix i) n x h), λ i. rw (dropped (rho_prefix i) n x h))))
