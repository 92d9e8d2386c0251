-- What a turn of a loop adds: one round, one block; and the last block.
-- Assumes nothing.
use Rattle.std.proofs.Common.{◌≡◌, sym, ap, ℕ, ◌+◌, ◌*◌, ◌≤◌, true, false, List, length, take, drop, ◌∙◌, add-one, arith}
use Rattle.octets.specs.Parts.{field}
use Rattle.octets.proofs.PartLaws.{field_part}
use Rattle.blake2b.specs.Compression.{round, rounds, F}
use Rattle.blake2b.specs.Hashing.{block, last_block, blocks, absorbed}

pub next_round : (i : ℕ) (m v w r : List ℕ) → w ≡ rounds i m v → r ≡ round m i w → r ≡ rounds (i + 1) m v
unfolding rounds
next_round i m v w r p q = q ∙ rw (add-one, p)

pub next_block : (i : ℕ) (g h r m : List ℕ) → i * 128 + 128 ≤ length m → h ≡ blocks i g m → r ≡ F h (take 128 (drop (i * 128) m)) (128 * (i + 1)) false
    → r ≡ blocks (i + 1) g m
unfolding blocks block
next_block i g h r m l p q =
    let e : i * 128 ≡ 128 * i = omega arith in
    q ∙ rw (← field_part (i * 128) 128 m l, e, p) (ap (λ (n : ℕ). blocks n g m) (sym (add-one i)))

pub final_block : (q : ℕ) (g h b r m : List ℕ) → q ≡ last_block (length m) → h ≡ blocks q g m → b ≡ field (128 * q) 128 m → r ≡ F h b (length m) true
    → r ≡ absorbed g m
unfolding absorbed block
final_block q g h b r m w p c e = e ∙ rw (p, c, w)
