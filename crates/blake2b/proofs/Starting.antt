-- The state at the start of a message and the work vector at the start of a block, from the words that the code puts there.
-- Assumes nothing.
use Rattle.std.proofs.Common.{◌≡◌, ℕ, ◌+◌, ◌/◌, ◌%◌, ◌^◌, ◌<◌, Bool, List, [], ◌∷◌, ◌++◌, sym, refl, ap, arith}
use Rattle.octets.specs.Numbers.{little}
use Rattle.octets.specs.Parts.{listed, field}
use Rattle.blake2b.specs.Compression.{word_at, iv, xored, flag, start}
use Rattle.blake2b.specs.Hashing.{parameters, initial}

-- the eight words of the parameter block
parameter_words : (nn : ℕ) (p : List ℕ) → listed (word_at (parameters nn p)) 8 ≡ (nn + 0x01010000) ∷ 0 ∷ 0 ∷ 0 ∷ 0 ∷ 0 ∷ word_at p 0 ∷ word_at p 1 ∷ []
unfolding parameters word_at little field listed
parameter_words nn p = refl

pub state_start : (nn a b : ℕ) (p : List ℕ) → a ≡ word_at p 0 → b ≡ word_at p 1 → xored iv ((nn + 0x01010000) ∷ 0 ∷ 0 ∷ 0 ∷ 0 ∷ 0 ∷ a ∷ b ∷ []) ≡ initial nn p
unfolding initial
state_start nn a b p e f = rw (e, f) (ap (xored iv) (sym (parameter_words nn p)))

-- the count has one word, so its high word is zero
pub vector_start : (h : List ℕ) (t : ℕ) (last : Bool) (f : ℕ) → t < 2 ^ 64 → f ≡ flag last → field 0 8 h ++ xored iv (0 ∷ 0 ∷ 0 ∷ 0 ∷ t ∷ 0 ∷ f ∷ 0 ∷ []) ≡ start h t last
unfolding start
vector_start h t last f l g =
    let low : t % 2 ^ 64 ≡ t = omega arith in
    let high : t / 2 ^ 64 ≡ 0 = omega arith in
    rw (low, high, g)
