-- The array of 64 words while the schedule grows in it: what a store of the next word makes of it.
-- Assumes nothing.
use mathlib.Core.Path.{◌≡◌, sym, ap, ap₂, ◌∙◌}
use mathlib.Core.List.{List, [], ◌∷◌, ◌++◌, append_assoc, append-nil}
use Prim.Native.Nat.{ℕ, zero, suc, ◌+◌, ◌-◌, ◌<◌}
use native.Mathlib.Numerals.{add-one}
use native.Mathlib.Omega.{arith}
use lib.ListN.{length, set, length-append, get_or-append}
use lib.Seq.{set_at}
use Rattle.octets.specs.Parts.{zeros, listed}
use Rattle.octets.proofs.Filling.{listed_length}
use Rattle.sha256.specs.Compression.{word_at, next_word, extended, schedule, schedule_of}

-- w has the words of the block b, n more, and zeros up to 64 words
abbrev pub Grown : List ℕ → ℕ → List ℕ → Type 0
Grown b n w = w ≡ schedule n (listed (word_at b) 16) ++ zeros (48 - n)

schedule_length : (n : ℕ) (m : List ℕ) → length (schedule n m) ≡ n + length m
unfolding schedule extended
schedule_length zero m = omega arith
schedule_length (suc n) m = omega (arith, length-append (schedule n m) (next_word (schedule n m) n ∷ []), schedule_length n m)

-- the next word comes from the words that are there, not from the zeros behind them
near : (w z : List ℕ) (n : ℕ) → length w ≡ n + 16 → next_word (w ++ z) n ≡ next_word w n
unfolding next_word
near w z n h =
    rw (get_or-append w z 0 (n + 14) (omega arith), get_or-append w z 0 (n + 9) (omega arith), get_or-append w z 0 (n + 1) (omega arith), get_or-append w z 0 n (omega arith))

-- one word more
pub grown : (b w v : List ℕ) (n k : ℕ) → k ≡ n + 1 → n < 48 → Grown b n w → v ≡ set w (n + 16) (next_word w n) → Grown b k v
unfolding schedule extended
grown b w v n k o h g e =
    let s = schedule n (listed (word_at b) 16) in
    let z = zeros (48 - k) in
    let l : length s ≡ n + 16 = omega (arith, schedule_length n (listed (word_at b) 16), listed_length (word_at b) 16) in
    let r : 48 - n ≡ suc (48 - k) = omega arith in
    let x : next_word w n ≡ next_word s n = ap (λ (y : List ℕ). next_word y n) g ∙ near s (zeros (48 - n)) n l in
    e ∙ ap₂ (λ (y : List ℕ) (u : ℕ). set y (n + 16) u) (g ∙ ap (λ (j : ℕ). s ++ zeros j) r) x ∙ set_at s 0 z (next_word s n) (n + 16) l
    ∙ sym (append_assoc s (next_word s n ∷ []) z) ∙ ap (λ (j : ℕ). schedule j (listed (word_at b) 16) ++ z) (sym (o ∙ add-one n))

pub all : (b w : List ℕ) (n : ℕ) → n ≡ 48 → Grown b n w → w ≡ schedule_of b
unfolding schedule_of
all b w n e g =
    let h : Grown b 48 w = rw e at g in
    h ∙ append-nil (schedule 48 (listed (word_at b) 16))
