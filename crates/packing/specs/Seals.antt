-- A seal's body from a gate and a raw reading, and these from words: the gate's name, its limits, the raw reading.
-- Assumes nothing.
use Rattle.std.specs.Prelude.{ℕ, ◌+◌, cond, List, ◌∷◌, ◌++◌, ◌==◌, nat_lt, to_bits, Float, Option, Some, None as no_kind}
use Rattle.std.specs.Float.{binary64}
use Rattle.octets.specs.Parts.{zeros, same}
use Rattle.octets.specs.Numbers.{little_bytes}
use Rattle.text.specs.Words.{ascii}
use Rattle.seal.specs.declared.Gate.{Gate}
use Rattle.seal.specs.declared.Gate.TheVariants.{None, AtLeast, Between}
use Rattle.packing.specs.Words.{word}
use Rattle.packing.specs.Decimals.{number_of}

-- a binary64 number as eight bytes, little-endian
unfoldable pub float_bytes : Float → List ℕ
float_bytes x = little_bytes 8 (to_bits binary64 x)

-- THE BODY, 25 bytes: gate kind, low, high, raw; an unused limit is zero bytes
unfoldable pub seal_bytes : Gate → Float → List ℕ
seal_bytes None raw = 0 ∷ zeros 8 ++ zeros 8 ++ float_bytes raw
seal_bytes (AtLeast low) raw = 1 ∷ float_bytes low ++ zeros 8 ++ float_bytes raw
seal_bytes (Between low high) raw = 2 ∷ float_bytes low ++ float_bytes high ++ float_bytes raw

-- THE WORDS. The gate kind that a word names; 3 where it names none
unfoldable pub kind_named : List ℕ → ℕ
kind_named w = cond (same w (ascii "none")) 0 (cond (same w (ascii "at-least")) 1 (cond (same w (ascii "between")) 2 3))

-- the kind, where the word names one
unfoldable pub gate_kind : List ℕ → Option ℕ
gate_kind w = cond (kind_named w == 3) no_kind (Some (kind_named w))

-- how many words a seal has: its gate's name, a limit for kind 1, two for kind 2, the raw reading
abbrev pub seal_words : ℕ → ℕ
seal_words kind = kind + 2

unfoldable pub gate_in : ℕ → List ℕ → Gate
gate_in kind line =
    cond (kind == 0) None
    (cond (kind == 1) (AtLeast (number_of (word 1 line)))
    (Between (number_of (word 1 line)) (number_of (word 2 line))))

-- what the body has for the limit in word k, which gates from kind k on use
unfoldable pub limit_bytes : ℕ → ℕ → List ℕ → List ℕ
limit_bytes kind k line = cond (nat_lt kind k) (zeros 8) (float_bytes (number_of (word k line)))

unfoldable pub raw_in : ℕ → List ℕ → Float
raw_in kind line = number_of (word (kind + 1) line)

abbrev pub seal_of : ℕ → List ℕ → List ℕ
seal_of kind line = seal_bytes (gate_in kind line) (raw_in kind line)
