-- A seal's body in the bag, 25 bytes: gate kind in one, low, high and raw in eight each.
-- Assumes nothing.
use Rattle.std.specs.Prelude.{ℕ, Bool, cond, not, ◌&&◌, ◌||◌, List, eqb, ltb, length, get_or, Float, Result, Ok, Err}
use Rattle.std.specs.Float.{binary64}
use Rattle.std.specs.Float.Ieee.{of_bits}
use Rattle.octets.specs.Parts.{zeros, field, same}
use Rattle.octets.specs.Numbers.{little}
use Rattle.seal.specs.declared.Gate.{Gate}
use Rattle.seal.specs.declared.Gate.TheVariants.{None, AtLeast, Between}
use Rattle.seal.specs.declared.Reading.{Reading}
use Rattle.seal.specs.declared.SealRefusal.{SealRefusal}
use Rattle.seal.specs.declared.SealRefusal.TheVariants.{Broken}

abbrev pub kind : List ℕ → ℕ
kind s = get_or s 0 0

abbrev pub low : List ℕ → List ℕ
low s = field 1 8 s

abbrev pub high : List ℕ → List ℕ
high s = field 9 8 s

abbrev pub raw : List ℕ → List ℕ
raw s = field 17 8 s

-- eight bytes as a binary64 number, little-endian, whatever their bits are: every NaN's pattern is the one `nan`
unfoldable pub float_of : List ℕ → Float
float_of b = of_bits binary64 (little b)

-- eight zero bytes
unfoldable pub is_zero : List ℕ → Bool
is_zero b = same b (zeros 8)

-- the gate by its kind, of which there are three; a limit from below stands in low
unfoldable pub gate_of : List ℕ → Gate
gate_of s =
    cond (eqb (kind s) 0) None
    (cond (eqb (kind s) 1) (AtLeast (float_of (low s)))
    (Between (float_of (low s)) (float_of (high s))))

-- an unused limit is zero bytes: gates of kind k do not use a limit that is used from a higher kind on
unfoldable pub unused_limit_set : ℕ → ℕ → List ℕ → Bool
unused_limit_set k from limit = ltb k from && not (is_zero limit)

-- a breach: not 25 bytes, an unknown gate kind, or an unused limit that is not zero bytes
unfoldable pub is_broken : List ℕ → Bool
is_broken s = not (eqb (length s) 25) || ltb 2 (kind s) || unused_limit_set (kind s) 1 (low s) || unused_limit_set (kind s) 2 (high s)

-- what the bytes say
unfoldable pub read_of : List ℕ → Result Reading SealRefusal
read_of s = cond (is_broken s) (Err Broken) (Ok (record { gate = gate_of s; raw = float_of (raw s) }))
