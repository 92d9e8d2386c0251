-- Document 01's examples of the pull and edges of the gate and of the body, as one list of tests that antt computes. A number is written by its pattern.
-- Assumes nothing.
use Prim.Native.Nat.{ℕ}
use mathlib.Core.Path.{◌≡◌, refl}
use mathlib.Core.Bool.{Bool, true, ◌&&◌}
use mathlib.Core.List.{List, [], ◌∷◌, ◌++◌, foldr}
use lib.Dec.{eqb}
use lib.Ieee
use lib.Ieee.{Float, binary64, of_bits, to_bits}
use Rattle.octets.specs.Parts.{zeros, listed, field, same}
use Rattle.octets.specs.Numbers.{little, little_bytes}
use Rattle.seal.specs.declared.Calibration.{Calibration}
use Rattle.seal.specs.declared.Gate.{Gate}
use Rattle.seal.specs.declared.Gate.TheVariants.{None, AtLeast, Between}
use Rattle.std.specs.Prelude.{Result, Ok, Err}
use Rattle.seal.specs.declared.Reading.{Reading}
use Rattle.seal.specs.declared.SealRefusal.{SealRefusal}
use Rattle.seal.specs.Pull.{pull_of, bad_limit, within, at_gate, judge_of, answer_for, seal_answer}
use Rattle.seal.specs.Body.{float_of, is_zero, gate_of, unused_limit_set, is_broken, read_of}

abbrev minus0 : ℕ
minus0 = 0x8000000000000000

abbrev half : ℕ
half = 0x3fe0000000000000

abbrev one : ℕ
one = 0x3ff0000000000000

abbrev forty : ℕ
forty = 0x4044000000000000

abbrev fifty : ℕ
fifty = 0x4049000000000000

abbrev fifty_one : ℕ
fifty_one = 0x4049800000000000

abbrev hundred : ℕ
hundred = 0x4059000000000000

abbrev highest : ℕ
highest = 0x7fefffffffffffff

abbrev infinity : ℕ
infinity = 0x7ff0000000000000

abbrev no_number : ℕ
no_number = 0xfff8000000000001

abbrev f : ℕ → Float
f = of_bits binary64

abbrev gain_offset : ℕ → ℕ → Calibration
gain_offset gain offset = record { gain = f gain; offset = f offset }

-- the pull of a raw reading, bit for bit
abbrev pulls : ℕ → Calibration → ℕ → Bool
pulls reading c p = eqb (to_bits binary64 (pull_of (f reading) c)) p

-- the number that a raw reading is answered; the place is 0
abbrev answers : Calibration → Gate → ℕ → ℕ → Bool
answers c g reading n =
    let a = seal_answer (judge_of c g (f reading)) in
    eqb a.number n && eqb a.place 0

abbrev body : ℕ → ℕ → ℕ → ℕ → List ℕ
body kind low high reading = kind ∷ little_bytes 8 low ++ (little_bytes 8 high ++ little_bytes 8 reading)

-- the number of what some bytes say, at gain 0.5 and offset 1; a breach is 20
abbrev number_of : Result Reading SealRefusal → ℕ
number_of (Ok reading) = (seal_answer (judge_of (gain_offset half one) reading.gate reading.raw)).number
number_of (Err refusal) = (answer_for refusal).number

abbrev says : List ℕ → ℕ → Bool
says bytes n = eqb (number_of (read_of bytes)) n

abbrev tests : List Bool
tests =
    -- half of 100 and 1 more is 51 to the last bit: enough where 51 is asked for, and too much for 40 to 50
    pulls hundred (gain_offset half one) fifty_one
    ∷ answers (gain_offset half one) (AtLeast (f fifty_one)) hundred 0
    ∷ answers (gain_offset half one) (Between (f forty) (f fifty)) hundred 23
    -- minus zero is not below 0
    ∷ pulls minus0 (gain_offset one minus0) minus0
    ∷ answers (gain_offset one minus0) (AtLeast (f 0)) minus0 0
    -- both ends pass
    ∷ answers (gain_offset one 0) (Between (f forty) (f fifty)) forty 0
    ∷ answers (gain_offset one 0) (Between (f forty) (f fifty)) fifty 0
    -- 21 goes before 22: a limit that is no number, where the pull is none either; so does low above high
    ∷ answers (gain_offset one 0) (AtLeast (f no_number)) no_number 21
    ∷ answers (gain_offset one 0) (Between (f 0) (f no_number)) no_number 21
    ∷ answers (gain_offset one 0) (AtLeast (f infinity)) infinity 21
    ∷ answers (gain_offset one 0) (Between (f fifty) (f forty)) no_number 21
    -- a pull that is infinite, by its reading or by its sum, or no number
    ∷ answers (gain_offset one 0) None infinity 22
    ∷ answers (gain_offset one highest) (AtLeast (f 0)) highest 22
    ∷ answers (gain_offset one 0) None no_number 22
    -- a body of each gate kind, and the breaches
    ∷ says (body 0 0 0 hundred) 0
    ∷ says (body 1 fifty_one 0 hundred) 0
    ∷ says (body 2 forty fifty hundred) 23
    ∷ says (body 2 fifty forty hundred) 21
    ∷ says (body 0 0 0 no_number) 22
    ∷ says (body 3 0 0 hundred) 20
    ∷ says (body 0 one 0 hundred) 20
    ∷ says (body 0 0 one hundred) 20
    ∷ says (body 1 one minus0 hundred) 20
    ∷ says (body 0 0 0 hundred ++ (0 ∷ [])) 20
    ∷ says (zeros 24) 20
    ∷ []

marked : foldr ◌&&◌ true tests ≡ true
unfolding Ieee.of_bits Ieee.to_bits Ieee.mul Ieee.add Ieee.le Ieee.lt pull_of bad_limit within at_gate judge_of listed field same little little_bytes float_of is_zero gate_of unused_limit_set is_broken read_of
marked = refl
