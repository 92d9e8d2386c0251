-- The wire's pull, the gate, and the refusals 21 to 23.
-- Assumes nothing.
use Rattle.std.specs.Prelude.{Bool, true, false, cond, not, ◌&&◌, ◌||◌, List, [], ◌∷◌, Float, Result, Ok, Err}
use Rattle.std.specs.Float.{binary64}
use Rattle.std.specs.Float.Ieee.{add, mul, lt, le}
use Rattle.std.specs.Float.Ieee.Scale.{finite}
use Rattle.refusals.specs.declared.Answer.{Answer}
use Rattle.refusals.specs.Rules.{Rule, rule, answer, accepted}
use Rattle.seal.specs.declared.Calibration.{Calibration}
use Rattle.seal.specs.declared.Gate.{Gate}
use Rattle.seal.specs.declared.Gate.TheVariants.{None, AtLeast, Between}
use Rattle.seal.specs.declared.SealRefusal.{SealRefusal}
use Rattle.seal.specs.declared.SealRefusal.TheVariants.{Broken, BadLimit, NotFinite, Outside}

-- a product and a sum, each rounded by itself
unfoldable pub pull_of : Float → Calibration → Float
pull_of raw c = add binary64 (mul binary64 raw c.gain) c.offset

-- 21: a limit that is no finite number, or two the wrong way round
unfoldable pub bad_limit : Gate → Bool
bad_limit None = false
bad_limit (AtLeast low) = not (finite low)
bad_limit (Between low high) = not (finite low) || not (finite high) || lt high low

-- 22: pull not finite
abbrev pub not_finite : Float → Bool
not_finite p = not (finite p)

-- within the gate: at least the limit; between the two limits, ends included
unfoldable pub within : Gate → Float → Bool
within None p = true
within (AtLeast low) p = le low p
within (Between low high) p = le low p && le p high

-- 23: pull outside the gate
abbrev pub outside : Gate → Float → Bool
outside g p = not (within g p)

-- a pull at a gate: the first refusal that applies, and none of them hands out the pull
unfoldable pub at_gate : Gate → Float → Result Float SealRefusal
at_gate g p = cond (bad_limit g) (Err BadLimit) (cond (not_finite p) (Err NotFinite) (cond (outside g p) (Err Outside) (Ok p)))

-- the judgement of a raw reading
unfoldable pub judge_of : Calibration → Gate → Float → Result Float SealRefusal
judge_of c g raw = at_gate g (pull_of raw c)

-- the number and the place of each answer; 20 is the layout's, by what the body says
abbrev pub answer_for : SealRefusal → Answer
answer_for Broken = answer 20 0
answer_for BadLimit = answer 21 0
answer_for NotFinite = answer 22 0
answer_for Outside = answer 23 0

abbrev pub seal_answer : Result Float SealRefusal → Answer
seal_answer (Ok p) = accepted
seal_answer (Err refusal) = answer_for refusal

-- the same as a table of refusals: 21, 22 and 23 at place 0
unfoldable pub seal_refusals : Calibration → Gate → Float → List Rule
seal_refusals c g raw = rule (bad_limit g) 21 0 ∷ rule (not_finite (pull_of raw c)) 22 0 ∷ rule (outside g (pull_of raw c)) 23 0 ∷ []
