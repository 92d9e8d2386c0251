-- What a whole body says, where its gate was read or refused.
-- Assumes nothing.
use mathlib.Core.Path.{◌≡◌, refl, ap, ◌∙◌}
use mathlib.Core.Bool.{Bool, true, false, cond}
use Rattle.std.specs.Prelude.{Result, Ok, Err, Float}
use Rattle.std.specs.Result.{IsErr, IsErrAnd}
use Rattle.seal.specs.declared.Gate.{Gate}
use Rattle.seal.specs.declared.Reading.{Reading}
use Rattle.seal.specs.declared.SealRefusal.{SealRefusal}
use Rattle.seal.specs.declared.SealRefusal.TheVariants.{Broken}

-- A gate read in a body, and the raw reading beside it, by whether the body is broken.
with_raw : Float → Result Gate SealRefusal → Result Reading SealRefusal
with_raw x (Ok g) = Ok (record { gate = g; raw = x })
with_raw x (Err e) = Err e

by_broken : (x : Float) (g : Gate) (b : Bool) → with_raw x (cond b (Err Broken) (Ok g)) ≡ cond b (Err Broken) (Ok (record { gate = g; raw = x }))
unfolding with_raw
by_broken x g true = refl
by_broken x g false = refl

-- The bytes' own gate goes on with the raw reading.
pub gate_read : (x : Float) (g h : Gate) (b : Bool) → Ok h ≡ cond b (Err Broken) (Ok g) → ◌≡◌ {A = Result Reading SealRefusal} (Ok (record { gate = h; raw = x })) (cond b (Err Broken) (Ok (record { gate = g; raw = x })))
unfolding with_raw
gate_read x g h b e = ap (with_raw x) e ∙ by_broken x g b

-- The gate's refusal is the body's.
pub gate_refused : (x : Float) (g : Gate) (b : Bool) (e : SealRefusal) (r : Result Reading SealRefusal) → Err e ≡ cond b (Err Broken) (Ok g) → IsErr r × IsErrAnd r (λ (a : SealRefusal). a ≡ e)
    → r ≡ cond b (Err Broken) (Ok (record { gate = g; raw = x }))
unfolding with_raw
gate_refused x g b e (Err a) q h = ap Err h.1 ∙ ap (with_raw x) q ∙ by_broken x g b
gate_refused x g b e (Ok y) q h = absurd h.1
