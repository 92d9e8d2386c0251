-- What the judgement answers where, what a pull that passed is, and that a reading which is no number never passes.
-- Assumes nothing.
use Prim.Native.Nat.{ℕ}
use mathlib.Core.Path.{◌≡◌, refl, sym, ap, ◌∙◌}
use mathlib.Core.Logic.{◌⊎◌, inl, inr}
use mathlib.Core.Bool.{Bool, true, false, cond}
use native.Mathlib.Omega.{arith}
use lib.Ieee
use lib.Ieee.{Float, nan}
use lib.Ieee.Scale.{finite}
use Rattle.refusals.specs.Rules.{answer, accepted, first}
use Rattle.refusals.proofs.RuleLaws.{by_test}
use Rattle.seal.specs.declared.Calibration.{Calibration}
use Rattle.seal.specs.declared.Gate.{Gate}
use Rattle.std.specs.Prelude.{Ok, Err}
use Rattle.seal.specs.declared.SealRefusal.TheVariants.{BadLimit, NotFinite, Outside}
use Rattle.seal.specs.Pull.{pull_of, bad_limit, not_finite, within, outside, at_gate, judge_of, seal_answer, seal_refusals}

module _ (g : Gate) (p : Float) where
  pub bad_limit_lem : bad_limit g ≡ true → Err BadLimit ≡ at_gate g p
  unfolding at_gate
  bad_limit_lem b = rw b

  pub not_finite_lem : bad_limit g ≡ false → finite p ≡ false → Err NotFinite ≡ at_gate g p
  unfolding at_gate
  not_finite_lem b f = rw (b, f)

  pub not_within : bad_limit g ≡ false → finite p ≡ true → within g p ≡ false → Err Outside ≡ at_gate g p
  unfolding at_gate
  not_within b f w = rw (b, f, w)

  pub passes : bad_limit g ≡ false → finite p ≡ true → within g p ≡ true → Ok p ≡ at_gate g p
  unfolding at_gate
  passes b f w = rw (b, f, w)

  -- what passed is the pull itself, a number, and within sound limits
  pub passed : (q : Float) → at_gate g p ≡ Ok q → (q ≡ p) × ((bad_limit g ≡ false) × ((finite p ≡ true) × (within g p ≡ true)))
  passed q e =
      by_test (bad_limit g)
      (λ b. absurd (let z : ◌≡◌ {A = ℕ} 0 1 = cc (bad_limit_lem b ∙ e) in omega arith))
      (λ b. by_test (finite p)
      (λ f. by_test (within g p)
      (λ w. (cc (passes b f w ∙ e), (b, (f, w))))
      (λ w. absurd (let z : ◌≡◌ {A = ℕ} 0 1 = cc (not_within b f w ∙ e) in omega arith)))
      (λ f. absurd (let z : ◌≡◌ {A = ℕ} 0 1 = cc (not_finite_lem b f ∙ e) in omega arith)))

module _ (c : Calibration) (g : Gate) where
  -- the answer is that of the table's first row that applies
  pub answered : (raw : Float) → seal_answer (judge_of c g raw) ≡ first (seal_refusals c g raw)
  unfolding judge_of at_gate seal_refusals first
  answered raw = by_tests (bad_limit g) (not_finite (pull_of raw c)) (outside g (pull_of raw c))
    where
      by_tests : (b f o : Bool) → seal_answer (cond b (Err BadLimit) (cond f (Err NotFinite) (cond o (Err Outside) (Ok (pull_of raw c))))) ≡ cond b (answer 21 0) (cond f (answer 22 0) (cond o (answer 23 0) accepted))
      by_tests true f o = refl
      by_tests false true o = refl
      by_tests false false true = refl
      by_tests false false false = refl

  -- a pull that passed is a number: a NaN never passes
  pub passed_finite : (raw p : Float) → judge_of c g raw ≡ Ok p → finite p ≡ true
  unfolding judge_of
  passed_finite raw p e = let h = passed g (pull_of raw c) p e in ap finite h.0 ∙ h.1.1.0

  nan_pull : pull_of nan c ≡ nan
  unfolding pull_of Ieee.mul Ieee.add
  nan_pull = refl

  -- a raw reading that is no number is refused by 21 or 22
  pub nan_refused : (seal_answer (judge_of c g nan) ≡ answer 21 0) ⊎ (seal_answer (judge_of c g nan) ≡ answer 22 0)
  unfolding judge_of
  nan_refused =
      by_test (bad_limit g)
      (λ b. inl (ap seal_answer (sym (bad_limit_lem g (pull_of nan c) b))))
      (λ b. inr (ap seal_answer (sym (not_finite_lem g (pull_of nan c) b (ap finite nan_pull)))))
