-- The order of the case's own table: no row has the number 0, and the numbers never fall.
-- Assumes nothing.
use Prim.Native.Nat.{ℕ}
use mathlib.Core.Path.{◌≡◌, refl}
use mathlib.Core.Bool.{true}
use mathlib.Core.List.{List}
use Rattle.refusals.specs.Rules.{rules_in, numbered}
use Rattle.refusals.proofs.TwoTables.{never_falls}
use Rattle.statement.specs.CaseRefusals.{no1, no4, no5, no7, no9, no10, no11, no12, no13, no14, no15, no16, derived_refusals, claim_refusals, witness_refusals, case_refusals}

pub case_numbered : (c : List ℕ) → numbered (case_refusals c) ≡ true
unfolding numbered rules_in no1 no4 no5 no7 no9 no10 no11 no12 no13 no14 no15 no16 derived_refusals claim_refusals witness_refusals case_refusals
case_numbered c = refl

pub case_rises : (c : List ℕ) → never_falls (case_refusals c) ≡ true
unfolding never_falls rules_in no1 no4 no5 no7 no9 no10 no11 no12 no13 no14 no15 no16 derived_refusals claim_refusals witness_refusals case_refusals
case_rises c = refl
