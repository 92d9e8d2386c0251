-- No two refusals are told alike: from number, place and row it is read which one was meant. So a contract over what is told leaves nothing open.
-- Assumes nothing.
use Prim.Native.Nat.{ℕ}
use mathlib.Core.Path.{◌≡◌, refl, sym, ap, ◌∙◌}
use mathlib.Core.Bool.{cond}
use lib.Dec.{eqb}
use Rattle.std.specs.Prelude.{Result, Ok, Err}
use Rattle.units.specs.declared.Row.{Row}
use Rattle.units.specs.declared.Which.{Which}
use Rattle.units.specs.declared.Which.TheVariants.{First, Second}
use Rattle.refusals.specs.declared.Answer.{Answer}
use Rattle.refusals.specs.declared.Refusal.{Refusal}
use Rattle.refusals.specs.declared.Refusal.TheVariants.{Length, Damaged, NoRoom, BothPublic, AboveMoney, NoAnchor, EqualNullifiers, Spent, OldOutOfRange, PhiOutOfRange, PathAstray, Unbalanced, WrongNullifier, WrongAddress, WrongTag, WrongRho, WrongCommitment, PoolOutside}
use Rattle.refusals.specs.Reasons.{answer_for, as_answer}

which : ℕ → Which
which p = cond (eqb p 1) First Second

-- by the number from 12 on, below that, and the two that a place or a row tells apart
late : ℕ → ℕ → Refusal
late n p = cond (eqb n 12) (WrongNullifier (which p)) (cond (eqb n 13) (WrongAddress (which p)) (cond (eqb n 14) (WrongTag (which p)) (cond (eqb n 15) (WrongRho (which p)) (cond (eqb n 16) (WrongCommitment (which p)) PoolOutside))))

middle : ℕ → ℕ → Row → Refusal
middle n p r = cond (eqb n 7) EqualNullifiers (cond (eqb n 8) (Spent (which p) r) (cond (eqb n 9) (cond (eqb p 3) PhiOutOfRange (OldOutOfRange (which p))) (cond (eqb n 10) (PathAstray (which p)) (cond (eqb n 11) Unbalanced (late n p)))))

meant : ℕ → ℕ → Row → Refusal
meant n p r = cond (eqb n 1) Length (cond (eqb n 2) Damaged (cond (eqb n 3) NoRoom (cond (eqb n 4) BothPublic (cond (eqb n 5) (AboveMoney (which p)) (cond (eqb n 6) NoAnchor (middle n p r))))))

heard : Answer → Result Unit Refusal
heard a = cond (eqb a.number 0) (Ok tt) (Err (meant a.number a.place a.row))

two : (f : Which → Refusal) → heard (answer_for (f First)) ≡ Err (f First) → heard (answer_for (f Second)) ≡ Err (f Second) → (i : Which) → heard (answer_for (f i)) ≡ Err (f i)
two f a b = elim [ First ↦ a | Second ↦ b ]

refused_heard : (x : Refusal) → heard (answer_for x) ≡ Err x
unfolding heard meant which middle late
refused_heard = elim [ Length ↦ refl | Damaged ↦ refl | NoRoom ↦ refl | BothPublic ↦ refl | AboveMoney i ↦ two AboveMoney refl refl i | NoAnchor ↦ refl | EqualNullifiers ↦ refl | Spent i row ↦ two (λ j. Spent j row) refl refl i | OldOutOfRange i ↦ two OldOutOfRange refl refl i | PhiOutOfRange ↦ refl | PathAstray i ↦ two PathAstray refl refl i | Unbalanced ↦ refl | WrongNullifier i ↦ two WrongNullifier refl refl i | WrongAddress i ↦ two WrongAddress refl refl i | WrongTag i ↦ two WrongTag refl refl i | WrongRho i ↦ two WrongRho refl refl i | WrongCommitment i ↦ two WrongCommitment refl refl i | PoolOutside ↦ refl ]

told_heard : (x : Result Unit Refusal) → heard (as_answer x) ≡ x
unfolding heard
told_heard (Ok u) = refl
told_heard (Err x) = refused_heard x

-- THE LAW
pub told_apart : (x y : Result Unit Refusal) → as_answer x ≡ as_answer y → x ≡ y
told_apart x y e = sym (told_heard x) ∙ ap heard e ∙ told_heard y
