-- Why a case, a closing or an opening is refused, and the number, the place and the row that this is told by.
-- Assumes nothing.
use Rattle.std.specs.Prelude.{Result, Ok, Err}
use Rattle.units.specs.Pairs.{number_of}
use Rattle.refusals.specs.declared.Answer.{Answer}
use Rattle.refusals.specs.declared.Refusal.{Refusal}
use Rattle.refusals.specs.declared.Refusal.TheVariants.{Length, Damaged, NoRoom, BothPublic, AboveMoney, NoAnchor, EqualNullifiers, Spent, OldOutOfRange, PhiOutOfRange, PathAstray, Unbalanced, WrongNullifier, WrongAddress, WrongTag, WrongRho, WrongCommitment, PoolOutside}
use Rattle.refusals.specs.Rules.{accepted, answer, answer_in_row}

abbrev pub answer_for : Refusal → Answer
answer_for Length = answer 1 0
answer_for Damaged = answer 2 0
answer_for NoRoom = answer 3 0
answer_for BothPublic = answer 4 0
answer_for (AboveMoney i) = answer 5 (number_of i)
answer_for NoAnchor = answer 6 0
answer_for EqualNullifiers = answer 7 0
answer_for (Spent i row) = answer_in_row 8 (number_of i) row.0
answer_for (OldOutOfRange i) = answer 9 (number_of i)
answer_for PhiOutOfRange = answer 9 3
answer_for (PathAstray i) = answer 10 (number_of i)
answer_for Unbalanced = answer 11 0
answer_for (WrongNullifier i) = answer 12 (number_of i)
answer_for (WrongAddress i) = answer 13 (number_of i)
answer_for (WrongTag i) = answer 14 (number_of i)
answer_for (WrongRho i) = answer 15 (number_of i)
answer_for (WrongCommitment i) = answer 16 (number_of i)
answer_for PoolOutside = answer 17 0

-- what is asked of a case, told: acceptance where nothing is against it
abbrev pub as_answer : Result Unit Refusal → Answer
as_answer (Ok _) = accepted
as_answer (Err refusal) = answer_for refusal
