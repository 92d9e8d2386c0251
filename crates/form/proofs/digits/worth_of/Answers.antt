use Rattle.std.proofs.Common.{sym, arith}
use Rattle.form.proofs.DigitLaws.{worth_digit, worth_small, worth_large, worth_none}
use Rattle.form.proofs.digits.worth_of.Goals as goal

pub returns-in-48-to-57 : goal.returns-in-48-to-57
returns-in-48-to-57 c = sym (worth_digit c.args.x (omega arith) (omega arith))

pub returns-in-65-to-70 : goal.returns-in-65-to-70
returns-in-65-to-70 c = sym (worth_large c.args.x (omega arith) (omega arith))

pub returns-in-97-to-102 : goal.returns-in-97-to-102
returns-in-97-to-102 c = sym (worth_small c.args.x (omega arith) (omega arith))

pub returns-in_default : goal.returns-in_default
returns-in_default c = sym (worth_none c.args.x (λ h. omega arith) (λ h. omega arith) (λ h. omega arith))

pub returns-in_default-2 : goal.returns-in_default-2
returns-in_default-2 c = sym (worth_none c.args.x (λ h. omega arith) (λ h. omega arith) (λ h. omega arith))

pub returns-in_default-3 : goal.returns-in_default-3
returns-in_default-3 c = sym (worth_none c.args.x (λ h. omega arith) (λ h. omega arith) (λ h. omega arith))

pub returns-in_default-4 : goal.returns-in_default-4
returns-in_default-4 c = sym (worth_none c.args.x (λ h. omega arith) (λ h. omega arith) (λ h. omega arith))
