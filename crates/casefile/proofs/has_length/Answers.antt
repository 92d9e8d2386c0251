use native.Mathlib.Omega.{arith}
use borrow.Author.Tests.{ne_eqb}
use lib.ListN.{length}
use Rattle.casefile.proofs.Editions.{either_length, by_104}
use Rattle.casefile.proofs.has_length.Goals as goal

pub returns-then-n-lt-SECOND_LENGTH : goal.returns-then-n-lt-SECOND_LENGTH
returns-then-n-lt-SECOND_LENGTH c =
    let f = c.args.case.now in
    rw (ne_eqb (length f) 4210 (λ e. absurd (omega arith)), ne_eqb (length f) 4106 (λ e. absurd (omega arith))) at (either_length f)

pub returns-then-n-gt-FIRST_LENGTH : goal.returns-then-n-gt-FIRST_LENGTH
returns-then-n-gt-FIRST_LENGTH c =
    let f = c.args.case.now in
    rw (ne_eqb (length f) 4210 (λ e. absurd (omega arith)), ne_eqb (length f) 4106 (λ e. absurd (omega arith))) at (either_length f)

pub returns : goal.returns
returns c = by_104 c.args.case.now (omega arith) (omega arith)
